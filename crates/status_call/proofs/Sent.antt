-- A decider may be sent to another thread, as a rule set for `search`.
use denote.RattleType.{RattleType}
use denote.Ref.{NamedLft}
use denote.Param.Send.{IsSend, IsSync, sendable}
use denote.Param.SendFields.{declared_send}
use Rattle.std.proofs.Crossing.{crosses}
use Rattle.std.proofs.MapsCrossing.{crosses as maps_cross}
use Rattle.std.specs.declared.clone.Clone as clone
use Rattle.status_index.specs.declared.reader.ReadBytes as reader
use Rattle.status_base.specs.declared.worktree.lister.Lister as lister
use Rattle.status_base.specs.declared.worktree.guard.Guard as guard
use Rattle.status_base.specs.contracts.fscache.names.Names as names
use Rattle.status_base.specs.contracts.fscache.listings.Listings as listings
use Rattle.status_base.specs.contracts.stack.SymlinkCheck as check
use Rattle.status_base.specs.contracts.worktree.guarded.GuardedWorktree as guarded
use Rattle.status_call.specs.contracts.index_as_worktree.inputs.Settings as settings
use Rattle.status_call.specs.contracts.index_as_worktree.decider.Decider as decider

Names-send : IsSend names.the_row
Names-send = search (sendable, crosses, maps_cross) depth 40

Listings-send : IsSend listings.the_row
Listings-send = search (Names-send, sendable, crosses, maps_cross) depth 40

Check-send : IsSend check.the_row
Check-send = search (sendable, crosses) depth 40

Settings-send : IsSend settings.the_row
Settings-send = search (sendable, crosses) depth 40

module _ (κ : NamedLft) (W : RattleType) where
  pub Guarded-send : IsSync W → IsSend (guarded.the_row κ W)
  Guarded-send yw = search (sendable, crosses) depth 40

module _ (G C S O P T L F : RattleType) (w : guard.Ghosts G.Denot F.Denot) (r : reader.Ghosts F.Denot) (l : lister.Ghosts L.Denot) (c : clone.Ghosts L.Denot) where
  pub Decider-send : IsSend G → IsSend C → IsSend S → IsSend O → IsSend P → IsSend T → IsSend L → IsSend (decider.the_row G C S O P T L F w r l c)
  Decider-send sg sc ss so sp st sl =
      declared_send (decider.the_type G C S O P T L F w r l c) (search (Listings-send, Check-send, Settings-send, sendable, crosses) depth 60)

pub ruleset decider_crosses = (Decider-send, Guarded-send, sendable, crosses)
