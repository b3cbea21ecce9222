use Rattle.std.proofs.Math.Logic.{∥∥₁_map, ∥∥₁_map₂}
use Rattle.status_call.specs.Modelled.{are_modelled}
use Rattle.status_call.proofs.EntryCases.{all_worktree, all_listings}
use Rattle.status_call.proofs.MetNodes.{merely_met}
use Rattle.status_call.proofs.index_as_worktree.decider.Decider.look.Goals as goal

pub invariant_of-self : goal.invariant_of-self
invariant_of-self g c = record {
  guard = c.args.self.now.guard;
  clear = λ modelled. c.look_up.ensures.clear modelled (c.args.self.now.clear modelled);
  opened = ∥∥₁_map c.args.self.now.opened c.look_up.ensures.opened;
  listed = ∥∥₁_map c.args.self.now.listed c.look_up.ensures.seen_kept;
  kept = c.look_up.ensures.kept c.args.self.now.kept;
}

pub returns-clause-look : goal.returns-clause-look
returns-clause-look g c =
    let i = c.args.self.now.inputs in
    let a = g.G.Guard.modelled i.worktree in
    let b = g.O.Find.modelled i.objects in
    let d = g.S.SubmoduleStatus.modelled i.submodule in
    let l = are_modelled c.args.self.now.settings.fscache (g.L.Lister.modelled i.lister) in
    λ modelled.
    let worktree = all_worktree a b d l modelled in
    c.look_up.ensures.look worktree (all_listings a b d l modelled) (c.args.self.now.clear worktree) c.args.self.now.kept

pub returns-clause-seen : goal.returns-clause-seen
returns-clause-seen g c = ∥∥₁_map₂ c.args.self.now.opened c.args.self.now.listed c.look_up.ensures.seen

pub returns-clause-met : goal.returns-clause-met
returns-clause-met g c = merely_met _ _ c.look_up.result c.args.self.now.opened c.look_up.ensures.met
