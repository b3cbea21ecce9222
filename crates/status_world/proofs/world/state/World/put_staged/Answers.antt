use Rattle.std.proofs.Common.{◌≡◌, List, Result, OnErr, sym, ap, subst, ◌∙◌}
use Rattle.bstr.specs.BStr.{bstr_bytes}
use Rattle.status_index.specs.declared.stat.Moment.{Moment}
use Rattle.status_index.specs.Entries.{IndexEntry}
use Rattle.status_index.specs.States.{index_of, timestamp_of}
use Rattle.status_base.specs.MemoryTree.{PathMap}
use Rattle.status_world.specs.contracts.world.state.World.{the_view}
use Rattle.status_world.specs.declared.world.event.Refusal.{Refusal}
use Rattle.status_world.specs.PlainWorld.{Plain}
use Rattle.status_world.specs.StampedWorld.{StampedWorld}
use Rattle.status_world.specs.Worlds.{world_of}
use Rattle.status_world.proofs.StagedMaps.{undone}
use Rattle.status_world.proofs.world.state.World.put_staged.Goals as goal
use Rattle.status_world.proofs.world.state.World.put_staged.Goals.{in-Ok+in-Some-1, in-Ok+in-None-1, in-Err}

-- The index refused the entry and is unchanged, and the put of `staged` was undone.
pub returns-clause-unchanged : goal.returns-clause-unchanged
returns-clause-unchanged c =
    let parts = c.self.inside.parts in
    let index = c.put_entry.new.self in
    let world : PathMap Plain → List IndexEntry → Moment → StampedWorld = λ s es t. record (world_of parts) { staged = s; entries = es; timestamp = t } in
    elim c.match-put_entry.branch [
      | in-Ok+in-Some-1 w ↦ subst (λ (r : Result (Unit {0}) Refusal). OnErr r (the_view c.match-put_entry.self-inside ≡ c.args.self.now)) (sym w.result-is) tt
      | in-Ok+in-None-1 w ↦ subst (λ (r : Result (Unit {0}) Refusal). OnErr r (the_view c.match-put_entry.self-inside ≡ c.args.self.now)) (sym w.result-is) tt
      | in-Err w ↦
          let back = undone parts.staged _ _ (bstr_bytes c.args.path) _ _ c.in_ok-replaced.ensures.replaced c.in_ok-replaced.ensures.ok w.put_back.ensures in
          subst (λ (r : Result (Unit {0}) Refusal). OnErr r (the_view c.match-put_entry.self-inside ≡ c.args.self.now)) (sym w.result-is)
          (subst (λ i. the_view i ≡ c.args.self.now) (sym w.self-inside-is)
          (ap (λ s. world s (index_of index) (timestamp_of index)) back
          ∙ ap (λ es. world parts.staged es (timestamp_of index)) w.in-Err.ensures.unchanged
          ∙ ap (world parts.staged (index_of parts.index)) w.in-Err.ensures.timestamp
          ∙ c.self.view_is))
    ]
