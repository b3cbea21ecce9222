use Rattle.std.proofs.Common.{◌≡◌, Result, OnOk, sym, subst}
use Rattle.std.specs.FinMap as ids
use Rattle.std.specs.declared.alloc.AllocError.{AllocError}
use Rattle.status_base.specs.Objects.{contents_of}
use Rattle.status_base.proofs.Contents.{contents-insert}
use Rattle.status_base.proofs.worktree.objects.MemoryObjects.put.Goals as goal
use Rattle.status_base.proofs.worktree.objects.MemoryObjects.put.Goals.{in-Ok+in-Some-1, in-Ok+in-None-1, in-Err}

pub returns-clause-ok : goal.returns-clause-ok
returns-clause-ok c =
    let old = c.self.inside.contents.entries in let new = c.insert.new.self.entries in
    let to : Result (Unit {0}) AllocError → Type 0 = λ r. OnOk r (contents_of new ≡ ids.insert c.args.self.now c.args.id c.args.content.now) in
    elim c.match-insert.branch [
      | in-Ok+in-Some-1 w ↦ subst to (sym w.result-is) (contents-insert old new _ _ c.in_ok-content.content _ c.self.view_is c.in_ok-content.ensures.items w.in-Ok.ensures.updates.0)
      | in-Ok+in-None-1 w ↦ subst to (sym w.result-is) (contents-insert old new _ _ c.in_ok-content.content _ c.self.view_is c.in_ok-content.ensures.items w.in-Ok.ensures.updates.0)
      | in-Err w ↦ subst to (sym w.result-is) tt
    ]
