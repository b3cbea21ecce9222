use Rattle.std.proofs.Common.{◌≡◌, Option, Some, Result, IfOk, OnOk, sym, ap, subst, ◌∙◌}
use Rattle.std.specs.Option.{option_map}
use Rattle.std.specs.FinMap as paths
use Rattle.std.specs.declared.alloc.AllocError.{AllocError}
use Rattle.bstr.specs.BStr.{bstr_bytes}
use Rattle.status_world.specs.StagedPaths.{plain_staged, staged_of}
use Rattle.status_world.specs.declared.world.staging.Staged.{Staged}
use Rattle.status_world.proofs.StagedMaps.{staged-updated, staged-get}
use Rattle.status_world.proofs.world.staging.StagedFiles.put.Goals as goal
use Rattle.status_world.proofs.world.staging.StagedFiles.put.Goals.{in-Ok, in-Err}

pub returns-clause-replaced : goal.returns-clause-replaced
returns-clause-replaced c =
    let at = c.in_ok-key.ensures.items ∙ c.as_bytes.ensures in
    let to : Result (Option Staged) AllocError → Type 0 = λ r. IfOk r (λ o. option_map plain_staged o ≡ paths.get c.args.self.now (bstr_bytes c.args.path)) in
    elim c.match-insert.branch [
      | in-Ok w ↦ subst to (sym w.result-is) (ap (option_map plain_staged) w.in-Ok.ensures.old ∙ staged-get c.self.inside.files.entries _ _ _ c.self.view_is at)
      | in-Err w ↦ subst to (sym w.result-is) tt
    ]

pub returns-clause-ok : goal.returns-clause-ok
returns-clause-ok c =
    let at = c.in_ok-key.ensures.items ∙ c.as_bytes.ensures in
    let put = paths.insert c.args.self.now (bstr_bytes c.args.path) (plain_staged c.args.staged) in
    let to : Result (Option Staged) AllocError → Type 0 = λ r. OnOk r (staged_of c.insert.new.self.entries ≡ put) in
    elim c.match-insert.branch [
      | in-Ok w ↦ subst to (sym w.result-is) (staged-updated c.self.inside.files.entries _ _ _ _ (Some c.args.staged) c.self.view_is at w.in-Ok.ensures.updates.1 w.in-Ok.ensures.updates.3)
      | in-Err w ↦ subst to (sym w.result-is) tt
    ]
