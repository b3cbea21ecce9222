use Rattle.std.proofs.Common.{rules, inl, inr, refl, ap, ◌∙◌, Some, None, Ok, Err}
use Rattle.std.proofs.lemmas.Result.{err_from_is_err_and}
use Rattle.status_call.proofs.index_as_worktree.submodule.submodule_status.Goals as goal

pub returns-in_err-rela_path-in-Err-Failed-clause-seen : goal.returns-in_err-rela_path-in-Err-Failed-clause-seen
returns-in_err-rela_path-in-Err-Failed-clause-seen g c =
    let p = err_from_is_err_and c.from_residual.result c.from_residual.ensures.1 in
    inl (p.1 ∙ ap Err p.2)

pub returns-in-Ok-None-clause-seen : goal.returns-in-Ok-None-clause-seen
returns-in-Ok-None-clause-seen g c = inr (record { said = Ok None; allowed = rw c.in-Ok-None.field-0-is at c.in-Ok-None.ensures.seen; status = inl refl })

pub returns-in-Ok-Some-clause-seen : goal.returns-in-Ok-Some-clause-seen
returns-in-Ok-Some-clause-seen g c = inr (record { said = Ok (Some c.in-Ok-Some.change); allowed = rw c.in-Ok-Some.field-0-is at c.in-Ok-Some.ensures.seen; status = search rules })

pub returns-in_ok-rela_path-in-Err-Failed-clause-seen : goal.returns-in_ok-rela_path-in-Err-Failed-clause-seen
returns-in_ok-rela_path-in-Err-Failed-clause-seen g c = inr (record { said = Err c.in-Err-Failed.text; allowed = rw c.in-Err-Failed.field-0-is at c.in-Err-Failed.ensures.seen; status = search rules })

pub returns-in-Err-Memory-clause-seen : goal.returns-in-Err-Memory-clause-seen
returns-in-Err-Memory-clause-seen g c = inl refl
