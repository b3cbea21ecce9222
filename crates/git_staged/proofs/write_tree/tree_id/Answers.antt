use Rattle.std.proofs.Common.{◌≡◌, false, Err, Result, ap, refl, sym, ◌∙◌}
use Rattle.std.proofs.lemmas.Result.{err_from_is_err_and}
use Rattle.status_index.specs.States.{backing_of, entries_of, index_of}
use Rattle.status_index.specs.declared.id.ObjectId.{ObjectId}
use Rattle.git_staged.specs.declared.error.TreeError.{TreeError}
use Rattle.git_staged.specs.declared.error.TreeError.TheVariants.{Memory}
use Rattle.git_staged.specs.Trees.{has_conflict}
use Rattle.git_staged.proofs.Entries.{conflict_in}
use Rattle.git_staged.proofs.write_tree.tree_id.Goals as goal

pub returns-then-has_conflict-clause-conflict : goal.returns-then-has_conflict-clause-conflict
returns-then-has_conflict-clause-conflict c =
    let index = c.args.index.now in
    let seen = conflict_in (backing_of index) (entries_of index) c.entries.result.now c.has_conflict.result c.entries.ensures.value c.has_conflict.ensures in
    (λ e. sym seen ∙ c.if-has_conflict.true, λ h. refl)

pub returns-in_err-tree_of-clause-conflict : goal.returns-in_err-tree_of-clause-conflict
returns-in_err-tree_of-clause-conflict c =
    let index = c.args.index.now in
    let seen = conflict_in (backing_of index) (entries_of index) c.entries.result.now c.has_conflict.result c.entries.ensures.value c.has_conflict.ensures in
    let none : has_conflict (index_of index) ≡ false = sym seen ∙ c.if-has_conflict.false in
    let p = err_from_is_err_and c.from_residual.result c.from_residual.ensures.1 in
    let failed : TreeError → Result ObjectId TreeError = λ e. Err e in
    let memory : c.from_residual.result ≡ Err Memory = p.1 ∙ ap failed p.2 in
    (λ e. absurd (cc), λ h. absurd (cc))

pub returns-clause-conflict : goal.returns-clause-conflict
returns-clause-conflict c =
    let index = c.args.index.now in
    let seen = conflict_in (backing_of index) (entries_of index) c.entries.result.now c.has_conflict.result c.entries.ensures.value c.has_conflict.ensures in
    let none : has_conflict (index_of index) ≡ false = sym seen ∙ c.if-has_conflict.false in
    (λ e. absurd (cc), λ h. absurd (cc))
