use Rattle.std.proofs.Common.{sym, ◌∙◌}
use Rattle.git_staged.proofs.Changes.{submodule_of_commit, submodule_of_index}
use Rattle.git_staged.proofs.staged.is_submodule_by.Goals as goal

pub returns-then-is_empty : goal.returns-then-is_empty
returns-then-is_empty c = λ one other.
    submodule_of_commit one other c.args.files.now c.args.entries.now c.any_submodule.result (sym c.is_empty.ensures ∙ c.if-is_empty.true) c.any_submodule.ensures

pub returns-else-is_empty : goal.returns-else-is_empty
returns-else-is_empty c = λ one other.
    submodule_of_index one other c.args.files.now c.args.entries.now c.any_submodule-else-is_empty.result (sym c.is_empty.ensures ∙ c.if-is_empty.false) c.any_submodule-else-is_empty.ensures
