use Rattle.std.proofs.Common.{take, drop, sym, ◌∙◌, ap}
use Rattle.std.proofs.lemmas.List.{take_rest}
use Rattle.git_patterns.specs.Text.{first_at}
use Rattle.git_attributes.proofs.FolderFronts.{folders_none, next_some}
use Rattle.git_attributes.proofs.worktree_files.folder_end.Goals as goal

pub returns-in-Some : goal.returns-in-Some
returns-in-Some c =
    next_some c.args.path.now c.args.at c.in-Some.slash c.requires (sym (ap (first_at 47) (take_rest c.args.path.now c.args.at)) ∙ sym c.in-Some.ensures)

pub returns-in-None : goal.returns-in-None
returns-in-None c =
    folders_none (take c.args.at c.args.path.now) (drop c.args.at c.args.path.now) (sym (ap (first_at 47) (take_rest c.args.path.now c.args.at)) ∙ sym c.in-None.ensures)
