use Rattle.std.proofs.Common.{ℕ, List, OnOk, map, subst, sym}
use Rattle.git_attributes.specs.Views.{file_view}
use Rattle.git_attributes.specs.WorktreeFiles.{up_to_long}
use Rattle.git_attributes.specs.FolderSteps.{AreAdded}
use Rattle.git_attributes.proofs.FolderFronts.{new_folders_are}
use Rattle.git_attributes.proofs.worktree_files.FolderSearch.add_new.Goals as goal

pub returns-clause-added : goal.returns-clause-added
returns-clause-added g c =
    let tree = c.args.self.now.worktree.worktree.now in
    let P : List (List ℕ) → Type 0 = λ v. OnOk c.add_folders.result (AreAdded (g.W.Worktree.may_stat tree) (g.W.Worktree.may_open tree) (up_to_long v) (map file_view c.args.files.now.items) (map file_view c.add_folders.new.files.items)) in
    subst P (sym (new_folders_are c.args.before.now c.args.path.now c.common_front.result c.common_front.ensures)) c.add_folders.ensures.added
