use Rattle.std.proofs.Common.{◌≤◌, ◌-◌, length, take, drop, map}
use Rattle.status_base.specs.Sights.{IsOpen}
use Rattle.git_attributes.specs.Views.{file_view}
use Rattle.git_attributes.specs.WorktreeFiles.{folders_from, up_to_long}
use Rattle.git_attributes.proofs.FoundFiles.{IsWalked}
use Rattle.git_attributes.proofs.worktree_files.FolderSearch.add_folders.Given as goal

abbrev pub invariant-folders : goal.invariant-folders
invariant-folders g l =
    (l.at ≤ length l.path)
    × IsOpen (g.W.Worktree.may_stat l.self.worktree.worktree.now) l.check.path
    × IsWalked (g.W.Worktree.may_stat l.self.worktree.worktree.now) (g.W.Worktree.may_open l.self.worktree.worktree.now)
    (up_to_long (folders_from (take l.from l.path) (drop l.from l.path))) (up_to_long (folders_from (take l.at l.path) (drop l.at l.path)))
    (map file_view l.fn.files.items) (map file_view l.files.items)

abbrev pub decreases-folders : goal.decreases-folders
decreases-folders g l = length l.path - l.at
