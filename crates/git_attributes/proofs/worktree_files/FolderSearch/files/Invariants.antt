use Rattle.std.proofs.Common.{◌≡◌, [], length, map, nat_eq, true}
use Rattle.std.specs.List.{starts_with}
use Rattle.status_index.specs.Entries.{index_entries}
use Rattle.status_index.specs.States.{backing_of}
use Rattle.status_base.specs.Sights.{IsOpen}
use Rattle.git_attributes.specs.Views.{file_view}
use Rattle.git_attributes.specs.WorktreeFiles.{folders_after}
use Rattle.git_attributes.proofs.FoundFiles.{IsWalked}
use Rattle.git_attributes.proofs.worktree_files.FolderSearch.files.Given as goal

abbrev pub invariant-entries : goal.invariant-entries
invariant-entries g l =
    (starts_with nat_eq l.before l.folder ≡ true)
    × IsOpen (g.W.Worktree.may_stat l.self.worktree.worktree.now) l.check.path
    × IsWalked (g.W.Worktree.may_stat l.self.worktree.worktree.now) (g.W.Worktree.may_open l.self.worktree.worktree.now)
    (folders_after l.initial.before (index_entries (backing_of l.self.index.now) l.part)) (folders_after l.before (index_entries (backing_of l.self.index.now) l.rest))
    [] (map file_view l.files.items)

abbrev pub decreases-entries : goal.decreases-entries
decreases-entries g l = length l.rest
