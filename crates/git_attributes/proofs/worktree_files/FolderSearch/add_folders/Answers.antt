use Rattle.std.proofs.Common.{◌≡◌, ◌<◌, ◌≤◌, ℕ, Bool, false, List, length, take, drop, map, subst, arith}
use Rattle.std.proofs.lemmas.List.{length-take-le}
use Rattle.git_attributes.specs.Files.{File}
use Rattle.git_attributes.specs.Views.{file_view}
use Rattle.git_attributes.specs.WorktreeFiles.{folders_from, path_limit, up_to_long}
use Rattle.git_attributes.specs.FolderSteps.{IsFolderAdded}
use Rattle.git_attributes.proofs.FoundFiles.{IsWalked, walked_barred, walked_long, walked_none, walked_one}
use Rattle.git_attributes.proofs.worktree_files.FolderSearch.add_folders.Goals as goal

pub folders-init : goal.folders-init
folders-init g c =
    let tree = c.args.self.now.worktree.worktree.now in
    (c.requires.within, c.requires.opened, walked_none (g.W.Worktree.may_stat tree) (g.W.Worktree.may_open tree) (up_to_long (folders_from (take c.args.from c.args.path.now) (drop c.args.from c.args.path.now))) (map file_view c.args.files.now.items))

pub returns-then-not-branch-clause-added : goal.returns-then-not-branch-clause-added
returns-then-not-branch-clause-added g c =
    let tree = c.args.self.now.worktree.worktree.now in
    let may_stat = g.W.Worktree.may_stat tree in
    let may_open = g.W.Worktree.may_open tree in
    let path : List ℕ = c.args.path.now in
    let next = c.in-Some.ensures in
    let folder : List ℕ = take c.in-Some.end path in
    let all : List (List ℕ) = up_to_long (folders_from (take c.args.from path) (drop c.args.from path)) in
    let old : List File = map file_view c.args.files.now.items in
    let mid : List File = map file_view c.folders.files.items in
    let new : List File = map file_view c.add_file.new.files.items in
    let P : List (List ℕ) → Type 0 = λ v. IsWalked may_stat may_open all (up_to_long v) old mid in
    let walked = subst P next.3 c.folders.invariant.2 in
    let Q : Bool → Type 0 = λ v. IsFolderAdded may_stat may_open folder v mid new in
    let barred : c.in_ok-add_file.field-0 ≡ false = c.if-not-branch.true in
    walked_barred may_stat may_open (g.met.W.Worktree.open_may_fail tree) all folder next.2.0 (drop c.in-Some.end path) old mid new walked next.2.1 (subst Q barred c.in_ok-add_file.ensures.added)

pub returns-then-end-ge-PATH_LIMIT-clause-added : goal.returns-then-end-ge-PATH_LIMIT-clause-added
returns-then-end-ge-PATH_LIMIT-clause-added g c =
    let tree = c.args.self.now.worktree.worktree.now in
    let may_stat = g.W.Worktree.may_stat tree in
    let may_open = g.W.Worktree.may_open tree in
    let path : List ℕ = c.args.path.now in
    let next = c.in-Some.ensures in
    let folder : List ℕ = take c.in-Some.end path in
    let all : List (List ℕ) = up_to_long (folders_from (take c.args.from path) (drop c.args.from path)) in
    let old : List File = map file_view c.args.files.now.items in
    let mid : List File = map file_view c.folders.files.items in
    let new : List File = map file_view c.add_file.new.files.items in
    let P : List (List ℕ) → Type 0 = λ v. IsWalked may_stat may_open all (up_to_long v) old mid in
    let walked = subst P next.3 c.folders.invariant.2 in
    let long : path_limit ≤ length folder = omega (arith, length-take-le c.in-Some.end path next.1, c.if-end-ge-PATH_LIMIT.true) in
    walked_long may_stat may_open all folder c.in_ok-add_file.field-0 (folders_from folder (drop c.in-Some.end path)) old mid new walked long c.in_ok-add_file.ensures.added

pub folders-preserved : goal.folders-preserved
folders-preserved g c =
    let tree = c.args.self.now.worktree.worktree.now in
    let may_stat = g.W.Worktree.may_stat tree in
    let may_open = g.W.Worktree.may_open tree in
    let path : List ℕ = c.args.path.now in
    let next = c.in-Some.ensures in
    let folder : List ℕ = take c.in-Some.end path in
    let all : List (List ℕ) = up_to_long (folders_from (take c.args.from path) (drop c.args.from path)) in
    let old : List File = map file_view c.args.files.now.items in
    let mid : List File = map file_view c.folders.files.items in
    let new : List File = map file_view c.add_file.new.files.items in
    let P : List (List ℕ) → Type 0 = λ v. IsWalked may_stat may_open all (up_to_long v) old mid in
    let walked = subst P next.3 c.folders.invariant.2 in
    let short : length folder < path_limit = omega (arith, length-take-le c.in-Some.end path next.1, c.if-end-ge-PATH_LIMIT.false) in
    (next.1, c.in_ok-add_file.ensures.opened, walked_one may_stat may_open all folder c.in_ok-add_file.field-0 (folders_from folder (drop c.in-Some.end path)) old mid new walked short c.in_ok-add_file.ensures.added)
