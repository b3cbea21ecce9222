use Rattle.std.proofs.Common.{◌≡◌, List, [], ◌∷◌, map, ap, sym, subst, rules}
use Rattle.status_base.specs.CheckState.{CheckState}
use Rattle.status_base.specs.Sights.{IsOpen}
use Rattle.status_base.proofs.SightLemmas.{open_nothing}
use Rattle.git_attributes.specs.Files.{File}
use Rattle.git_attributes.specs.Views.{file_view}
use Rattle.git_attributes.specs.FolderSteps.{IsFolderAdded}
use Rattle.git_attributes.proofs.FoundFiles.{added_one, files_seen}
use Rattle.git_attributes.proofs.worktree_files.FolderSearch.top.Goals as goal

pub add_file-requires : goal.add_file-requires
add_file-requires g c =
    let tree = c.args.self.now.worktree.worktree.now in
    subst (IsOpen (g.W.Worktree.may_stat tree)) (sym (ap (λ (s : CheckState). s.path) c.new-check.ensures)) (open_nothing _ (g.met.W.Worktree.stat_may_fail tree))

pub returns : goal.returns
returns g c =
    let tree = c.args.self.now.worktree.worktree.now in
    let may_stat = g.W.Worktree.may_stat tree in
    let may_open = g.W.Worktree.may_open tree in
    let new : List File = map file_view c.add_file.new.files.items in
    let none : map file_view c.new-files.result.items ≡ [] = search rules in
    let P : List File → Type 0 = λ v. IsFolderAdded may_stat may_open [] c.in_ok-add_file.field-0 v new in
    files_seen may_stat may_open ([] ∷ []) new (added_one may_stat may_open [] c.in_ok-add_file.field-0 [] new (subst P none c.in_ok-add_file.ensures.added))
