use Rattle.std.proofs.Common.{◌≡◌, ◌-◌, ◌++◌, ℕ, List, [], ◌∷◌, length, take, drop, map, refl, subst, sym, ◌∙◌, ap, rules}
use Rattle.status_index.specs.Entries.{index_entries}
use Rattle.status_index.specs.States.{backing_of}
use Rattle.status_index.specs.declared.entry.Entry.{Entry}
use Rattle.status_base.specs.CheckState.{CheckState}
use Rattle.status_base.specs.Sights.{IsOpen}
use Rattle.status_base.proofs.SightLemmas.{open_nothing}
use Rattle.git_attributes.specs.Files.{File}
use Rattle.git_attributes.specs.Views.{file_view}
use Rattle.git_attributes.specs.WorktreeFiles.{folders_after, new_folders, up_to_long}
use Rattle.git_attributes.proofs.FolderFronts.{nothing_new}
use Rattle.git_attributes.proofs.FoundFiles.{IsWalked, folders_of_first, walked_more, walked_none}
use Rattle.git_attributes.proofs.worktree_files.FolderSearch.files.Goals as goal

pub entries-init : goal.entries-init
entries-init g c =
    let tree = c.args.self.now.worktree.worktree.now in
    let may_stat = g.W.Worktree.may_stat tree in
    let may_open = g.W.Worktree.may_open tree in
    let backing = backing_of c.args.self.now.index.now in
    let all = folders_after c.args.before.now (index_entries backing c.args.part.now) in
    let none : map file_view c.new-files.result.items ≡ [] = search rules in
    let P : List File → Type 0 = λ v. IsWalked may_stat may_open all all [] v in (
      c.folder_of-folder.ensures,
      subst (IsOpen may_stat) (sym (ap (λ (s : CheckState). s.path) c.new-check.ensures)) (open_nothing _ (g.met.W.Worktree.stat_may_fail tree)),
      subst P (sym none) (walked_none may_stat may_open all []),
    )

pub entries-preserved : goal.entries-preserved
entries-preserved g c =
    let tree = c.args.self.now.worktree.worktree.now in
    let may_stat = g.W.Worktree.may_stat tree in
    let may_open = g.W.Worktree.may_open tree in
    let index = c.args.self.now.index.now in
    let all = folders_after c.args.before.now (index_entries (backing_of index) c.args.part.now) in
    let rest : List Entry = c.entries.rest.now in
    let before : List ℕ = c.entries.before.now in
    let path : List ℕ = c.as_bytes-path.result.now in
    let mid : List File = map file_view c.entries.files.items in
    let others : List (List ℕ) = folders_after path (index_entries (backing_of index) (take (length rest - 1) (drop 1 rest))) in
    let inside = c.is_in.ensures c.if-not-is_in.false in
    let first = folders_of_first (backing_of index) c.path_backing.result.now before path rest _ c.in-len1-up.len_at_least (c.as_bytes-path.ensures ∙ c.path_in.ensures) c.path_backing.ensures in
    let none = nothing_new before path c.entries.folder.now c.entries.invariant.0 inside in
    let P : List (List ℕ) → Type 0 = λ v. IsWalked may_stat may_open all v [] mid in (
      inside.begins,
      c.entries.invariant.1,
      subst P (first ∙ ap (λ (v : List (List ℕ)). up_to_long v ++ others) none) c.entries.invariant.2,
    )

pub entries-preserved-in_ok-add_new : goal.entries-preserved-in_ok-add_new
entries-preserved-in_ok-add_new g c =
    let tree = c.args.self.now.worktree.worktree.now in
    let may_stat = g.W.Worktree.may_stat tree in
    let may_open = g.W.Worktree.may_open tree in
    let index = c.args.self.now.index.now in
    let all = folders_after c.args.before.now (index_entries (backing_of index) c.args.part.now) in
    let rest : List Entry = c.entries.rest.now in
    let path : List ℕ = c.as_bytes-path.result.now in
    let mid : List File = map file_view c.entries.files.items in
    let new : List File = map file_view c.add_new.new.files.items in
    let some : List (List ℕ) = up_to_long (new_folders c.entries.before.now path) in
    let others : List (List ℕ) = folders_after path (index_entries (backing_of index) (take (length rest - 1) (drop 1 rest))) in
    let P : List (List ℕ) → Type 0 = λ v. IsWalked may_stat may_open all v [] mid in (
      c.folder_of-folder-then-not-is_in.ensures,
      c.in_ok-add_new.ensures.opened,
      walked_more may_stat may_open all some others [] mid new
          (subst P (folders_of_first (backing_of index) c.path_backing.result.now c.entries.before.now path rest _ c.in-len1-up.len_at_least (c.as_bytes-path.ensures ∙ c.path_in.ensures) c.path_backing.ensures) c.entries.invariant.2)
          c.in_ok-add_new.ensures.added,
    )
