-- Proofs of laws: the files of two parts of the entries in a row are those of both.
use Rattle.std.specs.Prelude.{◌≡◌, refl, List, [], ◌∷◌, ◌++◌, map, ℕ}
use Rattle.std.proofs.Common.{sym, ap, ◌∙◌, subst, append_assoc}
use Rattle.std.proofs.lemmas.Grind.{flat_map-append}
use Rattle.std.proofs.lemmas.List.{map-append}
use Rattle.std.proofs.lemmas.List.Elements.{All-append}
use Rattle.status_index.specs.Entries.{IndexEntry, index_entries, index_entry}
use Rattle.status_index.specs.declared.entry.Entry.{Entry}
use Rattle.status_index.specs.declared.entry.PathStorage.{PathStorage}
use Rattle.status_base.specs.Openings.{MayOpen}
use Rattle.status_base.specs.Sights.{MayStat}
use Rattle.git_attributes.specs.Files.{File}
use Rattle.git_attributes.specs.WorktreeFiles.{AreFilesSeen, FolderView, IsAllowed, file_of, files_by, folders_after, last_path, new_folders, search_by, up_to_long}

-- The folders of some entries, and of those after them.
folders_both : (before : List ℕ) (es fs : List IndexEntry) → folders_after before (es ++ fs) ≡ folders_after before es ++ folders_after (last_path before es) fs
folders_both before [] fs = refl
folders_both before (e ∷ es) fs =
    ap (λ (v : List (List ℕ)). up_to_long (new_folders before e.path) ++ v) (folders_both e.path es fs)
    ∙ sym (append_assoc (up_to_long (new_folders before e.path)) (folders_after e.path es) (folders_after (last_path e.path es) fs))

module _ (may_stat : MayStat) (may_open : List ℕ → MayOpen) where
  -- The files of some folders, and of others.
  pub seen_both : (fs gs : List (List ℕ)) (some others : List File) → AreFilesSeen may_stat may_open fs some → AreFilesSeen may_stat may_open gs others → AreFilesSeen may_stat may_open (fs ++ gs) (some ++ others)
  seen_both fs gs some others one other =
      let folder : FolderView → List ℕ = λ v. v.folder in
      let files : FolderView → List File = λ v. file_of v.folder (search_by v) in
      record {
        views = one.views ++ other.views;
        each = map-append folder one.views other.views ∙ ap (λ (v : List (List ℕ)). v ++ map folder other.views) one.each ∙ ap (λ (v : List (List ℕ)). fs ++ v) other.each;
        allowed = All-append (IsAllowed may_stat may_open) one.views other.views one.allowed other.allowed;
        found = ap (λ (v : List File). v ++ others) one.found ∙ ap (λ (v : List File). files_by one.views ++ v) other.found ∙ sym (flat_map-append files one.views other.views);
      }

  -- The files of two parts in a row.
  pub parts_seen : (backing : PathStorage) (before : List ℕ) (front back : List Entry) (some others : List File) → AreFilesSeen may_stat may_open (folders_after before (index_entries backing front)) some
      → AreFilesSeen may_stat may_open (folders_after (last_path before (index_entries backing front)) (index_entries backing back)) others
      → AreFilesSeen may_stat may_open (folders_after before (index_entries backing (front ++ back))) (some ++ others)
  parts_seen backing before front back some others one other =
      let es : List IndexEntry = index_entries backing front in
      let fs : List IndexEntry = index_entries backing back in
      let whole : folders_after before (index_entries backing (front ++ back)) ≡ folders_after before es ++ folders_after (last_path before es) fs =
      ap (folders_after before) (map-append (index_entry backing) front back) ∙ folders_both before es fs in
      let P : List (List ℕ) → Type 0 = λ v. AreFilesSeen may_stat may_open v (some ++ others) in
      subst P (sym whole) (seen_both (folders_after before es) (folders_after (last_path before es) fs) some others one other)
