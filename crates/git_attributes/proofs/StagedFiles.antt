-- Attribute files of an index.
use Rattle.std.proofs.Common.{◌≡◌, ◌||◌, ◌+◌, ◌<◌, ◌∙◌, Bool, ℕ, List, [], ◌∷◌, ◌++◌, All, length, map, slice_index_or, refl, sym, ap, subst, arith}
use Rattle.std.specs.Cmp.Lexicographic.{slice_cmp}
use Rattle.std.specs.List.{list_any}
use Rattle.std.specs.List.Sorted.{IsSortedByKey}
use Rattle.std.specs.Ordering.{nat_cmp}
use Rattle.std.proofs.lemmas.List.{get_or-map, length-map, map_push}
use Rattle.std.proofs.lemmas.List.Elements.{All-push}
use Rattle.status_index.specs.Entries.{IndexEntry, index_entry}
use Rattle.status_index.specs.States.{backing_of, entries_of, index_of}
use Rattle.status_index.specs.declared.entry.Entry.{Entry}
use Rattle.status_index.specs.declared.entry.PathStorage.{PathStorage}
use Rattle.status_index.specs.declared.state.State.{State}
use Rattle.git_attributes.specs.Files.{File}
use Rattle.git_attributes.specs.StagedFiles.{IsStagedFile, IsStagedFrom}
use Rattle.std.specs.Str.{bytes_eq}
use Rattle.git_attributes.specs.Views.{file_view}
use Rattle.git_attributes.specs.declared.files.AttributeFile.{AttributeFile}

-- a folder has one of these files, as the definitions have them
pub any_view : (folder : List ℕ) (files : List AttributeFile) → list_any (λ f. bytes_eq f.folder.items folder) files ≡ list_any (λ f. bytes_eq f.folder folder) (map file_view files)
any_view folder [] = refl
any_view folder (f ∷ files) = ap (λ (b : Bool). bytes_eq f.folder.items folder || b) (any_view folder files)

-- files that are sorted by their folders, as the definitions have them
pub files_sorted : (xs : List AttributeFile) → IsSortedByKey (λ f. f.folder.items) (slice_cmp nat_cmp) xs → IsSortedByKey (λ file. file.folder) (slice_cmp nat_cmp) (map file_view xs)
files_sorted [] h k d from within = absurd (omega arith)
files_sorted (x ∷ xs) h k d from within =
    let long : k + 1 < length (x ∷ xs) = omega (arith, within, length-map (x ∷ xs) file_view) in
    let one : slice_index_or (map file_view (x ∷ xs)) (k + 1) d ≡ file_view (slice_index_or (x ∷ xs) (k + 1) x) = get_or-map file_view (x ∷ xs) (k + 1) x d long in
    let two : slice_index_or (map file_view (x ∷ xs)) k d ≡ file_view (slice_index_or (x ∷ xs) k x) = get_or-map file_view (x ∷ xs) k x d (omega arith) in
    rw (one, two) (h k x from long)

-- one more attribute file of an index
pub one_more : (index : List IndexEntry) (inner : List File) (old new : List AttributeFile) (file : AttributeFile) → new ≡ old ++ file ∷ [] → IsStagedFile index inner (file_view file)
    → All (IsStagedFile index inner) (map file_view old) → All (IsStagedFile index inner) (map file_view new)
one_more index inner old new file is here all =
    subst (All (IsStagedFile index inner)) (sym (ap (map file_view) is ∙ map_push file_view old file)) (All-push (IsStagedFile index inner) (map file_view old) (file_view file) all here)

-- a file of the entry of some number
pub staged_at : (index : State) (entries : List Entry) (backing : PathStorage) (inner : List File) (file : File) (at : ℕ) (x : Entry) → at < length entries → entries ≡ entries_of index → backing ≡ backing_of index
    → IsStagedFrom (index_entry backing (slice_index_or entries at x)) inner file → IsStagedFile (index_of index) inner file
staged_at index entries backing inner file at x within all same is =
    let here : at < length (entries_of index) = omega (arith, within, ap length all) in
    let f : Entry → IndexEntry = index_entry (backing_of index) in
    record {
      number = at;
      within = omega (arith, here, length-map (entries_of index) f);
      staged = λ d. subst (λ (e : IndexEntry). IsStagedFrom e inner file)
          (ap (λ (b : PathStorage). index_entry b (slice_index_or entries at x)) same ∙ (ap (λ (l : List Entry). f (slice_index_or l at x)) all ∙ sym (get_or-map f (entries_of index) at x d here))) is;
    }
