-- The files that two searches found, in one list.
use Rattle.std.proofs.Common.{◌≡◌, List, [], ◌∷◌, ◌++◌, Result, Ok, Err, IfOk, ℕ, take, drop, map, sym, ◌∙◌, ap, subst}
use Rattle.std.specs.Global.{Vec}
use Rattle.std.proofs.lemmas.List.{map-append, take-append-drop}
use Rattle.status_index.specs.Entries.{index_entries}
use Rattle.status_index.specs.States.{backing_of, entries_of, index_of}
use Rattle.status_index.specs.declared.entry.Entry.{Entry}
use Rattle.status_index.specs.declared.state.State.{State}
use Rattle.status_base.specs.Openings.{MayOpen}
use Rattle.status_base.specs.Sights.{MayStat}
use Rattle.git_attributes.specs.Files.{File}
use Rattle.git_attributes.specs.SharedLaws.{seen_both}
use Rattle.git_attributes.specs.Views.{file_view}
use Rattle.git_attributes.specs.WorktreeFiles.{AreFilesSeen, folders_after, folders_of}
use Rattle.git_attributes.specs.declared.files.AttributeFile.{AttributeFile}

-- what holds of a result holds of its value
pub value_of : {A E : Type 0} (P : A → Type 0) (r : Result A E) (v : A) → r ≡ Ok v → IfOk r P → P v
value_of P r v is h = subst (λ x. IfOk x P) is h

-- two slices are the whole
pub whole : (part front back : List Entry) (n : ℕ) → front ≡ take n part → back ≡ drop n part → front ++ back ≡ part
whole part front back n is_front is_back =
    ap (λ (v : List Entry). v ++ back) is_front ∙ ap (λ (v : List Entry). take n part ++ v) is_back ∙ take-append-drop n part

-- what holds of two lists in a row holds of the list of both
pub appended : {E : Type 0} (P : List File → Type 0) (one other : Vec AttributeFile) (r : Result (Vec AttributeFile) E) → P (map file_view one.items ++ map file_view other.items)
    → IfOk r (λ all. all.items ≡ one.items ++ other.items) → IfOk r (λ files. P (map file_view files.items))
appended P one other (Err e) h is = tt
appended P one other (Ok all) h is = subst P (sym (ap (map file_view) is ∙ map-append file_view one.items other.items)) h

-- the files of the top and of all other folders
pub all_found : {E : Type 0} (may_stat : MayStat) (may_open : List ℕ → MayOpen) (index : State) (one other : Vec AttributeFile) (entries : List Entry) (r : Result (Vec AttributeFile) E) → entries ≡ entries_of index
    → AreFilesSeen may_stat may_open ([] ∷ []) (map file_view one.items)
    → AreFilesSeen may_stat may_open (folders_after [] (index_entries (backing_of index) entries)) (map file_view other.items)
    → IfOk r (λ all. all.items ≡ one.items ++ other.items) → IfOk r (λ files. AreFilesSeen may_stat may_open (folders_of (index_of index)) (map file_view files.items))
all_found {E} may_stat may_open index one other entries r same some others is =
    let rest : List Entry → List (List ℕ) = λ v. folders_after [] (index_entries (backing_of index) v) in
    let both = seen_both may_stat may_open ([] ∷ []) (rest entries) (map file_view one.items) (map file_view other.items) some others in
    let P : List Entry → Type 0 = λ v. AreFilesSeen may_stat may_open ([] ∷ rest v) (map file_view one.items ++ map file_view other.items) in
    appended (AreFilesSeen may_stat may_open (folders_of (index_of index))) one other r (subst P same both) is
