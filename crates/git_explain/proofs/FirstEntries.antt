-- The first entry of each path, one entry after the other.
use Rattle.std.proofs.Common.{◌≡◌, ◌∙◌, ◌++◌, ◌&&◌, ◌≤◌, ◌-◌, not, ℕ, Bool, true, false, List, [], ◌∷◌, length, take, drop, if◌then◌else◌, arith, refl, sym}
use Rattle.std.proofs.lemmas.List.{take_all}
use Rattle.std.specs.List.{slice_index_or}
use Rattle.std.specs.Str.{bytes_eq}
use Rattle.status_index.specs.Entries.{IndexEntry, entry_at, index_entries, path_in}
use Rattle.status_index.specs.Mode.{is_submodule}
use Rattle.status_index.specs.declared.entry.Entry.{Entry}
use Rattle.status_index.specs.declared.entry.PathStorage.{PathStorage}
use Rattle.git_explain.specs.Explained.{first_entries}

-- An entry that may come first.
abbrev pub chosen : Bool → IndexEntry → List IndexEntry
chosen b e = if b then e ∷ [] else []

chosen_first : (b : Bool) (e : IndexEntry) (es : List IndexEntry) → (if b then e ∷ es else es) ≡ chosen b e ++ es
chosen_first true e es = refl
chosen_first false e es = refl

-- The first entry of a list is chosen or not, and then come those of the others.
pub first_of : (included : List ℕ → Bool → Bool) (backing held : PathStorage) (before path : List ℕ) (rest : List Entry) (selected : Bool) (d : Entry) → 1 ≤ length rest
    → path ≡ path_in held (slice_index_or rest 0 d) → held ≡ backing
    → selected ≡ (not (bytes_eq path before) && included path (is_submodule (slice_index_or rest 0 d).mode))
    → first_entries included before (index_entries backing rest)
    ≡ chosen selected (entry_at path (slice_index_or rest 0 d)) ++ first_entries included path (index_entries backing (take (length rest - 1) (drop 1 rest)))
first_of included backing held before path [] selected d some at same is = absurd (omega arith)
first_of included backing held before path (e ∷ es) selected d some at same is =
    let here : path_in backing e ≡ path = sym (at ∙ (λ i. path_in (same i) e)) in
    let all : es ≡ take (length (e ∷ es) - 1) es = sym (take_all (length (e ∷ es) - 1) es (omega arith)) in
    let chooses : (not (bytes_eq (path_in backing e) before) && included (path_in backing e) (is_submodule e.mode)) ≡ selected =
    (λ i. not (bytes_eq (here i) before) && included (here i) (is_submodule e.mode)) ∙ sym is in
    chosen_first (not (bytes_eq (path_in backing e) before) && included (path_in backing e) (is_submodule e.mode)) (entry_at (path_in backing e) e) (first_entries included (path_in backing e) (index_entries backing es))
    ∙ (λ i. chosen (chooses i) (entry_at (here i) e) ++ first_entries included (here i) (index_entries backing (all i)))
