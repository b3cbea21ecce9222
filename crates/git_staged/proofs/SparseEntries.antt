-- The entries of a sparse index, one after the other, and what each is replaced by.
use Rattle.std.proofs.Common.{◌≡◌, ℕ, suc, ◌+◌, Bool, List, [], ◌∷◌, ◌++◌, map, refl, sym, ◌∙◌, ap, append_assoc, ◌||◌, take, add-one, subst}
use Rattle.std.specs.List.{list_any}
use Rattle.std.proofs.lemmas.List.{append-nil, map-append}
use Rattle.status_index.specs.declared.entry.Entry.{Entry}
use Rattle.status_index.specs.declared.entry.PathStorage.{PathStorage}
use Rattle.status_index.specs.Entries.{IndexEntry, entry_at, index_entry, path_in}
use Rattle.git_staged.specs.Expanded.{IsExpanded, IsExpandedEntry}
use Rattle.git_staged.specs.TreeFiles.{is_folder}

-- Whether an entry is a folder is seen without the paths.
pub folder_seen : (backing : PathStorage) (xs : List Entry) → list_any (λ e. is_folder e.mode) xs ≡ list_any (λ e. is_folder e.mode) (map (index_entry backing) xs)
folder_seen backing [] = refl
folder_seen backing (x ∷ xs) = ap (λ (b : Bool). is_folder x.mode || b) (folder_seen backing xs)

-- One more entry comes last.
pub expanded_more : (es : List IndexEntry) (fs own : List IndexEntry) (e : IndexEntry) → IsExpanded es fs → IsExpandedEntry e own → IsExpanded (es ++ e ∷ []) (fs ++ own)
expanded_more [] fs own e none is = (own, [], ap (λ (l : List IndexEntry). l ++ own) none ∙ sym (append-nil own), is, refl)
expanded_more (x ∷ es) fs own e (first, more, split, first_is, rest) is =
    (first, more ++ own, ap (λ (l : List IndexEntry). l ++ own) split ∙ append_assoc first more own, first_is, expanded_more es more own e rest is)

-- The next of the stored entries was passed, and its own entries were added.
pub entry_passed : (backing : PathStorage) (xs : List Entry) (n : ℕ) (e : Entry) (path : List ℕ) (own before after : List IndexEntry) → take (suc n) xs ≡ take n xs ++ e ∷ [] → path ≡ path_in backing e
    → IsExpanded (map (index_entry backing) (take n xs)) before → IsExpandedEntry (entry_at path e) own → after ≡ before ++ own → IsExpanded (map (index_entry backing) (take (n + 1) xs)) after
entry_passed backing xs n e path own before after taken named so_far is added =
    let f : Entry → IndexEntry = index_entry backing in
    let more : map f (take (n + 1) xs) ≡ map f (take n xs) ++ f e ∷ [] = ap (λ (k : ℕ). map f (take k xs)) (add-one n) ∙ (ap (map f) taken ∙ map-append f (take n xs) (e ∷ [])) in
    let own_is : IsExpandedEntry (f e) own = subst (λ (p : List ℕ). IsExpandedEntry (entry_at p e) own) named is in
    let all : IsExpanded (map f (take n xs) ++ f e ∷ []) after = subst (IsExpanded (map f (take n xs) ++ f e ∷ [])) (sym added) (expanded_more (map f (take n xs)) before own (f e) so_far own_is) in
    subst (λ (es : List IndexEntry). IsExpanded es after) (sym more) all
