-- The tree of an index's entries.
use Rattle.std.proofs.Common.{◌≡◌, ℕ, suc, ◌==◌, Bool, not, List, [], ◌∷◌, ◌++◌, map, length, take, refl, sym, ◌∙◌, ap, ◌||◌}
use Rattle.std.specs.List.{list_any}
use Rattle.std.proofs.lemmas.List.{map-append, take-map, length-map}
use Rattle.status_index.specs.declared.entry.Entry.{Entry}
use Rattle.status_index.specs.declared.entry.PathStorage.{PathStorage}
use Rattle.status_index.specs.Entries.{IndexEntry, entry_at, index_entry, path_in}
use Rattle.status_index.specs.FlagBits.{stage_of_bits}
use Rattle.git_staged.specs.Trees.{Items, and_entry, and_entries, has_conflict}

-- One more entry comes last.
pub and_more : (t : Items) (es : List IndexEntry) (e : IndexEntry) → and_entries t (es ++ e ∷ []) ≡ and_entry (and_entries t es) e
and_more t [] e = refl
and_more t (x ∷ es) e = and_more (and_entry t x) es e

-- The next of the stored entries, with its path, is the next of the index's entries.
pub entry_next : (backing : PathStorage) (xs stored : List Entry) (n : ℕ) (e : Entry) (path : List ℕ) → take (suc n) xs ≡ take n xs ++ e ∷ [] → path ≡ path_in backing e → xs ≡ stored
    → take (suc n) (map (index_entry backing) stored) ≡ take n (map (index_entry backing) stored) ++ entry_at path e ∷ []
entry_next backing xs stored n e path taken named same =
    let f : Entry → IndexEntry = index_entry backing in
    let whole : take (suc n) (map f xs) ≡ take n (map f xs) ++ f e ∷ [] =
    take-map f (suc n) xs ∙ (ap (map f) taken ∙ (map-append f (take n xs) (e ∷ []) ∙ ap (λ (l : List IndexEntry). l ++ f e ∷ []) (sym (take-map f n xs)))) in
    ap (λ (l : List Entry). take (suc n) (map f l)) (sym same)
    ∙ (whole ∙ (ap (λ (l : List Entry). take n (map f l) ++ f e ∷ []) same ∙ ap (λ (p : List ℕ). take n (map f stored) ++ entry_at p e ∷ []) (sym named)))

pub as_many : (backing : PathStorage) (xs stored : List Entry) → xs ≡ stored → length (map (index_entry backing) stored) ≡ length xs
as_many backing xs stored same = length-map stored (index_entry backing) ∙ ap length (sym same)

-- A conflict is seen without the paths.
pub conflict_seen : (backing : PathStorage) (xs : List Entry) → list_any (λ e. not (stage_of_bits e.flags.0 == 0)) xs ≡ has_conflict (map (index_entry backing) xs)
conflict_seen backing [] = refl
conflict_seen backing (x ∷ xs) = ap (λ (b : Bool). not (stage_of_bits x.flags.0 == 0) || b) (conflict_seen backing xs)

pub conflict_in : (backing : PathStorage) (stored xs : List Entry) (b : Bool) → xs ≡ stored → b ≡ list_any (λ e. not (stage_of_bits e.flags.0 == 0)) xs → b ≡ has_conflict (map (index_entry backing) stored)
conflict_in backing stored xs b same seen = seen ∙ (ap (list_any (λ (e : Entry). not (stage_of_bits e.flags.0 == 0))) same ∙ conflict_seen backing stored)
