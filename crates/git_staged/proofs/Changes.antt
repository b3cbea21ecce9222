-- The changes of entries, one after the other.
use Rattle.std.proofs.Common.{◌≡◌, ℕ, suc, ◌+◌, ◌==◌, Bool, true, false, not, List, [], ◌∷◌, ◌++◌, map, length, take, Option, Some, None, refl, sym, ◌∙◌, ap, add-one, arith, ◌||◌}
use Rattle.std.specs.List.{flat_map, list_any}
use Rattle.std.proofs.lemmas.Grind.{flat_map-append}
use Rattle.std.proofs.lemmas.List.{append-nil, map-append}
use Rattle.std.proofs.lemmas.List.Concat.{flat_map-cons}
use Rattle.status_index.specs.declared.entry.Entry.{Entry}
use Rattle.status_index.specs.declared.entry.PathStorage.{PathStorage}
use Rattle.status_index.specs.declared.entry.TheConstants.Flags.{INTENT_TO_ADD}
use Rattle.status_index.specs.Entries.{IndexEntry, entry_at, index_entry, path_in}
use Rattle.status_index.specs.FlagBits.{has_bits}
use Rattle.status_index.specs.Mode.{is_submodule}
use Rattle.git_staged.specs.declared.letters.Letter.{Letter}
use Rattle.git_staged.specs.Letters.{and_change, is_intended}
use Rattle.git_staged.specs.Staged.{is_submodule_by}
use Rattle.std.proofs.lemmas.Bool.{eqb-true}

-- Whether an entry counts is seen without the paths.
pub staged_seen : (backing : PathStorage) (xs : List Entry) → list_any (λ e. not (has_bits e.flags.0 INTENT_TO_ADD.0)) xs ≡ list_any (λ e. not (is_intended e)) (map (index_entry backing) xs)
staged_seen backing [] = refl
staged_seen backing (x ∷ xs) = ap (λ (b : Bool). not (has_bits x.flags.0 INTENT_TO_ADD.0) || b) (staged_seen backing xs)

-- So is whether it is a submodule.
pub submodule_seen : (backing : PathStorage) (xs : List Entry) → list_any (λ e. is_submodule e.mode) xs ≡ list_any (λ e. is_submodule e.mode) (map (index_entry backing) xs)
submodule_seen backing [] = refl
submodule_seen backing (x ∷ xs) = ap (λ (b : Bool). is_submodule x.mode || b) (submodule_seen backing xs)

-- A change after others is one after none, appended.
and_after : (found : List (List ℕ × Letter)) (path : List ℕ) (letter : Option Letter) → and_change found path letter ≡ found ++ and_change [] path letter
and_after found path None = sym (append-nil found)
and_after found path (Some letter) = refl

-- One more entry comes last.
pub change_more : (letter : IndexEntry → Option Letter) (backing : PathStorage) (xs : List Entry) (n : ℕ) (e : Entry) (path : List ℕ) → take (suc n) xs ≡ take n xs ++ e ∷ [] → path ≡ path_in backing e
    → and_change (flat_map (λ x. and_change [] x.path (letter x)) (map (index_entry backing) (take n xs))) path (letter (entry_at path e)) ≡ flat_map (λ x. and_change [] x.path (letter x)) (map (index_entry backing) (take (n + 1) xs))
change_more letter backing xs n e path taken named =
    let f : Entry → IndexEntry = index_entry backing in
    let each : IndexEntry → List (List ℕ × Letter) = λ x. and_change [] x.path (letter x) in
    let ys : List IndexEntry = map f (take n xs) in
    let more : map f (take (n + 1) xs) ≡ ys ++ f e ∷ [] = ap (λ (k : ℕ). map f (take k xs)) (add-one n) ∙ (ap (map f) taken ∙ map-append f (take n xs) (e ∷ [])) in
    ap (λ (p : List ℕ). and_change (flat_map each ys) p (letter (entry_at p e))) named
    ∙ (and_after (flat_map each ys) (path_in backing e) (letter (f e))
    ∙ (ap (λ (t : List (List ℕ × Letter)). flat_map each ys ++ t) (sym (flat_map-cons each (f e) [] ∙ append-nil (each (f e))))
    ∙ (sym (flat_map-append each ys (f e ∷ [])) ∙ ap (flat_map each) (sym more))))

-- The index has no entry at a path: the commit's file counts.
pub submodule_of_commit : (one other : PathStorage) (files entries : List Entry) (r : Bool) → (length entries == 0) ≡ true → r ≡ list_any (λ e. is_submodule e.mode) files
    → r ≡ is_submodule_by (map (index_entry one) files) (map (index_entry other) entries)
submodule_of_commit one other files [] r none h = h ∙ submodule_seen one files
submodule_of_commit one other files (e ∷ es) r none h = absurd (omega (arith, eqb-true (length (e ∷ es)) 0 none))

-- It has one: that counts.
pub submodule_of_index : (one other : PathStorage) (files entries : List Entry) (r : Bool) → (length entries == 0) ≡ false → r ≡ list_any (λ e. is_submodule e.mode) entries
    → r ≡ is_submodule_by (map (index_entry one) files) (map (index_entry other) entries)
submodule_of_index one other files [] r some h = absurd (cc)
submodule_of_index one other files (e ∷ es) r some h = h ∙ submodule_seen other (e ∷ es)
