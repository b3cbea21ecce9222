-- Entries that settle their paths, as they are stored and in the index.
use Rattle.std.proofs.Common.{◌≡◌, ◌∙◌, ℕ, zero, suc, ◌<◌, ◌||◌, ◌++◌, Bool, true, false, List, [], ◌∷◌, cond, length, map, take, drop, slice_index_or, refl, sym, ap, take-append-drop, arith}
use Rattle.std.specs.List.{filter, list_any}
use Rattle.std.specs.Str.{bytes_eq}
use Rattle.std.specs.Cmp.Lexicographic.{bytes_decides}
use Rattle.std.proofs.lemmas.Map.Text.{is_eq-slice_cmp}
use Rattle.status_index.specs.Entries.{entry_at, index_entries, index_entry, path_in}
use Rattle.status_index.specs.Stretch.{is_at}
use Rattle.status_index.specs.declared.entry.Entry.{Entry}
use Rattle.status_index.specs.declared.entry.PathStorage.{PathStorage}
use Rattle.git_untracked.specs.Questions.{is_settled, settles}

-- Whether an entry settles its path doesn't depend on which path that is.
pub stored_settles : (b : PathStorage) (wanted : Bool) (es : List Entry) → list_any (settles wanted) (index_entries b es) ≡ list_any (λ e. settles wanted (entry_at [] e)) es
stored_settles b wanted [] = refl
stored_settles b wanted (e ∷ es) = ap (λ (x : Bool). settles wanted (entry_at [] e) || x) (stored_settles b wanted es)

-- A text of two parts, each of which is a known one.
pub joined : (text one other front back : List ℕ) (n : ℕ) → front ≡ take n text → back ≡ drop n text → bytes_eq front one ≡ true → bytes_eq back other ≡ true → text ≡ one ++ other
joined text one other front back n f b same_front same_back =
    sym (take-append-drop n text)
    ∙ ap (λ (x : List ℕ). x ++ drop n text) (sym f ∙ (bytes_decides front one).0 same_front)
    ∙ ap (λ (x : List ℕ). one ++ x) (sym b ∙ (bytes_decides back other).0 same_back)

module _ {X Y : Type 0} (h : X → Y) (keeps passes : Y → Bool) where
  -- An element that is kept passes.
  found_at : (xs : List X) (i : ℕ) (d : X) → i < length xs → keeps (h (slice_index_or xs i d)) ≡ true → passes (h (slice_index_or xs i d)) ≡ true → list_any passes (filter keeps (map h xs)) ≡ true
  found_at [] i d inside k p = absurd (omega (arith, inside))
  found_at (x ∷ xs) zero d inside k p =
      ap (λ (b : Bool). list_any passes (cond b (h x ∷ filter keeps (map h xs)) (filter keeps (map h xs)))) k
      ∙ ap (λ (b : Bool). b || list_any passes (filter keeps (map h xs))) p
  found_at (x ∷ xs) (suc i) d inside k p = later (keeps (h x)) (found_at xs i d (omega (arith, inside)) k p)
    where
      or_true : (b c : Bool) → c ≡ true → (b || c) ≡ true
      or_true true c e = refl
      or_true false c e = e

      later : (b : Bool) → list_any passes (filter keeps (map h xs)) ≡ true → list_any passes (cond b (h x ∷ filter keeps (map h xs)) (filter keeps (map h xs))) ≡ true
      later true rest = or_true (passes (h x)) _ rest
      later false rest = rest

-- A stored entry of a path settles it.
pub settled_at : (b : PathStorage) (wanted : Bool) (es : List Entry) (at : ℕ) (e : Entry) (path : List ℕ)
    → at < length es → slice_index_or es at e ≡ e → path_in b e ≡ path → settles wanted (entry_at [] e) ≡ true → is_settled wanted (index_entries b es) path ≡ true
settled_at b wanted es at e path inside is same it =
    found_at (index_entry b) (is_at path) (settles wanted) es at e inside
    (ap (λ (x : Entry). is_at path (index_entry b x)) is ∙ (is_eq-slice_cmp (path_in b e) path ∙ (bytes_decides (path_in b e) path).1 same))
    (ap (λ (x : Entry). settles wanted (entry_at [] x)) is ∙ it)
