-- A storage has the same path for an entry after more bytes are appended.
use Rattle.std.proofs.Common.{◌≡◌, refl, sym, ap, ◌∙◌, ℕ, ◌+◌, ◌-◌, ◌<◌, ◌≤◌, ◌⊎◌, inl, inr, Bool, true, false, cond, List, [], ◌∷◌, ◌++◌, length, take, drop, slice_set, All, arith}
use Rattle.std.specs.List.{insert, remove_range, slice_range}
use Rattle.std.proofs.lemmas.Bool.{cases_lt}
use Rattle.std.proofs.lemmas.Bool.Decides.{nat_tests}
use Rattle.std.proofs.lemmas.List.{append-nil, append_assoc, map-append, map_push, take-map, drop-map, take_more_set, drop-set-lt, take-append-le, drop-append-le, length-drop, length-append, take_all}
use Rattle.std.proofs.Math.Seq.{drop-append_seam}
use Rattle.std.proofs.lemmas.List.Elements.{All-head, All-tail}
use Rattle.status_index.specs.declared.entry.Entry.{Entry}
use Rattle.status_index.specs.declared.entry.PathStorage.{PathStorage}
use Rattle.status_index.specs.Entries.{IndexEntry, IsIndex, bytes_within, path_in, entry_at, index_entry, index_entries}

pub within-part : (xs : List ℕ) (a b : ℕ) → a ≤ b → b ≤ length xs → bytes_within xs a b ≡ slice_range xs a b
unfolding bytes_within
within-part xs a b order inside = grind (arith, nat_tests)

pub within-none : (xs : List ℕ) (a b : ℕ) → (b < a) ⊎ (length xs < b) → bytes_within xs a b ≡ []
unfolding bytes_within
within-none xs a b outside = grind (arith, nat_tests)

part_or_none : (xs : List ℕ) (a b : ℕ) → ((a ≤ b) × (b ≤ length xs)) ⊎ (bytes_within xs a b ≡ [])
part_or_none xs a b =
    elim (cases_lt b a) [
      | inl l ↦ inr (within-none xs a b (inl l))
      | inr l ↦ elim (cases_lt (length xs) b) [
        | inl m ↦ inr (within-none xs a b (inr m))
        | inr m ↦ inl (omega arith, omega arith)
      ]
    ]

within-front : (xs ys : List ℕ) (a b : ℕ) → 0 < length (bytes_within xs a b) → bytes_within (xs ++ ys) a b ≡ bytes_within xs a b
within-front xs ys a b some =
    elim (part_or_none xs a b) [
      | inl p ↦
          let start : a ≤ length xs = omega (arith, p.0, p.1) in
          let inside : b ≤ length (xs ++ ys) = omega (arith, p.1, length-append xs ys) in
          let fits : b - a ≤ length (drop a xs) = omega (arith, p.0, p.1, length-drop a xs) in
          within-part (xs ++ ys) a b p.0 inside ∙ ap (take (b - a)) (drop-append-le a xs ys start) ∙ take-append-le (b - a) (drop a xs) ys fits ∙ sym (within-part xs a b p.0 p.1)
      | inr e ↦ absurd (omega (arith, ap length e))
    ]

within-behind : (xs ys : List ℕ) → bytes_within (xs ++ ys) (length xs) (length xs + length ys) ≡ ys
within-behind xs ys =
    within-part (xs ++ ys) (length xs) (length xs + length ys) (omega arith) (omega (arith, length-append xs ys))
    ∙ ap (take (length xs + length ys - length xs)) (drop-append_seam xs ys)
    ∙ take_all (length xs + length ys - length xs) ys (omega arith)

-- The new storage has the bytes of the old one, and perhaps more after them.
pub record Extends (old new : PathStorage) : Type 0 where
  pub rest : List ℕ
  pub same : new.bytes.items ≡ old.bytes.items ++ rest

pub Extends-more : (old new : PathStorage) (ok : Bool) (path : List ℕ) → new.bytes.items ≡ cond ok (old.bytes.items ++ path) old.bytes.items → Extends old new
Extends-more old new true path e = record { rest = path; same = e }
Extends-more old new false path e = record { rest = []; same = e ∙ sym (append-nil old.bytes.items) }

path_in-kept : (old new : PathStorage) (e : Entry) → Extends old new → 0 < length (path_in old e) → path_in new e ≡ path_in old e
path_in-kept old new e h l = rw h.same (within-front old.bytes.items h.rest e.path.start e.path.end l)

entries_kept : (old new : PathStorage) (es : List Entry) → Extends old new → All (λ e. 0 < length e.path) (index_entries old es) → index_entries new es ≡ index_entries old es
entries_kept old new [] h named = refl
entries_kept old new (e ∷ es) h named =
    let first = path_in-kept old new e h (All-head (λ (x : IndexEntry). 0 < length x.path) (index_entry old e) (index_entries old es) named) in
    let others = entries_kept old new es h (All-tail (λ (x : IndexEntry). 0 < length x.path) (index_entry old e) (index_entries old es) named) in
    rw (first, others)

-- An entry of an index has a path in its storage, so it keeps this path.
pub index_entries-kept : (old new : PathStorage) (es : List Entry) → Extends old new → IsIndex (index_entries old es) → index_entries new es ≡ index_entries old es
index_entries-kept old new es h index = entries_kept old new es h index.named

-- An entry whose path was appended to the storage.
stored-push : (old new : PathStorage) (e : Entry) (path : List ℕ) (x : IndexEntry) → new.bytes.items ≡ old.bytes.items ++ path → e.path.start ≡ length old.bytes.items → e.path.end ≡ length new.bytes.items → x ≡ entry_at path e → index_entry new e ≡ x
stored-push old new e path x grown start stop is =
    let long : e.path.end ≡ length old.bytes.items + length path = omega (arith, stop, ap length grown, length-append old.bytes.items path) in
    let stored : path_in new e ≡ path = rw (grown, start, long) (within-behind old.bytes.items path) in
    rw (stored, is)

-- Such an entry is appended to the others, or inserted among them.
module _ (old new : PathStorage) (es : List Entry) (e : Entry) (path : List ℕ) (x : IndexEntry) (grown : new.bytes.items ≡ old.bytes.items ++ path) (start : e.path.start ≡ length old.bytes.items) (stop : e.path.end ≡ length new.bytes.items) (is : x ≡ entry_at path e) (index : IsIndex (index_entries old es)) where
  kept-push : index_entries new es ≡ index_entries old es
  kept-push = index_entries-kept old new es (record { rest = path; same = grown }) index

  pub index-push : index_entries new (es ++ e ∷ []) ≡ index_entries old es ++ x ∷ []
  index-push = rw (map_push (index_entry new) es e, kept-push, stored-push old new e path x grown start stop is)

  pub index-insert : (i : ℕ) → index_entries new (insert es i e) ≡ take i (index_entries old es) ++ x ∷ [] ++ drop i (index_entries old es)
  index-insert i =
      rw (map-append (index_entry new) (take i es) (e ∷ drop i es), ← take-map (index_entry new) i es, ← drop-map (index_entry new) i es, kept-push, stored-push old new e path x grown start stop is)
      (sym (append_assoc (take i (index_entries old es)) (x ∷ []) (drop i (index_entries old es))))

-- The entries from one position up to another are removed, or one entry replaces them.
module _ (b : PathStorage) (es : List Entry) (i j : ℕ) where
  pub index-remove : index_entries b (remove_range es i j) ≡ take i (index_entries b es) ++ [] ++ drop j (index_entries b es)
  index-remove =
      rw (map-append (index_entry b) (take i es) (drop j es), ← take-map (index_entry b) i es, ← drop-map (index_entry b) j es, append-nil (take i (index_entries b es)))

  pub index-replace : (e : Entry) (x : IndexEntry) → i < j → i < length es → index_entry b e ≡ x → index_entries b (remove_range (slice_set es i e) (i + 1) j) ≡ take i (index_entries b es) ++ x ∷ [] ++ drop j (index_entries b es)
  index-replace e x some inside is =
      rw (take_more_set es i e inside, drop-set-lt j es i e some, map-append (index_entry b) (take i es ++ e ∷ []) (drop j es), map_push (index_entry b) (take i es) e, ← take-map (index_entry b) i es, ← drop-map (index_entry b) j es, is)
