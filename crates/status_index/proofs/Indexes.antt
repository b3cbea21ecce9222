-- An index stays valid if an entry is replaced by one that differs only in stat and mode.
use Rattle.std.proofs.Common.{refl, inl, inr, ◌≡◌, ℕ, ◌<◌, List, length, slice_index_or, slice_set, sym, ap, ◌∙◌, arith, length-set}
use Rattle.std.proofs.lemmas.List.{length-map, get_or-map, get_or-set_same, get_or-set_other, map-set}
use Rattle.std.proofs.lemmas.Bool.{cases_eq}
use Rattle.status_index.specs.declared.entry.Entry.{Entry}
use Rattle.status_index.specs.declared.entry.PathStorage.{PathStorage}
use Rattle.status_index.specs.Entries.{IndexEntry, IsIndex, index_entry, index_entries}

-- Two entries that differ at most in stat and mode.
pub record IsAlike (a b : IndexEntry) : Type 0 where
  pub path : b.path ≡ a.path
  pub id : b.id ≡ a.id
  pub flags : b.flags ≡ a.flags

pub IsIndex-alike : (xs ys : List IndexEntry) → length ys ≡ length xs → ((k : ℕ) (d : IndexEntry) → k < length xs → IsAlike (slice_index_or xs k d) (slice_index_or ys k d)) → IsIndex xs → IsIndex ys
IsIndex-alike xs ys n same h = record {
  named = λ k d l.
      let m : k < length xs = omega arith in
      let s = same k d m in
      rw s.path (h.named k d m);
  ascending = λ i j d l m.
      let n : j < length xs = omega arith in
      let s = same i d (omega arith) in
      let t = same j d n in
      rw (s.path, s.flags, t.path, t.flags) (h.ascending i j d l n);
  one_kind = λ i j d l m.
      let n : j < length xs = omega arith in
      let s = same i d (omega arith) in
      let t = same j d n in
      rw (s.id, t.id) (h.one_kind i j d l n);
}

IsAlike-self : (a : IndexEntry) → IsAlike a a
IsAlike-self a = record { path = refl; id = refl; flags = refl }

alike_at_set : (xs : List IndexEntry) (i : ℕ) (y : IndexEntry) → i < length xs → ((d : IndexEntry) → IsAlike (slice_index_or xs i d) y) → (k : ℕ) (d : IndexEntry) → k < length xs → IsAlike (slice_index_or xs k d) (slice_index_or (slice_set xs i y) k d)
alike_at_set xs i y h same k d l =
    elim (cases_eq k i) [
      | inl e ↦ rw (e, get_or-set_same xs i y d h) (same d)
      | inr apart ↦ rw (get_or-set_other xs i k y d apart) (IsAlike-self (slice_index_or xs k d))
    ]

pub IsIndex-set : (xs : List IndexEntry) (i : ℕ) (y : IndexEntry) → i < length xs → ((d : IndexEntry) → IsAlike (slice_index_or xs i d) y) → IsIndex xs → IsIndex (slice_set xs i y)
IsIndex-set xs i y l same h =
    IsIndex-alike xs (slice_set xs i y) (length-set xs i y) (alike_at_set xs i y l same) h

-- The entry of the index for a stored entry that is read from the list.
pub index_entry_read : (b : PathStorage) (es : List Entry) (i : ℕ) (x : Entry) → i < length es → x ≡ slice_index_or es i x → (d : IndexEntry) → slice_index_or (index_entries b es) i d ≡ index_entry b x
index_entry_read b es i x l e d = get_or-map (index_entry b) es i x d l ∙ ap (index_entry b) (sym e)

-- A stored entry is replaced by one of the same path, which is a function of the old one.
pub index_after : (b : PathStorage) (es : List Entry) (i : ℕ) (x y : Entry) (f : IndexEntry → IndexEntry) → i < length es → x ≡ slice_index_or es i x → f (index_entry b x) ≡ index_entry b y → (d : IndexEntry) → index_entries b (slice_set es i y) ≡ slice_set (index_entries b es) i (f (slice_index_or (index_entries b es) i d))
index_after b es i x y f l e same d =
    map-set (index_entry b) es i y ∙ ap (slice_set (index_entries b es) i) (sym (ap f (index_entry_read b es i x l e d) ∙ same))

pub IsIndex-after : (b : PathStorage) (es : List Entry) (i : ℕ) (x y : Entry) → i < length es → x ≡ slice_index_or es i x → IsAlike (index_entry b x) (index_entry b y) → IsIndex (index_entries b es) → IsIndex (index_entries b (slice_set es i y))
IsIndex-after b es i x y l e same h =
    let within : i < length (index_entries b es) = omega (arith, length-map es (index_entry b)) in
    rw (map-set (index_entry b) es i y)
    (IsIndex-set (index_entries b es) i (index_entry b y) within (λ d. rw (index_entry_read b es i x l e d) same) h)
