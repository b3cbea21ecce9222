-- The index read from a stored index is the same, with only its known flags.
use Rattle.std.proofs.Common.{◌≡◌, ◌<◌, List, [], ◌∷◌, map, length, slice_index_or, Some, All, AllPairs, refl, sym, ap, subst, ◌∙◌, arith}
use Rattle.std.specs.Ordering.{nat_cmp, ordering_then}
use Rattle.std.specs.Cmp.Lexicographic.{slice_cmp}
use Rattle.std.specs.declared.cmp.Ordering.TheVariants.{Less}
use Rattle.std.proofs.lemmas.List.{get_or-map, length-map}
use Rattle.std.proofs.lemmas.List.Elements.{All-head, All-map, All-tail}
use Rattle.serde_json.specs.View.{items_of}
use Rattle.status_index.specs.declared.mode.Mode.TheVariants as modes
use Rattle.status_index.specs.declared.stat.Moment.{Moment}
use Rattle.status_index.specs.BlobId.{id_kind}
use Rattle.status_index.specs.Entries.{IndexEntry, IsIndex, entry_cmp}
use Rattle.status_format.specs.Reading.{each, entry_in}
use Rattle.status_stored.specs.Reading.{index_in}
use Rattle.status_stored.specs.Storable.{AreKnown, IsStorableIndex}
use Rattle.status_format.specs.Storable.{HasKnownBits, known_entry, IsStorable}
use Rattle.status_format.specs.StoredEntry.{stored_entry}
use Rattle.status_stored.specs.StoredIndex.{stored_index}
use Rattle.status_format.proofs.FlagsBack.{stage_known}
use Rattle.status_format.proofs.EntryBack.{entry_back, entry_same, moment_back}

pub entries_back : (es : List IndexEntry) → All IsStorable es → each entry_in (items_of (map stored_entry es)) ≡ Some (map known_entry es)
entries_back [] h = refl
entries_back (e ∷ es) h =
    let first = entry_back e (All-head IsStorable e es h) in
    let rest = entries_back es (All-tail IsStorable e es h) in
    rw (first, rest) refl

pub index_back : (es : List IndexEntry) (t : Moment) → IsStorableIndex es t → index_in (stored_index es t) ≡ Some (map known_entry es, t)
unfolding index_in
index_back es t h = rw (moment_back t h.secs h.nsecs, entries_back es h.entries) refl

-- ---- known flags

-- Entries whose flags are known stay unchanged.
pub entries_same : (es : List IndexEntry) → AreKnown es → map known_entry es ≡ es
entries_same [] known = refl
entries_same (e ∷ es) known = λ i.
    entry_same e (All-head (λ x. HasKnownBits x.flags.0) e es known) i ∷ entries_same es (All-tail (λ x. HasKnownBits x.flags.0) e es known) i

pub index_same : (es : List IndexEntry) (t : Moment) → IsStorableIndex es t → AreKnown es → index_in (stored_index es t) ≡ Some (es, t)
index_same es t h known = index_back es t h ∙ ap (λ (l : List IndexEntry). Some (l, t)) (entries_same es known)

-- ---- the entries that are read are a valid index

pairs_map : (R : IndexEntry → IndexEntry → Type 0) (f : IndexEntry → IndexEntry) (es : List IndexEntry) → AllPairs (λ a b. R (f a) (f b)) es → AllPairs R (map f es)
pairs_map R f es h = λ i j d l m.
    let inside : j < length es = subst (λ n. j < n) (length-map es f) m in
    let first : slice_index_or (map f es) i d ≡ f (slice_index_or es i d) = get_or-map f es i d d (omega (arith, l, inside)) in
    let second : slice_index_or (map f es) j d ≡ f (slice_index_or es j d) = get_or-map f es j d d inside in
    subst (λ x. R x (slice_index_or (map f es) j d)) (sym first) (subst (λ y. R (f (slice_index_or es i d)) y) (sym second) (h i j d l inside))

pub known_index : (es : List IndexEntry) → IsIndex es → IsIndex (map known_entry es)
known_index es index = record {
  named = All-map (λ (e : IndexEntry). 0 < length e.path) known_entry es index.named;
  ascending = pairs_map (λ a b. entry_cmp a b ≡ Less) known_entry es (λ i j d l m.
      let a : IndexEntry = slice_index_or es i d in
      let b : IndexEntry = slice_index_or es j d in
      let same : entry_cmp (known_entry a) (known_entry b) ≡ entry_cmp a b =
      λ k. ordering_then (slice_cmp nat_cmp a.path b.path) (nat_cmp (stage_known a.flags.0 k) (stage_known b.flags.0 k)) in
      same ∙ index.ascending i j d l m);
  one_kind = pairs_map (λ a b. id_kind a.id ≡ id_kind b.id) known_entry es index.one_kind;
}
