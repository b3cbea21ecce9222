-- An index stays valid if another entry is put at a path, or if the path is removed.
use Rattle.std.proofs.Common.{◌≡◌, refl, sym, ap, ◌∙◌, ℕ, ◌+◌, ◌-◌, ◌<◌, ◌≤◌, ◌⊎◌, inl, inr, Bool, true, false, cond, List, [], ◌∷◌, ◌++◌, length, take, drop, slice_index_or, slice_set, Option, Some, None, All, AllPairs, arith}
use Rattle.std.specs.List.{Contains, filter, insert, prefix_len, remove_range}
use Rattle.std.specs.Option.{option_to_list}
use Rattle.std.specs.Ordering.{nat_cmp}
use Rattle.std.specs.Cmp.Lexicographic.{slice_cmp}
use Rattle.std.specs.declared.cmp.Ordering.TheVariants.{Less}
use Rattle.std.proofs.lemmas.Bool.{cases_lt}
use Rattle.std.proofs.lemmas.Cmp.{nat_list_cmp_total}
use Rattle.std.proofs.lemmas.List.{append-nil, length-take, length-drop, length-append, get_or-take, get_or-drop, drop_all, get_or_default, get_or_append_left, get_or-append_right, get_or_push, length_push}
use Rattle.std.proofs.lemmas.List.Elements.{All-nil, All-append, All-push, All-filter, All-same, All-contains, Contains-push, Contains-append_left, Contains-append_right, Contains-append_cases, filter_passes}
use Rattle.std.proofs.lemmas.List.Kept.{AllPairs-filter}
use Rattle.std.proofs.lemmas.List.Quantifiers.{all_pairs_push}
use Rattle.std.proofs.lemmas.List.Sums.{prefix_len-le-length}
use Rattle.status_index.specs.declared.entry.Entry.{Entry}
use Rattle.status_index.specs.declared.entry.PathStorage.{PathStorage}
use Rattle.status_index.specs.declared.id.HashKind.{HashKind}
use Rattle.status_index.specs.declared.state.IndexError.{IndexError}
use Rattle.status_index.specs.declared.state.IndexError.TheVariants.{EmptyPath, NotAscending, MixedHash, Memory}
use Rattle.status_index.specs.BlobId.{id_kind}
use Rattle.status_index.specs.Entries.{IndexEntry, IsIndex, bytes_within, path_in, entry_at, entry_cmp, index_entry, index_entries}
use Rattle.status_index.specs.Stretch.{is_below, is_up_to}
use Rattle.status_index.specs.Staging.{is_above, with_entry, IsPutRefusal}
use Rattle.status_index.proofs.Indexes.{index_entry_read}
use Rattle.status_index.proofs.Storages.{index-insert, index-remove, index-replace}
use Rattle.status_index.proofs.Stretches.{Less-from_lt}
use Rattle.status_index.proofs.Places.{below_is, above_is, with_entry-parts, path_between}

-- All pairs of two appended lists are related if those of each list are, and each of the first list with each of the second.
AllPairs-append : (R : IndexEntry → IndexEntry → Type 0) (xs ys : List IndexEntry) → AllPairs R xs → AllPairs R ys → ((i j : ℕ) (d : IndexEntry) → i < length xs → j < length ys → R (slice_index_or xs i d) (slice_index_or ys j d)) → AllPairs R (xs ++ ys)
AllPairs-append R xs ys front rest across i j d l m =
    let n = length-append xs ys in
    elim (cases_lt j (length xs)) [
      | inl o ↦ rw (get_or_append_left xs ys d i (omega arith), get_or_append_left xs ys d j o) (front i j d l o)
      | inr o ↦ elim (cases_lt i (length xs)) [
        | inl q ↦ rw (get_or_append_left xs ys d i q, get_or-append_right xs ys (length xs) j d refl o) (across i (j - length xs) d q (omega arith))
        | inr q ↦ rw (get_or-append_right xs ys (length xs) i d refl q, get_or-append_right xs ys (length xs) j d refl o) (rest (i - length xs) (j - length xs) d (omega arith) (omega arith))
      ]
    ]

-- All ids are of this kind.
abbrev pub AreOfKind : HashKind → List IndexEntry → Type 0
AreOfKind kind es = All (λ e. id_kind e.id ≡ kind) es

one_kind-from_all : (kind : HashKind) (es : List IndexEntry) → AreOfKind kind es → AllPairs (λ a b. id_kind a.id ≡ id_kind b.id) es
one_kind-from_all kind es h i j d l m = h i d (omega arith) ∙ sym (h j d m)

-- All ids of an index are of the kind of any of its entries.
pub all_of_kind : (es : List IndexEntry) (i : ℕ) (x : IndexEntry) → i < length es → ((d : IndexEntry) → slice_index_or es i d ≡ x) → IsIndex es → AreOfKind (id_kind x.id) es
all_of_kind es i x l read h k d m =
    elim (cases_lt k i) [
      | inl o ↦ h.one_kind k i d o l ∙ ap (λ (e : IndexEntry). id_kind e.id) (read d)
      | inr o ↦ elim (cases_lt i k) [
        | inl q ↦ sym (h.one_kind i k d q m) ∙ ap (λ (e : IndexEntry). id_kind e.id) (read d)
        | inr q ↦
            let same : k ≡ i = omega arith in
            rw (same, read d)
      ]
    ]

less_by_path : (a b : IndexEntry) → slice_cmp nat_cmp a.path b.path ≡ Less → entry_cmp a b ≡ Less
less_by_path a b h = rw h

-- The entries below a path, and those above it.
module _ (es : List IndexEntry) (p : List ℕ) where
  below_less : (k : ℕ) (d : IndexEntry) → k < length (filter (is_below p) es) → slice_cmp nat_cmp (slice_index_or (filter (is_below p) es) k d).path p ≡ Less
  below_less k d l = Less-from_lt _ (filter_passes (is_below p) es k d l)

  above_less : (k : ℕ) (d : IndexEntry) → k < length (filter (is_above p) es) → slice_cmp nat_cmp p (slice_index_or (filter (is_above p) es) k d).path ≡ Less
  above_less k d l = Less-from_lt _ (filter_passes (is_above p) es k d l)

  across_path : (i j : ℕ) (d : IndexEntry) → i < length (filter (is_below p) es) → j < length (filter (is_above p) es) → entry_cmp (slice_index_or (filter (is_below p) es) i d) (slice_index_or (filter (is_above p) es) j d) ≡ Less
  across_path i j d l m =
      let a = slice_index_or (filter (is_below p) es) i d in
      let b = slice_index_or (filter (is_above p) es) j d in
      less_by_path a b (nat_list_cmp_total.trans a.path p b.path (below_less i d l) (above_less j d m))

-- An index without a path has ids of one kind.
kinds-without : (es : List IndexEntry) (p : List ℕ) → IsIndex es → AllPairs (λ a b. id_kind a.id ≡ id_kind b.id) (filter (is_below p) es ++ filter (is_above p) es)
kinds-without [] p h = λ i j d l m. absurd (omega arith)
kinds-without (x ∷ xs) p h =
    let kind = id_kind x.id in
    let all = all_of_kind (x ∷ xs) 0 x (omega arith) (λ d. refl) h in
    let test = λ (e : IndexEntry). id_kind e.id ≡ kind in
    one_kind-from_all kind _ (All-append test _ _ (All-filter (is_below p) test (x ∷ xs) all) (All-filter (is_above p) test (x ∷ xs) all))

pub IsIndex-without : (es : List IndexEntry) (p : List ℕ) → IsIndex es → IsIndex (with_entry es p None)
IsIndex-without es p h =
    let order = λ (a b : IndexEntry). entry_cmp a b ≡ Less in
    let named = λ (e : IndexEntry). 0 < length e.path in
    rw (append-nil (filter (is_below p) es))
    (record {
      named = All-append named _ _ (All-filter (is_below p) named es h.named) (All-filter (is_above p) named es h.named);
      ascending = AllPairs-append order _ _ (AllPairs-filter order (is_below p) es h.ascending) (AllPairs-filter order (is_above p) es h.ascending) (across_path es p);
      one_kind = kinds-without es p h;
    })

-- An index with an entry at its path.
module _ (es : List IndexEntry) (e : IndexEntry) where
  across_entry : (i j : ℕ) (d : IndexEntry) → i < length (filter (is_below e.path) es ++ e ∷ []) → j < length (filter (is_above e.path) es) → entry_cmp (slice_index_or (filter (is_below e.path) es ++ e ∷ []) i d) (slice_index_or (filter (is_above e.path) es) j d) ≡ Less
  across_entry i j d l m =
      let below = filter (is_below e.path) es in
      elim (cases_lt i (length below)) [
        | inl o ↦ rw (get_or_append_left below (e ∷ []) d i o) (across_path es e.path i j d o m)
        | inr o ↦
            let last : length below ≡ i = omega (arith, length_push below e) in
            rw (get_or_push below e d i last) (less_by_path e (slice_index_or (filter (is_above e.path) es) j d) (above_less es e.path j d m))
      ]

  pub IsIndex-with : IsIndex es → 0 < length e.path → AreOfKind (id_kind e.id) (filter (is_below e.path) es) → AreOfKind (id_kind e.id) (filter (is_above e.path) es) → IsIndex (with_entry es e.path (Some e))
  IsIndex-with h name low high =
      let order = λ (a b : IndexEntry). entry_cmp a b ≡ Less in
      let named = λ (x : IndexEntry). 0 < length x.path in
      let kind = λ (x : IndexEntry). id_kind x.id ≡ id_kind e.id in
      let front = all_pairs_push order _ e (AllPairs-filter order (is_below e.path) es h.ascending) (λ k d l. less_by_path (slice_index_or (filter (is_below e.path) es) k d) e (below_less es e.path k d l)) in
      record {
        named = All-append named _ _ (All-push named _ e (All-filter (is_below e.path) named es h.named) name) (All-filter (is_above e.path) named es h.named);
        ascending = AllPairs-append order _ _ front (AllPairs-filter order (is_above e.path) es h.ascending) across_entry;
        one_kind = one_kind-from_all (id_kind e.id) _ (All-append kind _ _ (All-push kind _ e low refl) high);
      }

  -- The index has this entry.
  itself : Contains (with_entry es e.path (Some e)) e
  itself =
      let below = filter (is_below e.path) es in
      Contains-append_left (below ++ e ∷ []) (filter (is_above e.path) es) e (Contains-push below e)

  others : (x : IndexEntry) → Contains (with_entry es e.path None) x → Contains (with_entry es e.path (Some e)) x
  others x stands =
      let below = filter (is_below e.path) es in
      let above = filter (is_above e.path) es in
      elim (Contains-append_cases (below ++ []) above x stands) [
        | inl o ↦ Contains-append_left (below ++ e ∷ []) above x (Contains-append_left below (e ∷ []) x (rw append-nil at o))
        | inr o ↦ Contains-append_right (below ++ e ∷ []) above x o
      ]

  all_of_its_kind : IsIndex (with_entry es e.path (Some e)) → AreOfKind (id_kind e.id) (with_entry es e.path (Some e))
  all_of_its_kind h =
      let all = with_entry es e.path (Some e) in
      let stands = itself in
      all_of_kind all stands.0 e stands.1 (λ d. get_or_default all stands.0 d e stands.1 ∙ stands.2) h

  -- An entry that may be in the index is refused only for memory.
  pub Memory-from_with : (error : IndexError) → IsIndex (with_entry es e.path (Some e)) → IsPutRefusal es e error → error ≡ Memory
  Memory-from_with (EmptyPath at) h refused =
      let named = All-contains (λ (x : IndexEntry). 0 < length x.path) _ e h.named itself in
      absurd (omega (arith, ap length refused.1))
  Memory-from_with (NotAscending at) h refused = absurd refused
  Memory-from_with (MixedHash at) h refused =
      let odd = refused.2 in
      absurd (odd.4 (All-contains (λ (x : IndexEntry). id_kind x.id ≡ id_kind e.id) _ odd.1 (all_of_its_kind h) (others odd.1 (odd.0, odd.2, odd.3))))
  Memory-from_with Memory h refused = refl

-- The position whose entry shows the kind of all: the first if there are entries below the path, otherwise the first one
-- above it.
abbrev pub ShowsKind : List IndexEntry → List ℕ → ℕ → Type 0
ShowsKind es p k = ((0 < prefix_len (is_below p) es) × (k ≡ 0)) ⊎ ((prefix_len (is_below p) es ≡ 0) × (k ≡ prefix_len (is_up_to p) es))

module _ (es : List IndexEntry) (p : List ℕ) (h : IsIndex es) (x : IndexEntry) where
  first_below : 0 < prefix_len (is_below p) es → slice_index_or es 0 x ≡ x → Contains (filter (is_below p) es) x
  first_below some read =
      let a = prefix_len (is_below p) es in
      let inside : 0 < length (take a es) = omega (arith, length-take a es, prefix_len-le-length (is_below p) es) in
      rw (below_is es p h) (0, inside, get_or-take a es 0 x some ∙ read)

  first_above : prefix_len (is_up_to p) es < length es → slice_index_or es (prefix_len (is_up_to p) es) x ≡ x → Contains (filter (is_above p) es) x
  first_above some read =
      let b = prefix_len (is_up_to p) es in
      let inside : 0 < length (drop b es) = omega (arith, length-drop b es) in
      let first : b + 0 ≡ b = omega arith in
      rw (above_is es p h) (0, inside, get_or-drop b es 0 x ∙ ap (λ n. slice_index_or es n x) first ∙ read)

  pub among_others : (k : ℕ) → k < length es → slice_index_or es k x ≡ x → ShowsKind es p k → Contains (with_entry es p None) x
  among_others k l read (inl at) =
      Contains-append_left (filter (is_below p) es ++ []) (filter (is_above p) es) x
      (Contains-append_left (filter (is_below p) es) [] x (first_below at.0 (ap (λ n. slice_index_or es n x) (sym at.1) ∙ read)))
  among_others k l read (inr at) =
      Contains-append_right (filter (is_below p) es ++ []) (filter (is_above p) es) x
      (first_above (omega (arith, at.1)) (ap (λ n. slice_index_or es n x) (sym at.1) ∙ read))

-- The index stays valid if an entry is put among entries of its kind.
pub IsIndex-among : (es : List IndexEntry) (e : IndexEntry) → IsIndex es → 0 < length e.path → (k : ℕ) (x : IndexEntry) → k < length es → ((d : IndexEntry) → slice_index_or es k d ≡ x) → id_kind x.id ≡ id_kind e.id → IsIndex (with_entry es e.path (Some e))
IsIndex-among es e h named k x l read same =
    let kind = λ (y : IndexEntry). id_kind y.id ≡ id_kind e.id in
    let all : AreOfKind (id_kind e.id) es = λ i d m. all_of_kind es k x l read h i d m ∙ same in
    IsIndex-with es e h named (All-filter (is_below e.path) kind es all) (All-filter (is_above e.path) kind es all)

-- The index stays valid if an entry is put at a path that has all entries.
pub IsIndex-alone : (es : List IndexEntry) (e : IndexEntry) → IsIndex es → 0 < length e.path → (k : ℕ) → length es ≤ k → ShowsKind es e.path k → IsIndex (with_entry es e.path (Some e))
IsIndex-alone es e h named k past (inl at) = absurd (omega (arith, at.0, at.1, prefix_len-le-length (is_below e.path) es))
IsIndex-alone es e h named k past (inr at) =
    let kind = λ (y : IndexEntry). id_kind y.id ≡ id_kind e.id in
    let none_below : filter (is_below e.path) es ≡ [] = below_is es e.path h ∙ ap (λ n. take n es) at.0 in
    let none_above : filter (is_above e.path) es ≡ [] = above_is es e.path h ∙ drop_all (prefix_len (is_up_to e.path) es) es (omega (arith, at.1)) in
    IsIndex-with es e h named (All-same kind _ [] none_below (All-nil kind)) (All-same kind _ [] none_above (All-nil kind))

-- The stored entries, if another is put at a path whose positions are known.
module _ (b : PathStorage) (es : List Entry) (path : List ℕ) (h : IsIndex (index_entries b es)) (start stop : ℕ) (first : start ≡ prefix_len (is_below path) (index_entries b es)) (last : stop ≡ prefix_len (is_up_to path) (index_entries b es)) where
  parts : (new : Option IndexEntry) → take start (index_entries b es) ++ option_to_list new ++ drop stop (index_entries b es) ≡ with_entry (index_entries b es) path new
  parts new = rw (first, last) (sym (with_entry-parts (index_entries b es) path h new))

  pub stored-without : index_entries b (remove_range es start stop) ≡ with_entry (index_entries b es) path None
  stored-without = index-remove b es start stop ∙ parts None

  -- The new entry's path was appended to the storage.
  pub stored-new : (grown : PathStorage) (e : Entry) → start ≡ stop → grown.bytes.items ≡ b.bytes.items ++ path → e.path.start ≡ length b.bytes.items → e.path.end ≡ length grown.bytes.items → index_entries grown (insert es start e) ≡ with_entry (index_entries b es) path (Some (entry_at path e))
  stored-new grown e none more from to =
      index-insert b grown es e path (entry_at path e) more from to refl h start
      ∙ ap (λ n. take start (index_entries b es) ++ entry_at path e ∷ [] ++ drop n (index_entries b es)) none
      ∙ parts (Some (entry_at path e))

  -- The new entry has the path of the first one that it replaces.
  pub stored-over : (x e : Entry) → start < stop → start < length es → x ≡ slice_index_or es start x → e.path ≡ x.path → index_entries b (remove_range (slice_set es start e) (start + 1) stop) ≡ with_entry (index_entries b es) path (Some (entry_at path e))
  stored-over x e some inside read same =
      let there : path_in b x ≡ path = ap (λ (y : IndexEntry). y.path) (sym (index_entry_read b es start x inside read (index_entry b x))) ∙ path_between (index_entries b es) path h start (index_entry b x) (omega (arith, first)) (omega (arith, last)) in
      index-replace b es start stop e (entry_at path e) some inside (ap (λ p. entry_at (bytes_within b.bytes.items p.start p.end) e) same ∙ ap (λ p. entry_at p e) there)
      ∙ parts (Some (entry_at path e))

-- An insertion that may fail.
pub IsIndex-either : (b : PathStorage) (ok : Bool) (xs ys : List Entry) → IsIndex (index_entries b xs) → IsIndex (index_entries b ys) → IsIndex (index_entries b (cond ok xs ys))
IsIndex-either b true xs ys done failed = done
IsIndex-either b false xs ys done failed = failed
