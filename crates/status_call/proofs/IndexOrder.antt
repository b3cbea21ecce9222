-- Entries of an index, by their order.
use Rattle.std.proofs.Common.{◌≡◌, refl, sym, ap, ◌∙◌, ℕ, zero, suc, ◌+◌, ◌-◌, ◌<◌, ◌≤◌, ◌⊎◌, inl, inr, true, false, List, [], ◌∷◌, length, drop, slice_index_or, All, arith}
use Rattle.std.specs.Cmp.Lexicographic.{slice_cmp}
use Rattle.std.specs.Ordering.{nat_cmp, ordering_then, ordering_reverse, is_eq}
use Rattle.std.specs.Str.{bytes_eq}
use Rattle.std.specs.declared.cmp.Ordering.{Ordering}
use Rattle.std.specs.declared.cmp.Ordering.TheVariants.{Less, Equal, Greater}
use Rattle.std.proofs.lemmas.Bool.{cases_eq, false_from_ne_true}
use Rattle.std.proofs.lemmas.Bool.Decides.{nat_tests}
use Rattle.std.proofs.lemmas.Cmp.{nat_list_cmp_total, tied_itself}
use Rattle.std.proofs.lemmas.List.{get_or_default}
use Rattle.std.proofs.lemmas.Map.Text.{is_eq-slice_cmp}
use Rattle.std.proofs.lemmas.Slice.Eq.{bytes_eq-Decides}
use Rattle.status_index.specs.BlobId.{id_kind}
use Rattle.status_index.specs.Entries.{IndexEntry, IsIndex, entry_cmp, stage_of}
use Rattle.status_index.specs.Stretch.{part_of}
use Rattle.status_call.specs.Considered.{same_path}
use Rattle.status_call.specs.Pieces.{IsCut}
use Rattle.status_call.proofs.Stretch.{All-take_from, All-drop_from, All-take_at, All-drop_at, All-part_from, AllPairs-part}

pub path_same : (a b : IndexEntry) → same_path a b ≡ true → a.path ≡ b.path
path_same a b h = (bytes_eq-Decides a.path b.path).0 h

pub same_from_path : (a b : IndexEntry) → a.path ≡ b.path → same_path a b ≡ true
same_from_path a b h = (bytes_eq-Decides a.path b.path).1 h

pub same_back : (a b : IndexEntry) → same_path a b ≡ true → same_path b a ≡ true
same_back a b h = same_from_path b a (sym (path_same a b h))

nat_less : (a b : ℕ) → nat_cmp a b ≡ Less → a < b
nat_less a b h = grind (arith, nat_tests)

less_or_equal : (o p : Ordering) → ordering_then o p ≡ Less → (o ≡ Less) ⊎ (o ≡ Equal)
less_or_equal Less p h = inl refl
less_or_equal Equal p h = inr refl
less_or_equal Greater p h = cc

pub stage_rises : (a b : IndexEntry) → entry_cmp (a) (b) ≡ Less → a.path ≡ b.path → stage_of a < stage_of b
stage_rises a b less e =
    let tie : slice_cmp nat_cmp a.path b.path ≡ Equal = rw e (tied_itself nat_list_cmp_total b.path) in
    nat_less (stage_of a) (stage_of b) (rw tie at less)

pub path_between : (a b c : IndexEntry) → entry_cmp (a) (b) ≡ Less → entry_cmp (b) (c) ≡ Less → c.path ≡ a.path → b.path ≡ a.path
path_between a b c low high e =
    elim (less_or_equal (slice_cmp nat_cmp a.path b.path) (nat_cmp (stage_of a) (stage_of b)) low) [
      | inl less ↦
          let over : slice_cmp nat_cmp b.path c.path ≡ Greater = ap (slice_cmp nat_cmp b.path) e ∙ nat_list_cmp_total.antisymm b.path a.path ∙ ap ordering_reverse less in
          let no : ordering_then Greater (nat_cmp (stage_of b) (stage_of c)) ≡ Less = rw over at high in
          cc
      | inr tie ↦
          let same : bytes_eq a.path b.path ≡ true = sym (is_eq-slice_cmp a.path b.path) ∙ ap is_eq tie in
          sym (path_same a b same)
    ]

pub stage_small : (e : IndexEntry) → stage_of e < 4
stage_small e = omega arith

module _ (es : List IndexEntry) (index : IsIndex es) (d : IndexEntry) where
  abbrev at : ℕ → IndexEntry
  at k = slice_index_or es k d

  pub less_at : (i j : ℕ) → i < j → j < length es → entry_cmp (at i) (at j) ≡ Less
  less_at i j l m = index.ascending i j d l m

  -- An entry between two entries of a path has that path.
  pub same_between : (i j k : ℕ) → i ≤ j → j ≤ k → k < length es → same_path (at k) (at i) ≡ true → same_path (at j) (at i) ≡ true
  same_between i j k l m n h =
      elim (cases_eq i j) [
        | inl e ↦ same_from_path (at j) (at i) (ap (λ (x : ℕ). (at x).path) (sym e))
        | inr apart ↦ elim (cases_eq j k) [
          | inl e ↦ rw e h
          | inr other ↦
              same_from_path (at j) (at i) (path_between (at i) (at j) (at k) (less_at i j (omega arith) (omega arith)) (less_at j k (omega arith) n) (path_same (at k) (at i) h))
        ]
      ]

  pub cut_at : (k : ℕ) → 0 < k → k < length es → same_path (at k) (at (k - 1)) ≡ false → (i j : ℕ) → i < k → k ≤ j → j < length es → same_path (at i) (at j) ≡ false
  cut_at k some l h i j m n o =
      false_from_ne_true (same_path (at i) (at j)) (λ t.
      let far = same_back (at i) (at j) t in
      let a = path_same (at k) (at i) (same_between i k j (omega arith) n o far) in
      let b = path_same (at (k - 1)) (at i) (same_between i (k - 1) j (omega arith) (omega arith) o far) in
      let c = same_from_path (at k) (at (k - 1)) (a ∙ sym b) in cc)

  -- The stages of a path rise from one entry to the next.
  pub stage_climbs : (i n : ℕ) → i + n < length es → same_path (at (i + n)) (at i) ≡ true → stage_of (at i) + n ≤ stage_of (at (i + n))
  stage_climbs i zero l h =
      let same : i + 0 ≡ i = omega arith in
      rw same (omega arith)
  stage_climbs i (suc n) l h =
      let before = same_between i (i + n) (i + suc n) (omega arith) (omega arith) l h in
      let low = stage_climbs i n (omega arith) before in
      let step = stage_rises (at (i + n)) (at (i + suc n)) (less_at (i + n) (i + suc n) (omega arith) l) (path_same (at (i + n)) (at i) before ∙ sym (path_same (at (i + suc n)) (at i) h)) in
      omega arith

pub cut_between : (es : List IndexEntry) (k : ℕ) → IsIndex es → 0 < k → k < length es → ((d : IndexEntry) → same_path (slice_index_or es k d) (slice_index_or es (k - 1) d) ≡ false) → IsCut es k
cut_between es k index some l h =
    All-take_from (λ d. All (λ r. same_path d r ≡ false) (drop k es)) es k (λ i d m n.
    All-drop_from (λ r. same_path (slice_index_or es i d) r ≡ false) es k (λ j f o p.
    rw (get_or_default es j f d p) (cut_at es index d k some l (h d) i j m o p)))

pub IsIndex-part : (es : List IndexEntry) (a b : ℕ) → IsIndex es → IsIndex (part_of es a b)
IsIndex-part es a b h = record {
  named = All-part_from es a b (λ e. 0 < length e.path) (λ k d l m n. h.named k d n);
  ascending = AllPairs-part es a b (λ a b. entry_cmp a b ≡ Less) h.ascending;
  one_kind = AllPairs-part es a b (λ a b. id_kind a.id ≡ id_kind b.id) h.one_kind;
}

-- A path with entries on both sides of a position.
pub not_cut : (es : List IndexEntry) (k : ℕ) → 0 < k → k < length es → ((d : IndexEntry) → same_path (slice_index_or es k d) (slice_index_or es (k - 1) d) ≡ true) → IsCut es k → ⊥
not_cut [] k some l same cut = absurd (omega arith)
not_cut (x ∷ xs) k some l same cut =
    let es = x ∷ xs in
    let before = All-take_at (λ y. All (λ r. same_path y r ≡ false) (drop k es)) es k cut (k - 1) x (omega arith) (omega arith) in
    let apart = All-drop_at (λ r. same_path (slice_index_or es (k - 1) x) r ≡ false) es k before k x (omega arith) l in
    let near = same_back (slice_index_or es k x) (slice_index_or es (k - 1) x) (same x) in
    cc
