-- Views of the entries before a position and of those from it on, as one view of each entry, and records and counts by views that
-- agree.
use Rattle.std.proofs.Common.{◌≡◌, refl, sym, ap, ◌∙◌, subst, ℕ, ◌+◌, ◌<◌, ◌≤◌, inl, inr, Bool, true, false, ◌&&◌, ◌==◌, if◌then◌else◌, List, [], ◌∷◌, ◌++◌, length, take, slice_index_or, All, sum_by, Option, Some, None, IfSome, Result, arith}
use Rattle.std.specs.List.{list_any, cons_option}
use Rattle.std.proofs.lemmas.Bool.{and_from, and_left, and_right, cases_Bool, ne_eqb, eq-eqb}
use Rattle.std.proofs.lemmas.List.Elements.{All-head, All-tail, All-weaker}
use Rattle.std.proofs.lemmas.List.Folds.{list_any_at, list_any_none}
use Rattle.std.proofs.lemmas.List.Sums.{sum_by-cons}
use Rattle.std.proofs.lemmas.List.{length-take, get_or-take, get_or_default}
use Rattle.status_index.specs.Content.{saturate}
use Rattle.status_index.specs.Entries.{IndexEntry, IsIndex, stage_of}
use Rattle.status_index.specs.Stretch.{part_of}
use Rattle.status_index.specs.declared.stat.Metadata.{Metadata}
use Rattle.status_base.specs.ListedNodes.{Listing, MayList, directory_of}
use Rattle.status_compare.specs.declared.error.Error.{Error}
use Rattle.status_call.specs.declared.index_as_worktree.counts.Totals.{Totals}
use Rattle.status_call.specs.declared.index_as_worktree.types.EntryStatus.{EntryStatus}
use Rattle.status_call.specs.declared.index_as_worktree.types.Finding.{Finding}
use Rattle.status_call.specs.Considered.{same_path}
use Rattle.status_call.specs.EntrySights.{IfPresent, IsNodeListed, IsViewAllowed, node_seen}
use Rattle.status_call.specs.MayReturn.{MayReturn, ReturnsWithin}
use Rattle.status_call.specs.Counts.{calls_lstat, counts_in, is_looked_at, is_racy_case, is_update, reads_in, reads_of}
use Rattle.status_call.specs.Pieces.{IsAsSpecified, IsFaultAt}
use Rattle.status_call.specs.Query.{Query}
use Rattle.status_call.specs.Records.{fault_by, faults_in, record_by, records_in, verdict}
use Rattle.status_call.specs.Status.{Found, case_of, directory, nothing, present, refused}
use Rattle.status_call.specs.Views.{View, Views, Allows, AllAllowed, as_seen}
use Rattle.status_call.proofs.IndexOrder.{less_at, path_same, same_from_path, stage_rises}
use Rattle.status_call.proofs.Counts.{same_counts}
use Rattle.status_call.proofs.Records.{same_reads}
use Rattle.status_call.proofs.Stretch.{All-take_from, weight}

-- Two entries have one path and one stage.
abbrev same_place : IndexEntry → IndexEntry → Bool
same_place a b = same_path a b && stage_of a == stage_of b

module _ (es : List IndexEntry) (index : IsIndex es) where
  apart : (i j : ℕ) (d : IndexEntry) → i < j → j < length es → same_place (slice_index_or es i d) (slice_index_or es j d) ≡ false
  apart i j d less inside =
      let a = slice_index_or es i d in
      let b = slice_index_or es j d in
      elim (cases_Bool (same_path a b)) [
        | inl same ↦ and_right _ _ (ne_eqb (stage_of a) (stage_of b) (λ e. omega (arith, e, stage_rises a b (less_at es index d i j less inside) (path_same a b same))))
        | inr other ↦ and_left _ _ other
      ]

  module _ {U : Type 0} (n : ℕ) (front back : Views U) where
    -- The views of the first n entries, and those of the others.
    abbrev pub joined : Views U
    joined e = if list_any (λ d. same_place d e) (take n es) then front e else back e

    abbrev at : ℕ → IndexEntry → IndexEntry
    at k d = slice_index_or es k d

    pub joined_front : (k : ℕ) (d : IndexEntry) → k < n → k < length es → joined (at k d) ≡ front (at k d)
    joined_front k d low inside =
        let here : slice_index_or (take n es) k d ≡ at k d = get_or-take n es k d low in
        let own : same_place (at k d) (at k d) ≡ true = and_from _ _ (same_from_path (at k d) (at k d) refl) (eq-eqb (stage_of (at k d)) (stage_of (at k d)) refl) in
        let P : IndexEntry → Type 0 = λ e. same_place e (at k d) ≡ true in
        let some : list_any (λ e. same_place e (at k d)) (take n es) ≡ true = list_any_at (λ e. same_place e (at k d)) (take n es) k d (omega (arith, length-take n es)) (subst P (sym here) own) in
        ap (λ (b : Bool). if b then front (at k d) else back (at k d)) some

    pub joined_back : (k : ℕ) (d : IndexEntry) → n ≤ k → k < length es → joined (at k d) ≡ back (at k d)
    joined_back k d low inside =
        let none : list_any (λ e. same_place e (at k d)) (take n es) ≡ false =
        list_any_none (λ e. same_place e (at k d)) (take n es) (All-take_from (λ e. same_place e (at k d) ≡ false) es n (λ i f l m. one_apart i f l)) in
        ap (λ (b : Bool). if b then front (at k d) else back (at k d)) none
      where
        one_apart : (i : ℕ) (f : IndexEntry) → i < n → same_place (at i f) (at k d) ≡ false
        one_apart i f l =
            let P : IndexEntry → Type 0 = λ e. same_place (at i f) e ≡ false in
            subst P (get_or_default es k f d inside) (apart i k f (omega arith) inside)

-- A node that a listing knows, if more listings may be returned.
pub node_within : {less more : MayList} (path : List ℕ) → ((directory : List ℕ) (listing : Listing) → less directory listing → more directory listing) → (listed : Option Metadata) → IfSome listed (IsNodeListed less path) → IfSome listed (IsNodeListed more path)
node_within path within None h = tt
node_within path within (Some n) h = record { listing = h.listing; allowed = within (directory_of path) h.listing h.allowed; node = h.node }

-- A fact of a node that is present.
pub if_present : {P Q : Metadata → Type 0} (k : Found) → ((n : Metadata) → P n → Q n) → IfPresent k P → IfPresent k Q
if_present nothing f h = tt
if_present (refused x) f h = tt
if_present directory f h = tt
if_present (present n) f h = f n h

-- A view by which less may be returned is allowed if more may be.
pub allowed_within : {U : Type 0} {less more : MayReturn U} (e : IndexEntry) (view : View U) (fscache : Bool) → ReturnsWithin less more → IsViewAllowed less fscache e view → IsViewAllowed more fscache e view
allowed_within e view fscache within h = record {
  stats = λ path. within.stat path (view.lstat path) (h.stats path);
  unlisted = h.unlisted;
  node = node_within e.path within.listed view.listed h.node;
  content = if_present (node_seen e view) (λ n c. record {
    opened = within.opened e.path n view.opened c.opened;
    linked = within.linked e.path n view.linked c.linked;
    blob = within.found e.id view.blob c.blob;
  }) h.content;
  submodule = λ there yes. within.reported e view.submodule (h.submodule there yes);
}

-- Views that agree with allowed ones are allowed.
pub allowed_along : {U : Type 0} (may : Allows U) (one other : Views U) (part : List IndexEntry) → All (λ e. one e ≡ other e) part → AllAllowed may part one → AllAllowed may part other
allowed_along {U} may one other part same h k d l =
    let e = slice_index_or part k d in
    let P : View U → Type 0 = λ v. may e v in
    subst P (same k d l) (h k d l)

sum_agrees : (f g : IndexEntry → ℕ) (part : List IndexEntry) → All (λ e. f e ≡ g e) part → sum_by f part ≡ sum_by g part
sum_agrees f g [] h = refl
sum_agrees f g (e ∷ rest) h =
    omega (arith, sum_by-cons f e rest, sum_by-cons g e rest, All-head (λ x. f x ≡ g x) e rest h, sum_agrees f g rest (All-tail (λ x. f x ≡ g x) e rest h))

-- Views that agree on a part of the entries give the same records, counts, reads and faults of it.
module _ {T U : Type 0} (q : Query T U) (one other : Views U) where
  abbrev a : Query T U
  a = as_seen q one

  abbrev b : Query T U
  b = as_seen q other

  abbrev Agree : List IndexEntry → Type 0
  Agree part = All (λ e. one e ≡ other e) part

  module _ (es : List IndexEntry) where
    pub verdict_agrees : (e : IndexEntry) → one e ≡ other e → verdict a es e ≡ verdict b es e
    verdict_agrees e same = ap (λ (v : View U). verdict (as_seen q (λ _. v)) es e) same

    records_agree : (part : List IndexEntry) → Agree part → (i : ℕ) → records_in a es i part ≡ records_in b es i part
    records_agree [] h i = refl
    records_agree (e ∷ rest) h i =
        ap (λ (v : Result (Option (EntryStatus T U)) Error). record_by i v ++ records_in a es (i + 1) rest) (verdict_agrees e (All-head (λ x. one x ≡ other x) e rest h))
        ∙ ap (λ (l : List (Finding T U)). record_by i (verdict b es e) ++ l) (records_agree rest (All-tail (λ x. one x ≡ other x) e rest h) (i + 1))

    faults_agree : (part : List IndexEntry) → Agree part → faults_in a es part ≡ faults_in b es part
    faults_agree [] h = refl
    faults_agree (e ∷ rest) h =
        ap (λ (v : Result (Option (EntryStatus T U)) Error). cons_option (fault_by v) (faults_in a es rest)) (verdict_agrees e (All-head (λ x. one x ≡ other x) e rest h))
        ∙ ap (cons_option (fault_by (verdict b es e))) (faults_agree rest (All-tail (λ x. one x ≡ other x) e rest h))

    -- A number of each entry, by its view.
    by_view : (f : Query T U → IndexEntry → ℕ) → ((e : IndexEntry) (v : Views U) → f (as_seen q v) e ≡ f (as_seen q (λ _. v e)) e) → (part : List IndexEntry) → Agree part → sum_by (f a) part ≡ sum_by (f b) part
    by_view f own part h =
        sum_agrees (f a) (f b) part (All-weaker (λ e. one e ≡ other e) (λ e. f a e ≡ f b e) (λ e same. own e one ∙ ap (λ (v : View U). f (as_seen q (λ _. v)) e) same ∙ sym (own e other)) part h)

    counts_agree : (part : List IndexEntry) → Agree part → counts_in a es part ≡ counts_in b es part
    counts_agree part h =
        same_counts (counts_in a es part) (counts_in b es part) refl refl refl
        (by_view (λ r e. weight (is_looked_at r e && calls_lstat r e)) (λ e v. refl) part h)
        (by_view (λ r e. weight (is_looked_at r e && is_racy_case (case_of r e))) (λ e v. refl) part h)
        (by_view (λ r e. weight (is_update (verdict r es e))) (λ e v. refl) part h)

  reads_agree : (part : List IndexEntry) → Agree part → reads_in a part ≡ reads_in b part
  reads_agree part h =
      same_reads (reads_in a part) (reads_in b part)
      (ap saturate (by_view [] (λ r e. (reads_of r e).bytes) (λ e v. refl) part h))
      (ap saturate (by_view [] (λ r e. (reads_of r e).files) (λ e v. refl) part h))
      (ap saturate (by_view [] (λ r e. (reads_of r e).object_bytes) (λ e v. refl) part h))
      (ap saturate (by_view [] (λ r e. (reads_of r e).objects) (λ e v. refl) part h))

  -- Both specify the same records and counts of it.
  pub specified_along : (start : ℕ) (es : List IndexEntry) (from at : ℕ) (findings : List (Finding T U)) (t : Totals) → Agree (part_of es from at)
      → IsAsSpecified a start es from at findings t → IsAsSpecified b start es from at findings t
  specified_along start es from at findings t h m =
      let part = part_of es from at in
      record {
        records = m.records ∙ records_agree es part h (start + from);
        counts = m.counts ∙ counts_agree es part h;
        reads = λ _. m.reads (λ e n. refl) ∙ reads_agree part h;
        clear = sym (faults_agree es part h) ∙ m.clear;
      }

  pub fault_along : (es : List IndexEntry) (at : ℕ) (x : Error) → ((d : IndexEntry) → one (slice_index_or es at d) ≡ other (slice_index_or es at d)) → IsFaultAt a es at x → IsFaultAt b es at x
  fault_along es at x same (inl h) = inl (λ d. sym (verdict_agrees es (slice_index_or es at d) (same d)) ∙ h d)
  fault_along es at x same (inr h) = inr h
