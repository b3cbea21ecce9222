-- Each record of a status is of the entry at its position, and has its result.
use Rattle.std.proofs.Common.{◌≡◌, ◌∙◌, refl, sym, ap, subst, ℕ, suc, ◌+◌, ◌-◌, ◌<◌, inl, inr, arith, List, [], ◌∷◌, ◌++◌, length, map, drop, All, Option, Some, None, slice_get, slice_index_or, Result, Ok, Err}
use Rattle.std.specs.List.{AllPairs, prefix_len}
use Rattle.std.proofs.lemmas.Bool.{cases_lt}
use Rattle.std.proofs.lemmas.List.{get_or-map, get_or_append_left, length-append, length-drop, length-map, length-take}
use Rattle.std.proofs.lemmas.List.Elements.{All-nil, All-cons, All-weaker}
use Rattle.std.proofs.lemmas.Option.{get_or_from_slice_get, slice_get-get_or, slice_get_within}
use Rattle.status_index.specs.Entries.{IndexEntry, IsIndex}
use Rattle.status_index.specs.Stretch.{IsStretch, is_below, is_under, part_of}
use Rattle.status_index.proofs.Stretches.{IsStretch-from_fronts, none_under}
use Rattle.status_compare.specs.declared.error.Error.{Error}
use Rattle.status_call.specs.Considered.{considered, considered_start}
use Rattle.status_call.specs.Query.{Query}
use Rattle.status_call.specs.Records.{record_by, records_in, records_of, verdict}
use Rattle.status_call.specs.StatusTheorem.{IsBeginning}
use Rattle.status_call.specs.Visits.{Visit, finding_of}
use Rattle.status_call.specs.declared.index_as_worktree.types.EntryStatus.{EntryStatus}
use Rattle.status_call.specs.declared.index_as_worktree.types.Finding.{Finding}
use Rattle.status_call.proofs.Considered.{all_considered, is_considered}
use Rattle.status_call.proofs.LawRecords.{ascend_law}
use Rattle.status_call.proofs.Stretch.{get_or-part}

-- ---- considered entries

part_entry : (es : List IndexEntry) (a b k : ℕ) (e : IndexEntry) → slice_get (part_of es a b) k ≡ Some e → slice_get es (a + k) ≡ Some e
part_entry es a b k e here =
    let inside : k < length (part_of es a b) = slice_get_within (part_of es a b) k e here in
    let short : k < b - a = omega (arith, length-take (b - a) (drop a es)) in
    let long : a + k < length es = omega (arith, length-take (b - a) (drop a es), length-drop a es) in
    slice_get-get_or es (a + k) e long
    ∙ ap (λ (x : IndexEntry). Some x) (sym (get_or-part es a b k e short) ∙ get_or_from_slice_get (part_of es a b) k e e here)

-- A considered entry is the index's own, from the first considered position on.
abbrev IsInside : List ℕ → List IndexEntry → Type 0
IsInside prefix es = (k : ℕ) (e : IndexEntry) → slice_get (considered prefix es) k ≡ Some e → slice_get es (considered_start prefix es + k) ≡ Some e

considered_inside : (prefix : List ℕ) (es : List IndexEntry) → IsIndex es → IsInside prefix es
considered_inside prefix es index k e here =
    let a = prefix_len (is_below prefix) es in
    let n = prefix_len (is_under prefix) (drop a es) in
    let stretch : IsStretch es prefix a (a + n) = IsStretch-from_fronts es prefix index a n refl refl in
    elim (cases_lt a (a + n)) [
      | inl some ↦
          let both = is_considered es prefix a (a + n) stretch (λ _. some) in
          let part : slice_get (part_of es a (a + n)) k ≡ Some e = ap (λ (l : List IndexEntry). slice_get l k) both.0 ∙ here in
          subst (λ (start : ℕ). slice_get es (start + k) ≡ Some e) both.1 (part_entry es a (a + n) k e part)
      | inr none ↦
          let both = all_considered es prefix (none_under es prefix a (a + n) none stretch) in
          let same : slice_get es k ≡ Some e = ap (λ (l : List IndexEntry). slice_get l k) both.0 ∙ here in
          let place : k ≡ considered_start prefix es + k = omega (arith, both.1) in
          subst (λ (at : ℕ). slice_get es at ≡ Some e) place same
    ]

-- ---- records

module _ {T U : Type 0} (q : Query T U) (all : List IndexEntry) where
  -- The record of an entry of a list, the first of which is at position i.
  pub record IsRecordOf (i : ℕ) (es : List IndexEntry) (f : Finding T U) : Type 0 where
    pub place : ℕ
    pub at : f.entry_index ≡ i + place
    pub entry : IndexEntry
    pub here : slice_get es place ≡ Some entry
    pub status : verdict q all entry ≡ Ok (Some f.status)

  next : (i : ℕ) (e : IndexEntry) (es : List IndexEntry) (f : Finding T U) → IsRecordOf (i + 1) es f → IsRecordOf i (e ∷ es) f
  next i e es f r = record { place = suc r.place; at = let at : f.entry_index ≡ i + 1 + r.place = r.at in omega (arith, at); entry = r.entry; here = r.here; status = r.status }

  records_cons : (i : ℕ) (e : IndexEntry) (es : List IndexEntry) (v : Result (Option (EntryStatus T U)) Error) (rest : List (Finding T U)) → verdict q all e ≡ v
      → All (IsRecordOf (i + 1) es) rest → All (IsRecordOf i (e ∷ es)) (record_by i v ++ rest)
  records_cons i e es (Ok (Some s)) rest is others =
      All-cons (IsRecordOf i (e ∷ es)) (record { entry_index = i; status = s }) rest (record { place = 0; at = omega arith; entry = e; here = refl; status = is })
      (All-weaker (IsRecordOf (i + 1) es) (IsRecordOf i (e ∷ es)) (next i e es) rest others)
  records_cons i e es (Ok None) rest is others = All-weaker (IsRecordOf (i + 1) es) (IsRecordOf i (e ∷ es)) (next i e es) rest others
  records_cons i e es (Err x) rest is others = All-weaker (IsRecordOf (i + 1) es) (IsRecordOf i (e ∷ es)) (next i e es) rest others

  pub records_are : (i : ℕ) (es : List IndexEntry) → All (IsRecordOf i es) (records_in q all i es)
  records_are i [] = All-nil (IsRecordOf i [])
  records_are i (e ∷ es) = records_cons i e es (verdict q all e) (records_in q all (i + 1) es) refl (records_are (i + 1) es)

-- The result of the entry at a record's position is the record's.
pub record_status : {T U : Type 0} (q : Query T U) (es : List IndexEntry) → IsIndex es → (f : Finding T U) → IsRecordOf q (considered q.prefix es) (considered_start q.prefix es) (considered q.prefix es) f
    → (e : IndexEntry) → slice_get es f.entry_index ≡ Some e → verdict q (considered q.prefix es) e ≡ Ok (Some f.status)
record_status q es index f r e there =
    let own : slice_get es (considered_start q.prefix es + r.place) ≡ Some r.entry = considered_inside q.prefix es index r.place r.entry r.here in
    let both : ◌≡◌ {A = Option IndexEntry} (Some r.entry) (Some e) = sym own ∙ (ap (slice_get es) (sym r.at) ∙ there) in
    let is : r.entry ≡ e = cc in
    subst (λ (x : IndexEntry). verdict q (considered q.prefix es) x ≡ Ok (Some f.status)) is r.status

-- ---- reports

module _ {T U : Type 0} (q : Query T U) (es : List IndexEntry) (visits : List (Visit T U)) (begins : IsBeginning (map finding_of visits) (records_of q (considered_start q.prefix es) (considered q.prefix es))) where
  finding_at : (k : ℕ) (d : Visit T U) → k < length visits → slice_index_or (map finding_of visits ++ begins.0) k (finding_of d) ≡ finding_of (slice_index_or visits k d)
  finding_at k d inside =
      let within : k < length (map finding_of visits) = omega (arith, length-map visits finding_of) in
      get_or_append_left (map finding_of visits) begins.0 (finding_of d) k within ∙ get_or-map finding_of visits k d (finding_of d) inside

  long : (k : ℕ) → k < length visits → k < length (map finding_of visits ++ begins.0)
  long k inside = omega (arith, length-append (map finding_of visits) begins.0, length-map visits finding_of)

  -- The positions of the reports ascend, and each report has the result of the entry at its position.
  pub reports_ascend : AllPairs (λ a b. a.entry_index < b.entry_index) visits
  reports_ascend i j d before inside =
      let all = subst (λ (fs : List (Finding T U)). AllPairs (λ a b. a.entry_index < b.entry_index) fs) (sym begins.1) (ascend_law q (considered_start q.prefix es) (considered q.prefix es)) in
      let less = all i j (finding_of d) before (long j inside) in
      omega (
        arith,
        less,
        ap (λ (f : Finding T U). f.entry_index) (finding_at i d (omega arith)),
        ap (λ (f : Finding T U). f.entry_index) (finding_at j d inside),
      )

  pub report_status : IsIndex es → (k : ℕ) (d : Visit T U) → k < length visits → (e : IndexEntry) → slice_get es (slice_index_or visits k d).entry_index ≡ Some e
      → verdict q (considered q.prefix es) e ≡ Ok (Some (slice_index_or visits k d).status)
  report_status index k d inside e there =
      let Is : Finding T U → Type 0 = IsRecordOf q (considered q.prefix es) (considered_start q.prefix es) (considered q.prefix es) in
      let all = subst (All Is) (sym begins.1) (records_are q (considered q.prefix es) (considered_start q.prefix es) (considered q.prefix es)) in
      let one : Is (finding_of (slice_index_or visits k d)) = subst Is (finding_at k d inside) (all k (finding_of d) (long k inside)) in
      record_status q es index (finding_of (slice_index_or visits k d)) one e there
