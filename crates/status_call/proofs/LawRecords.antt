-- The records ascend, and a fault before which there is none is the first.
use Rattle.std.proofs.Common.{◌≡◌, ◌∙◌, sym, ap, ℕ, ◌+◌, ◌<◌, ◌≤◌, List, [], ◌∷◌, ◌++◌, length, take, drop, get_or, Option, Some, None, Result, Ok, Err, arith}
use Rattle.std.specs.List.{filter_map, cons_option, slice_get, All, AllPairs}
use Rattle.std.proofs.lemmas.List.{drop_more, take-append-drop}
use Rattle.std.proofs.lemmas.List.Elements.{All-nil, All-cons, All-weaker, filter_map-append}
use Rattle.std.proofs.lemmas.List.Kept.{AllPairs-cons}
use Rattle.status_index.specs.Entries.{IndexEntry}
use Rattle.status_compare.specs.declared.error.Error.{Error}
use Rattle.status_call.specs.declared.index_as_worktree.types.EntryStatus.{EntryStatus}
use Rattle.status_call.specs.declared.index_as_worktree.types.Finding.{Finding}
use Rattle.status_call.specs.Laws.{AscendLaw, FaultLaw}
use Rattle.status_call.specs.Query.{Query}
use Rattle.status_call.specs.Records.{fault_by, faults_in, record_by, records_in, verdict}

module _ {T U : Type 0} where
  -- The records are of positions from i on.
  abbrev pub IsFrom : ℕ → Finding T U → Type 0
  IsFrom i f = i ≤ f.entry_index

  abbrev pub Ascends : Finding T U → Finding T U → Type 0
  Ascends a b = a.entry_index < b.entry_index

  from_cons : (i : ℕ) (v : Result (Option (EntryStatus T U)) Error) (rest : List (Finding T U)) → All (IsFrom (i + 1)) rest → All (IsFrom i) (record_by i v ++ rest)
  from_cons i (Ok (Some s)) rest h =
      All-cons (IsFrom i) (record { entry_index = i; status = s }) rest (omega arith) (All-weaker (IsFrom (i + 1)) (IsFrom i) (λ f k. omega arith) rest h)
  from_cons i (Ok None) rest h = All-weaker (IsFrom (i + 1)) (IsFrom i) (λ f k. omega arith) rest h
  from_cons i (Err x) rest h = All-weaker (IsFrom (i + 1)) (IsFrom i) (λ f k. omega arith) rest h

  ascend_cons : (i : ℕ) (v : Result (Option (EntryStatus T U)) Error) (rest : List (Finding T U)) → All (IsFrom (i + 1)) rest → AllPairs Ascends rest → AllPairs Ascends (record_by i v ++ rest)
  ascend_cons i (Ok (Some s)) rest h k =
      AllPairs-cons Ascends (record { entry_index = i; status = s }) rest
      (All-weaker (IsFrom (i + 1)) (Ascends (record { entry_index = i; status = s })) (λ f l. omega arith) rest h) k
  ascend_cons i (Ok None) rest h k = k
  ascend_cons i (Err x) rest h k = k

module _ {T U : Type 0} (q : Query T U) (es : List IndexEntry) where
  pub records_from : (i : ℕ) (part : List IndexEntry) → All (IsFrom i) (records_in q es i part)
  records_from i [] = All-nil (IsFrom i)
  records_from i (e ∷ part) = from_cons i (verdict q es e) (records_in q es (i + 1) part) (records_from (i + 1) part)

  pub records_ascend : (i : ℕ) (part : List IndexEntry) → AllPairs Ascends (records_in q es i part)
  records_ascend i [] = λ a b d h k. absurd (omega arith)
  records_ascend i (e ∷ part) = ascend_cons i (verdict q es e) (records_in q es (i + 1) part) (records_from (i + 1) part) (records_ascend (i + 1) part)

  -- The faults of an entry.
  abbrev fault_of : IndexEntry → Option Error
  fault_of e = fault_by (verdict q es e)

  faults_at : (n : ℕ) (x : Error) (d : IndexEntry) → n < length es → faults_in q es (take n es) ≡ [] → verdict q es (get_or es n d) ≡ Err x
      → faults_in q es es ≡ x ∷ filter_map fault_of (drop (n + 1) es)
  faults_at n x d h clear at =
      ap (filter_map fault_of) (sym (take-append-drop n es))
      ∙ (filter_map-append fault_of (take n es) (drop n es)
      ∙ (ap (λ (l : List Error). l ++ filter_map fault_of (drop n es)) clear
      ∙ (ap (filter_map fault_of) (drop_more es n d h)
      ∙ ap (λ (v : Result (Option (EntryStatus T U)) Error). cons_option (fault_by v) (filter_map fault_of (drop (n + 1) es))) at)))

pub ascend_law : {T U : Type 0} (q : Query T U) → AscendLaw q
ascend_law q start es = records_ascend q es start es

pub fault_law : {T U : Type 0} (q : Query T U) → FaultLaw q
fault_law q [] n x h clear at = absurd (omega arith)
fault_law q (e ∷ es) n x h clear at = ap (λ (l : List Error). slice_get l 0) (faults_at q (e ∷ es) n x e h clear (at e))
