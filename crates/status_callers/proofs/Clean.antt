-- A status without a fault has no record exactly if no considered entry has a status.
use Rattle.std.proofs.Common.{◌≡◌, refl, sym, ap, ◌∙◌, ℕ, ◌+◌, false, IsTrue, List, [], ◌∷◌, ◌++◌, map, All, Some, None, Ok, Err, slice_get, length, ◌==◌, true}
use Rattle.std.specs.List.{cons_option}
use Rattle.std.proofs.lemmas.Bool.{eqb-true}
use Rattle.std.proofs.lemmas.List.{append-nil, length-map, nil_from_length}
use Rattle.std.proofs.lemmas.List.Elements.{All-nil, All-cons, All-head, All-tail}
use Rattle.status_index.specs.Entries.{IndexEntry}
use Rattle.status_index.specs.declared.state.State.{State}
use Rattle.status_call.specs.declared.index_as_worktree.recorder.Record.{Record}
use Rattle.status_call.specs.declared.index_as_worktree.types.Finding.{Finding}
use Rattle.status_call.specs.declared.index_as_worktree.types.Outcome.{Outcome}
use Rattle.status_call.specs.Query.{Query}
use Rattle.status_call.specs.RecorderVisits.{visit_of}
use Rattle.status_call.specs.Records.{fault_by, faults_in, record_by, records_in, verdict}
use Rattle.status_call.specs.StatusTheorem.{IsStatusReport, considered_entries, start_of}
use Rattle.status_call.specs.Visits.{Visit, finding_of}
use Rattle.status_callers.specs.Clean.{IsClean}

module _ {T U : Type 0} (q : Query T U) (es : List IndexEntry) where
  abbrev IsQuiet : IndexEntry → Type 0
  IsQuiet e = verdict q es e ≡ Ok None

  quiet : (part : List IndexEntry) (i : ℕ) → records_in q es i part ≡ [] → slice_get (faults_in q es part) 0 ≡ None → All IsQuiet part
  quiet [] i none clear = All-nil IsQuiet
  quiet (e ∷ part) i none clear =
      elim (verdict q es e) as (λ v. verdict q es e ≡ v → record_by i v ++ records_in q es (i + 1) part ≡ [] → slice_get (cons_option (fault_by v) (faults_in q es part)) 0 ≡ None → All IsQuiet (e ∷ part)) [
        | Ok o ↦ elim o as (λ s. verdict q es e ≡ Ok s → record_by i (Ok s) ++ records_in q es (i + 1) part ≡ [] → slice_get (faults_in q es part) 0 ≡ None → All IsQuiet (e ∷ part)) [
          | None ↦ λ here rest faults. All-cons IsQuiet e part here (quiet part (i + 1) rest faults)
          | Some s ↦ λ here rest faults. cc
        ]
        | Err x ↦ λ here rest faults. cc
      ] refl none clear

  quiet_records : (part : List IndexEntry) (i : ℕ) → All IsQuiet part → records_in q es i part ≡ []
  quiet_records [] i h = refl
  quiet_records (e ∷ part) i h =
      ap (λ (later : List (Finding T U)). record_by i (verdict q es e) ++ later) (quiet_records part (i + 1) (All-tail IsQuiet e part h))
      ∙ append-nil (record_by i (verdict q es e))
      ∙ ap (record_by i) (All-head IsQuiet e part h)

-- A list of which a map has no element.
unmapped : {A B : Type 0} (f : A → B) (xs : List A) → map f xs ≡ [] → length xs ≡ 0
unmapped f xs none = sym (length-map xs f) ∙ ap length none

-- A status of which a recorder has no record, and which wasn't interrupted.
pub nothing_found : {T U : Type 0} (q : Query T U) (index : State) (o : Outcome) (old : List (Visit T U)) (rs : List (Record T U)) → IsTrue q.modelled → o.interrupted ≡ false
    → IsStatusReport q index old (Ok o) (map visit_of rs) → old ≡ [] → (length rs == 0) ≡ true → IsClean q index
nothing_found q index o old rs modelled whole met new none =
    let complete = met.complete modelled whole in
    let es = considered_entries q index in
    let reported : map visit_of rs ≡ [] = ap (map visit_of) (nil_from_length rs (eqb-true (length rs) 0 none)) in
    let more : met.more ≡ [] = sym (ap (λ (front : List (Visit _ _)). front ++ met.more) new) ∙ sym met.grew ∙ reported in
    quiet q es es (start_of q index) (sym complete.records ∙ ap (map finding_of) more) complete.no_fault

-- And the other way: no considered entry has a status, so a recorder that was new has no record.
pub nothing_recorded : {T U : Type 0} (q : Query T U) (index : State) (o : Outcome) (old : List (Visit T U)) (rs : List (Record T U)) → IsTrue q.modelled → o.interrupted ≡ false
    → IsStatusReport q index old (Ok o) (map visit_of rs) → old ≡ [] → IsClean q index → (length rs == 0) ≡ true
nothing_recorded q index o old rs modelled whole met new clean =
    let complete = met.complete modelled whole in
    let es = considered_entries q index in
    let none : map finding_of met.more ≡ [] = complete.records ∙ quiet_records q es es (start_of q index) clean in
    let more : met.more ≡ [] = nil_from_length met.more (unmapped finding_of met.more none) in
    let reported : map visit_of rs ≡ [] = met.grew ∙ ap (λ (front : List (Visit _ _)). front ++ met.more) new ∙ more in
    ap (λ (n : ℕ). n == 0) (unmapped visit_of rs reported)
