-- The next step at an entry whose path is in a storage, by the tests of the entry.
use Rattle.std.proofs.Common.{◌≡◌, sym, ap, ◌∙◌, subst, ℕ, ◌<◌, Bool, true, false, not, List, length, take, drop, slice_index_or, None, Result, Ok, Err, IsTrue, arith}
use Rattle.std.specs.Result.{OnOk, OnErr, is_err}
use Rattle.std.proofs.lemmas.Bool.{or_from, not-true, not-false}
use Rattle.status_index.specs.declared.entry.Entry.{Entry}
use Rattle.status_index.specs.declared.entry.PathStorage.{PathStorage}
use Rattle.status_index.specs.Entries.{IndexEntry, IsIndex, entry_at, index_entry, path_in, stage_of}
use Rattle.status_compare.specs.declared.error.Error.{Error}
use Rattle.status_compare.specs.Reads.{no_reads}
use Rattle.status_call.specs.declared.index_as_worktree.step.Decided.{Decided}
use Rattle.status_call.specs.declared.index_as_worktree.step.Step.{Step}
use Rattle.status_call.specs.Conflicts.{run_at}
use Rattle.status_call.specs.Counts.{conflict_counts, decided_counts, excluded_counts, flagged_counts}
use Rattle.status_call.specs.Considered.{is_flagged, is_excluded, is_skipped}
use Rattle.status_call.specs.Decisions.{IsDecided}
use Rattle.status_call.specs.Pieces.{IsFaulty}
use Rattle.status_call.specs.Query.{Query}
use Rattle.status_call.specs.Records.{conflict_status}
use Rattle.status_call.specs.Steps.{IsFresh, IsNext}
use Rattle.status_call.specs.Views.{Allows, Views, IsSeenDecided, SeesWithin}
use Rattle.status_compare.specs.Reads.{plus_reads}
use Rattle.status_call.proofs.Steps.{IsSelf, next_flagged, next_excluded, next_conflict, next_decided, next_faulty, run_some}
use Rattle.status_call.proofs.Pieces.{faulty_within, next_within}

module _ (b : PathStorage) (es : List IndexEntry) (i : ℕ) (entry : Entry) (path : List ℕ) (stored : (d : IndexEntry) → index_entry b entry ≡ slice_index_or es i d) (named : (d : IndexEntry) → path ≡ (slice_index_or es i d).path) (within : i < length es) (index : IsIndex es) where
  abbrev head : IndexEntry
  head = entry_at path entry

  here : (d : IndexEntry) → slice_index_or es i d ≡ head
  here d =
      let own : path ≡ path_in b entry = named d ∙ ap (λ (x : IndexEntry). x.path) (sym (stored d)) in
      sym (stored d) ∙ ap (λ (p : List ℕ). entry_at p entry) (sym own)

  module _ {T U : Type 0} (q : Query T U) (may : Allows U) (free : Views U) (freely : (e : IndexEntry) → may e (free e)) (fresh : IsFresh q (take i es) (drop i es)) (flagged : Bool) (flags : (p : List ℕ) → flagged ≡ is_flagged (entry_at p entry)) where
    pub head_flagged : flagged ≡ true → (s : Step T U) → IsSelf s 1 flagged_counts → s.status ≡ None → s.totals.reads ≡ no_reads → IsNext q may es i s
    head_flagged h s self none read = next_flagged es index i head within here q may free freely fresh s self none read (sym (flags path) ∙ h)

    module _ (unflagged : flagged ≡ false) (included : Bool) (includes : included ≡ not (is_excluded q head)) where
      pub head_excluded : included ≡ false → (s : Step T U) → IsSelf s 1 excluded_counts → s.status ≡ None → s.totals.reads ≡ no_reads → IsNext q may es i s
      head_excluded h s self none read =
          next_excluded es index i head within here q may free freely fresh s self none read (sym (flags path) ∙ unflagged) (not-false (is_excluded q head) (sym includes ∙ h))

      module _ (yes : included ≡ true) (stage : ℕ) (staged : stage ≡ stage_of head) where
        kept : is_skipped q head ≡ false
        kept =
            or_from (is_flagged head) (is_excluded q head) (sym (flags path) ∙ unflagged) (not-true (is_excluded q head) (sym includes ∙ yes))

        pub head_some : (stage ≡ 0 → ⊥) → 0 < length (run_at es i path)
        head_some h = run_some es index i head within here q fresh kept (omega (arith, h))

        pub head_conflict : (stage ≡ 0 → ⊥) → (s : Step T U) → IsSelf s (length (run_at es i path)) conflict_counts → s.status ≡ conflict_status (run_at es i path) → s.totals.reads ≡ no_reads → IsNext q may es i s
        head_conflict h s self reported read =
            next_conflict es index i head within here q may free freely fresh kept (omega (arith, h)) s self reported read

        pub head_decided : stage ≡ 0 → (d : Decided T U) → (IsTrue q.modelled → IsDecided q head (Ok d)) → ∥ IsSeenDecided may q head (Ok d) ∥₁ → (s : Step T U) → IsSelf s 1 (decided_counts d) → s.status ≡ d.status → s.totals.reads ≡ plus_reads no_reads d.reads → IsNext q may es i s
        head_decided h d decided seen s self same read =
            next_decided es index i head within here q may free freely fresh kept s d self same read (sym staged ∙ h) decided seen

        pub head_fault : stage ≡ 0 → (error : Error) → (IsTrue q.modelled → IsDecided q head (Err error)) → ∥ IsSeenDecided may q head (Err error) ∥₁ → IsFaulty q may es i error
        head_fault h error decided seen =
            next_faulty es index i head within here q may free freely fresh kept error (sym staged ∙ h) decided seen

-- The same for an equal query, and by what more is allowed.
module _ {T U : Type 0} (q r : Query T U) (less may : Allows U) (same : q ≡ r) (within : SeesWithin less may) (es : List IndexEntry) (i : ℕ) where
  pub IsNext-kept : (s : Step T U) → IsNext q less es i s → IsNext r may es i s
  IsNext-kept s h =
      let P : Query T U → Type 0 = λ z. IsNext z may es i s in
      subst P same (next_within q less may within es i s h)

  pub IsFault-kept : (x : Error) → IsFaulty q less es i x → IsFaulty r may es i x
  IsFault-kept x h =
      let P : Query T U → Type 0 = λ z. IsFaulty z may es i x in
      subst P same (faulty_within q less may within es i x h)

module _ {A E : Type 0} (P : Type 0) where
  pub when_ok : (r : Result A E) (b : Bool) → b ≡ is_err r → b ≡ false → OnOk r P → P
  when_ok (Ok x) b e f h = h
  when_ok (Err x) b e f h = cc

  pub when_err : (r : Result A E) (b : Bool) → b ≡ is_err r → b ≡ true → OnErr r P → P
  when_err (Ok x) b e f h = cc
  when_err (Err x) b e f h = h
