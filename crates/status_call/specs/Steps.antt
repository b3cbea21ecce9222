-- The next step over the considered entries: one entry, or a conflict's first entry with its later stages.
use Rattle.std.specs.Prelude.{◌≡◌, ℕ, ◌+◌, ◌<◌, ◌≤◌, true, false, IsTrue, List, [], length, take, drop, All, Result, Ok, Err}
use Rattle.std.specs.List.{slice_index_or, list_any}
use Rattle.status_index.specs.Entries.{IndexEntry, IsIndex}
use Rattle.status_index.specs.Stretch.{part_of}
use Rattle.status_compare.specs.declared.error.Error.{Error}
use Rattle.status_call.specs.declared.index_as_worktree.step.Step.{Step}
use Rattle.status_call.specs.Considered.{same_path, takes_over}
use Rattle.status_call.specs.Counts.{counts_in, reads_in, IsWithin, ModelsReads}
use Rattle.status_call.specs.Pieces.{IsFaulty}
use Rattle.status_call.specs.Query.{Query}
use Rattle.status_call.specs.Records.{records_in, record_by, faults_in}
use Rattle.status_call.specs.Views.{Allows, Views, AllAllowed, as_seen}

module _ {T U : Type 0} (q : Query T U) where
  -- No entry of the first part takes over one of the second.
  abbrev pub IsFresh : List IndexEntry → List IndexEntry → Type 0
  IsFresh before rest = All (λ r. list_any (λ d. takes_over q d r) before ≡ false) rest

  -- The entries of a part have this step's record and counts, and no fault.
  pub record IsStepOf (es part : List IndexEntry) (s : Step T U) : Type 0 where
    pub records : (j : ℕ) → records_in q es j part ≡ record_by j (Ok s.status)
    pub counts : s.totals.counts ≡ counts_in q es part
    pub reads : ModelsReads q → s.totals.reads ≡ reads_in q part
    pub clear : faults_in q es part ≡ []

module _ {T U : Type 0} (q : Query T U) (may : Allows U) where
  -- They have them by the definition for allowed views of these entries.
  pub record IsStepSeen (es part : List IndexEntry) (s : Step T U) : Type 0 where
    pub views : Views U
    pub allowed : AllAllowed may part views
    pub step : IsStepOf (as_seen q views) es part s

  -- The entries of a step from position i on have one path, and take over none after them.
  pub record IsNext (es : List IndexEntry) (i : ℕ) (s : Step T U) : Type 0 where
    pub index : IsIndex es
    pub more : 0 < s.len
    pub inside : i + s.len ≤ length es
    pub few : IsWithin s.len s.totals.counts
    pub fresh : IsFresh q (take (i + s.len) es) (drop (i + s.len) es)
    pub one_path : (d : IndexEntry)
        → All (λ r. same_path (slice_index_or es i d) r ≡ true) (part_of es i (i + s.len))
    pub specified : IsTrue q.modelled → IsStepOf q es (part_of es i (i + s.len)) s
    pub seen : ∥ IsStepSeen es (part_of es i (i + s.len)) s ∥₁

  abbrev pub IsStep : List IndexEntry → ℕ → Result (Step T U) Error → Type 0
  IsStep es i (Ok s) = IsNext es i s
  IsStep es i (Err x) = IsFaulty q may es i x
