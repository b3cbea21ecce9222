-- Parts of the considered entries, and their records and counts.
use Rattle.std.specs.Prelude.{◌≡◌, ◌⊎◌, ℕ, ◌+◌, ◌-◌, ◌<◌, ◌≤◌, false, IsTrue, List, [], length, take, drop, All, AllPairs, Err, ⊤}
use Rattle.std.specs.List.{slice_index_or}
use Rattle.status_index.specs.Entries.{IndexEntry, IsIndex}
use Rattle.status_index.specs.Stretch.{part_of}
use Rattle.status_compare.specs.declared.error.Error.{Error}
use Rattle.status_compare.specs.declared.error.Error.TheVariants.{Memory}
use Rattle.status_call.specs.declared.index_as_worktree.piece.End.{End}
use Rattle.status_call.specs.declared.index_as_worktree.piece.End.TheVariants.{Whole, Interrupted, Faulty}
use Rattle.status_call.specs.declared.index_as_worktree.piece.Piece.{Piece}
use Rattle.status_call.specs.declared.index_as_worktree.types.Finding.{Finding}
use Rattle.status_call.specs.declared.index_as_worktree.counts.Totals.{Totals}
use Rattle.status_call.specs.Considered.{same_path}
use Rattle.status_call.specs.Counts.{IsWithin, counts_in, reads_in, ModelsReads}
use Rattle.status_call.specs.Query.{Query}
use Rattle.status_call.specs.Records.{verdict, records_in, faults_in}
use Rattle.status_call.specs.Views.{Allows, Views, AllAllowed, as_seen}

-- No path has entries on both sides of position k.
abbrev pub IsCut : List IndexEntry → ℕ → Type 0
IsCut es k = All (λ d. All (λ r. same_path d r ≡ false) (drop k es)) (take k es)

-- The interrupt flag wasn't seen.
abbrev pub IsUninterrupted : End → Type 0
IsUninterrupted Whole = ⊤
IsUninterrupted (Faulty x) = ⊤
IsUninterrupted Interrupted = ⊥

module _ {T U : Type 0} (q : Query T U) where
  -- The records and counts of the considered entries from position `from` up to position `at`, none of which has a fault. The
  -- first considered entry is at position `start` of the whole index.
  pub record IsAsSpecified (start : ℕ) (es : List IndexEntry) (from at : ℕ)
      (findings : List (Finding T U)) (t : Totals) : Type 0 where
    pub records : findings ≡ records_in q es (start + from) (part_of es from at)
    pub counts : t.counts ≡ counts_in q es (part_of es from at)
    pub reads : ModelsReads q → t.reads ≡ reads_in q (part_of es from at)
    pub clear : faults_in q es (part_of es from at) ≡ []

  -- The error of the entry at a position, or out of memory.
  abbrev pub IsFaultAt : List IndexEntry → ℕ → Error → Type 0
  IsFaultAt es at x = ((d : IndexEntry) → verdict q es (slice_index_or es at d) ≡ Err x)
      ⊎ (x ≡ Memory)

module _ {T U : Type 0} (q : Query T U) (may : Allows U) where
  -- The records and counts are those of the definition for allowed views of these entries.
  pub record IsWorkSeen (start : ℕ) (es : List IndexEntry) (from at : ℕ)
      (findings : List (Finding T U)) (t : Totals) : Type 0 where
    pub views : Views U
    pub allowed : AllAllowed may (part_of es from at) views
    pub specified : IsAsSpecified (as_seen q views) start es from at findings t

  -- The error is that of the definition for an allowed view of the entry at a position, or memory ran out.
  pub record IsFaultSeen (es : List IndexEntry) (at : ℕ) (x : Error) : Type 0 where
    pub views : Views U
    pub allowed : (d : IndexEntry) → may (slice_index_or es at d) (views (slice_index_or es at d))
    pub fault : IsFaultAt (as_seen q views) es at x

  -- The records and counts of these entries of an index, by the models if all is modelled, and over any worktree by what was seen.
  pub record IsDone (start : ℕ) (es : List IndexEntry) (from at : ℕ) (findings : List (Finding T U))
      (t : Totals) : Type 0 where
    pub index : IsIndex es
    pub low : from ≤ at
    pub high : at ≤ length es
    pub few : IsWithin (at - from) t.counts
    pub placed : All (λ f. (start + from ≤ f.entry_index) × (f.entry_index < start + at)) findings
    pub ascending : AllPairs (λ a b. a.entry_index < b.entry_index) findings
    pub specified : IsTrue q.modelled → IsAsSpecified q start es from at findings t
    pub seen : ∥ IsWorkSeen start es from at findings t ∥₁

  -- The fault at which an entry was left, by the models and by what was seen.
  pub record IsFaulty (es : List IndexEntry) (at : ℕ) (x : Error) : Type 0 where
    pub specified : IsTrue q.modelled → IsFaultAt q es at x
    pub seen : ∥ IsFaultSeen es at x ∥₁

  -- A piece ends after its last entry, before an entry, or at an entry that has a fault or runs out of memory.
  abbrev pub IsThrough : List IndexEntry → ℕ → ℕ → End → Type 0
  IsThrough es to reached Whole = reached ≡ to
  IsThrough es to reached Interrupted = reached < to
  IsThrough es to reached (Faulty x) = (reached < to) × IsFaulty es reached x

  -- The findings and counts of the entries from `from` on, up to the position at which the piece ended.
  pub record IsPiece (start : ℕ) (es : List IndexEntry) (from to : ℕ) (p : Piece T U) : Type 0 where
    pub done : IsDone start es from p.reached p.findings.items p.totals
    pub through : IsThrough es to p.reached p.end
