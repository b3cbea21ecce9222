-- Modifications have a change, records ascend, paths are independent, a path has one conflict, at its head; neither comparer
-- reads a blob, and their reads are modelled. Each of these laws follows from the definitions.
use Rattle.std.specs.Prelude.{◌≡◌, ◌⊎◌, ℕ, ◌<◌, Bool, true, List, [], length, take, drop, map, All, AllPairs, Option, Some, None, option_map, is_some, Ok, Err, IsTrue, IsFalse}
use Rattle.std.specs.List.{slice_index_or}
use Rattle.status_index.specs.declared.stat.Metadata.{Metadata}
use Rattle.status_index.specs.declared.stat.NodeKind.TheVariants as kinds
use Rattle.status_index.specs.declared.mode.Mode.{Mode}
use Rattle.status_index.specs.declared.mode.Mode.TheVariants as modes
use Rattle.status_index.specs.declared.stat.Stat.{Stat}
use Rattle.status_index.specs.Entries.{IndexEntry, IsIndex, stage_of}
use Rattle.status_compare.specs.declared.error.Error.{Error}
use Rattle.status_index.specs.declared.id.ObjectId.{ObjectId}
use Rattle.status_compare.specs.Comparers.{hash_answer, fast_answer, counts_after_hash, counts_after_fast}
use Rattle.status_compare.specs.Reads.{no_reads}
use Rattle.status_call.specs.declared.index_as_worktree.types.Change.TheVariants.{Modification}
use Rattle.status_call.specs.declared.index_as_worktree.types.Conflict.{Conflict}
use Rattle.status_call.specs.declared.index_as_worktree.types.EntryStatus.TheVariants as statuses
use Rattle.status_call.specs.Conflicts.{conflict_of, places_of, kept_of}
use Rattle.status_call.specs.Considered.{same_path, is_skipped, is_over, stages_from}
use Rattle.status_call.specs.Counts.{is_compared_case, reads_of, reads_in, ModelsReads}
use Rattle.status_call.specs.Pieces.{IsCut}
use Rattle.status_call.specs.Query.{Query}
use Rattle.status_call.specs.Records.{verdict, records_of, faults_in, first_fault}
use Rattle.status_call.specs.Status.{case_of, changed, status_of}
use Rattle.status_call.specs.StatusTheorem.{NeverSpawns}
use Rattle.status_call.specs.StatusTable.{IsPresent, IsStamped, trusted, racy, HasChange}

-- The modes of directories.
abbrev pub IsDirectoryMode : Mode → Type 0
IsDirectoryMode mode = (mode ≡ modes.Commit) ⊎ (mode ≡ modes.Dir)

-- The entries of a conflict.
abbrev pub conflict_run : List IndexEntry → IndexEntry → List IndexEntry
conflict_run es e = stages_from es e

-- Comparison by ids never returns that a thread was refused.
abbrev pub IdsLaw : {U : Type 0} → Query ObjectId U → Type 0
IdsLaw q = q.compared ≡ (λ e _ m. hash_answer e m.file) → NeverSpawns q

-- Comparison by sizes never returns that a thread was refused.
abbrev pub SizesLaw : {U : Type 0} → Query (Unit {0}) U → Type 0
SizesLaw q = q.compared ≡ (λ e n m. fast_answer e n m.file) → NeverSpawns q

-- The comparer's reads are modelled, and it reads no blob, for any entries.
pub record ReadsNoBlob {T U : Type 0} (q : Query T U) : Type 0 where
  pub modelled : ModelsReads q
  pub objects : (es : List IndexEntry) → (reads_in q es).objects ≡ 0
  pub object_bytes : (es : List IndexEntry) → (reads_in q es).object_bytes ≡ 0

-- This holds if entries are compared by ids, and below, by sizes.
abbrev pub IdReadsLaw : {U : Type 0} → Query ObjectId U → Type 0
IdReadsLaw q = q.counted ≡ (λ _ _ m k. Some (counts_after_hash m.file k)) → ReadsNoBlob q

abbrev pub SizeReadsLaw : {U : Type 0} → Query (Unit {0}) U → Type 0
SizeReadsLaw q = q.counted ≡ (λ e n m k. Some (counts_after_fast e n m.file k)) → ReadsNoBlob q

module _ {T U : Type 0} (q : Query T U) where
  -- A node whose stat agrees with the entry's and is racy: it may hide a write.
  pub record HidesWrites (e : IndexEntry) : Type 0 where
    pub node : Metadata
    pub stat : Stat
    pub stamped : IsStamped q e node stat
    pub trusted_stat : IsTrue (trusted q e stat)
    pub racy_stat : IsTrue (racy q e stat)

  -- A modification has a change, of executability or of content. It asks for size 0 only with a change of content, and only if
  -- the entry's stat would hide it.
  pub record IsChange (e : IndexEntry) (x : Bool) (c : Option T) (zero : Bool) : Type 0 where
    pub change : HasChange q e x c
    pub of_content : IsTrue zero → IsTrue (is_some c)
    pub hidden : IsTrue zero → HidesWrites e

  abbrev pub ModificationLaw : Type 0
  ModificationLaw = (e : IndexEntry) (x : Bool) (c : Option T) (zero : Bool)
      → status_of q e ≡ changed (Modification x c zero) → IsChange e x c zero

  -- A regular file that is executable when the entry's mode isn't, or the other way round.
  pub record IsOtherExecutable (e : IndexEntry) : Type 0 where
    pub node : Metadata
    pub present : IsPresent q e node
    pub file : node.kind ≡ kinds.File
    pub other : ((e.mode ≡ modes.File) × IsTrue node.executable)
        ⊎ ((e.mode ≡ modes.FileExecutable) × IsFalse node.executable)

  -- An executable change is reported only if executability counts.
  abbrev pub ExecutableLaw : Type 0
  ExecutableLaw = (e : IndexEntry) (c : Option T) (zero : Bool)
      → status_of q e ≡ changed (Modification true c zero)
      → IsTrue q.executable_bit × IsOtherExecutable e

  -- For a directory's entry the comparer isn't called, and nothing is read.
  abbrev pub UnreadLaw : Type 0
  UnreadLaw = (e : IndexEntry) → IsDirectoryMode e.mode
      → IsFalse (is_compared_case (case_of q e)) × (reads_of q e ≡ no_reads)

  -- The records ascend strictly.
  abbrev pub AscendLaw : Type 0
  AscendLaw = (start : ℕ) (es : List IndexEntry)
      → AllPairs (λ a b. a.entry_index < b.entry_index) (records_of q start es)

  -- If no path has entries on both sides of a position, an entry's verdict depends on its own side alone.
  abbrev pub CutLaw : Type 0
  CutLaw = (es : List IndexEntry) (k : ℕ) → IsCut es k
      → All (λ e. verdict q es e ≡ verdict q (take k es) e) (take k es)
      × All (λ e. verdict q es e ≡ verdict q (drop k es) e) (drop k es)

  -- An entry's fault is the first if no entry before it has one.
  abbrev pub FaultLaw : Type 0
  FaultLaw = (es : List IndexEntry) (n : ℕ) (x : Error) → n < length es
      → faults_in q es (take n es) ≡ []
      → ((d : IndexEntry) → verdict q es (slice_index_or es n d) ≡ Err x)
      → first_fault q es ≡ Some x

  -- After an unskipped entry with a stage above 0, no entry of its path has a record or a fault.
  abbrev pub OneConflictLaw : Type 0
  OneConflictLaw = (es : List IndexEntry) → IsIndex es
      → AllPairs (λ a b. IsTrue (same_path a b) → IsFalse (is_skipped q a) → 0 < stage_of a
      → verdict q es b ≡ Ok None) es

  -- The record of a conflict, by the entries of its path from a stage up.
  abbrev pub ReportsConflict : List IndexEntry → IndexEntry → Conflict → Type 0
  ReportsConflict es e c =
      (conflict_of (conflict_run es e) ≡ Some c)
      × (verdict q es e ≡ Ok
      (Some (statuses.Conflict c (map (option_map kept_of) (places_of (conflict_run es e))))))

  -- An entry with a stage above 0 reports a conflict, unless it is skipped or over.
  abbrev pub HeadLaw : Type 0
  HeadLaw = (es : List IndexEntry)
      → All (λ e. 0 < stage_of e → IsFalse (is_skipped q e) → IsFalse (is_over q es e)
      → (c : Conflict) × ReportsConflict es e c) es
