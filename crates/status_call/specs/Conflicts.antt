-- The stages of up to three entries in a row of a path name its conflict; of equal stages the last counts.
use Rattle.std.specs.Prelude.{◌≡◌, ℕ, ◌+◌, ◌==◌, Bool, true, false, not, ◌&&◌, List, [], ◌∷◌, length, take, drop, map, option_map, find, reverse, take_while, Option, Some, None, is_some}
use Rattle.std.specs.Option.{option_copied}
use Rattle.std.specs.Str.{bytes_eq}
use Rattle.std.specs.Borrow.{Bor}
use Rattle.status_index.specs.declared.entry.Entry.{Entry}
use Rattle.status_index.specs.Entries.{IndexEntry, stage_of}
use Rattle.status_index.specs.FlagBits.{stage_of_bits}
use Rattle.status_call.specs.declared.index_as_worktree.types.Conflict.{Conflict}
use Rattle.status_call.specs.declared.index_as_worktree.types.Conflict.TheVariants.{BothDeleted, AddedByUs, DeletedByThem, AddedByThem, DeletedByUs, BothAdded, BothModified}
use Rattle.status_call.specs.declared.index_as_worktree.types.ConflictIndexEntry.{ConflictIndexEntry}

-- The conflict of a path, by whether it has stage 1, stage 2 and stage 3.
abbrev pub conflict_named : Bool → Bool → Bool → Option Conflict
conflict_named true false false = Some BothDeleted
conflict_named false true false = Some AddedByUs
conflict_named true true false = Some DeletedByThem
conflict_named false false true = Some AddedByThem
conflict_named true false true = Some DeletedByUs
conflict_named false true true = Some BothAdded
conflict_named true true true = Some BothModified
conflict_named false false false = None

-- The last of these entries that has the stage.
abbrev pub entry_of_stage : List IndexEntry → ℕ → Option IndexEntry
entry_of_stage run stage = find (λ e. stage_of e == stage) (reverse run)

-- The same for stored entries.
abbrev pub stored_of_stage : List Entry → ℕ → Option Entry
stored_of_stage run stage = find (λ e. stage_of_bits e.flags.0 == stage) (reverse run)

abbrev pub has_stage : List IndexEntry → ℕ → Bool
has_stage run stage = is_some (entry_of_stage run stage)

-- The conflict that the stages of these entries name.
abbrev pub conflict_of : List IndexEntry → Option Conflict
conflict_of run = conflict_named (has_stage run 1) (has_stage run 2) (has_stage run 3)

-- The entries of stage 1, 2 and 3.
abbrev pub places_of : List IndexEntry → List (Option IndexEntry)
places_of run = map (entry_of_stage run) (1 ∷ 2 ∷ 3 ∷ [])

-- The part of an entry that a conflict keeps.
abbrev pub kept_of : IndexEntry → ConflictIndexEntry
kept_of e = record { id = e.id; flags = e.flags; mode = e.mode }

-- Whether an entry has this path and a stage above 0.
abbrev pub is_in_run : List ℕ → IndexEntry → Bool
is_in_run path e = bytes_eq e.path path && not (stage_of e == 0)

-- The entries in a row from a position on, at most three, that have this path and a stage above 0.
abbrev pub run_at : List IndexEntry → ℕ → List ℕ → List IndexEntry
run_at es start path = take_while (is_in_run path) (take 3 (drop start es))

-- The conflict of a run, the number of its entries after the first, and its entries by stage; `None` if the run names no
-- conflict. `says` is the index's entry for a stored one.
abbrev pub IsConflict : (Entry → IndexEntry) → List IndexEntry
    → Option (Conflict × ℕ × List (Option (Bor Entry))) → Type 0
IsConflict says run None = conflict_of run ≡ None
IsConflict says run (Some c) =
    (conflict_of run ≡ Some c.0) × (c.1 + 1 ≡ length run)
    × (map (λ o. option_map says (option_copied o)) c.2 ≡ places_of run)
