-- The changes of an index that a refresh makes.
use Rattle.std.specs.Prelude.{◌≡◌, not, ◌&&◌, ◌==◌, Bool, true, false, List, filter}
use Rattle.std.specs.List.{list_any}
use Rattle.git_attributes.specs.Files.{Said, states_of}
use Rattle.git_attributes.specs.Conversions.{is_unconverted}
use Rattle.git_attributes.specs.declared.conversion.Configured.{Configured}
use Rattle.status_call.specs.IndexChanges.{changes_of}
use Rattle.status_call.specs.Counts.{skipped_of}
use Rattle.status_call.specs.Visits.{Visit}
use Rattle.status_call.specs.declared.index_as_worktree.apply.ApplyChange.{ApplyChange}
use Rattle.status_call.specs.declared.index_as_worktree.types.Outcome.{Outcome}
use Rattle.status_call.specs.declared.index_as_worktree.types.Change.TheVariants.{Modification}
use Rattle.status_call.specs.declared.index_as_worktree.types.EntryStatus.{EntryStatus}
use Rattle.status_call.specs.declared.index_as_worktree.types.EntryStatus.TheVariants.{Change, NeedsUpdate}
use Rattle.git_status.specs.declared.kept.Kept.{Kept}

module _ {T U : Type 0} where
  -- The entry's content was compared.
  abbrev pub is_compared : EntryStatus T U → Bool
  is_compared (NeedsUpdate stat) = true
  is_compared (Change (Modification x c zero)) = true
  is_compared _ = false

-- The rules of attribute files, and the conversions of the configuration.
abbrev pub Asks : Type 0
Asks = Said × Configured

module _ {T U : Type 0} (asks : Asks) where
  -- A content was compared without a conversion that is asked for: git may compare it otherwise.
  abbrev pub is_left_out : Visit T U → Bool
  is_left_out v = is_compared v.status && is_unconverted (states_of asks.0 v.path) asks.1

  -- The changes that a refresh makes: those that the other records ask for.
  abbrev pub kept_changes : List (Visit T U) → List ApplyChange
  kept_changes visits = changes_of (filter (λ v. not (is_left_out v)) visits)

  -- No record was left out, no entry was skipped, and the status didn't end early.
  abbrev pub is_whole : List (Visit T U) → Outcome → Bool
  is_whole visits o = not (list_any is_left_out visits) && (skipped_of o == 0 && not o.interrupted)

  pub record AreKept (visits : List (Visit T U)) (kept : Kept) : Type 0 where
    pub changes : kept.changes.items ≡ kept_changes visits
    pub all : kept.are_all ≡ not (list_any is_left_out visits)
