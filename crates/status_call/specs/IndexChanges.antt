-- The changes that a status asks for in an index, and the index after them.
use Rattle.std.specs.Prelude.{◌≡◌, ◌<◌, ℕ, zero, suc, true, List, [], ◌∷◌, length, map, All, Option, Some, None}
use Rattle.std.specs.List.{filter_map}
use Rattle.status_index.specs.declared.stat.Stat.{Stat}
use Rattle.status_index.specs.Entries.{IndexEntry}
use Rattle.status_index.specs.States.{with_stat, smudged}
use Rattle.status_call.specs.declared.index_as_worktree.apply.ApplyChange.{ApplyChange}
use Rattle.status_call.specs.declared.index_as_worktree.apply.ApplyChange.TheVariants.{NewStat, SetSizeToZero}
use Rattle.status_call.specs.declared.index_as_worktree.types.Change.TheVariants.{Modification}
use Rattle.status_call.specs.declared.index_as_worktree.types.EntryStatus.{EntryStatus}
use Rattle.status_call.specs.declared.index_as_worktree.types.EntryStatus.TheVariants as statuses
use Rattle.status_call.specs.Visits.{Visit}

-- ---- changes that are asked for

-- The position of the entry that a change is of.
abbrev pub entry_index_of : ApplyChange → ℕ
entry_index_of (NewStat at stat) = at
entry_index_of (SetSizeToZero at) = at

-- Each change is of an entry of the list.
abbrev pub AreInside : List ApplyChange → List IndexEntry → Type 0
AreInside changes es = All (λ c. entry_index_of c < length es) changes

module _ {T U : Type 0} where
  -- A new stat if content is as staged, size 0 if the stat would hide a change. The entry is at this position, and asks for one
  -- change at most.
  abbrev pub change_of : ℕ → EntryStatus T U → Option ApplyChange
  change_of at (statuses.NeedsUpdate stat) = Some (NewStat at stat)
  change_of at (statuses.Change (Modification x c true)) = Some (SetSizeToZero at)
  change_of at _ = None

  -- The changes that all these records ask for.
  abbrev pub changes_of : List (Visit T U) → List ApplyChange
  changes_of vs = filter_map (λ v. change_of v.entry_index v.status) vs

-- ---- changes that are stored

-- An entry after a change of it.
abbrev pub changed_entry : ApplyChange → IndexEntry → IndexEntry
changed_entry (NewStat at stat) e = with_stat stat e
changed_entry (SetSizeToZero at) e = smudged e

-- A list with the entry at a position changed.
abbrev pub change_at : (IndexEntry → IndexEntry) → ℕ → List IndexEntry → List IndexEntry
change_at f at [] = []
change_at f zero (e ∷ es) = f e ∷ es
change_at f (suc at) (e ∷ es) = e ∷ change_at f at es

-- The entries after one change.
abbrev pub applied_one : ApplyChange → List IndexEntry → List IndexEntry
applied_one c es = change_at (changed_entry c) (entry_index_of c) es

-- Applied changes replace stats at positions of the list, and nothing else. One is applied after the other.
abbrev pub applied : List ApplyChange → List IndexEntry → List IndexEntry
applied [] es = es
applied (c ∷ cs) es = applied cs (applied_one c es)

-- An entry after the change that is asked for, if any.
abbrev pub updated_entry : Option ApplyChange → IndexEntry → IndexEntry
updated_entry (Some c) e = changed_entry c e
updated_entry None e = e

-- Two lists differ in stats alone: with any one stat everywhere they are equal.
abbrev pub DifferInStats : List IndexEntry → List IndexEntry → Type 0
DifferInStats es others = (stat : Stat) → map (with_stat stat) es ≡ map (with_stat stat) others
