-- The reports of runs, as plain values.
-- A run is a status of all paths, without filter, listings, blobs or submodules.
use Rattle.std.specs.Prelude.{ℕ, ◌<◌, ◌^◌, Bool, true, false, List, filter, map, Option}
use Rattle.std.specs.List.{filter_map}
use Rattle.bstr.specs.BStr.{bstr_bytes}
use Rattle.bstr.specs.Owned.{bstring_bytes}
use Rattle.status_index.specs.declared.id.ObjectId.{ObjectId}
use Rattle.status_call.specs.declared.index_as_worktree.apply.ApplyChange.{ApplyChange}
use Rattle.status_call.specs.declared.index_as_worktree.recorder.Record.{Record}
use Rattle.status_call.specs.declared.index_as_worktree.types.EntryStatus.{EntryStatus}
use Rattle.status_call.specs.declared.index_as_worktree.types.EntryStatus.TheVariants as statuses
use Rattle.status_call.specs.declared.index_as_worktree.types.Outcome.{Outcome}
use Rattle.status_call.specs.IndexChanges.{change_of}
use Rattle.status_call.specs.Counts.{skipped_of}
use Rattle.status_world.specs.declared.world.run.Report.{Report}
use Rattle.status_world.specs.declared.world.run.ReportRecord.{ReportRecord}

-- The status of an entry. A change of content has the new id if contents are compared by ids alone.
abbrev pub RunStatus : Type 0
RunStatus = EntryStatus (Option ObjectId) (Unit {0})

-- A record of an entry: its position, path and status.
pub record Reported : Type 0 where
  pub entry_index : ℕ
  pub path : List ℕ
  pub status : RunStatus

-- The report of a run: its records and counts.
pub record RunReport : Type 0 where
  pub records : List Reported
  pub outcome : Outcome

-- A record of a report, as a plain value.
abbrev pub reported_value : ReportRecord → Reported
reported_value r = record { entry_index = r.entry_index; path = bstring_bytes r.path; status = r.status }

-- A record of a recorder, as a plain value.
abbrev pub record_value : Record (Option ObjectId) (Unit {0}) → Reported
record_value r = record { entry_index = r.entry_index; path = bstr_bytes r.relative_path; status = r.status }

-- A report, as a plain value.
abbrev pub report_value : Report → RunReport
report_value r = record { records = map reported_value r.records.items; outcome = r.outcome }

-- The changes of the index that these records ask for.
abbrev pub changes_in : List Reported → List ApplyChange
changes_in rs = filter_map (λ r. change_of r.entry_index r.status) rs

-- The sum of the counts of skipped entries is below 2^64.
abbrev pub HasSum : Report → Type 0
HasSum r = skipped_of r.outcome < 2 ^ 64

-- Whether a status is a change. A stat that needs an update isn't one.
abbrev pub is_change : RunStatus → Bool
is_change (statuses.Change c) = true
is_change (statuses.Conflict summary entries) = false
is_change (statuses.NeedsUpdate stat) = false
is_change statuses.IntentToAdd = false

-- The paths of a report's changes.
abbrev pub changed_paths : RunReport → List (List ℕ)
changed_paths r = map (λ x. x.path) (filter (λ x. is_change x.status) r.records)
