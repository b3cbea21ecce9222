-- The summaries of reports, their paths and their order.
use Rattle.std.specs.Prelude.{ℕ, true, false, List, Option, Some, None}
use Rattle.std.specs.Cmp.Lexicographic.{slice_cmp}
use Rattle.std.specs.Ordering.{nat_cmp, ordering_then}
use Rattle.std.specs.declared.cmp.Ordering.{Ordering}
use Rattle.status_call.specs.declared.index_as_worktree.types.Change.TheVariants as changes
use Rattle.status_call.specs.declared.index_as_worktree.types.EntryStatus.{EntryStatus}
use Rattle.status_call.specs.declared.index_as_worktree.types.EntryStatus.TheVariants as statuses
use Rattle.status_walk.specs.declared.walk.Status.{Status}
use Rattle.status_walk.specs.declared.walk.Status.TheVariants as nodes
use Rattle.status_joined.specs.declared.index_as_worktree_with_renames.entry.Summary.{Summary}
use Rattle.status_joined.specs.declared.index_as_worktree_with_renames.entry.Summary.TheVariants.{Removed, Added, Modified, TypeChange, Renamed, Copied, IntentToAdd, Conflict}
use Rattle.status_joined.specs.Items.{Reported, modification, contents, rewrite, path_of}

-- The summary of an index entry's status. A stat to update is no change.
abbrev pub status_summary : {T U : Type 0} → EntryStatus T U → Option Summary
status_summary (statuses.Conflict stages entries) = Some Conflict
status_summary (statuses.Change changes.Removed) = Some Removed
status_summary (statuses.Change (changes.TypeChange mode)) = Some TypeChange
status_summary (statuses.Change (changes.Modification executable content size_zero)) = Some Modified
status_summary (statuses.Change (changes.SubmoduleModification change)) = Some Modified
status_summary (statuses.NeedsUpdate stat) = None
status_summary statuses.IntentToAdd = Some IntentToAdd

-- The summary of a node: it is added if it is untracked.
abbrev pub node_summary : Status → Option Summary
node_summary nodes.Untracked = Some Added
node_summary _ = None

-- A summary is a word, none for a stat to update or a node that isn't untracked.
abbrev pub summary_of : {T U : Type 0} → Reported T U → Option Summary
summary_of (modification v) = status_summary v.status
summary_of (contents w) = node_summary w.status
summary_of (rewrite source w id true) = Some Copied
summary_of (rewrite source w id false) = Some Renamed

-- The path of a rename's or copy's source; any other report's own path.
abbrev pub source_path : {T U : Type 0} → Reported T U → List ℕ
source_path (modification v) = v.path
source_path (contents w) = w.path
source_path (rewrite source w id copy) = path_of source

-- The path of a rename's or copy's destination; any other report's own path.
abbrev pub destination_path : {T U : Type 0} → Reported T U → List ℕ
destination_path (modification v) = v.path
destination_path (contents w) = w.path
destination_path (rewrite source w id copy) = w.path

-- 0 for a record, 1 for a node or a rewrite, which is at its destination.
abbrev pub reported_side : {T U : Type 0} → Reported T U → ℕ
reported_side (modification v) = 0
reported_side (contents w) = 1
reported_side (rewrite source w id copy) = 1

-- By the destination's path, and at equal paths records before nodes.
abbrev pub reported_cmp : {T U : Type 0} → Reported T U → Reported T U → Ordering
reported_cmp t u = ordering_then (slice_cmp nat_cmp (destination_path t) (destination_path u)) (nat_cmp (reported_side t) (reported_side u))
