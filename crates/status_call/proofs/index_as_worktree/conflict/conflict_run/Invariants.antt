use Rattle.std.proofs.Common.{◌≡◌, ◌<◌, ℕ, true, slice_index_or}
use Rattle.bstr.specs.BStr.{bstr_bytes}
use Rattle.status_index.specs.declared.entry.Entry.{Entry}
use Rattle.status_index.specs.Entries.{index_entry}
use Rattle.status_call.specs.Conflicts.{is_in_run}
use Rattle.status_call.proofs.index_as_worktree.conflict.conflict_run.Given as goal

-- The entries so far are in the run.
abbrev pub invariant-loop-len : goal.invariant-loop-len
invariant-loop-len l =
    (k : ℕ) (d : Entry) → k < l.len → is_in_run (bstr_bytes l.path) (index_entry l.backing (slice_index_or l.few k d)) ≡ true
