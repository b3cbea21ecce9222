use Rattle.std.proofs.Common.{◌≡◌, take}
use Rattle.status_index.specs.States.{backing_of, index_of, timestamp_of}
use Rattle.status_call.specs.IndexChanges.{applied}
use Rattle.status_call.proofs.index_as_worktree.apply.apply_changes.Given as goal

abbrev pub invariant-loop-change : goal.invariant-loop-change
invariant-loop-change l = record {
  index : index_of l.index ≡ applied (take l.change-index l.fn.changes) (index_of l.fn.index);
  storage : backing_of l.index ≡ backing_of l.fn.index;
  timestamp : timestamp_of l.index ≡ timestamp_of l.fn.index;
}
