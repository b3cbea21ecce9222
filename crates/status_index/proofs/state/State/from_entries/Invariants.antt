use Rattle.std.proofs.Common.{◌≡◌, map}
use Rattle.status_index.specs.Entries.{new_entry}
use Rattle.status_index.specs.States.{index_of, timestamp_of}
use Rattle.status_index.proofs.state.State.from_entries.Given as goal

abbrev pub invariant-loop-entry : goal.invariant-loop-entry
invariant-loop-entry l = record {
  entries : (index_of l.state) ≡ map new_entry l.yielded;
  timestamp : timestamp_of l.state ≡ l.fn.timestamp;
}
