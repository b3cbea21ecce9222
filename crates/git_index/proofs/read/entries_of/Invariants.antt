use Rattle.std.proofs.Common.{◌≡◌}
use Rattle.status_index.specs.States.{index_of, timestamp_of}
use Rattle.git_index.proofs.EntriesRead.{SoFar}
use Rattle.git_index.proofs.read.entries_of.Given as goal

abbrev pub invariant-entries : goal.invariant-entries
invariant-entries l = record {
  so_far : SoFar l.kind l.version l.at l.bytes (index_of l.state) l.last.items l.refused l.cursor.rest.now;
  timestamp : timestamp_of l.state ≡ l.fn.timestamp;
}
