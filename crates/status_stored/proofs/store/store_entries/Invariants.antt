-- The values are those of the entries before the position.
use Rattle.std.proofs.Common.{map, take}
use Rattle.status_index.specs.Entries.{index_entry}
use Rattle.status_stored.specs.Steps.{AreValuesOf}
use Rattle.status_stored.proofs.store.store_entries.Given as goal

abbrev pub invariant-loop-at : goal.invariant-loop-at
invariant-loop-at l = AreValuesOf (map (index_entry l.backing) (take l.at l.entries)) l.values.items
