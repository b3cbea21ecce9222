-- The entries so far, followed by those of the remaining items, are those of the whole list, and their paths are UTF-8.
use Rattle.std.proofs.Common.{◌≡◌, drop, map}
use Rattle.serde_json.specs.View.{items_view}
use Rattle.status_index.specs.Entries.{new_entry}
use Rattle.status_format.specs.Reading.{each, entry_in}
use Rattle.status_stored.specs.Storable.{AreUtf8}
use Rattle.status_stored.proofs.Fronts.{with_front}
use Rattle.status_stored.proofs.store.read_entries.Given as goal

abbrev pub invariant-loop-item : goal.invariant-loop-item
invariant-loop-item l = record {
  read : with_front (map new_entry l.entries.items) (each entry_in (items_view (drop l.item-index l.items)))
      ≡ each entry_in (items_view l.items);
  utf8 : AreUtf8 (map new_entry l.entries.items);
}
