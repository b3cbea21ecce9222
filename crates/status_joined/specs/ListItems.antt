-- The specification of the list's items.
use Rattle.status_call.specs.RecorderVisits.{visit_of}
use Rattle.status_walk.specs.WalkedNodes.{walked_of}
use Rattle.status_joined.specs.declared.item.ModificationOrDirwalkEntry.{ModificationOrDirwalkEntry}
use Rattle.status_joined.specs.declared.item.ModificationOrDirwalkEntry.TheVariants.{Modification, DirwalkEntry}
use Rattle.status_joined.specs.Items.{Item, tracked, walked}

-- The source of a rename is a record of a removed path, and its destination a node. This is the record or node of an item.
abbrev pub item_of : {T U : Type 0} → ModificationOrDirwalkEntry T U → Item T U
item_of (Modification r) = tracked (visit_of r)
item_of (DirwalkEntry entry id collapsed) = walked (walked_of entry collapsed) id
