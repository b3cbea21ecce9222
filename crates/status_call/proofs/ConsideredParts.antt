-- The considered entries of a call, as a part of the index.
use Rattle.std.proofs.Common.{◌≡◌, ◌+◌, ◌-◌, ◌≤◌, length, drop, arith}
use Rattle.std.proofs.lemmas.List.{length-map, length-take, length-drop}
use Rattle.status_index.specs.Entries.{IsIndex, index_entry, index_entries}
use Rattle.status_index.specs.Stretch.{part_of}
use Rattle.status_call.specs.declared.index_as_worktree.considered.Considered.{Considered}
use Rattle.status_call.specs.Considered.{part_entries}
use Rattle.status_call.proofs.IndexOrder.{IsIndex-part}
use Rattle.status_call.proofs.Stretch.{map-part}

-- They are an index themselves.
pub part_is_index : (c : Considered) → IsIndex (part_entries c)
part_is_index c =
    let same = map-part (index_entry c.backing.now) c.entries.now c.start c.end in
    rw same (IsIndex-part (index_entries c.backing.now c.entries.now) c.start c.end c.index)

-- They are as many as from the first to the last.
pub part_long : (c : Considered) → length (part_entries c) ≡ c.end - c.start
part_long c =
    omega (arith, length-map (part_of c.entries.now c.start c.end) (index_entry c.backing.now), length-take (c.end - c.start) (drop c.start c.entries.now), length-drop c.start c.entries.now, c.order, c.inside)

-- They are within the index.
pub part_inside : (c : Considered) → c.start + length (part_entries c) ≤ length c.entries.now
part_inside c = omega (arith, part_long c, c.order, c.inside)
