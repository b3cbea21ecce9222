use Rattle.std.proofs.Common.{◌≡◌, take}
use Rattle.std.specs.List.{flat_map}
use Rattle.status_cli.proofs.status.records.lines_of.Given as goal

-- the lines so far were appended
abbrev pub invariant-loop-item : goal.invariant-loop-item
invariant-loop-item g l = l.text.items ≡ flat_map g.L.Line.line (take l.item-index l.items)
