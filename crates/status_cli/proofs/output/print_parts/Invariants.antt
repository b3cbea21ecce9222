use Rattle.std.proofs.Common.{take}
use Rattle.std.specs.Io.KnownBytes.{Appends}
use Rattle.status_cli.specs.Printing.{spelled}
use Rattle.status_cli.proofs.output.print_parts.Given as goal

-- the parts so far were written
abbrev pub invariant-loop-part : goal.invariant-loop-part
invariant-loop-part g l = Appends (g.O.Write.contents l.fn.output) (g.O.Write.contents l.output) (spelled (take l.part-index l.parts))
