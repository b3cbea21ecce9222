use Rattle.std.proofs.Common.{◌≤◌, length, take}
use Rattle.std.specs.Io.KnownBytes.{Appends}
use Rattle.text_output.proofs.write_all.Given as goal

-- some first bytes were written
abbrev pub invariant-writes : goal.invariant-writes
invariant-writes g l = (l.written ≤ length l.text) × Appends (g.O.Write.contents l.fn.output) (g.O.Write.contents l.output) (take l.written l.text)
