use Rattle.std.proofs.Common.{◌≡◌, ◌++◌, ◌∷◌, take}
use Rattle.std.specs.List.{flat_map}
use Rattle.git_status.specs.Quoting.{quoted_byte}
use Rattle.git_status.proofs.lines.push_quoted.Given as goal

-- a quote and the bytes so far were appended
abbrev pub invariant-loop-byte : goal.invariant-loop-byte
invariant-loop-byte l = l.line.items ≡ l.fn.line.items ++ (34 ∷ flat_map (quoted_byte l.quote_all) (take l.byte-index l.path))
