use Rattle.std.proofs.Common.{◌≡◌, ◌==◌, ◌||◌, false, take}
use Rattle.std.specs.List.{list_any}
use Rattle.git_status.specs.Quoting.{is_odd}
use Rattle.git_status.proofs.lines.is_quoted.Given as goal

-- none of the bytes so far needs quotes
abbrev pub invariant-loop-byte : goal.invariant-loop-byte
invariant-loop-byte l = list_any (λ byte. byte == 32 || is_odd l.quote_all byte) (take l.byte-index l.path) ≡ false
