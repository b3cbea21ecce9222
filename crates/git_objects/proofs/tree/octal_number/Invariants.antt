use Rattle.std.proofs.Common.{◌≡◌, take, All}
use Rattle.git_objects.specs.Contents.{IsOctal, octal_after}
use Rattle.git_objects.proofs.tree.octal_number.Given as goal

-- the number is that of the digits so far
abbrev pub invariant-digits : goal.invariant-digits
invariant-digits l = (octal_after 0 (take l.digit-index l.digits) ≡ l.number) × All IsOctal (take l.digit-index l.digits)
