use Rattle.std.proofs.Common.{◌≡◌, ◌+◌, ◌++◌, ◌∷◌, [], ℕ, List, get_or, take}
use Rattle.std.proofs.lemmas.List.{take_more}
use Rattle.std.specs.Borrow.{Bor}
use Rattle.status_cli.proofs.Printed.{begun_next, failed_written, printed_next}
use Rattle.status_cli.proofs.output.print_parts.Goals as goal

abbrev none : Bor (List ℕ)
none = record { ref_ptr = (0, 0); now = [] }

pub returns-in_err-print : goal.returns-in_err-print
returns-in_err-print g c =
    let parts = c.args.parts.now in let at = c.loop-part.part-index in let part = get_or parts at none in
    let next : take (at + 1) parts ≡ take at parts ++ part ∷ [] = take_more _ at none c.loop-part-test.true in
    let here = rw c.as_bytes.ensures.value at c.in_err-print.ensures.0 in
    failed_written _ _ _ _ c.from_residual.result c.from_residual.ensures.1
    (begun_next (λ text. text) (λ part. part.now) parts at (take at parts) part _ _ _ next c.loop-part.invariant here)
    c.in_err-print.ensures.1

pub loop-part-preserved : goal.loop-part-preserved
loop-part-preserved g c =
    let parts = c.args.parts.now in let at = c.loop-part.part-index in let part = get_or parts at none in
    let next : take (at + 1) parts ≡ take at parts ++ part ∷ [] = take_more _ at none c.loop-part-test.true in
    let here = rw c.as_bytes.ensures.value at c.in_ok-print.ensures in
    rw next (printed_next (λ text. text) (λ part. part.now) (take at parts) part _ _ _ c.loop-part.invariant here)
