use Rattle.std.proofs.Common.{ℕ, List, Err}
use Rattle.status_profile.specs.declared.options.Kind.TheVariants.{Any}
use Rattle.status_cli.specs.declared.status.inputs.WantedChanges.TheVariants.{Dropped}
use Rattle.status_cli.specs.ProfileStatuses.{IsFailed, IsTextPrinted}
use Rattle.status_cli.proofs.Commands.{known_map}
use Rattle.status_cli.proofs.status.run_status.Goals as goal

pub returns-in-Err-clause-failed : goal.returns-in-Err-clause-failed
returns-in-Err-clause-failed g c one =
    let old = g.O.Write.contents c.args.output.now in
    let new = g.O.Write.contents c.print_status.new.output in
    let ended : (text : List ℕ) → IsTextPrinted Any text Dropped old (Err c.in-Err.failure) new
    → IsFailed (λ f. IsTextPrinted Any text Dropped old (Err f) new) c.args.name.now (g.E.Write.contents c.args.faults.now) (g.E.Write.contents c.report.new.faults) = λ text h. (c.in-Err.failure, h, c.report.ensures.line) in
    known_map _ _ ended _ c.in-Err.ensures
