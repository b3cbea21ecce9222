use Rattle.std.proofs.Common.{rules, subst, Ok}
use Rattle.bstr.specs.BStr.{bstr_bytes}
use Rattle.status_base.specs.Outcomes.{IsConverted}
use Rattle.status_base.specs.declared.worktree.filter.ToGitOutcome.TheVariants.{Buffer}
use Rattle.status_index.specs.States.{index_of}
use Rattle.git_attributes.specs.Clean.{conversion_by, has_stored}
use Rattle.git_attributes.proofs.Cleaning.{memory_converted, stored_converted}
use Rattle.git_attributes.proofs.clean.CleanFilterToGit.convert.Goals as goal

pub returns-in_err-known-clause-answer : goal.returns-in_err-known-clause-answer
returns-in_err-known-clause-answer g c content known = memory_converted g.F.ReadBytes.left _ _ c.from_residual.result (search rules)

pub returns-clause-answer : goal.returns-clause-answer
returns-clause-answer g c content known =
    let read = rw known at c.in_ok-read_filtered.ensures.known in
    subst (λ steps. IsConverted g.F.ReadBytes.left (conversion_by steps (λ it. has_stored c.args.self.now.kind (index_of c.args.self.now.index.now) it (bstr_bytes c.args.path)) content) (g.F.ReadBytes.left c.args.file) (Ok (Buffer c.deref-2.result))) (search rules)
    (stored_converted g.F.ReadBytes.left c.steps_of-steps.result (λ it. has_stored c.args.self.now.kind (index_of c.args.self.now.index.now) it (bstr_bytes c.args.path)) content _ c.deref-2.result (search rules) read.1 (search rules))
