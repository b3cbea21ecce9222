use Rattle.git_explain.proofs.Adding.{exit_explained}
use Rattle.git_explain.proofs.run.run_explain.Goals as goal

pub returns-clause-explained : goal.returns-clause-explained
returns-clause-explained g c = λ other. exit_explained _ _ _ c.in-Ok.found.differs c.in-Ok.found.failed _ c.exit_status.ensures c.if-found.false c.in-Ok.ensures
