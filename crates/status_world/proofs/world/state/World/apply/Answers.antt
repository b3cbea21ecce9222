use Rattle.status_world.proofs.Causes.{applied_formed, applied_causes, applied_exact}
use Rattle.status_world.proofs.world.state.World.apply.Goals as goal

pub returns-clause-formed : goal.returns-clause-formed
returns-clause-formed g c = λ f. applied_formed c.args.event.now c.args.self.now c.apply_by_kind.result c.apply_by_kind.new.self c.apply_by_kind.ensures.applied f

pub returns-clause-causes : goal.returns-clause-causes
returns-clause-causes g c = λ f. applied_causes c.args.event.now c.args.self.now c.apply_by_kind.result c.apply_by_kind.new.self c.apply_by_kind.ensures.applied f

pub returns-clause-exact : goal.returns-clause-exact
returns-clause-exact g c = λ f sound distinct. applied_exact c.args.self.now f sound c.args.event.now c.apply_by_kind.result c.apply_by_kind.new.self distinct c.apply_by_kind.ensures.applied
