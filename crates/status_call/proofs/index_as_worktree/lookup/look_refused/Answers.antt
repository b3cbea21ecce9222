use Rattle.status_call.proofs.EntryCases.{site_odd}
use Rattle.status_call.proofs.index_as_worktree.lookup.look_refused.Goals as goal

pub returns-in-EmptyPath-clause-look : goal.returns-in-EmptyPath-clause-look
returns-in-EmptyPath-clause-look c = λ check node unknown. site_odd c.args.error check node unknown c.in-EmptyPath.is
