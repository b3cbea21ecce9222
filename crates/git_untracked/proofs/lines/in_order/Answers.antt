use Rattle.git_untracked.proofs.Ordering.{in_order}
use Rattle.git_untracked.proofs.lines.in_order.Goals as goal

pub returns : goal.returns
returns c = in_order c.args.paths.items c.sort.new.paths.items _ c.in_ok-sort.ensures.bag c.in_ok-sort.ensures.order c.remove_repeated.ensures
