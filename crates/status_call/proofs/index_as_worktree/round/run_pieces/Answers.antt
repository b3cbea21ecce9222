use Rattle.std.proofs.Common.{is_some}
use Rattle.status_call.specs.Considered.{part_entries}
use Rattle.status_call.proofs.Bounds.{row_of}
use Rattle.status_call.proofs.index_as_worktree.round.run_pieces.Goals as goal

pub returns-in-Ok-work_round-clause-pieces : goal.returns-in-Ok-work_round-clause-pieces
returns-in-Ok-work_round-clause-pieces g c =
    let round = rw c.of.ensures at c.in-Ok-work_round.ensures.round in
    row_of (g.D.Decide.query c.args.decider.now) (g.D.Decide.allows c.args.decider.now) (is_some c.args.workers.now.interrupt) c.args.considered.now.start
    (part_entries c.args.considered.now) c.args.bounds.now c.requires.bounds c.in-Ok-work_round.pieces.items round
