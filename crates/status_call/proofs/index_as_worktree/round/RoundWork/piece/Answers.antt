use Rattle.std.proofs.Common.{◌∙◌}
use Rattle.status_call.proofs.WorkInOrder.{result_of}
use Rattle.status_call.proofs.index_as_worktree.round.RoundWork.piece.Goals as goal

pub returns-clause-gives : goal.returns-clause-gives
returns-clause-gives g c = result_of _ _ _ _ c.args.self.now.interrupt _ _ _ _ c.compare_piece.result c.requires.fits.0 c.requires.fits.1 c.compare_piece.ensures.piece c.compare_piece.ensures.uninterrupted

pub returns-clause-fits : goal.returns-clause-fits
returns-clause-fits g c = (
  c.compare_piece.ensures.same ∙ c.requires.fits.0,
  λ e v allowed. c.requires.fits.1 e v (c.compare_piece.ensures.within e v allowed),
)
