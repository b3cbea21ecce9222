use Rattle.std.proofs.Common.{◌≡◌, false}
use Rattle.status_index.specs.States.{index_of}
use Rattle.status_walk.proofs.Walking.{IsWalkSoFar}
use Rattle.status_walk.proofs.untracked.UntrackedWalkWalkMemoryWorktree.walk.Given as goal

abbrev pub invariant-loop-path : goal.invariant-loop-path
invariant-loop-path g l = record {
  keeps : (g.D.Delegate.state l.delegate).keeps ≡ (g.D.Delegate.state l.fn.delegate).keeps;
  going : (g.D.Delegate.state l.delegate).cancelled ≡ false;
  way : IsWalkSoFar l.worktree (index_of l.index) (g.P.Pathspec.included l.pathspec) (g.D.Delegate.state l.fn.delegate).keeps
      (g.D.Delegate.state l.fn.delegate).kept l.emitted l.path-iterator (g.D.Delegate.state l.delegate).kept;
}
