use Rattle.std.proofs.Common.{◌++◌, ap, ◌∙◌, map, Err}
use Rattle.status_call.specs.Visits.{finding_of}
use Rattle.status_joined.proofs.Tracking.{none_of}
use Rattle.status_joined.proofs.index_as_worktree_with_renames.halves.record_tracked.Goals as goal

pub returns-in-Ok : goal.returns-in-Ok
returns-in-Ok g c =
    let m = c.in-Ok.ensures.all in
    let grew = m.grew ∙ ap (λ v. v ++ m.more) c.new-recorder.ensures in
    record {
      faithful = rw grew m.faithful;
      ascends = rw grew m.ascends;
      complete = rw grew m.complete;
      interrupted = rw grew m.interrupted;
      uninterrupted = λ unset. c.in-Ok.ensures.uninterrupted (c.of-execution.ensures.interrupt ∙ none_of _ unset);
      fits = m.fits;
    }

pub returns : goal.returns
returns g c = record {
  found = map finding_of c.in-Err.ensures.all.more;
  first = c.in-Err.ensures.all.fault;
  alone = λ modelled one never same. c.in-Err.ensures.alone modelled (c.of-execution.ensures.thread_limit ∙ one) never (ap Err same);
}
