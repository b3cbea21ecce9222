use Rattle.std.proofs.Common.{◌∙◌}
use Rattle.std.proofs.Math.Seq.{take-suc}
use Rattle.status_index.specs.States.{backing_of}
use Rattle.git_staged.proofs.SparseEntries.{entry_passed}
use Rattle.git_staged.proofs.expand.expanded.Goals as goal

pub loop-entry-preserved : goal.loop-entry-preserved
loop-entry-preserved g c =
    let xs = c.entries-entry-items.result.now in
    let n = c.loop-entry.entry-index in
    let path = c.as_bytes-path.ensures ∙ (rw c.path_backing.ensures at c.path_in.ensures) in
    let own = c.in_default.ensures.entries in
    record {
      entries = entry_passed (backing_of c.args.index.now) xs n _ c.as_bytes-path.result.now own.0 _ _ (take-suc xs n _ c.loop-entry-test.true) path c.loop-entry.invariant.entries own.2 own.1;
      time = c.in_default.ensures.time ∙ c.loop-entry.invariant.time;
    }
