use Rattle.std.proofs.Common.{ℕ, ◌∙◌, subst, arith}
use Rattle.std.proofs.Math.Seq.{take-suc}
use Rattle.status_index.specs.States.{backing_of, index_of}
use Rattle.git_staged.specs.OpenFolders.{HasNoLastFolder, Makes}
use Rattle.git_staged.proofs.Entries.{as_many, entry_next}
use Rattle.git_staged.proofs.write_tree.tree_of.Goals as goal

pub loop-number-init : goal.loop-number-init
loop-number-init c = c.new-tree.ensures c.args.kind (index_of c.args.index.now)

pub put_entry-requires : goal.put_entry-requires
put_entry-requires c = (index_of c.args.index.now, c.loop-number.invariant)

pub loop-number-preserved : goal.loop-number-preserved
loop-number-preserved c =
    let xs = c.entries-entries.result.now in
    let n = c.loop-number.number in
    let next = entry_next (backing_of c.args.index.now) xs _ n _ c.as_bytes-path.result.now (take-suc xs n _ c.loop-number-test.true) (c.as_bytes-path.ensures ∙ (rw c.path_backing.ensures at c.path_in.ensures)) c.entries-entries.ensures.value in
    c.in_ok-put_entry.ensures (index_of c.args.index.now) c.loop-number.invariant next

pub finish-requires : goal.finish-requires
finish-requires c = (index_of c.args.index.now, subst (λ (n : ℕ). Makes c.args.kind (index_of c.args.index.now) n c.loop-number.tree HasNoLastFolder) (omega (arith, c.loop-number-test.false, c.loop-number.auto.number-end)) c.loop-number.invariant)

pub returns : goal.returns
returns c =
    let all = subst (λ (n : ℕ). Makes c.args.kind (index_of c.args.index.now) n c.loop-number.tree HasNoLastFolder) (omega (arith, c.loop-number-test.false, c.loop-number.auto.number-end)) c.loop-number.invariant in
    c.finish.ensures (index_of c.args.index.now) all (as_many (backing_of c.args.index.now) c.entries-entries.result.now _ c.entries-entries.ensures.value)
