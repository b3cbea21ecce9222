use Rattle.std.proofs.Common.{refl, arith}
use Rattle.status_index.specs.States.{smudged}
use Rattle.status_index.proofs.Indexes.{index_after, IsIndex-after}
use Rattle.status_index.proofs.state.State.smudge.Goals as goal

pub invariant_of-self : goal.invariant_of-self
invariant_of-self c =
    let s = c.args.self.now in
    record { valid = IsIndex-after s.backing s.entries.items c.args.i c.index_mut.result.now _ (omega arith) c.index_mut.ensures.value (record { path = refl; id = refl; flags = refl }) s.valid }

pub returns-clause-index : goal.returns-clause-index
returns-clause-index c =
    let s = c.args.self.now in
    index_after s.backing s.entries.items c.args.i c.index_mut.result.now _ smudged (omega arith) c.index_mut.ensures.value refl
