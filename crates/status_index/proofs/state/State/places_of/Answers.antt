use Rattle.status_index.specs.States.{index_of}
use Rattle.status_index.proofs.Stretches.{IsFront-below}
use Rattle.status_index.proofs.Places.{IsFront-up_to, places_ordered}
use Rattle.status_index.proofs.state.State.places_of.Goals as goal

pub front_len-start-requires : goal.front_len-start-requires
front_len-start-requires c =
    let s = c.args.self.now in
    rw c.deref.ensures.value (IsFront-below (index_of s) c.args.path.now s.valid)

pub front_len-end-requires : goal.front_len-end-requires
front_len-end-requires c =
    let s = c.args.self.now in
    rw c.deref-2.ensures.value (IsFront-up_to (index_of s) c.args.path.now s.valid)

pub returns-clause-order : goal.returns-clause-order
returns-clause-order c =
    let s = c.args.self.now in
    let start = rw c.deref.ensures.value at c.front_len-start.ensures.len in
    let stop = rw c.deref-2.ensures.value at c.front_len-end.ensures.len in
    rw (start, stop) (places_ordered (index_of s) c.args.path.now s.valid)
