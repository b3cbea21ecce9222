use Rattle.std.proofs.Common.{◌+◌, ◌<◌, length, arith}
use Rattle.status_index.specs.States.{index_of, entries_of, backing_of}
use Rattle.status_index.specs.Stretch.{IsStretch}
use Rattle.status_index.proofs.Stretches.{IsFront-below, IsStretch-from_fronts, stored_under, stored_count, none_under}
use Rattle.status_index.proofs.state.State.prefixed_entries_range_counted.Goals as goal

pub front_len-start-requires : goal.front_len-start-requires
front_len-start-requires c =
    let s = c.args.self.now in
    rw c.deref.ensures.value (IsFront-below (index_of s) c.as_bytes-prefix.result.now s.valid)

pub front_len-count-requires : goal.front_len-count-requires
front_len-count-requires c =
    let s = c.args.self.now in
    let start = rw c.deref.ensures.value at c.front_len-start.ensures.len in
    rw c.deref-2.ensures.value (stored_under (backing_of s) (entries_of s) c.as_bytes-prefix.result.now c.front_len-start.result.0 s.valid start)

pub returns-then-count-eq0-clause-range : goal.returns-then-count-eq0-clause-range
returns-then-count-eq0-clause-range c =
    let s = c.args.self.now in
    let p = c.as_bytes-prefix.result.now in
    let a = c.front_len-start.result.0 in
    let n = c.front_len-count.result.0 in
    let start = rw c.deref.ensures.value at c.front_len-start.ensures.len in
    let count = rw c.deref-2.ensures.value at c.front_len-count.ensures.len in
    let stretch : IsStretch (index_of s) p a (a + n) = IsStretch-from_fronts (index_of s) p s.valid a n start (stored_count (backing_of s) (entries_of s) p a n count) in
    let some : 0 < length p = grind arith in
    rw (← c.as_bytes-prefix.ensures) (some, none_under (index_of s) p a (a + n) (omega (arith, c.if-count-eq0.true)) stretch)

pub returns-clause-range : goal.returns-clause-range
returns-clause-range c =
    let s = c.args.self.now in
    let p = c.as_bytes-prefix.result.now in
    let a = c.front_len-start.result.0 in
    let n = c.front_len-count.result.0 in
    let start = rw c.deref.ensures.value at c.front_len-start.ensures.len in
    let count = rw c.deref-2.ensures.value at c.front_len-count.ensures.len in
    let more : a < a + n = omega (arith, c.if-count-eq0.false) in
    rw (← c.as_bytes-prefix.ensures)
    (IsStretch-from_fronts (index_of s) p s.valid a n start (stored_count (backing_of s) (entries_of s) p a n count), λ l. more)
