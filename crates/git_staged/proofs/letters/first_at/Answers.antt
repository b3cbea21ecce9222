use Rattle.std.proofs.Common.{◌≡◌, ◌≤◌, refl, ap, arith, length, slice_index_or}
use Rattle.std.proofs.lemmas.List.{length-map}
use Rattle.bstr.specs.BStr.{bstr_bytes}
use Rattle.std.specs.declared.cmp.Ordering.{Ordering}
use Rattle.std.specs.declared.cmp.Ordering.TheVariants.{Less, Equal, Greater}
use Rattle.status_index.specs.declared.entry.Entry.{Entry}
use Rattle.status_index.specs.Entries.{index_entry, path_in}
use Rattle.status_index.specs.States.{backing_of, entries_of, index_of}
use Rattle.git_staged.proofs.Merges.{IsReached, IsReached-from_stored, reached_more, reached_end, front_ends, none_in_rest, none_reached, first_reached}
use Rattle.git_staged.proofs.letters.first_at.Goals as goal
use Rattle.git_staged.proofs.letters.first_at.Goals.{After-cmp}

-- The entry that the walk is at, and how its path compares.
reached : (c : After-cmp) (d : Entry) (order : Ordering) → bstr_bytes c.path_in-found.result ≡ path_in c.path_backing.result.now (slice_index_or c.entries-entries.result.now c.loop-next.next d) → c.cmp.result ≡ order
    → IsReached (index_of c.args.index.now) c.loop-next.next (bstr_bytes c.args.path) order (index_entry (backing_of c.args.index.now) (slice_index_or c.entries-entries.result.now c.loop-next.next d))
reached c d order named is =
    let s = c.args.index.now in
    IsReached-from_stored (backing_of s) c.path_backing.result.now c.entries-entries.result.now (entries_of s) c.loop-next.next d _ _ _ (bstr_bytes c.args.path) c.cmp.result order c.loop-next-test.true c.entries-entries.ensures.value c.path_backing.ensures named c.as_bytes.ensures c.as_bytes-in-loop-next.ensures c.cmp.ensures is

pub loop-next-preserved : goal.loop-next-preserved
loop-next-preserved c =
    let r = reached (goal.at.loop-next-preserved c).After-cmp _ Less c.path_in-found.ensures c.in-Less.is in
    reached_more (index_of c.args.index.now) c.loop-next.next (bstr_bytes c.args.path) Less _ r c.loop-next.invariant refl

pub returns-in-Equal-clause-next : goal.returns-in-Equal-clause-next
returns-in-Equal-clause-next c =
    let r = reached (goal.at.returns-in-Equal-clause-next c).After-cmp _ Equal c.path_in-found.ensures c.in-Equal.is in
    reached_end (index_of c.args.index.now) c.loop-next.next (bstr_bytes c.args.path) Equal _ r c.loop-next.invariant refl

pub returns-in-Equal-clause-first : goal.returns-in-Equal-clause-first
returns-in-Equal-clause-first c =
    let s = c.args.index.now in
    let r = reached (goal.at.returns-in-Equal-clause-first c).After-cmp _ Equal c.path_in-found.ensures c.in-Equal.is in
    let ends = reached_end (index_of s) c.loop-next.next (bstr_bytes c.args.path) Equal _ r c.loop-next.invariant refl in
    first_reached (index_of s) (bstr_bytes c.args.path) s.valid c.loop-next.next ends _ r

pub returns-in-Greater-clause-next : goal.returns-in-Greater-clause-next
returns-in-Greater-clause-next c =
    let r = reached (goal.at.returns-in-Greater-clause-next c).After-cmp _ Greater c.path_in-found.ensures c.in-Greater.is in
    reached_end (index_of c.args.index.now) c.loop-next.next (bstr_bytes c.args.path) Greater _ r c.loop-next.invariant refl

pub returns-in-Greater-clause-first : goal.returns-in-Greater-clause-first
returns-in-Greater-clause-first c =
    let s = c.args.index.now in
    let r = reached (goal.at.returns-in-Greater-clause-first c).After-cmp _ Greater c.path_in-found.ensures c.in-Greater.is in
    let ends = reached_end (index_of s) c.loop-next.next (bstr_bytes c.args.path) Greater _ r c.loop-next.invariant refl in
    none_reached (index_of s) (bstr_bytes c.args.path) s.valid c.loop-next.next ends Greater _ r refl

pub returns-clause-next : goal.returns-clause-next
returns-clause-next c =
    let s = c.args.index.now in
    front_ends _ (index_of s) c.loop-next.next c.loop-next.invariant (omega (arith, ap length c.entries-entries.ensures.value, length-map (entries_of s) (index_entry (backing_of s)), c.loop-next-test.false))

pub returns-clause-first : goal.returns-clause-first
returns-clause-first c =
    let s = c.args.index.now in
    let out : length (index_of s) ≤ c.loop-next.next = omega (arith, ap length c.entries-entries.ensures.value, length-map (entries_of s) (index_entry (backing_of s)), c.loop-next-test.false) in
    none_in_rest (index_of s) (bstr_bytes c.args.path) s.valid c.loop-next.next (front_ends _ (index_of s) c.loop-next.next c.loop-next.invariant out) out
