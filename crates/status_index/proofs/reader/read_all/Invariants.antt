use Rattle.std.proofs.Common.{◌≡◌, ℕ, ◌-◌, ◌^◌, List, ◌++◌, length, vec_len}
use Rattle.status_index.specs.Content.{CountsMore}
use Rattle.status_index.specs.Given.{Follows}
use Rattle.status_index.proofs.ReaderPlace.{StandsAfter}
use Rattle.status_index.proofs.reader.read_all.Given as goal

abbrev pub invariant-chunks : goal.invariant-chunks
invariant-chunks g l =
    (done : List ℕ)
    × (l.into.items ≡ l.initial.into.items ++ done)
    × StandsAfter (g.R.ReadBytes.left l.initial.reader) (g.R.ReadBytes.left l.reader) done
    × CountsMore (g.R.ReadBytes.taken l.initial.reader) (g.R.ReadBytes.taken l.reader) (length done)
    × Follows (g.R.ReadBytes.may_give l.initial.reader) (g.R.ReadBytes.may_give l.reader) done

abbrev pub decreases-chunks : goal.decreases-chunks
decreases-chunks g l = 2 ^ 64 - vec_len l.into
