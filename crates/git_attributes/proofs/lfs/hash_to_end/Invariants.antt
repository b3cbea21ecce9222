use Rattle.std.proofs.Common.{◌≡◌, ℕ, ◌-◌, ◌^◌, List, length, take}
use Rattle.sha2.specs.Hashers.{Holds256}
use Rattle.status_index.specs.Given.{Follows}
use Rattle.status_index.proofs.ReaderPlace.{StandsAfter}
use Rattle.git_attributes.proofs.lfs.hash_to_end.Given as goal

abbrev pub invariant-chunks : goal.invariant-chunks
invariant-chunks g l =
    (done : List ℕ)
    × Holds256 l.hasher done
    × (l.len ≡ length done)
    × (l.front.items ≡ take 1024 done)
    × StandsAfter (g.R.ReadBytes.left l.initial.reader) (g.R.ReadBytes.left l.reader) done
    × Follows (g.R.ReadBytes.may_give l.initial.reader) (g.R.ReadBytes.may_give l.reader) done

abbrev pub decreases-chunks : goal.decreases-chunks
decreases-chunks g l = 2 ^ 64 - l.len
