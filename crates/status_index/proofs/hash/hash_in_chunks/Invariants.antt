use Rattle.std.proofs.Common.{◌≡◌, ◌<◌, ℕ, ◌+◌, List, ◌++◌, length}
use Rattle.status_index.specs.BlobId.{blob_header}
use Rattle.status_index.specs.Content.{CountsMore}
use Rattle.status_index.specs.Given.{Follows}
use Rattle.status_index.specs.HasherState.{HoldsMessage}
use Rattle.status_index.proofs.ReaderPlace.{StandsAfter}
use Rattle.status_index.proofs.hash.hash_in_chunks.Given as goal

abbrev pub invariant-chunks : goal.invariant-chunks
invariant-chunks g l =
    (0 < length l.chunk)
    × (done : List ℕ)
    × HoldsMessage l.hasher l.fn.kind (blob_header l.len ++ done)
    × (length done + l.rest ≡ l.len)
    × StandsAfter (g.R.ReadBytes.left l.initial.reader) (g.R.ReadBytes.left l.reader) done
    × CountsMore (g.R.ReadBytes.taken l.initial.reader) (g.R.ReadBytes.taken l.reader) (length done)
    × Follows (g.R.ReadBytes.may_give l.initial.reader) (g.R.ReadBytes.may_give l.reader) done

abbrev pub decreases-chunks : goal.decreases-chunks
decreases-chunks g l = l.rest
