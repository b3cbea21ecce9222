use Rattle.status_call.proofs.NoBlob.{size_reads_law}
use Rattle.status_call.proofs.index_as_worktree.laws.sizes_read_no_blob.Goals as goal

pub returns : goal.returns
returns g c = λ q. size_reads_law q
