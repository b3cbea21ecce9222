use Rattle.status_call.proofs.NoBlob.{id_reads_law}
use Rattle.status_call.proofs.index_as_worktree.laws.ids_read_no_blob.Goals as goal

pub returns : goal.returns
returns g c = λ q. id_reads_law q
