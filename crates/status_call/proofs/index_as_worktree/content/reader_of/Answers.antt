use Rattle.status_compare.specs.Reads.{no_reads}
use Rattle.status_compare.proofs.Lookings.{same_anyhow}
use Rattle.status_call.proofs.index_as_worktree.content.reader_of.Goals as goal

pub returns : goal.returns
returns g c = λ looked. rw c.none.ensures (same_anyhow (λ known. record {
  worktree = c.args.worktree;
  filter = c.args.filter;
  objects = c.args.objects;
  id = c.args.candidate.now.entry.now.id;
  path = c.args.candidate.now.path;
  is_link = c.args.is_link;
  node = c.args.candidate.now.node;
  reads = no_reads;
  looked = known;
}) _ _)
