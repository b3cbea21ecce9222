use Rattle.git_index.specs.EntryViews.{raw_entry}
use Rattle.git_index.proofs.Views.{refusal_more}
use Rattle.git_index.proofs.paths.push_unless_refused.Goals as goal

pub returns-in-Some-clause-index : goal.returns-in-Some-clause-index
returns-in-Some-clause-index c = λ rs many h. refusal_more c.args.version rs (raw_entry c.args.entry.now) c.in-Some.error (rw c.in-Some.is at h)
