use Rattle.git_status.proofs.RefreshLaw.{kept_law, left_out_law}
use Rattle.git_status.proofs.RefreshedEntries.{refresh_law}
use Rattle.git_status.proofs.laws.refresh_hides_nothing.Goals as goal

pub returns-clause-kept : goal.returns-clause-kept
returns-clause-kept g c q later e = kept_law q later e

pub returns-clause-left_out : goal.returns-clause-left_out
returns-clause-left_out g c q later e = left_out_law q later e

pub returns-clause-index : goal.returns-clause-index
returns-clause-index g c said q later visits es = refresh_law said q later visits es
