use Rattle.git_status.proofs.RefreshedEntries.{own_law}
use Rattle.git_status.proofs.laws.refresh_changes_own_entries.Goals as goal

pub returns : goal.returns
returns g c said visits es = own_law said visits es
