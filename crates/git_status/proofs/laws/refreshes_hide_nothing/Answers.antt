use Rattle.git_status.proofs.RefreshRun.{refreshes_law}
use Rattle.git_status.proofs.laws.refreshes_hide_nothing.Goals as goal

pub returns : goal.returns
returns g c query settings bytes = refreshes_law _ bytes
