use Rattle.git_status.proofs.Refreshing.{refresh_clean, refresh_lines}
use Rattle.git_status.proofs.refresh.run_refresh.Goals as goal

pub returns-in-Ok-clause-clean_seen : goal.returns-in-Ok-clause-clean_seen
returns-in-Ok-clause-clean_seen g c = λ zero. refresh_clean _ _ _ _ c.in-Ok.report c.in-Ok.refreshed c.in-Ok.ensures zero

pub returns-in-Ok-clause-lines_seen : goal.returns-in-Ok-clause-lines_seen
returns-in-Ok-clause-lines_seen g c = λ done style loud. refresh_lines _ _ _ _ c.in-Ok.report c.in-Ok.refreshed c.in-Ok.ensures style loud
