use Rattle.git_status.proofs.Shown.{lines_law}
use Rattle.git_status.proofs.laws.lines_are_of_all_differences.Goals as goal

pub returns : goal.returns
returns g c query settings bytes = lines_law _ bytes
