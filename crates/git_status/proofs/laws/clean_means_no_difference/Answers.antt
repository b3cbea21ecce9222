use Rattle.git_status.proofs.Clean.{clean_law}
use Rattle.git_status.proofs.laws.clean_means_no_difference.Goals as goal

pub returns : goal.returns
returns g c query settings bytes = clean_law _ bytes
