use Rattle.std.proofs.Common.{◌+◌, ◌*◌}
use Rattle.git_repository.proofs.includes.Reading.+includes.Given as goal

abbrev pub decreases-append : goal.decreases-append
decreases-append g l = 2 * l.depth + 1

abbrev pub decreases-append_file : goal.decreases-append_file
decreases-append_file g l = 2 * l.depth
