use Rattle.git_attributes.proofs.KnownFiles.{known_files}
use Rattle.git_attributes.proofs.laws.known_results_determine_the_files.Goals as goal

pub returns : goal.returns
returns c = known_files
