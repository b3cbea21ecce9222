use Rattle.std.proofs.Common.{All, length, map}
use Rattle.git_attributes.specs.Views.{file_view}
use Rattle.git_repository.specs.AttributeFiles.{IsOutside}
use Rattle.git_repository.proofs.attribute_files.files_outside.Given as goal

abbrev pub invariant-paths : goal.invariant-paths
invariant-paths g l = All IsOutside (map file_view l.files.items)

abbrev pub decreases-paths : goal.decreases-paths
decreases-paths g l = length l.rest
