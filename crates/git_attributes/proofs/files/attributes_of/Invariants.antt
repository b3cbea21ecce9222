use Rattle.std.proofs.Common.{◌≡◌, length, map}
use Rattle.git_attributes.specs.Files.{attributes_of, with_files}
use Rattle.git_attributes.specs.Views.{attributes_view, file_view}
use Rattle.git_attributes.proofs.files.attributes_of.Given as goal

abbrev pub invariant-files : goal.invariant-files
invariant-files l = with_files (attributes_view l.attributes) (map file_view l.rest) ≡ attributes_of (map file_view l.files)

abbrev pub decreases-files : goal.decreases-files
decreases-files l = length l.rest
