use Rattle.std.proofs.Common.{All, map}
use Rattle.status_index.specs.States.{index_of}
use Rattle.git_attributes.specs.StagedFiles.{IsStagedFile}
use Rattle.git_attributes.specs.Views.{file_view}
use Rattle.git_attributes.proofs.staged_files.staged_files.Given as goal

-- the files so far are of the index
abbrev pub invariant-loop-entry : goal.invariant-loop-entry
invariant-loop-entry g l = All (IsStagedFile (index_of l.index) (map file_view l.inner)) (map file_view l.files.items)
