-- The command's failure for an error. Out of memory is one failure, wherever it happens.
use Rattle.git_attributes.specs.declared.fault.AttributeFault.{AttributeFault}
use Rattle.git_attributes.specs.declared.fault.AttributeFault.TheVariants as attributes
use Rattle.git_index.specs.declared.fault.IndexFileError.{IndexFileError}
use Rattle.git_index.specs.declared.fault.IndexFileError.TheVariants as index
use Rattle.git_staged.specs.declared.error.TreeFault.{TreeFault}
use Rattle.git_staged.specs.declared.error.TreeFault.TheVariants as trees
use Rattle.git_untracked.specs.declared.folders.FolderFault.{FolderFault}
use Rattle.git_untracked.specs.declared.folders.FolderFault.TheVariants as folders
use Rattle.status_compare.specs.declared.error.Error.{Error}
use Rattle.status_compare.specs.declared.error.Error.TheVariants as errors
use Rattle.git_status.specs.declared.failure.Failure.{Failure}
use Rattle.git_status.specs.declared.failure.Failure.TheVariants.{Attributes, Head, Index, Status, Memory, Untracked}

-- The failure for bytes that aren't an index file.
abbrev pub failure_of_index : IndexFileError → Failure
failure_of_index index.Memory = Memory
failure_of_index (index.Header fault) = Index (index.Header fault)
failure_of_index index.Checksum = Index index.Checksum
failure_of_index (index.Entry at fault) = Index (index.Entry at fault)
failure_of_index (index.Extension at) = Index (index.Extension at)
failure_of_index (index.Required name) = Index (index.Required name)
failure_of_index (index.Strip at) = Index (index.Strip at)
failure_of_index (index.NameLength at) = Index (index.NameLength at)
failure_of_index (index.Index e) = Index (index.Index e)

-- The failure for the files of HEAD's commit.
abbrev pub failure_of_head : TreeFault → Failure
failure_of_head trees.Memory = Memory
failure_of_head (trees.Object id fault) = Head (trees.Object id fault)
failure_of_head (trees.NoTree id) = Head (trees.NoTree id)
failure_of_head trees.NotAscending = Head trees.NotAscending
failure_of_head trees.MixedHash = Head trees.MixedHash
failure_of_head trees.ManyItems = Head trees.ManyItems
failure_of_head trees.TooDeep = Head trees.TooDeep

-- The failure for the search for untracked files.
abbrev pub failure_of_folders : FolderFault → Failure
failure_of_folders folders.Memory = Memory
failure_of_folders (folders.At path fault) = Untracked (folders.At path fault)
failure_of_folders (folders.IgnoreFile path fault) = Untracked (folders.IgnoreFile path fault)
failure_of_folders folders.TooDeep = Untracked folders.TooDeep

-- The failure for attribute files.
abbrev pub failure_of_attributes : AttributeFault → Failure
failure_of_attributes attributes.Memory = Memory
failure_of_attributes (attributes.Object path fault) = Attributes path fault

-- The failure for an error of the status.
abbrev pub failure_of_status : Error → Failure
failure_of_status errors.Memory = Memory
failure_of_status errors.IllformedUtf8 = Status errors.IllformedUtf8
failure_of_status errors.Time = Status errors.Time
failure_of_status (errors.Io fault) = Status (errors.Io fault)
failure_of_status (errors.Find e) = Status (errors.Find e)
failure_of_status (errors.SubmoduleStatus path text) = Status (errors.SubmoduleStatus path text)
failure_of_status errors.SpawnThread = Status errors.SpawnThread
