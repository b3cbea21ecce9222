-- The error of a status that a fault becomes.
use Rattle.status_index.specs.declared.fault.Fault.{Fault}
use Rattle.status_index.specs.declared.fault.Fault.TheVariants as faults
use Rattle.status_base.specs.declared.worktree.objects.FindError.{FindError}
use Rattle.status_base.specs.declared.worktree.objects.FindError.TheVariants as finds
use Rattle.status_compare.specs.declared.error.Error.{Error}
use Rattle.status_compare.specs.declared.error.Error.TheVariants.{IllformedUtf8, Io, Find, Memory}

abbrev pub error_of : Fault → Error
error_of faults.IllformedUtf8 = IllformedUtf8
error_of faults.Memory = Memory
error_of f = Io f

abbrev pub find_error_of : FindError → Error
find_error_of finds.Missing = Find finds.Missing
find_error_of finds.Memory = Memory
