use Rattle.std.proofs.Common.{inl}
use Rattle.status_cli.proofs.status_fault.print_error.Goals as goal

pub returns-in-IllformedUtf8 : goal.returns-in-IllformedUtf8
returns-in-IllformedUtf8 g c = rw c.in-IllformedUtf8.is (inl c.print_failed.ensures)

pub returns-in-Find : goal.returns-in-Find
returns-in-Find g c = rw c.in-Find.is (inl c.print_failed-in-Find.ensures)

pub returns-in-SubmoduleStatus : goal.returns-in-SubmoduleStatus
returns-in-SubmoduleStatus g c = rw c.in-SubmoduleStatus.is (rw c.as_bstr.ensures at c.print_submodule.ensures)

pub returns-in-SpawnThread : goal.returns-in-SpawnThread
returns-in-SpawnThread g c = rw c.in-SpawnThread.is (inl c.print_failed-in-SpawnThread.ensures)

pub returns-in-Memory : goal.returns-in-Memory
returns-in-Memory g c = rw c.in-Memory.is (inl c.print_failed-in-Memory.ensures)
