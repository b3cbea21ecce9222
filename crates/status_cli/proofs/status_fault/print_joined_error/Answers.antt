use Rattle.std.proofs.Common.{inl}
use Rattle.status_cli.proofs.status_fault.print_joined_error.Goals as goal

pub returns-in-DirWalk : goal.returns-in-DirWalk
returns-in-DirWalk g c = rw c.in-DirWalk.is (inl c.print_walk_error.ensures)

pub returns-in-SpawnThread : goal.returns-in-SpawnThread
returns-in-SpawnThread g c = rw c.in-SpawnThread.is (inl c.print_failed.ensures)

pub returns-in-SetAttributeContext : goal.returns-in-SetAttributeContext
returns-in-SetAttributeContext g c = rw c.in-SetAttributeContext.is (inl c.print_failed-in-SetAttributeContext.ensures)

pub returns-in-OpenWorktreeFile : goal.returns-in-OpenWorktreeFile
returns-in-OpenWorktreeFile g c = rw c.in-OpenWorktreeFile.is (inl c.print_fault.ensures)

pub returns-in-HashFile : goal.returns-in-HashFile
returns-in-HashFile g c = rw c.in-HashFile.is (inl c.print_fault-in-HashFile.ensures)

pub returns-in-ReadLink : goal.returns-in-ReadLink
returns-in-ReadLink g c = rw c.in-ReadLink.is (inl c.print_fault-in-ReadLink.ensures)

pub returns-in-ConvertToGit : goal.returns-in-ConvertToGit
returns-in-ConvertToGit g c = rw c.in-ConvertToGit.is (inl c.print_fault-in-ConvertToGit.ensures)

pub returns-in-RewriteTracker : goal.returns-in-RewriteTracker
returns-in-RewriteTracker g c = rw c.in-RewriteTracker.is (inl c.print_failed-in-RewriteTracker.ensures)

pub returns-in-Memory : goal.returns-in-Memory
returns-in-Memory g c = rw c.in-Memory.is (inl c.print_failed-in-Memory.ensures)
