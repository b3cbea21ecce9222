use Rattle.status_cli.proofs.fault_line.print_index_error.Goals as goal

pub returns-in-EmptyPath : goal.returns-in-EmptyPath
returns-in-EmptyPath g c = rw c.in-EmptyPath.is c.print_bad_entry.ensures

pub returns-in-NotAscending : goal.returns-in-NotAscending
returns-in-NotAscending g c = rw c.in-NotAscending.is c.print_bad_entry-in-NotAscending.ensures

pub returns-in-MixedHash : goal.returns-in-MixedHash
returns-in-MixedHash g c = rw c.in-MixedHash.is c.print_bad_entry-in-MixedHash.ensures

pub returns-in-Memory : goal.returns-in-Memory
returns-in-Memory g c = rw c.in-Memory.is c.print_parts.ensures
