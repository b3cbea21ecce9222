use Rattle.status_cli.proofs.status_fault.print_fault.Goals as goal

pub returns-in-Other : goal.returns-in-Other
returns-in-Other g c = rw c.in-Other.is (rw c.format.ensures.text at c.print_parts.ensures)

pub returns-in-NotFound : goal.returns-in-NotFound
returns-in-NotFound g c = rw c.in-NotFound.is c.print_doing.ensures

pub returns-in-NotADirectory : goal.returns-in-NotADirectory
returns-in-NotADirectory g c = rw c.in-NotADirectory.is c.print_doing-in-NotADirectory.ensures

pub returns-in-IllformedUtf8 : goal.returns-in-IllformedUtf8
returns-in-IllformedUtf8 g c = rw c.in-IllformedUtf8.is c.print_doing-in-IllformedUtf8.ensures

pub returns-in-NotNormal : goal.returns-in-NotNormal
returns-in-NotNormal g c = rw c.in-NotNormal.is c.print_doing-in-NotNormal.ensures
