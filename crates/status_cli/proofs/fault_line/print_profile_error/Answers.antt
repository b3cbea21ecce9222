use Rattle.status_cli.proofs.fault_line.print_profile_error.Goals as goal

pub returns-in-Bad : goal.returns-in-Bad
returns-in-Bad g c = rw c.in-Bad.is (rw c.key_word.ensures at c.print_parts-in-Bad.ensures)
