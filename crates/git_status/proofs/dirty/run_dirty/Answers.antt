use Rattle.std.proofs.Common.{◌≡◌, false, rules, refl}
use Rattle.git_status.proofs.Clean.{clean_seen}
use Rattle.git_status.proofs.Shown.{lines_seen}
use Rattle.git_status.proofs.dirty.run_dirty.Goals as goal

pub returns-in-Ok-clause-clean_seen : goal.returns-in-Ok-clause-clean_seen
returns-in-Ok-clause-clean_seen g c = λ zero.
    let clean : c.in-Ok.found.dirty ≡ false = search rules in
    clean_seen _ _ _ _ (c.in-Ok.found, clean, c.in-Ok.ensures)

pub returns-in-Ok-clause-lines_seen : goal.returns-in-Ok-clause-lines_seen
returns-in-Ok-clause-lines_seen g c = λ done style loud.
    lines_seen _ _ style loud c.in-Ok.found.dirty _ _ (c.in-Ok.found, refl, c.in-Ok.ensures)
