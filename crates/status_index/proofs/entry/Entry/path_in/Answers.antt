use Rattle.std.proofs.Common.{sym, ◌∙◌}
use Rattle.status_index.proofs.Storages.{within-part, within-none}
use Rattle.status_index.proofs.entry.Entry.path_in.Goals as goal

pub returns-in-Some : goal.returns-in-Some
returns-in-Some c =
    let part = rw c.deref.ensures.value at c.in-Some.ensures.lookup in
    c.new.ensures ∙ part.0.2 ∙ sym (within-part _ _ _ part.0.0 part.0.1)

pub returns-in-None : goal.returns-in-None
returns-in-None c =
    let part = rw c.deref.ensures.value at c.in-None.ensures.lookup in
    c.new-in-None.ensures ∙ sym (within-none _ _ _ part.0)
