use Rattle.git_status.proofs.read.ReadIndex.of.Goals as goal

pub returns-in-Ok-clause-read : goal.returns-in-Ok-clause-read
returns-in-Ok-clause-read c =
    let found = c.in-Ok.ensures in
    record { kind = found.kind; checked = λ on. found.checked; file = λ on. found.found; whole = found.whole; sum = found.sum; time = found.timestamp }
