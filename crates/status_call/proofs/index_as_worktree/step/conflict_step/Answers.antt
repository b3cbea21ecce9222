use Rattle.std.proofs.Common.{take, drop, arith}
use Rattle.bstr.specs.BStr.{bstr_bytes}
use Rattle.status_call.specs.Considered.{part_entries}
use Rattle.status_call.specs.Conflicts.{is_in_run, run_at}
use Rattle.status_call.proofs.Conflicts.{always_named, run_staged, run_short}
use Rattle.status_call.proofs.index_as_worktree.step.conflict_step.Goals as goal

pub returns-in_default-clause-len : goal.returns-in_default-clause-len
returns-in_default-clause-len g c =
    let es = part_entries c.args.considered.now in
    let path = bstr_bytes c.args.path in
    let found = rw c.part-part.ensures at c.in_default.ensures in
    absurd (always_named (run_at es c.args.at path) c.requires (run_staged path (take 3 (drop c.args.at es))) found)

pub overflow_add-result : goal.overflow_add-result
overflow_add-result g c =
    let len = rw c.part-part.ensures at c.in-Some.ensures.1 in
    omega (arith, len, run_short (is_in_run (bstr_bytes c.args.path)) 3 (drop c.args.at (part_entries c.args.considered.now)))
