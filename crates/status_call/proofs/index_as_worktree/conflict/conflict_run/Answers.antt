use Rattle.std.proofs.Common.{sym, ◌∙◌, arith}
use Rattle.std.proofs.lemmas.List.{length-map}
use Rattle.bstr.specs.BStr.{bstr_bytes}
use Rattle.status_index.specs.Entries.{index_entry, index_entries}
use Rattle.status_call.specs.Conflicts.{is_in_run}
use Rattle.status_call.proofs.RunsOfLists.{few_past, few_stop, few_pass}
use Rattle.status_call.proofs.index_as_worktree.conflict.conflict_run.Goals as goal

pub returns-then-start-entries : goal.returns-then-start-entries
returns-then-start-entries c =
    few_past (is_in_run (bstr_bytes c.args.path)) (index_entries c.args.backing.now c.args.entries.now) c.args.start 3 (omega (arith, length-map c.args.entries.now (index_entry c.args.backing.now)))

pub returns-then-not-is_in_run : goal.returns-then-not-is_in_run
returns-then-not-is_in_run c =
    few_stop (index_entry c.args.backing.now) c.args.entries.now c.args.start 3 c.min.result c.min.ensures (is_in_run (bstr_bytes c.args.path)) c.loop-len.len _ c.loop-len-test.true (sym c.is_in_run.ensures ∙ c.if-not-is_in_run.true) c.loop-len.invariant

pub returns : goal.returns
returns c =
    few_pass (index_entry c.args.backing.now) c.args.entries.now c.args.start 3 c.min.result c.min.ensures (is_in_run (bstr_bytes c.args.path)) (λ j d l. c.loop-len.invariant j d (omega arith))
