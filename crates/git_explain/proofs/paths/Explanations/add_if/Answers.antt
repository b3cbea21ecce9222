use Rattle.bstr.specs.BStr.{bstr_bytes}
use Rattle.status_call.specs.Inputs.{settings}
use Rattle.status_index.specs.Entries.{entry_at}
use Rattle.git_explain.proofs.Adding.{adds_none, adds_one_on_ok, entry_is}
use Rattle.git_explain.proofs.paths.Explanations.add_if.Goals as goal

pub returns-then-not-selected-clause-adds : goal.returns-then-not-selected-clause-adds
returns-then-not-selected-clause-adds g c =
    let x = c.args.explainer.now in
    rw c.if-not-selected.true (adds_none (g.W.Worktree.may_stat x.worktree.worktree.now) (g.W.Worktree.may_open x.worktree.worktree.now) (g.W.Worktree.may_link x.worktree.worktree.now) (g.S.SubmoduleStatus.may_report x.submodules)
    (settings x.options x.index.now) x.filter x.index.now c.args.self.now)

pub returns-clause-adds : goal.returns-clause-adds
returns-clause-adds g c =
    let x = c.args.explainer.now in
    let found = c.in_ok-explained.explained in
    let path = bstr_bytes c.args.path in
    let says = c.in_ok-explained.ensures in
    rw c.if-not-selected.false (adds_one_on_ok (g.W.Worktree.may_stat x.worktree.worktree.now) (g.W.Worktree.may_open x.worktree.worktree.now) (g.W.Worktree.may_link x.worktree.worktree.now) (g.S.SubmoduleStatus.may_report x.submodules)
    (settings x.options x.index.now) x.filter x.index.now c.add.result found (entry_at path c.args.entry.now) c.args.self.now c.add.new.self
    (entry_is found path c.args.entry.now says.entry.0 says.entry.1) says.status says.whole says.allowed c.add.ensures.lines c.add.ensures.faults)
