use Rattle.std.proofs.Common.{◌≡◌, ◌++◌, [], List, ℕ, Option, Result, length}
use Rattle.status_call.specs.Inputs.{settings}
use Rattle.status_index.specs.Entries.{IndexEntry, index_entries}
use Rattle.status_index.specs.States.{index_of}
use Rattle.git_explain.specs.Explained.{first_entries}
use Rattle.git_explain.specs.Added.{Adds}
use Rattle.git_explain.proofs.paths.Explanations.add_entries.Given as goal

abbrev pub invariant-entries : goal.invariant-entries
invariant-entries g l =
    let x = l.initial.explainer in let included = g.P.Pathspec.included l.initial.paths in
    (done : List IndexEntry)
    × (done ++ first_entries included l.before (index_entries x.index.now.backing l.rest) ≡ first_entries included [] (index_of x.index.now))
    × Adds (g.W.Worktree.may_stat x.worktree.worktree.now) (g.W.Worktree.may_open x.worktree.worktree.now) (g.W.Worktree.may_link x.worktree.worktree.now) (g.S.SubmoduleStatus.may_report x.submodules)
    (settings x.options x.index.now) x.filter x.index.now done l.initial.self l.self
    × (l.explainer ≡ record x { submodules = l.explainer.submodules })
    × ((e : IndexEntry) (report : Result (Option g.row.S-Output.Denot) (List ℕ)) → g.S.SubmoduleStatus.may_report l.explainer.submodules e report → g.S.SubmoduleStatus.may_report x.submodules e report)

abbrev pub decreases-entries : goal.decreases-entries
decreases-entries g l = length l.rest
