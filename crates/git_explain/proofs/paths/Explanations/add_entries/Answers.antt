use Rattle.std.proofs.Common.{◌∙◌, ◌++◌, ◌-◌, ℕ, List, [], length, take, drop, refl, ap}
use Rattle.bstr.specs.BStr.{bstr_bytes}
use Rattle.status_call.specs.Inputs.{settings}
use Rattle.status_index.specs.Entries.{IndexEntry, index_entries}
use Rattle.status_index.specs.declared.entry.Entry.{Entry}
use Rattle.git_explain.specs.Explained.{first_entries}
use Rattle.git_explain.specs.declared.explainer.Explainer.{Explainer}
use Rattle.git_explain.proofs.Adding.{adds_none, adds_within, continued}
use Rattle.git_explain.proofs.FirstEntries.{first_of}
use Rattle.git_explain.proofs.paths.Explanations.add_entries.Goals as goal

pub entries-init : goal.entries-init
entries-init g c =
    let x = c.args.explainer.now in
    let included = g.P.Pathspec.included c.args.paths.now in (
      [],
      ap (λ (v : List Entry). first_entries included [] (index_entries x.index.now.backing v)) c.entries-rest.ensures.value,
      adds_none (g.W.Worktree.may_stat x.worktree.worktree.now) (g.W.Worktree.may_open x.worktree.worktree.now) (g.W.Worktree.may_link x.worktree.worktree.now) (g.S.SubmoduleStatus.may_report x.submodules)
          (settings x.options x.index.now) x.filter x.index.now c.args.self.now,
      refl,
      λ e report h. h,
    )

pub entries-preserved : goal.entries-preserved
entries-preserved g c =
    let x = c.args.explainer.now in
    let y = c.entries.explainer in
    let included = g.P.Pathspec.included c.args.paths.now in
    let inv = c.entries.invariant in
    let rest : List Entry = c.entries.rest.now in
    let after : List Entry = take (length rest - 1) (drop 1 rest) in
    let splits = first_of included x.index.now.backing c.path_backing.result.now c.entries.before.now (bstr_bytes c.path_in-path.result) rest c.is_selected-selected.result _ c.in-len1-up.len_at_least
    c.path_in-path.ensures c.path_backing.ensures c.is_selected-selected.ensures in
    let left = ap (λ (v : List ℕ). first_entries included v (index_entries x.index.now.backing after)) c.as_bytes-before.ensures in
    let adds = adds_within (g.W.Worktree.may_stat x.worktree.worktree.now) (g.W.Worktree.may_open x.worktree.worktree.now) (g.W.Worktree.may_link x.worktree.worktree.now) (g.S.SubmoduleStatus.may_report y.submodules)
    (g.S.SubmoduleStatus.may_report x.submodules) (settings x.options x.index.now) x.filter x.index.now _ c.entries.self c.add_if.new.self inv.4 (rw inv.3 at c.in_ok-add_if.ensures.adds) in
    let more = continued (g.W.Worktree.may_stat x.worktree.worktree.now) (g.W.Worktree.may_open x.worktree.worktree.now) (g.W.Worktree.may_link x.worktree.worktree.now) (g.S.SubmoduleStatus.may_report x.submodules)
    (settings x.options x.index.now) x.filter x.index.now _ inv.0 _ _ _ c.args.self.now c.entries.self c.add_if.new.self inv.1 splits inv.2 adds in (
      more.0,
      ap (λ (v : List IndexEntry). more.0 ++ v) left ∙ more.1,
      more.2,
      c.in_ok-add_if.ensures.only ∙ ap (λ (v : Explainer g.row.W.Denot g.row.S.Denot). record v { submodules = c.add_if.new.explainer.submodules }) inv.3,
      λ e report h. inv.4 e report (c.in_ok-add_if.ensures.within e report h),
    )
