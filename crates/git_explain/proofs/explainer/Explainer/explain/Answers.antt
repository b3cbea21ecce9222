use Rattle.std.proofs.Common.{rules, subst, sym}
use Rattle.bstr.specs.BStr.{bstr_bytes}
use Rattle.status_index.specs.Entries.{entry_at}
use Rattle.git_explain.specs.Allowed.{IsSightAllowed}
use Rattle.git_explain.proofs.SightLemmas.{allowed_with_id, read_allowed}
use Rattle.git_explain.proofs.explainer.Explainer.explain.Goals as goal

pub returns-clause-allowed : goal.returns-clause-allowed
returns-clause-allowed g c =
    let tree = c.args.self.now.worktree.worktree.now in
    let path = bstr_bytes c.args.path in
    let report = g.S.SubmoduleStatus.may_report c.args.self.now.submodules (entry_at path c.args.entry.now) in
    let may = IsSightAllowed (g.W.Worktree.may_stat tree) (g.W.Worktree.may_open tree path) (g.W.Worktree.may_link tree path) report in
    let first : may c.in_ok-first.first.sight = search rules in
    let second : may c.in_ok-second.second.sight = subst may (sym c.in_ok-second.ensures.sight) (c.in_ok-sight.ensures.allowed first) in
    let further = rw (c.ask.ensures.only) at c.in_ok-sight-2.ensures in
    let read : may c.in_ok-sight-2.sight = read_allowed (g.W.Worktree.may_stat tree) (g.W.Worktree.may_open tree path) (g.W.Worktree.may_link tree path) report c.in_ok-second.second.sight c.in_ok-sight-2.sight second further in
    let third : may c.in_ok-third.third.sight = subst may (sym c.in_ok-third.ensures.sight) read in
    allowed_with_id (g.W.Worktree.may_stat tree) (g.W.Worktree.may_open tree path) (g.W.Worktree.may_link tree path) report c.in_ok-third.third c.with_id.result c.with_id.ensures third
