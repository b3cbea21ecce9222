use Rattle.std.proofs.Common.{rules, Ok, Some, ap, sym, ◌∙◌}
use Rattle.bstr.specs.BStr.{bstr_bytes}
use Rattle.status_call.specs.EntryParts.{IsNodeDecided, candidate_entry}
use Rattle.status_call.specs.EntrySights.{viewed}
use Rattle.status_call.specs.Views.{nothing_seen}
use Rattle.status_call.proofs.MetNodes.{looked_executable, looked_unchanged}
use Rattle.status_call.proofs.index_as_worktree.decider.Decider.decide_node.Goals as goal

pub returns-then-intersects-clause-seen : goal.returns-then-intersects-clause-seen
returns-then-intersects-clause-seen g c =
    let i = c.args.self.now.inputs in
    let e = candidate_entry c.args.candidate.now in
    let decided : IsNodeDecided (viewed c.args.self.now.settings (g.T.ToGit.conversion i.filter) (g.C.CompareBlobs.answer i.compare) (g.C.CompareBlobs.counts_after i.compare) nothing_seen) e c.args.candidate.now.node (Ok c.unread.result) = search rules in
    record {
      view = nothing_seen;
      allowed = record { opened = g.met.G.Guard.open_may_fail i.worktree e.path c.args.candidate.now.node; linked = g.met.G.Guard.link_may_fail i.worktree e.path c.args.candidate.now.node; blob = g.met.O.Find.find_may_fail i.objects e.id };
      decided = decided;
    }

pub returns-in_err-stat-clause-seen : goal.returns-in_err-stat-clause-seen
returns-in_err-stat-clause-seen g c =
    let i = c.args.self.now.inputs in
    let e = candidate_entry c.args.candidate.now in
    let decided : IsNodeDecided (viewed c.args.self.now.settings (g.T.ToGit.conversion i.filter) (g.C.CompareBlobs.answer i.compare) (g.C.CompareBlobs.counts_after i.compare) nothing_seen) e c.args.candidate.now.node c.from_residual.result = search rules in
    record {
      view = nothing_seen;
      allowed = record { opened = g.met.G.Guard.open_may_fail i.worktree e.path c.args.candidate.now.node; linked = g.met.G.Guard.link_may_fail i.worktree e.path c.args.candidate.now.node; blob = g.met.O.Find.find_may_fail i.objects e.id };
      decided = decided;
    }

pub returns-in-Some-TypeChange-clause-seen : goal.returns-in-Some-TypeChange-clause-seen
returns-in-Some-TypeChange-clause-seen g c =
    let i = c.args.self.now.inputs in
    let e = candidate_entry c.args.candidate.now in
    let decided : IsNodeDecided (viewed c.args.self.now.settings (g.T.ToGit.conversion i.filter) (g.C.CompareBlobs.answer i.compare) (g.C.CompareBlobs.counts_after i.compare) nothing_seen) e c.args.candidate.now.node (Ok c.unread-in-Some-TypeChange.result) = search rules in
    record {
      view = nothing_seen;
      allowed = record { opened = g.met.G.Guard.open_may_fail i.worktree e.path c.args.candidate.now.node; linked = g.met.G.Guard.link_may_fail i.worktree e.path c.args.candidate.now.node; blob = g.met.O.Find.find_may_fail i.objects e.id };
      decided = decided;
    }

pub decide_content-requires : goal.decide_content-requires
decide_content-requires g c =
    let s = c.args.self.now.settings in
    let candidate = c.args.candidate.now in
    record { looked = looked_executable (g.G.Guard.may_stat c.args.self.now.inputs.worktree) s.fscache (bstr_bytes candidate.path) s.fs.symlink s.fs.executable_bit candidate.entry.now.mode candidate.node c.requires.met (sym c.change_to_match_fs.ensures ∙ c.in-Some-ExecutableBit.is ∙ ap Some c.in-Some-ExecutableBit.field-0-is) }

pub decide_content-requires-in-None : goal.decide_content-requires-in-None
decide_content-requires-in-None g c =
    let s = c.args.self.now.settings in
    let candidate = c.args.candidate.now in
    record { looked = looked_unchanged (g.G.Guard.may_stat c.args.self.now.inputs.worktree) s.fscache (bstr_bytes candidate.path) s.fs.symlink s.fs.executable_bit candidate.entry.now.mode candidate.node c.requires.met (sym c.change_to_match_fs.ensures ∙ c.in-None.is) }
