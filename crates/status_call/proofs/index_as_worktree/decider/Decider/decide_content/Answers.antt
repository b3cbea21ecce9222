use Rattle.std.proofs.Common.{ap, refl, rules, sym, subst, Bool}
use Rattle.std.proofs.lemmas.Result.{err_from_is_err_and}
use Rattle.bstr.specs.BStr.{bstr_bytes}
use Rattle.status_index.specs.Entries.{entry_at}
use Rattle.status_call.specs.EntryParts.{candidate_entry, counted_of}
use Rattle.status_call.specs.Modelled.{all_modelled, are_modelled}
use Rattle.status_call.specs.Query.{Query}
use Rattle.status_call.specs.declared.index_as_worktree.inputs.Settings.{Settings}
use Rattle.status_base.specs.ListedNodes.{known_node}
use Rattle.status_base.specs.Looked.{IsLookedAt, kind_read}
use Rattle.status_call.specs.Status.{reads_link}
use Rattle.status_call.specs.EntrySights.{viewed}
use Rattle.status_call.specs.Views.{nothing_seen}
use Rattle.status_call.proofs.EntryCases.{compared_of_case}
use Rattle.status_call.proofs.SightCases.{comparison_failed, unread_of_case}
use Rattle.status_call.proofs.index_as_worktree.decider.Decider.decide_content.Goals as goal

pub invariant_of-self : goal.invariant_of-self
invariant_of-self g c = record { guard = rw c.compare_node.ensures.only c.args.self.now.guard; clear = rw c.compare_node.ensures.only c.args.self.now.clear; opened = rw c.compare_node.ensures.only c.args.self.now.opened; listed = rw c.compare_node.ensures.only c.args.self.now.listed; kept = rw c.compare_node.ensures.only c.args.self.now.kept }

pub returns-in_err-comparison-clause-same : goal.returns-in_err-comparison-clause-same
returns-in_err-comparison-clause-same g c =
    ap (λ (f : Settings → Query g.row.C-Output.Denot g.row.S-Output.Denot). f c.args.self.now.settings) c.compare_node.ensures.same

pub returns-in_err-comparison-clause-decided : goal.returns-in_err-comparison-clause-decided
returns-in_err-comparison-clause-decided g c =
    let compared = c.in_err-comparison.ensures.compared in
    search rules

pub returns-clause-same : goal.returns-clause-same
returns-clause-same g c =
    ap (λ (f : Settings → Query g.row.C-Output.Denot g.row.S-Output.Denot). f c.args.self.now.settings) c.compare_node.ensures.same

pub returns-clause-decided : goal.returns-clause-decided
returns-clause-decided g c =
    let i = c.args.self.now.inputs in
    let s = c.args.self.now.settings in
    let q : Query g.row.C-Output.Denot g.row.S-Output.Denot = record {
      modelled = all_modelled (g.G.Guard.modelled i.worktree) (g.O.Find.modelled i.objects) (g.S.SubmoduleStatus.modelled i.submodule)
          (are_modelled s.fscache (g.L.Lister.modelled i.lister));
      stat_options = s.stat;
      symlink = s.fs.symlink;
      executable_bit = s.fs.executable_bit;
      timestamp = s.timestamp;
      lstat = λ _. g.G.Guard.lstat_of i.worktree;
      opened = λ e. g.G.Guard.open_of i.worktree e.path;
      linked = λ e. g.G.Guard.target_of i.worktree e.path;
      cached = λ e. known_node s.fscache (g.L.Lister.listing i.lister) e.path;
      prefix = g.P.Pathspec.prefix i.pathspec;
      included = g.P.Pathspec.included i.pathspec;
      conversion = λ content path. g.T.ToGit.conversion i.filter content path;
      blob = λ e. g.O.Find.found i.objects e.id;
      submodule = g.S.SubmoduleStatus.status_of i.submodule;
      compared = g.C.CompareBlobs.answer i.compare;
      counted = g.C.CompareBlobs.counts_after i.compare;
    } in
    let e = entry_at (bstr_bytes c.args.candidate.now.path) c.args.candidate.now.entry.now in
    let n = c.args.candidate.now.node in
    λ modelled.
    let answer = c.in_ok-comparison.ensures.compared modelled in
    compared_of_case q e n c.args.stat c.args.executable_bit_changed c.is_trusted-trusted.result c.is_racy-racy.result c.needs_comparison-compares.result c.in_ok-comparison.comparison.change (counted_of q e n) c.decision_of.result
    c.is_trusted-trusted.ensures c.is_racy-racy.ensures c.needs_comparison-compares.ensures c.if-not-compares.false answer.0 (c.decision_of.ensures e.path (counted_of q e n) answer.1)

pub returns-then-not-compares-clause-seen : goal.returns-then-not-compares-clause-seen
returns-then-not-compares-clause-seen g c =
    let i = c.args.self.now.inputs in
    let e = candidate_entry c.args.candidate.now in
    record {
      view = nothing_seen;
      allowed = record { opened = g.met.G.Guard.open_may_fail i.worktree e.path c.args.candidate.now.node; linked = g.met.G.Guard.link_may_fail i.worktree e.path c.args.candidate.now.node; blob = g.met.O.Find.find_may_fail i.objects e.id };
      decided = λ _. unread_of_case (viewed c.args.self.now.settings (g.T.ToGit.conversion i.filter) (g.C.CompareBlobs.answer i.compare) (g.C.CompareBlobs.counts_after i.compare) nothing_seen) e c.args.candidate.now.node c.args.stat c.args.executable_bit_changed c.is_trusted-trusted.result c.is_racy-racy.result c.needs_comparison-compares.result _ _
          c.is_trusted-trusted.ensures c.is_racy-racy.ensures c.needs_comparison-compares.ensures c.if-not-compares.true c.unread.ensures;
    }

pub returns-in_err-comparison-clause-seen : goal.returns-in_err-comparison-clause-seen
returns-in_err-comparison-clause-seen g c =
    let i = c.args.self.now.inputs in
    let failed = err_from_is_err_and c.from_residual.result c.from_residual.ensures.1 in
    let said = c.in_err-comparison.ensures.seen in
    let q = viewed c.args.self.now.settings (g.T.ToGit.conversion i.filter) (g.C.CompareBlobs.answer i.compare) (g.C.CompareBlobs.counts_after i.compare) said.view in
    rw (failed.1, failed.2) (record {
      view = said.view;
      allowed = said.allowed;
      decided = λ _. comparison_failed q (candidate_entry c.args.candidate.now) c.args.candidate.now.node c.args.stat c.args.executable_bit_changed c.is_trusted-trusted.result c.is_racy-racy.result c.needs_comparison-compares.result c.in_err-comparison.field-0.0
          c.is_trusted-trusted.ensures c.is_racy-racy.ensures c.needs_comparison-compares.ensures c.if-not-compares.false (said.compared refl);
    })

pub returns-clause-seen : goal.returns-clause-seen
returns-clause-seen g c =
    let i = c.args.self.now.inputs in
    let e = candidate_entry c.args.candidate.now in
    let n = c.args.candidate.now.node in
    let said = c.in_ok-comparison.ensures.seen in
    let q = viewed c.args.self.now.settings (g.T.ToGit.conversion i.filter) (g.C.CompareBlobs.answer i.compare) (g.C.CompareBlobs.counts_after i.compare) said.view in
    let compared = said.compared refl in
    record {
      view = said.view;
      allowed = said.allowed;
      decided = λ _. compared_of_case q e n c.args.stat c.args.executable_bit_changed c.is_trusted-trusted.result c.is_racy-racy.result c.needs_comparison-compares.result c.in_ok-comparison.comparison.change (counted_of q e n) c.decision_of.result
          c.is_trusted-trusted.ensures c.is_racy-racy.ensures c.needs_comparison-compares.ensures c.if-not-compares.false compared.0 (c.decision_of.ensures e.path (counted_of q e n) compared.1);
    }

pub compare_node-requires : goal.compare_node-requires
compare_node-requires g c =
    let i = c.args.self.now.inputs in
    let s = c.args.self.now.settings in
    let candidate = c.args.candidate.now in
    record { looked = subst (λ (listed : Bool). IsLookedAt (g.G.Guard.may_stat i.worktree) listed (bstr_bytes candidate.path) candidate.node (kind_read (reads_link s.fs.symlink candidate.entry.now.mode candidate.node.kind))) (sym c.args.self.now.guard) c.requires.looked }
