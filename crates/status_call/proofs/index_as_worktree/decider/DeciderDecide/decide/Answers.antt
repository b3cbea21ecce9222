use Rattle.std.proofs.Common.{sym, refl, ap, ◌∙◌, Some, Ok, Err}
use Rattle.std.proofs.Math.Logic.{∥∥₁_map}
use Rattle.std.proofs.lemmas.Result.{err_from_is_err_and}
use Rattle.bstr.specs.BStr.{bstr_bytes}
use Rattle.status_index.specs.Entries.{entry_at}
use Rattle.status_call.specs.Counts.{calls_lstat}
use Rattle.status_compare.specs.Reads.{no_reads}
use Rattle.status_call.specs.declared.index_as_worktree.lookup.AtPath.TheVariants as presences
use Rattle.status_call.specs.declared.index_as_worktree.types.EntryStatus.TheVariants as statuses
use Rattle.status_call.specs.declared.index_as_worktree.types.Change.TheVariants as changes
use Rattle.status_call.specs.EntryParts.{counted_of, found_presence}
use Rattle.status_call.specs.EntrySights.{viewed}
use Rattle.status_call.specs.Modelled.{all_modelled, are_modelled}
use Rattle.status_call.specs.Query.{Query}
use Rattle.status_call.specs.Status.{case_of_found, directory, found, gone, present}
use Rattle.status_base.specs.ListedNodes.{known_node}
use Rattle.status_call.specs.MayReturn.{MayReturn}
use Rattle.status_call.specs.ViewLaws.{free_view}
use Rattle.status_call.specs.Views.{nothing_seen}
use Rattle.status_call.proofs.SightCases.{directory_refused, directory_seen, seen_found, seen_refused, unread_case}
use Rattle.status_call.proofs.MetNodes.{node_met}
use Rattle.status_call.proofs.EntryCases.{all_submodule, counted_look, is_decided, presence_node, reported_counts}
use Rattle.status_call.proofs.index_as_worktree.decider.DeciderDecide.decide.Goals as goal

pub returns-in_ok-decided-in-Node-clause-answer : goal.returns-in_ok-decided-in-Node-clause-answer
returns-in_ok-decided-in-Node-clause-answer g c =
    let i = c.args.self.now.inputs in
    let s = c.args.self.now.settings in
    let q : Query g.row.C-Output.Denot g.row.S-Output.Denot = record {
      modelled = all_modelled (g.G.Guard.modelled i.worktree) (g.O.Find.modelled i.objects) (g.S.SubmoduleStatus.modelled i.submodule)
          (are_modelled s.fscache (g.L.Lister.modelled i.lister));
      stat_options = s.stat;
      symlink = s.fs.symlink;
      executable_bit = s.fs.executable_bit;
      timestamp = s.timestamp;
      lstat = λ _. g.G.Guard.lstat_of i.worktree;
      opened = λ e. g.G.Guard.open_of i.worktree e.path;
      linked = λ e. g.G.Guard.target_of i.worktree e.path;
      cached = λ e. known_node s.fscache (g.L.Lister.listing i.lister) e.path;
      prefix = g.P.Pathspec.prefix i.pathspec;
      included = g.P.Pathspec.included i.pathspec;
      conversion = λ content path. g.T.ToGit.conversion i.filter content path;
      blob = λ e. g.O.Find.found i.objects e.id;
      submodule = g.S.SubmoduleStatus.status_of i.submodule;
      compared = g.C.CompareBlobs.answer i.compare;
      counted = g.C.CompareBlobs.counts_after i.compare;
    } in
    let e = entry_at (bstr_bytes c.args.path) c.args.entry.now in
    let n = c.in-Node.node in
    let look = c.in_ok-presence.field-0 in
    let decided = rw (c.look.ensures.inputs, c.look.ensures.settings) at c.in_ok-decided-in-Node.ensures.decided in
    λ modelled.
    let presence = presence_node (found q e) (calls_lstat q e) look n c.in-Node.is (c.in_ok-presence.ensures.look modelled) in
    is_decided q e (present n) look.lstat_called (counted_of q e n) (Ok (record c.in_ok-decided-in-Node.decided { lstat_called = look.lstat_called })) presence.0 (sym presence.1) (λ counts. reported_counts (counted_of q e n) (counts e n))
    (counted_look e.path (case_of_found q e (present n)) look.lstat_called (counted_of q e n) c.in_ok-decided-in-Node.decided (decided modelled))

pub returns-in_err-decided-in-Node-clause-answer : goal.returns-in_err-decided-in-Node-clause-answer
returns-in_err-decided-in-Node-clause-answer g c =
    let i = c.args.self.now.inputs in
    let s = c.args.self.now.settings in
    let q : Query g.row.C-Output.Denot g.row.S-Output.Denot = record {
      modelled = all_modelled (g.G.Guard.modelled i.worktree) (g.O.Find.modelled i.objects) (g.S.SubmoduleStatus.modelled i.submodule)
          (are_modelled s.fscache (g.L.Lister.modelled i.lister));
      stat_options = s.stat;
      symlink = s.fs.symlink;
      executable_bit = s.fs.executable_bit;
      timestamp = s.timestamp;
      lstat = λ _. g.G.Guard.lstat_of i.worktree;
      opened = λ e. g.G.Guard.open_of i.worktree e.path;
      linked = λ e. g.G.Guard.target_of i.worktree e.path;
      cached = λ e. known_node s.fscache (g.L.Lister.listing i.lister) e.path;
      prefix = g.P.Pathspec.prefix i.pathspec;
      included = g.P.Pathspec.included i.pathspec;
      conversion = λ content path. g.T.ToGit.conversion i.filter content path;
      blob = λ e. g.O.Find.found i.objects e.id;
      submodule = g.S.SubmoduleStatus.status_of i.submodule;
      compared = g.C.CompareBlobs.answer i.compare;
      counted = g.C.CompareBlobs.counts_after i.compare;
    } in
    let e = entry_at (bstr_bytes c.args.path) c.args.entry.now in
    let n = c.in-Node.node in
    let look = c.in_ok-presence.field-0 in
    let decided = rw (c.look.ensures.inputs, c.look.ensures.settings) at c.in_err-decided-in-Node.ensures.decided in
    λ modelled.
    let presence = presence_node (found q e) (calls_lstat q e) look n c.in-Node.is (c.in_ok-presence.ensures.look modelled) in
    let specified = is_decided q e (present n) (calls_lstat q e) (counted_of q e n) (Err c.in_err-decided-in-Node.field-0.0) presence.0 refl (λ counts. reported_counts (counted_of q e n) (counts e n)) (decided modelled) in
    let p = err_from_is_err_and c.from_residual-in_err-decided-in-Node.result c.from_residual-in_err-decided-in-Node.ensures.1 in
    rw (p.1, p.2) specified

pub returns-in_err-decided-in-Node-clause-same : goal.returns-in_err-decided-in-Node-clause-same
returns-in_err-decided-in-Node-clause-same g c = rw (c.look.ensures.inputs, c.look.ensures.settings) at c.decide_node.ensures.same

pub returns-in_ok-decided-in-Node-clause-same : goal.returns-in_ok-decided-in-Node-clause-same
returns-in_ok-decided-in-Node-clause-same g c = rw (c.look.ensures.inputs, c.look.ensures.settings) at c.decide_node.ensures.same

pub returns-in_ok-decided-in-Directory-clause-answer : goal.returns-in_ok-decided-in-Directory-clause-answer
returns-in_ok-decided-in-Directory-clause-answer g c =
    let i = c.args.self.now.inputs in
    let s = c.args.self.now.settings in
    let q : Query g.row.C-Output.Denot g.row.S-Output.Denot = record {
      modelled = all_modelled (g.G.Guard.modelled i.worktree) (g.O.Find.modelled i.objects) (g.S.SubmoduleStatus.modelled i.submodule)
          (are_modelled s.fscache (g.L.Lister.modelled i.lister));
      stat_options = s.stat;
      symlink = s.fs.symlink;
      executable_bit = s.fs.executable_bit;
      timestamp = s.timestamp;
      lstat = λ _. g.G.Guard.lstat_of i.worktree;
      opened = λ e. g.G.Guard.open_of i.worktree e.path;
      linked = λ e. g.G.Guard.target_of i.worktree e.path;
      cached = λ e. known_node s.fscache (g.L.Lister.listing i.lister) e.path;
      prefix = g.P.Pathspec.prefix i.pathspec;
      included = g.P.Pathspec.included i.pathspec;
      conversion = λ content path. g.T.ToGit.conversion i.filter content path;
      blob = λ e. g.O.Find.found i.objects e.id;
      submodule = g.S.SubmoduleStatus.status_of i.submodule;
      compared = g.C.CompareBlobs.answer i.compare;
      counted = g.C.CompareBlobs.counts_after i.compare;
    } in
    let e = entry_at (bstr_bytes c.args.path) c.args.entry.now in
    let look = c.in_ok-presence.field-0 in
    let decided = rw c.look.ensures.inputs at c.in_ok-decided-in-Directory.ensures.decided in
    λ modelled.
    let found_directory = c.in_ok-presence.ensures.look modelled in
    is_decided q e directory look.lstat_called (Some no_reads) (Ok (record c.in_ok-decided-in-Directory.decided { lstat_called = look.lstat_called })) (found_directory.0 ∙ ap found_presence c.in-Directory.is) (sym found_directory.1) (λ _. refl)
    (counted_look e.path (case_of_found q e directory) look.lstat_called (Some no_reads) c.in_ok-decided-in-Directory.decided (decided (all_submodule _ _ _ _ modelled)))

pub returns-in_err-decided-in-Directory-clause-answer : goal.returns-in_err-decided-in-Directory-clause-answer
returns-in_err-decided-in-Directory-clause-answer g c =
    let i = c.args.self.now.inputs in
    let s = c.args.self.now.settings in
    let q : Query g.row.C-Output.Denot g.row.S-Output.Denot = record {
      modelled = all_modelled (g.G.Guard.modelled i.worktree) (g.O.Find.modelled i.objects) (g.S.SubmoduleStatus.modelled i.submodule)
          (are_modelled s.fscache (g.L.Lister.modelled i.lister));
      stat_options = s.stat;
      symlink = s.fs.symlink;
      executable_bit = s.fs.executable_bit;
      timestamp = s.timestamp;
      lstat = λ _. g.G.Guard.lstat_of i.worktree;
      opened = λ e. g.G.Guard.open_of i.worktree e.path;
      linked = λ e. g.G.Guard.target_of i.worktree e.path;
      cached = λ e. known_node s.fscache (g.L.Lister.listing i.lister) e.path;
      prefix = g.P.Pathspec.prefix i.pathspec;
      included = g.P.Pathspec.included i.pathspec;
      conversion = λ content path. g.T.ToGit.conversion i.filter content path;
      blob = λ e. g.O.Find.found i.objects e.id;
      submodule = g.S.SubmoduleStatus.status_of i.submodule;
      compared = g.C.CompareBlobs.answer i.compare;
      counted = g.C.CompareBlobs.counts_after i.compare;
    } in
    let e = entry_at (bstr_bytes c.args.path) c.args.entry.now in
    let look = c.in_ok-presence.field-0 in
    let decided = rw c.look.ensures.inputs at c.in_err-decided-in-Directory.ensures.decided in
    λ modelled.
    let found_directory = c.in_ok-presence.ensures.look modelled in
    let specified = is_decided q e directory (calls_lstat q e) (Some no_reads) (Err c.in_err-decided-in-Directory.field-0.0) (found_directory.0 ∙ ap found_presence c.in-Directory.is) refl (λ _. refl) (decided (all_submodule _ _ _ _ modelled)) in
    let p = err_from_is_err_and c.from_residual-in_err-decided-in-Directory.result c.from_residual-in_err-decided-in-Directory.ensures.1 in
    rw (p.1, p.2) specified

pub returns-in_err-decided-in-Directory-clause-same : goal.returns-in_err-decided-in-Directory-clause-same
returns-in_err-decided-in-Directory-clause-same g c = rw (c.look.ensures.inputs, c.look.ensures.settings) at c.decide_directory.ensures.same

pub returns-in_ok-decided-in-Directory-clause-same : goal.returns-in_ok-decided-in-Directory-clause-same
returns-in_ok-decided-in-Directory-clause-same g c = rw (c.look.ensures.inputs, c.look.ensures.settings) at c.decide_directory.ensures.same

-- By what was seen.
pub returns-in_err-presence-clause-seen : goal.returns-in_err-presence-clause-seen
returns-in_err-presence-clause-seen g c =
    let i = c.args.self.now.inputs in
    let e = entry_at (bstr_bytes c.args.path) c.args.entry.now in
    let may : MayReturn g.row.S-Output.Denot = record { stat = g.G.Guard.may_stat i.worktree; opened = g.G.Guard.may_open i.worktree; linked = g.G.Guard.may_link i.worktree; listed = g.L.Lister.may_list i.lister; found = g.O.Find.may_find i.objects; reported = g.S.SubmoduleStatus.may_report i.submodule } in
    let free = free_view may c.args.self.now.settings.fscache e (g.met.G.Guard.stat_may_fail i.worktree) in
    let p = err_from_is_err_and c.from_residual.result c.from_residual.ensures.1 in
    rw (p.1, p.2) (∥∥₁_map c.in_err-presence.ensures.seen (seen_refused _ e may _ free _))

pub returns-in-Nothing-clause-seen : goal.returns-in-Nothing-clause-seen
returns-in-Nothing-clause-seen g c =
    let i = c.args.self.now.inputs in
    let e = entry_at (bstr_bytes c.args.path) c.args.entry.now in
    let may : MayReturn g.row.S-Output.Denot = record { stat = g.G.Guard.may_stat i.worktree; opened = g.G.Guard.may_open i.worktree; linked = g.G.Guard.may_link i.worktree; listed = g.L.Lister.may_list i.lister; found = g.O.Find.may_find i.objects; reported = g.S.SubmoduleStatus.may_report i.submodule } in
    let look = c.in_ok-presence.field-0 in
    ∥∥₁_map c.in_ok-presence.ensures.seen (λ s.
    seen_found _ e may _ look presences.Nothing c.in-Nothing.is s nothing_seen tt (λ h. absurd (cc)) (Ok c.unread.result)
    (unread_case (bstr_bytes c.args.path) gone (Some (statuses.Change changes.Removed)) look.lstat_called no_reads c.unread.result c.unread.ensures refl refl refl))

pub returns-in_ok-decided-in-Directory-clause-seen : goal.returns-in_ok-decided-in-Directory-clause-seen
returns-in_ok-decided-in-Directory-clause-seen g c =
    let i = c.args.self.now.inputs in
    let e = entry_at (bstr_bytes c.args.path) c.args.entry.now in
    let may : MayReturn g.row.S-Output.Denot = record { stat = g.G.Guard.may_stat i.worktree; opened = g.G.Guard.may_open i.worktree; linked = g.G.Guard.may_link i.worktree; listed = g.L.Lister.may_list i.lister; found = g.O.Find.may_find i.objects; reported = g.S.SubmoduleStatus.may_report i.submodule } in
    let free = free_view may c.args.self.now.settings.fscache e (g.met.G.Guard.stat_may_fail i.worktree) in
    let look = c.in_ok-presence.field-0 in
    let said = rw c.look.ensures.inputs at c.in_ok-decided-in-Directory.ensures.seen in
    ∥∥₁_map c.in_ok-presence.ensures.seen (λ s. directory_seen _ e may _ look presences.Directory c.in-Directory.is s refl free c.in_ok-decided-in-Directory.decided said)

pub returns-in_err-decided-in-Directory-clause-seen : goal.returns-in_err-decided-in-Directory-clause-seen
returns-in_err-decided-in-Directory-clause-seen g c =
    let i = c.args.self.now.inputs in
    let e = entry_at (bstr_bytes c.args.path) c.args.entry.now in
    let may : MayReturn g.row.S-Output.Denot = record { stat = g.G.Guard.may_stat i.worktree; opened = g.G.Guard.may_open i.worktree; linked = g.G.Guard.may_link i.worktree; listed = g.L.Lister.may_list i.lister; found = g.O.Find.may_find i.objects; reported = g.S.SubmoduleStatus.may_report i.submodule } in
    let free = free_view may c.args.self.now.settings.fscache e (g.met.G.Guard.stat_may_fail i.worktree) in
    let look = c.in_ok-presence.field-0 in
    let said = rw c.look.ensures.inputs at c.in_err-decided-in-Directory.ensures.seen in
    let p = err_from_is_err_and c.from_residual-in_err-decided-in-Directory.result c.from_residual-in_err-decided-in-Directory.ensures.1 in
    rw (p.1, p.2) (∥∥₁_map c.in_ok-presence.ensures.seen (λ s. directory_refused _ e may _ look presences.Directory c.in-Directory.is s refl free c.in_err-decided-in-Directory.field-0.0 said))

pub returns-in_ok-decided-in-Node-clause-seen : goal.returns-in_ok-decided-in-Node-clause-seen
returns-in_ok-decided-in-Node-clause-seen g c =
    let i = c.args.self.now.inputs in
    let look = c.in_ok-presence.field-0 in
    let e = entry_at (bstr_bytes c.args.path) c.args.entry.now in
    let n = c.in-Node.node in
    let said = rw (c.look.ensures.inputs, c.look.ensures.settings) at c.in_ok-decided-in-Node.ensures.seen in
    let q = viewed c.args.self.now.settings (g.T.ToGit.conversion i.filter) (g.C.CompareBlobs.answer i.compare) (g.C.CompareBlobs.counts_after i.compare) said.view in
    ∥∥₁_map c.in_ok-presence.ensures.seen (λ s.
    seen_found _ _ _ _ look (presences.Node n) c.in-Node.is s said.view said.allowed (λ h. absurd (cc)) (Ok (record c.in_ok-decided-in-Node.decided { lstat_called = look.lstat_called }))
    (counted_look e.path (case_of_found q e (present n)) look.lstat_called (counted_of q e n) c.in_ok-decided-in-Node.decided (said.decided refl)))

pub returns-in_err-decided-in-Node-clause-seen : goal.returns-in_err-decided-in-Node-clause-seen
returns-in_err-decided-in-Node-clause-seen g c =
    let look = c.in_ok-presence.field-0 in
    let n = c.in-Node.node in
    let said = rw (c.look.ensures.inputs, c.look.ensures.settings) at c.in_err-decided-in-Node.ensures.seen in
    let p = err_from_is_err_and c.from_residual-in_err-decided-in-Node.result c.from_residual-in_err-decided-in-Node.ensures.1 in
    rw (p.1, p.2) (∥∥₁_map c.in_ok-presence.ensures.seen (λ s.
    seen_found _ _ _ _ look (presences.Node n) c.in-Node.is s said.view said.allowed (λ h. absurd (cc)) (Err c.in_err-decided-in-Node.field-0.0) (said.decided refl)))

-- The node was met.
pub decide_node-requires : goal.decide_node-requires
decide_node-requires g c =
    record { met = rw (c.look.ensures.inputs, c.look.ensures.settings) (node_met _ c.in_ok-presence.field-0.presence c.in-Node.node c.in-Node.is c.in_ok-presence.ensures.met) }
