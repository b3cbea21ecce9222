use Rattle.std.proofs.Common.{rules, ◌≡◌, ℕ, Bool, List, sym, subst}
use Rattle.std.proofs.lemmas.Result.{err_from_is_err_and}
use Rattle.bstr.specs.BStr.{bstr_bytes}
use Rattle.status_index.specs.declared.stat.Metadata.{Metadata}
use Rattle.status_base.specs.ListedNodes.{known_node}
use Rattle.status_base.specs.Looked.{IsLookedAt, kind_read}
use Rattle.status_base.specs.Sights.{MayStat}
use Rattle.status_compare.specs.EntryReadings.{entry_readings}
use Rattle.status_call.specs.EntryParts.{candidate_entry}
use Rattle.status_call.specs.Modelled.{all_modelled, are_modelled}
use Rattle.status_call.proofs.ContentViews.{changed_view, failed_view}
use Rattle.status_call.proofs.EntryCases.{all_specified}
use Rattle.status_call.proofs.index_as_worktree.content.compare_node.Goals as goal

-- The node was met as one of the kind that is read.
read : {may : MayStat} {listed : Bool} {path : List ℕ} {n : Metadata} {is_link links : Bool} → is_link ≡ links → IsLookedAt may listed path n (kind_read links) → IsLookedAt may listed path n (kind_read is_link)
read {may} {listed} {path} {n} same looked = subst (λ (b : Bool). IsLookedAt may listed path n (kind_read b)) (sym same) looked

pub reader_of-reader-requires : goal.reader_of-reader-requires
reader_of-reader-requires g c = record { looked = read c.reads_link-is_link.ensures c.requires.looked }

pub returns-in_err-change-clause-compared : goal.returns-in_err-change-clause-compared
returns-in_err-change-clause-compared g c = λ modelled.
    let i = c.args.inputs.now in
    let path = bstr_bytes c.args.candidate.now.path in
    let specified = entry_readings c.reads_link-is_link.result (λ x. g.T.ToGit.conversion i.filter x path) c.args.candidate.now.node.len
    (g.G.Guard.open_of i.worktree path) (g.G.Guard.target_of i.worktree path) (g.O.Find.found i.objects c.args.candidate.now.entry.now.id) in
    let some = all_specified (g.G.Guard.modelled i.worktree) (g.O.Find.modelled i.objects) (g.S.SubmoduleStatus.modelled i.submodule)
    (are_modelled c.args.settings.fscache (g.L.Lister.modelled i.lister)) specified modelled in
    let answer = rw (c.reader_of-reader.ensures (read c.reads_link-is_link.ensures c.requires.looked), some) at (c.in_err-change.ensures.answer path) in
    search rules

pub returns-in_err-change-clause-same : goal.returns-in_err-change-clause-same
returns-in_err-change-clause-same g c =
    let i = c.args.inputs.now in
    λ k settings. record {
      modelled = all_modelled (g.G.Guard.modelled i.worktree) (g.O.Find.modelled i.objects) (g.S.SubmoduleStatus.modelled i.submodule)
          (are_modelled settings.fscache (g.L.Lister.modelled i.lister));
      stat_options = settings.stat;
      symlink = settings.fs.symlink;
      executable_bit = settings.fs.executable_bit;
      timestamp = settings.timestamp;
      lstat = λ _. g.G.Guard.lstat_of i.worktree;
      opened = λ e. g.G.Guard.open_of i.worktree e.path;
      linked = λ e. g.G.Guard.target_of i.worktree e.path;
      cached = λ e. known_node settings.fscache (g.L.Lister.listing i.lister) e.path;
      prefix = g.P.Pathspec.prefix i.pathspec;
      included = g.P.Pathspec.included i.pathspec;
      conversion = λ content path. g.T.ToGit.conversion i.filter content path;
      blob = λ e. g.O.Find.found i.objects e.id;
      submodule = g.S.SubmoduleStatus.status_of i.submodule;
      compared = c.compare_blobs.ensures.same_answer k;
      counted = c.compare_blobs.ensures.same_counts k;
    }

pub returns-in_err-change-clause-seen : goal.returns-in_err-change-clause-seen
returns-in_err-change-clause-seen g c =
    let i = c.args.inputs.now in
    let e = candidate_entry c.args.candidate.now in
    let p = err_from_is_err_and c.from_residual.result c.from_residual.ensures.1 in
    let seen = rw (c.reader_of-reader.ensures (read c.reads_link-is_link.ensures c.requires.looked)) at (c.in_err-change.ensures.seen e.path) in
    rw (p.1, p.2) (failed_view _ c.args.settings (g.T.ToGit.conversion i.filter) (g.C.CompareBlobs.answer i.compare) (g.C.CompareBlobs.counts_after i.compare) e c.args.candidate.now.node
    c.reads_link-is_link.result c.reads_link-is_link.ensures c.in_err-change.field-0.0 _ seen)

pub returns-clause-seen : goal.returns-clause-seen
returns-clause-seen g c =
    let i = c.args.inputs.now in
    let e = candidate_entry c.args.candidate.now in
    let seen = rw (c.reader_of-reader.ensures (read c.reads_link-is_link.ensures c.requires.looked)) at (c.in_ok-change.ensures.seen e.path) in
    changed_view _ c.args.settings (g.T.ToGit.conversion i.filter) (g.C.CompareBlobs.answer i.compare) (g.C.CompareBlobs.counts_after i.compare) e c.args.candidate.now.node
    c.reads_link-is_link.result c.reads_link-is_link.ensures c.in_ok-change.change _ seen

pub returns-clause-compared : goal.returns-clause-compared
returns-clause-compared g c = λ modelled.
    let i = c.args.inputs.now in
    let path = bstr_bytes c.args.candidate.now.path in
    let specified = entry_readings c.reads_link-is_link.result (λ x. g.T.ToGit.conversion i.filter x path) c.args.candidate.now.node.len
    (g.G.Guard.open_of i.worktree path) (g.G.Guard.target_of i.worktree path) (g.O.Find.found i.objects c.args.candidate.now.entry.now.id) in
    let some = all_specified (g.G.Guard.modelled i.worktree) (g.O.Find.modelled i.objects) (g.S.SubmoduleStatus.modelled i.submodule)
    (are_modelled c.args.settings.fscache (g.L.Lister.modelled i.lister)) specified modelled in
    let answer = rw (c.reader_of-reader.ensures (read c.reads_link-is_link.ensures c.requires.looked), some) at (c.in_ok-change.ensures.answer path) in
    let counts = rw (c.reader_of-reader.ensures (read c.reads_link-is_link.ensures c.requires.looked), some) at (c.in_ok-change.ensures.counts path) in
    search rules

pub returns-clause-same : goal.returns-clause-same
returns-clause-same g c =
    let i = c.args.inputs.now in
    λ k settings. record {
      modelled = all_modelled (g.G.Guard.modelled i.worktree) (g.O.Find.modelled i.objects) (g.S.SubmoduleStatus.modelled i.submodule)
          (are_modelled settings.fscache (g.L.Lister.modelled i.lister));
      stat_options = settings.stat;
      symlink = settings.fs.symlink;
      executable_bit = settings.fs.executable_bit;
      timestamp = settings.timestamp;
      lstat = λ _. g.G.Guard.lstat_of i.worktree;
      opened = λ e. g.G.Guard.open_of i.worktree e.path;
      linked = λ e. g.G.Guard.target_of i.worktree e.path;
      cached = λ e. known_node settings.fscache (g.L.Lister.listing i.lister) e.path;
      prefix = g.P.Pathspec.prefix i.pathspec;
      included = g.P.Pathspec.included i.pathspec;
      conversion = λ content path. g.T.ToGit.conversion i.filter content path;
      blob = λ e. g.O.Find.found i.objects e.id;
      submodule = g.S.SubmoduleStatus.status_of i.submodule;
      compared = c.compare_blobs.ensures.same_answer k;
      counted = c.compare_blobs.ensures.same_counts k;
    }
