use Rattle.status_base.specs.ListedNodes.{known_node}
use Rattle.status_call.specs.Modelled.{all_modelled, are_modelled}
use Rattle.status_call.proofs.index_as_worktree.inputs.InputsAsk.another.Goals as goal

pub returns-clause-same : goal.returns-clause-same
returns-clause-same g c =
    let i = c.args.self.now in
    let compare = c.in_ok-clone.ensures.cases in
    let submodule = c.in_ok-clone-2.ensures.cases in
    let objects = c.in_ok-clone-3.ensures.cases in
    let pathspec = c.in_ok-clone-4.ensures.cases in
    let filter = c.in_ok-clone-5.ensures.cases in
    let lister = c.in_ok-clone-6.ensures.cases in
    λ k settings. record {
      modelled = all_modelled (g.G.Guard.modelled i.worktree) (g.met.O.Find.clone_keeps_modelled i.objects c.in_ok-clone-3.field-0 objects k) (g.met.S.SubmoduleStatus.clone_keeps_modelled i.submodule c.in_ok-clone-2.field-0 submodule k)
          (are_modelled settings.fscache (g.met.L.Lister.clone_keeps_modelled i.lister c.in_ok-clone-6.field-0 lister k));
      stat_options = settings.stat;
      symlink = settings.fs.symlink;
      executable_bit = settings.fs.executable_bit;
      timestamp = settings.timestamp;
      lstat = λ _. g.G.Guard.lstat_of i.worktree;
      opened = λ e. g.G.Guard.open_of i.worktree e.path;
      linked = λ e. g.G.Guard.target_of i.worktree e.path;
      cached = λ e. known_node settings.fscache (g.met.L.Lister.clone_keeps_listing i.lister c.in_ok-clone-6.field-0 lister k) e.path;
      prefix = g.met.P.Pathspec.clone_keeps_prefix i.pathspec c.in_ok-clone-4.field-0 pathspec k;
      included = g.met.P.Pathspec.clone_keeps_included i.pathspec c.in_ok-clone-4.field-0 pathspec k;
      conversion = λ content path. g.met.T.ToGit.clone_keeps_conversion i.filter c.in_ok-clone-5.field-0 filter k content path;
      blob = λ e. g.met.O.Find.clone_keeps_found i.objects c.in_ok-clone-3.field-0 objects k e.id;
      submodule = g.met.S.SubmoduleStatus.clone_keeps_status i.submodule c.in_ok-clone-2.field-0 submodule k;
      compared = g.met.C.CompareBlobs.clone_keeps_answer i.compare c.in_ok-clone.field-0 compare k;
      counted = g.met.C.CompareBlobs.clone_keeps_counts i.compare c.in_ok-clone.field-0 compare k;
    }
