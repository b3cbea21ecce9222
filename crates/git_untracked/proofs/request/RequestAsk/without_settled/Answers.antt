use Rattle.status_index.specs.States.{index_of}
use Rattle.git_untracked.specs.Lines.{paths_of}
use Rattle.git_untracked.specs.Questions.{Question, is_passed_over, is_settled}
use Rattle.git_untracked.proofs.Thinning.{settled_passed, thins_all, thins_as}
use Rattle.git_untracked.proofs.request.RequestAsk.without_settled.Goals as goal

pub returns-then-self : goal.returns-then-self
returns-then-self g c = thins_all _ c.args.folder.now (paths_of c.args.names.items)

pub returns-in_ok-thin-in-Some : goal.returns-in_ok-thin-in-Some
returns-in_ok-thin-in-Some g c =
    let r = c.args.self.now in
    let q : Question = record {
      index = index_of r.index.now;
      all = r.all;
      ignored = r.ignored;
      selects = g.P.Selection.selects r.paths.now;
      reaches = g.P.Selection.reaches r.paths.now;
      leads = g.P.Selection.leads r.paths.now;
      may_list = g.F.Folders.may_list r.folders.now;
      may_be = g.F.Folders.may_be r.folders.now;
      may_ignore = g.F.Folders.may_ignore r.folders.now;
      may_nest = g.F.Folders.may_nest r.folders.now;
    } in
    thins_as (λ path. is_settled (q.leads path) q.index path) c.args.folder.now (is_passed_over q) (settled_passed q c.if-self.false c.if-self-2.false)
    (paths_of c.args.names.items) (paths_of c.in_ok-thin-in-Some.thin.items) c.in_ok-thin-in-Some.ensures

pub returns-in-None : goal.returns-in-None
returns-in-None g c = thins_all _ c.args.folder.now (paths_of c.args.names.items)
