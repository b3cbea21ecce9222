use Rattle.status_index.specs.States.{index_of}
use Rattle.git_untracked.specs.Lines.{paths_of}
use Rattle.git_untracked.specs.Questions.{is_settled}
use Rattle.git_untracked.specs.Requests.{Thins}
use Rattle.git_untracked.proofs.request.unsettled.Given as goal

abbrev pub invariant-loop-name : goal.invariant-loop-name
invariant-loop-name g l =
    Thins (λ path. is_settled (g.P.Selection.leads l.paths path) (index_of l.index) path) l.folder (paths_of l.yielded) (paths_of l.thin.items)
