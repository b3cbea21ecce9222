use Rattle.std.proofs.Common.{◌∙◌, sym, ap}
use Rattle.std.specs.List.{list_any}
use Rattle.status_index.specs.States.{backing_of}
use Rattle.git_untracked.specs.Questions.{settles}
use Rattle.git_untracked.proofs.Settled.{stored_settles}
use Rattle.git_untracked.proofs.request.is_settled.Goals as goal

pub returns : goal.returns
returns c =
    let entries = c.entries_at.result.now in
    c.any_settles.ensures ∙ (sym (stored_settles (backing_of c.args.index.now) c.args.wanted entries) ∙ ap (list_any (settles c.args.wanted)) c.entries_at.ensures)
