use Rattle.std.proofs.Common.{◌∙◌, sym, ap}
use Rattle.std.specs.List.{list_any}
use Rattle.status_index.specs.Mode.{is_submodule}
use Rattle.status_index.specs.States.{backing_of}
use Rattle.status_walk.proofs.Presence.{any-stored}
use Rattle.status_walk.proofs.untracked.is_submodule.Goals as goal

pub returns : goal.returns
returns c =
    c.has_submodule.ensures ∙ sym (any-stored (backing_of c.args.index.now) c.entries_at.result.now)
    ∙ ap (list_any (λ e. is_submodule e.mode)) c.entries_at.ensures
