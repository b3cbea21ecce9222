use Rattle.std.proofs.Common.{◌∙◌, subst}
use Rattle.status_index.specs.States.{index_of}
use Rattle.status_index.specs.Stretch.{IsPrefixed}
use Rattle.git_untracked.proofs.Ranges.{found_below}
use Rattle.git_untracked.proofs.request.has_below.Goals as goal

pub returns : goal.returns
returns c =
    let es = index_of c.args.index.now in
    c.is_some.ensures
    ∙ found_below c.args.folder.now es c.prefixed_entries_range.result c.requires
    (subst (λ folder. IsPrefixed es folder c.prefixed_entries_range.result) c.new.ensures c.prefixed_entries_range.ensures)
