use Rattle.std.proofs.Common.{◌∙◌, refl, ap}
use Rattle.std.proofs.lemmas.List.Filters.{dedup_is}
use Rattle.git_untracked.specs.Lines.{paths_of}
use Rattle.git_untracked.proofs.Ordering.{dedup_stored}
use Rattle.git_untracked.proofs.lines.remove_repeated.Goals as goal

pub returns : goal.returns
returns c = ap paths_of (dedup_is _ c.args.paths.now.items _ c.dedup.ensures.filtered) ∙ dedup_stored _ (λ a b. refl) c.args.paths.now.items
