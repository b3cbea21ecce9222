use Rattle.std.proofs.Common.{slice_get, ap, sym, ◌∙◌}
use Rattle.status_base.specs.MemoryTree.{Planted}
use Rattle.status_base.proofs.PlantedReads.{first_read}
use Rattle.status_base.proofs.worktree.planted.PlantedFaults.first_read.Goals as goal

pub returns-in_err-count : goal.returns-in_err-count
returns-in_err-count c =
    c.from_residual.ensures ∙ ap (λ es. slice_get es 0) (sym c.in_err-count.ensures.steps.0 ∙ c.iter.ensures.rest)
    ∙ first_read c.self.inside.reads.entries c.args.self.now.reads c.iter.ensures.ordered (ap (λ (p : Planted). p.reads) c.self.view_is)

pub returns : goal.returns
returns c =
    ap (λ es. slice_get es 0) (sym c.in_ok-count.ensures.steps ∙ c.iter.ensures.rest)
    ∙ first_read c.self.inside.reads.entries c.args.self.now.reads c.iter.ensures.ordered (ap (λ (p : Planted). p.reads) c.self.view_is)
