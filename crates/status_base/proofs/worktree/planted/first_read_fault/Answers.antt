use Rattle.std.proofs.Common.{slice_get, ap, sym, ◌∙◌}
use Rattle.std.specs.FinMap as reads
use Rattle.std.specs.Option.{option_map}
use Rattle.status_base.specs.MemoryTree.{planted_or_none}
use Rattle.status_base.proofs.PlantedReads.{none_first}
use Rattle.status_base.proofs.worktree.planted.first_read_fault.Goals as goal

pub returns-in_err-planted : goal.returns-in_err-planted
returns-in_err-planted c =
    c.from_residual.ensures ∙ sym (ap (λ o. slice_get (reads.entries (planted_or_none (option_map (λ p. p.now) o)).reads) 0) c.in_err-planted.was ∙ none_first)
