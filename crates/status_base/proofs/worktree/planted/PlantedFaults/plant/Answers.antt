use Rattle.std.proofs.Common.{ap, sym, ◌∙◌}
use Rattle.std.specs.FinMap as reads
use Rattle.status_base.specs.MemoryTree.{Planted}
use Rattle.status_base.specs.Points.{with_fault}
use Rattle.status_base.proofs.PlantedReads.{reads-insert}
use Rattle.status_base.proofs.worktree.planted.PlantedFaults.plant.Goals as goal

pub returns-in-Ok-clause-ok : goal.returns-in-Ok-clause-ok
returns-in-Ok-clause-ok c =
    let planted = c.args.self.now in let old = c.self.inside.reads.entries in let new = c.insert.new.self.entries in
    ap (λ (p : Planted). record p { reads = reads.from_entries new }) c.self.view_is
    ∙ ap (λ m. record planted { reads = m }) (reads-insert old new planted.reads c.in-Read.count c.args.fault (ap (λ (p : Planted). p.reads) c.self.view_is) c.in-Ok.ensures.updates.0)
    ∙ sym (ap (λ q. with_fault planted q c.args.fault) c.in-Read.is)
