use Rattle.std.proofs.Common.{map, subst}
use Rattle.std.specs.Prelude.{IfOk}
use Rattle.std.proofs.lemmas.Result.{IfOk-weaker}
use Rattle.status_rewrites.specs.Buckets.{ArePairsOf}
use Rattle.status_rewrites.specs.IdentityPairs.{AreIdentityPairs}
use Rattle.status_rewrites.specs.Renames.{AreRenames}
use Rattle.status_rewrites.proofs.LawfulPairs.{identity_pairs_are_lawful}
use Rattle.status_rewrites.proofs.Rows.{pairs_from_join}
use Rattle.status_rewrites.proofs.tracker.identity_pairs.Goals as goal

pub returns-clause-pairs : goal.returns-clause-pairs
returns-clause-pairs g c =
    let xs = map g.C.Change.changed c.args.items.now in
    let ordered = c.put_in_path_order.new.seen.items in
    IfOk-weaker c.side_pairs.result (λ pairs. ArePairsOf c.args.track_empty ordered pairs.items) (λ pairs. AreIdentityPairs c.args.track_empty xs pairs.items)
    (λ pairs p. pairs_from_join c.args.track_empty xs c.in_ok-seen.seen.items ordered p.gone p.came pairs.items
    c.in_ok-seen.ensures c.put_in_path_order.ensures.bag c.in_ok-put_in_path_order.ensures.ascends p.gone_rows p.came_rows p.join)
    (subst (λ v. IfOk c.side_pairs.result (λ pairs. ArePairsOf c.args.track_empty v pairs.items)) c.deref.ensures.value c.side_pairs.ensures)

pub returns-clause-lawful : goal.returns-clause-lawful
returns-clause-lawful g c =
    let xs = map g.C.Change.changed c.args.items.now in
    IfOk-weaker c.side_pairs.result (λ pairs. AreIdentityPairs c.args.track_empty xs pairs.items) (λ pairs. AreRenames xs pairs.items)
    (λ pairs p. identity_pairs_are_lawful c.args.track_empty xs pairs.items p)
    (returns-clause-pairs g c)
