use Rattle.std.proofs.Common.{◌≡◌, Result, OnOk, sym, subst}
use Rattle.std.specs.FinMap as paths
use Rattle.std.specs.declared.alloc.AllocError.{AllocError}
use Rattle.status_base.specs.PathTables.{map_of}
use Rattle.status_base.proofs.ListingTables.{map-insert}
use Rattle.status_base.proofs.fscache.listings.Listings.put.Goals as goal
use Rattle.status_base.proofs.fscache.listings.Listings.put.Goals.{in-Ok+in-Some-1, in-Ok+in-None-1, in-Err}

pub returns-clause-ok : goal.returns-clause-ok
returns-clause-ok c =
    let old = c.self.inside.directories.entries in let new = c.insert.new.self.entries in
    let to : Result (Unit {0}) AllocError → Type 0 = λ r. OnOk r (map_of new ≡ paths.insert c.args.self.now c.args.directory.now c.args.names) in
    elim c.match-insert.branch [
      | in-Ok+in-Some-1 w ↦ subst to (sym w.result-is) (map-insert old new _ _ _ c.args.names c.self.view_is c.in_ok-key.ensures.items w.in-Ok.ensures.updates.1 w.in-Ok.ensures.updates.3)
      | in-Ok+in-None-1 w ↦ subst to (sym w.result-is) (map-insert old new _ _ _ c.args.names c.self.view_is c.in_ok-key.ensures.items w.in-Ok.ensures.updates.1 w.in-Ok.ensures.updates.3)
      | in-Err w ↦ subst to (sym w.result-is) tt
    ]
