use Rattle.std.proofs.Common.{◌≡◌, Result, OnOk, sym, subst}
use Rattle.std.specs.FinMap as paths
use Rattle.std.specs.declared.alloc.AllocError.{AllocError}
use Rattle.bstr.specs.Owned.{bstring_bytes}
use Rattle.status_base.specs.PathTables.{map_of}
use Rattle.status_base.proofs.ListingTables.{map-insert}
use Rattle.status_base.proofs.fscache.names.Names.put.Goals as goal
use Rattle.status_base.proofs.fscache.names.Names.put.Goals.{in-Ok, in-Err}

pub returns : goal.returns
returns c =
    let old = c.self.inside.stats.entries in let new = c.insert.new.self.entries in
    let to : Result (Unit {0}) AllocError → Type 0 = λ r. OnOk r (map_of new ≡ paths.insert c.args.self.now (bstring_bytes c.args.name) c.args.stat) in
    elim c.match-insert.branch [
      | in-Ok w ↦ subst to (sym w.result-is) (map-insert old new _ _ _ c.args.stat c.self.view_is c.into_vec.ensures w.in-Ok.ensures.updates.1 w.in-Ok.ensures.updates.3)
      | in-Err w ↦ subst to (sym w.result-is) tt
    ]
