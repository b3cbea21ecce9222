-- A map whose keys are bytes, as a map from paths.
use Rattle.std.specs.Prelude.{ℕ, List, map}
use Rattle.std.specs.Coded.{Coded, coded_ℕ, coded_list}
use Rattle.std.specs.FinMap as paths
use Rattle.std.specs.Global.{Vec}
use Rattle.status_base.specs.MemoryTree.{PathMap}
use Rattle.status_base.specs.ListingTable.{Names, Table}
use Rattle.status_base.specs.contracts.fscache.Stat as stat

abbrev pub names_code : Coded Names
names_code = paths.code (coded_list coded_ℕ) stat.the_row.coded

abbrev pub table_code : Coded Table
table_code = paths.code (coded_list coded_ℕ) names_code

abbrev pub keyed : {V : Type 0} → List (Vec ℕ × V) → List (List ℕ × V)
keyed = map (λ e. (e.0.items, e.1))

-- The map from paths, from the entries of a map whose keys are bytes.
abbrev pub map_of : {V : Type 0} → List (Vec ℕ × V) → PathMap V
map_of entries = paths.from_entries (keyed entries)
