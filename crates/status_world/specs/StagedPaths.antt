-- The staged files and links, as a map by path.
use Rattle.std.specs.Prelude.{ℕ, Bool, List, map, refl}
use Rattle.std.specs.Coded.{Coded, code_by, coded×, coded_ℕ, coded_bool, coded_list}
use Rattle.std.specs.FinMap as paths
use Rattle.std.specs.Global.{Vec}
use Rattle.status_index.specs.contracts.stat.NodeKind as node_kind
use Rattle.status_index.specs.declared.stat.NodeKind.{NodeKind}
use Rattle.status_base.specs.MemoryTree.{PathMap}
use Rattle.status_world.specs.declared.world.staging.Staged.{Staged}
use Rattle.status_world.specs.PlainWorld.{Plain}

abbrev pub plain_code : Coded Plain
plain_code =
    code_by (NodeKind × (List ℕ × Bool)) (coded× node_kind.the_row.coded (coded× (coded_list coded_ℕ) coded_bool))
    (λ p. (p.kind, (p.bytes, p.executable))) (λ p. record { kind = p.0; bytes = p.1.0; executable = p.1.1 }) (λ _. refl)

abbrev pub staged_code : Coded (PathMap Plain)
staged_code = paths.code (coded_list coded_ℕ) plain_code

-- A staged file or link, as a plain value.
abbrev pub plain_staged : Staged → Plain
plain_staged s = record { kind = s.kind; bytes = s.bytes.items; executable = s.executable }

abbrev pub staged_entries : List (Vec ℕ × Staged) → List (List ℕ × Plain)
staged_entries = map (λ e. (e.0.items, plain_staged e.1))

-- The staged files and links, by the entries of the map.
abbrev pub staged_of : List (Vec ℕ × Staged) → PathMap Plain
staged_of entries = paths.from_entries (staged_entries entries)
