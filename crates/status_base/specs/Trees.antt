-- The empty tree, and how a tree is encoded.
use Rattle.std.specs.Prelude.{ℕ, List, Option, refl}
use Rattle.std.specs.Coded.{Coded, code_by, coded×, coded_ℕ, coded_list, coded_option}
use Rattle.std.specs.Ordering.{nat_cmp}
use Rattle.std.specs.FinMap as map
use Rattle.status_index.specs.contracts.fault.Fault as fault
use Rattle.status_index.specs.contracts.stat.Metadata as metadata
use Rattle.status_index.specs.declared.fault.Fault.{Fault}
use Rattle.status_index.specs.declared.stat.Metadata.{Metadata}
use Rattle.status_base.specs.MemoryTree.{Placed, Planted, PathMap, Tree}

-- A worktree in memory has nodes by path, and faults planted at calls of a path, which come first. The empty tree has neither.
abbrev pub empty_tree : Tree
empty_tree = record { nodes = map.empty; planted = map.empty }

abbrev pub fault_code : Coded Fault
fault_code = fault.the_row.coded

abbrev pub placed_code : Coded Placed
placed_code =
    code_by (Metadata × List ℕ) (coded× metadata.the_row.coded (coded_list coded_ℕ)) (λ p. (p.metadata, p.bytes)) (λ p. record { metadata = p.0; bytes = p.1 }) (λ _. refl)

abbrev pub planted_code : Coded Planted
planted_code =
    code_by (Option Fault × (Option Fault × (Option Fault × map.FinMap nat_cmp Fault)))
    (coded× (coded_option fault_code) (coded× (coded_option fault_code) (coded× (coded_option fault_code) (map.code coded_ℕ fault_code))))
    (λ p. (p.lstat, (p.opening, (p.read_link, p.reads)))) (λ p. record { lstat = p.0; opening = p.1.0; read_link = p.1.1.0; reads = p.1.1.1 }) (λ _. refl)

abbrev pub tree_code : Coded Tree
tree_code =
    code_by (PathMap Placed × PathMap Planted)
    (coded× (map.code (coded_list coded_ℕ) placed_code) (map.code (coded_list coded_ℕ) planted_code))
    (λ t. (t.nodes, t.planted)) (λ p. record { nodes = p.0; planted = p.1 }) (λ _. refl)
