-- A run's reading of a node, if no fault is planted.
use Rattle.std.proofs.Common.{◌≡◌, ◌∙◌, refl, ap, ℕ, Bool, true, false, List, length, Option, Some, None, Result, Err, IsTrue}
use Rattle.std.specs.FinMap as paths
use Rattle.std.specs.Ordering.{nat_cmp}
use Rattle.std.specs.Cmp.Lexicographic.{slice_cmp}
use Rattle.status_index.specs.Content.{Content}
use Rattle.status_index.specs.Entries.{IndexEntry}
use Rattle.status_index.specs.Mode.{new_mode}
use Rattle.status_index.specs.declared.fault.Fault.{Fault}
use Rattle.status_index.specs.declared.stat.NodeKind.{NodeKind}
use Rattle.status_index.specs.declared.stat.NodeKind.TheVariants.{File, Link, Directory, Other}
use Rattle.status_base.specs.Conversions.{Conversion, same}
use Rattle.status_base.specs.MemoryTree.{Tree, Placed, Planted, planted_or_none, or_planted, content_of, planted_content, open_of_kind, target_of_kind, fault_without_node, open_of_node, target_of_node, open_in, target_in}
use Rattle.status_base.proofs.PlantedReads.{entries-empty}
use Rattle.status_compare.specs.FastAgrees.{IsWholly}
use Rattle.status_compare.specs.Reading.{node_reading}
use Rattle.status_call.specs.Status.{reading, reads_link}
use Rattle.status_compare.specs.declared.compare.Comparer.{Comparer}
use Rattle.status_world.specs.StampedWorld.{StampedWorld, node_at, query_of, is_stored_kind}

-- Opening a file and reading a link, by the planted faults and the node.
abbrev open_by : Tree → List ℕ → Option Planted → Option Placed → Result Content Fault
open_by tree path p (Some n) = or_planted (planted_or_none p).opening (open_of_kind (planted_content n.bytes (planted_or_none p)) n.metadata.kind)
open_by tree path p None = or_planted (planted_or_none p).opening (Err (fault_without_node tree path))

abbrev target_by : Tree → List ℕ → Option Planted → Option Placed → Result (List ℕ) Fault
target_by tree path p (Some n) = or_planted (planted_or_none p).read_link (target_of_kind n.bytes n.metadata.kind)
target_by tree path p None = or_planted (planted_or_none p).read_link (Err (fault_without_node tree path))

open_is : (tree : Tree) (path : List ℕ) (n : Option Placed) → paths.get tree.nodes path ≡ n → open_in tree path ≡ open_by tree path (paths.get tree.planted path) n
open_is tree path (Some n) e = ap (λ o. or_planted (planted_or_none (paths.get tree.planted path)).opening (open_of_node tree path o)) e
open_is tree path None e = ap (λ o. or_planted (planted_or_none (paths.get tree.planted path)).opening (open_of_node tree path o)) e

target_is : (tree : Tree) (path : List ℕ) (n : Option Placed) → paths.get tree.nodes path ≡ n → target_in tree path ≡ target_by tree path (paths.get tree.planted path) n
target_is tree path (Some n) e = ap (λ o. or_planted (planted_or_none (paths.get tree.planted path)).read_link (target_of_node tree path o)) e
target_is tree path None e = ap (λ o. or_planted (planted_or_none (paths.get tree.planted path)).read_link (target_of_node tree path o)) e

none_planted : (tree : Tree) (path : List ℕ) → tree.planted ≡ paths.empty → paths.get tree.planted path ≡ None
none_planted tree path e = ap (λ m. paths.get m path) e ∙ paths.get-empty (slice_cmp nat_cmp) path

-- A node is opened, or read as a link, as its kind allows.
pub opened_node : (tree : Tree) (path : List ℕ) (n : Placed) → tree.planted ≡ paths.empty → paths.get tree.nodes path ≡ Some n
    → open_in tree path ≡ open_of_kind (record { bytes = n.bytes; fault = None }) n.metadata.kind
opened_node tree path n unplanted there =
    open_is tree path (Some n) there ∙ ap (λ p. open_by tree path p (Some n)) (none_planted tree path unplanted)
    ∙ ap (λ reads. open_of_kind (content_of n.bytes reads) n.metadata.kind) (entries-empty nat_cmp Fault)

pub linked_node : (tree : Tree) (path : List ℕ) (n : Placed) → tree.planted ≡ paths.empty → paths.get tree.nodes path ≡ Some n
    → target_in tree path ≡ target_of_kind n.bytes n.metadata.kind
linked_node tree path n unplanted there = target_is tree path (Some n) there ∙ ap (λ p. target_by tree path p (Some n)) (none_planted tree path unplanted)

abbrev no_conversion : Content → Conversion
no_conversion content = same

-- If mode and node are of the same kind, the whole node is read.
whole_of_kind : (k : NodeKind) (x sx : Bool) (bytes : List ℕ) (len : ℕ) → IsTrue (is_stored_kind k) → len ≡ length bytes
    → IsWholly bytes (node_reading (reads_link true (new_mode x k sx) k) no_conversion len (open_of_kind (record { bytes = bytes; fault = None }) k) (target_of_kind bytes k))
whole_of_kind File true true bytes len p e = (refl, ap Some e)
whole_of_kind File true false bytes len p e = (refl, ap Some e)
whole_of_kind File false true bytes len p e = (refl, ap Some e)
whole_of_kind File false false bytes len p e = (refl, ap Some e)
whole_of_kind Link x sx bytes len p e = refl
whole_of_kind Directory x sx bytes len p e = absurd (cc)
whole_of_kind Other x sx bytes len p e = absurd (cc)

-- A run reads the whole node if the entry is of its kind.
pub whole_reading : (w : StampedWorld) (c : Comparer) (e : IndexEntry) (n : Placed) (executable : Bool) → w.tree.planted ≡ paths.empty → node_at w e.path ≡ Some n
    → IsTrue (is_stored_kind n.metadata.kind) → n.metadata.len ≡ length n.bytes → e.mode ≡ new_mode w.executable_bit n.metadata.kind executable
    → IsWholly n.bytes (reading (query_of w c) e n.metadata)
whole_reading w c e n executable unplanted there kind len mode =
    rw (mode, opened_node w.tree e.path n unplanted there, linked_node w.tree e.path n unplanted there)
    (whole_of_kind n.metadata.kind w.executable_bit executable n.bytes n.metadata.len kind len)
