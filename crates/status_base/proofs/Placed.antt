-- Maps from paths to nodes and to planted faults as a tree.
use Rattle.std.proofs.Common.{◌≡◌, ℕ, Bool, true, false, cond, ◌&&◌, ◌||◌, List, [], ◌∷◌, Option, Some, None, Result, Ok, Err, OnOk, OnErr, refl, sym, ap, ◌∙◌, if◌then◌else◌}
use Rattle.std.specs.Option.{option_map, unwrap_or}
use Rattle.std.specs.Ordering.{nat_cmp, eq_by_cmp}
use Rattle.std.specs.Cmp.Lexicographic.{slice_cmp}
use Rattle.std.specs.Global.{Vec}
use Rattle.std.specs.Map.{lookup, set_value, KeepsOthers}
use Rattle.std.specs.BTreeMap.{is_at}
use Rattle.std.specs.FinMap as paths
use Rattle.std.proofs.lemmas.Cmp.{nat_list_cmp_total}
use Rattle.status_index.specs.declared.fault.Fault.{Fault}
use Rattle.status_base.specs.MemoryTree.{Placed, Planted, PathMap, Tree, has_below, has_file_above, is_no_directory_kind, planted_at, planted_or_none, no_faults}
use Rattle.status_base.specs.Nodes.{placed_of, placed_entries, placed_nodes, tree_of, is_bad_path, put_fault, IsLookedBelow}
use Rattle.status_base.specs.PathTables.{map_of}
use Rattle.status_base.specs.Points.{with_fault, IsPlanted}
use Rattle.status_index.specs.declared.stat.NodeKind.{NodeKind}
use Rattle.status_base.specs.declared.worktree.node.Node.{Node}
use Rattle.status_base.specs.declared.worktree.node.TreeError.TheVariants.{BadPath, InTheWay}
use Rattle.status_base.specs.declared.worktree.planted.Point.{Point}
use Rattle.status_base.proofs.ListingTables.{to_key, key_cmp, tied, lookup-updated, map-insert, map-remove, map-get}

abbrev pub Nodes : Type 0
Nodes = List (Vec ℕ × Node)

abbrev pub Faults : Type 0
Faults = List (Vec ℕ × Planted)

find-placed : (es : Nodes) (q : List ℕ) → paths.find (slice_cmp nat_cmp) q (placed_entries es) ≡ option_map placed_of (lookup (is_at (to_key q)) es)
find-placed [] q = refl
find-placed (e ∷ es) q =
    elim (is_at (to_key q) e.0) as (λ b. cond b (Some (placed_of e.1)) (paths.find (slice_cmp nat_cmp) q (placed_entries es)) ≡ option_map placed_of (cond b (Some e.1) (lookup (is_at (to_key q)) es))) [
      | true ↦ refl
      | false ↦ find-placed es q
    ]

-- the node at a path is the one that a look-up finds
get-placed : (es : Nodes) (q : List ℕ) → paths.get (placed_nodes es) q ≡ option_map placed_of (lookup (is_at (to_key q)) es)
get-placed es q = paths.get-from_entries nat_list_cmp_total (placed_entries es) q ∙ find-placed es q

placed_cond : (b : Bool) (w o : Option Node) → option_map placed_of (cond b w o) ≡ cond b (option_map placed_of w) (option_map placed_of o)
placed_cond true w o = refl
placed_cond false w o = refl

get-updated : (old new : Nodes) (k : List ℕ) (w : Option Node)
    → lookup (is_at (to_key k)) new ≡ w → KeepsOthers (eq_by_cmp key_cmp) (is_at (to_key k)) old new
    → (q : List ℕ) → paths.get (placed_nodes new) q ≡ cond (tied q k) (option_map placed_of w) (paths.get (placed_nodes old) q)
get-updated old new k w here others q =
    get-placed new q ∙ ap (option_map placed_of) (lookup-updated old new k w here others q) ∙ placed_cond (tied q k) w _
    ∙ ap (cond (tied q k) (option_map placed_of w)) (sym (get-placed old q))

nodes-insert : (old new : Nodes) (k : List ℕ) (v : Node)
    → lookup (is_at (to_key k)) new ≡ Some v → KeepsOthers (eq_by_cmp key_cmp) (is_at (to_key k)) old new
    → placed_nodes new ≡ paths.insert (placed_nodes old) k (placed_of v)
nodes-insert old new k v here others =
    paths.same_map nat_list_cmp_total (paths.slice_cmp-IsAntisymmetric paths.nat_cmp-IsAntisymmetric) _ _ (λ q. get-updated old new k (Some v) here others q ∙ sym (paths.get-insert nat_list_cmp_total _ k (placed_of v) q))

nodes-remove : (old new : Nodes) (k : List ℕ)
    → lookup (is_at (to_key k)) new ≡ None → KeepsOthers (eq_by_cmp key_cmp) (is_at (to_key k)) old new
    → placed_nodes new ≡ paths.remove (placed_nodes old) k
nodes-remove old new k here others =
    paths.same_map nat_list_cmp_total (paths.slice_cmp-IsAntisymmetric paths.nat_cmp-IsAntisymmetric) _ _ (λ q. get-updated old new k None here others q ∙ sym (paths.get-remove nat_list_cmp_total _ k q))

-- a tree with other nodes
with_nodes : (old new : Nodes) (faults : Faults) (to : PathMap Placed → PathMap Placed) (tree : Tree) → tree_of old faults ≡ tree
    → placed_nodes new ≡ to (placed_nodes old) → tree_of new faults ≡ record tree { nodes = to tree.nodes }
with_nodes old new faults to tree was is =
    ap (λ (m : PathMap Placed). record { nodes = m; planted = map_of faults }) is ∙ ap (λ (t : Tree). record t { nodes = to t.nodes }) was

-- the tree after a node was put
pub tree-insert : (old new : Nodes) (faults : Faults) (tree : Tree) (k path : List ℕ) (v : Node) → tree_of old faults ≡ tree → k ≡ path
    → lookup (is_at (to_key k)) new ≡ Some v → KeepsOthers (eq_by_cmp key_cmp) (is_at (to_key k)) old new
    → tree_of new faults ≡ record tree { nodes = paths.insert tree.nodes path (placed_of v) }
tree-insert old new faults tree k path v was at here others =
    with_nodes old new faults (λ m. paths.insert m k (placed_of v)) tree was (nodes-insert old new k v here others)
    ∙ ap (λ (q : List ℕ). record tree { nodes = paths.insert tree.nodes q (placed_of v) }) at

-- the tree after a node was removed
pub tree-remove : (old new : Nodes) (faults : Faults) (tree : Tree) (k path : List ℕ) → tree_of old faults ≡ tree → k ≡ path
    → lookup (is_at (to_key k)) new ≡ None → KeepsOthers (eq_by_cmp key_cmp) (is_at (to_key k)) old new
    → tree_of new faults ≡ record tree { nodes = paths.remove tree.nodes path }
tree-remove old new faults tree k path was at here others =
    with_nodes old new faults (λ m. paths.remove m k) tree was (nodes-remove old new k here others)
    ∙ ap (λ (q : List ℕ). record tree { nodes = paths.remove tree.nodes q }) at

-- the result of a look-up in a tree
pub tree-get : (es : Nodes) (faults : Faults) (tree : Tree) (k path : List ℕ) → tree_of es faults ≡ tree → k ≡ path
    → option_map placed_of (lookup (is_at (to_key k)) es) ≡ paths.get tree.nodes path
tree-get es faults tree k path is at = sym (get-placed es k) ∙ ap (λ (t : Tree). paths.get t.nodes k) is ∙ ap (paths.get tree.nodes) at

-- the result of a look-up of a reference, as metadata and bytes
pub placed-lent : {B : Type 0} (r : Option B) (see : B → Node) → option_map (λ n. placed_of (see n)) r ≡ option_map placed_of (option_map see r)
placed-lent None see = refl
placed-lent (Some n) see = refl

-- ---- planted faults

-- a tree with other planted faults
with_faults : (es : Nodes) (old new : Faults) (to : PathMap Planted → PathMap Planted) (tree : Tree) → tree_of es old ≡ tree
    → map_of new ≡ to (map_of old) → tree_of es new ≡ record tree { planted = to tree.planted }
with_faults es old new to tree was is =
    ap (λ (m : PathMap Planted). record { nodes = placed_nodes es; planted = m }) is ∙ ap (λ (t : Tree). record t { planted = to t.planted }) was

-- the tree after a fault was planted
pub tree-plant : (es : Nodes) (old new : Faults) (tree : Tree) (k path : List ℕ) (p : Planted) → tree_of es old ≡ tree → k ≡ path
    → lookup (is_at (to_key k)) new ≡ Some p → KeepsOthers (eq_by_cmp key_cmp) (is_at (to_key k)) old new
    → tree_of es new ≡ record tree { planted = paths.insert tree.planted path p }
tree-plant es old new tree k path p was at here others =
    with_faults es old new (λ m. paths.insert m path p) tree was (map-insert old new (map_of old) k path p refl at here others)

-- the tree after a path was cleared of planted faults
pub tree-clear : (es : Nodes) (old new : Faults) (tree : Tree) (k path : List ℕ) → tree_of es old ≡ tree → k ≡ path
    → lookup (is_at (to_key k)) new ≡ None → KeepsOthers (eq_by_cmp key_cmp) (is_at (to_key k)) old new
    → tree_of es new ≡ record tree { planted = paths.remove tree.planted path }
tree-clear es old new tree k path was at here others =
    with_faults es old new (λ m. paths.remove m path) tree was (map-remove old new (map_of old) k path refl at here others)

-- the result of a look-up of planted faults
pub tree-planted : (es : Nodes) (faults : Faults) (tree : Tree) (k path : List ℕ) (found : Option Planted) → tree_of es faults ≡ tree → k ≡ path
    → found ≡ lookup (is_at (to_key k)) faults → planted_or_none found ≡ planted_at tree path
tree-planted es faults tree k path found is at finds =
    ap planted_or_none (finds ∙ map-get faults tree.planted k (ap (λ (t : Tree). t.planted) is)) ∙ ap (planted_at tree) at

-- writing the value that an entry already has changes nothing
same_value : {K V : Type 0} (test : K → Bool) (es : List (K × V)) (v : V) → lookup test es ≡ Some v → set_value test es v ≡ es
same_value test [] v h = refl
same_value test (e ∷ es) v h =
    elim (test e.0) as (λ b. cond b (Some e.1) (lookup test es) ≡ Some v → cond b ((e.0, v) ∷ es) (e ∷ set_value test es v) ≡ e ∷ es) [
      | true ↦ λ is. ap (λ (o : Option _). (e.0, unwrap_or o v) ∷ es) (sym is)
      | false ↦ λ is. ap (λ xs. e ∷ xs) (same_value test es v is)
    ] h

-- the tree after a fault was planted at a path that has faults, which were overwritten
pub planted-beside : {A E : Type 0} (es : Nodes) (old new : Faults) (tree : Tree) (k path : List ℕ) (point : Point) (fault : Fault) (was is : Planted) (r : Result A E)
    → tree_of es old ≡ tree → k ≡ path → Some was ≡ lookup (is_at (to_key k)) old → new ≡ set_value (is_at (to_key k)) old is
    → lookup (is_at (to_key k)) new ≡ Some is → KeepsOthers (eq_by_cmp key_cmp) (is_at (to_key k)) old new
    → OnOk r (is ≡ with_fault was point fault) → OnErr r (is ≡ was) → IsPlanted tree path point fault r (tree_of es new)
planted-beside es old new tree k path point fault was is (Ok _) view at found set here others ok err =
    tree-plant es old new tree k path is view at here others
    ∙ ap (λ p. record tree { planted = paths.insert tree.planted path p }) (ok ∙ ap (λ p. with_fault p point fault) (tree-planted es old tree k path (Some was) view at found))
planted-beside es old new tree k path point fault was is (Err _) view at found set here others ok err =
    ap (tree_of es) (set ∙ ap (set_value (is_at (to_key k)) old) err ∙ same_value (is_at (to_key k)) old was (sym found)) ∙ view

-- the tree after a fault was planted at a path that has none
pub planted-first : (es : Nodes) (old new : Faults) (tree : Tree) (k path : List ℕ) (point : Point) (fault : Fault) (is : Planted)
    → tree_of es old ≡ tree → k ≡ path → None ≡ lookup (is_at (to_key k)) old → lookup (is_at (to_key k)) new ≡ Some is → KeepsOthers (eq_by_cmp key_cmp) (is_at (to_key k)) old new
    → is ≡ with_fault no_faults point fault → tree_of es new ≡ record tree { planted = paths.insert tree.planted path (with_fault (planted_at tree path) point fault) }
planted-first es old new tree k path point fault is view at none here others one =
    tree-plant es old new tree k path is view at here others
    ∙ ap (λ p. record tree { planted = paths.insert tree.planted path p }) (one ∙ ap (λ p. with_fault p point fault) (tree-planted es old tree k path None view at none))

-- ---- whether a node can be put

free_parts : (bad above below : Bool) → (if bad then Some BadPath else (if above || below then Some InTheWay else None)) ≡ None → (bad ≡ false) × (above ≡ false)
free_parts true above below h = absurd (cc)
free_parts false true below h = absurd (cc)
free_parts false false below h = (refl, refl)

-- if nothing is in the way of a node, the nodes below its path were looked up
pub looked_below : (tree : Tree) (path : List ℕ) (kind : NodeKind) → put_fault tree path kind ≡ None → IsLookedBelow tree path
looked_below tree path kind free = free_parts (is_bad_path path) (has_file_above tree path) (is_no_directory_kind kind && has_below tree path) free
