-- A node in a tree, and a tree after a node is put.
use Rattle.std.specs.Prelude.{◌≡◌, ◌⊎◌, ℕ, Bool, false, ◌==◌, ◌&&◌, ◌||◌, List, map, length, Option, Some, None, is_some, Result, Ok, Err, if◌then◌else◌}
use Rattle.std.specs.FinMap as paths
use Rattle.std.specs.Global.{Vec}
use Rattle.status_index.specs.declared.stat.NodeKind.{NodeKind}
use Rattle.status_index.specs.declared.stat.Time.{Time}
use Rattle.status_base.specs.Paths.{abnormal_component}
use Rattle.status_base.specs.MemoryTree.{Placed, Planted, PathMap, Tree, has_below, has_file_above, is_no_directory_kind}
use Rattle.status_base.specs.PathTables.{map_of}
use Rattle.status_base.specs.declared.worktree.node.Node.{Node}
use Rattle.status_base.specs.declared.worktree.node.TreeError.{TreeError}
use Rattle.status_base.specs.declared.worktree.node.TreeError.TheVariants.{BadPath, InTheWay, Memory}

-- The metadata that `lstat` reports of a node, and its bytes.
abbrev pub placed_of : Node → Placed
placed_of node = record {
  metadata = record {
    kind = node.kind;
    len = node.len;
    executable = node.executable;
    mtime = node.mtime;
    ctime = node.ctime;
    dev = node.dev;
    ino = node.ino;
    uid = node.uid;
    gid = node.gid;
  };
  bytes = node.bytes.items;
}

-- A node of these bytes, whose length is their number. Both its times are this one, and everything else is false or 0.
abbrev pub plain_node : NodeKind → List ℕ → Time → Placed
plain_node kind bytes time = record {
  metadata = record {
    kind = kind;
    len = length bytes;
    executable = false;
    mtime = Some time;
    ctime = Some time;
    dev = 0;
    ino = 0;
    uid = 0;
    gid = 0;
  };
  bytes = bytes;
}

-- The paths with the metadata and bytes of their nodes.
abbrev pub placed_entries : List (Vec ℕ × Node) → List (List ℕ × Placed)
placed_entries = map (λ e. (e.0.items, placed_of e.1))

-- A tree's nodes, from the entries of a map.
abbrev pub placed_nodes : List (Vec ℕ × Node) → PathMap Placed
placed_nodes entries = paths.from_entries (placed_entries entries)

-- A tree of nodes and planted faults, from the entries of their maps.
abbrev pub tree_of : List (Vec ℕ × Node) → List (Vec ℕ × Planted) → Tree
tree_of nodes planted = record { nodes = placed_nodes nodes; planted = map_of planted }

-- Whether nothing can be put at a path: it is empty, or a component is empty, `.` or `..`.
abbrev pub is_bad_path : List ℕ → Bool
is_bad_path path = length path == 0 || is_some (abnormal_component path)

-- Whether a node is in the way of a new one: one above the path isn't a directory, or the new node isn't a directory and one is
-- below the path.
abbrev pub is_in_the_way : Tree → List ℕ → NodeKind → Bool
is_in_the_way tree path kind = has_file_above tree path || (is_no_directory_kind kind && has_below tree path)

-- Why a node of a kind can't be put at a path.
abbrev pub put_fault : Tree → List ℕ → NodeKind → Option TreeError
put_fault tree path kind =
    if is_bad_path path then Some BadPath else (if is_in_the_way tree path kind then Some InTheWay else None)

-- The checks of a put that need no memory are passed: the path isn't bad, and no node above it is in the way. Looking up the
-- nodes below it takes memory.
abbrev pub IsLookedBelow : Tree → List ℕ → Type 0
IsLookedBelow tree path = (is_bad_path path ≡ false) × (has_file_above tree path ≡ false)

-- A node is put unless its path isn't normal, or a node that isn't a directory would be above another. After an error the tree
-- is unchanged. Memory can only run out after the checks that need none.
abbrev pub IsPut : {A : Type 0} → Tree → List ℕ → Placed → Result A TreeError → Tree → Type 0
IsPut old path placed (Ok _) new =
    (put_fault old path placed.metadata.kind ≡ None) × (new ≡ record old { nodes = paths.insert old.nodes path placed })
IsPut old path placed (Err e) new =
    (((e ≡ Memory) × IsLookedBelow old path) ⊎ (put_fault old path placed.metadata.kind ≡ Some e)) × (new ≡ old)
