-- The worktree of a profile.
use Rattle.std.specs.Prelude.{ℕ, false, List, [], length, map, codes, string_bytes, Option, Some, None}
use Rattle.std.specs.Result.{result_ok}
use Rattle.bstr.specs.Owned.{bstring_bytes}
use Rattle.bstr.specs.declared.bstring.BString.{BString}
use Rattle.hex.specs.Hex.{decode_of}
use Rattle.serde_json.specs.Data.{Data}
use Rattle.serde_json.specs.Find.{get, as_array, as_bool, as_str}
use Rattle.status_index.specs.declared.stat.NodeKind.TheVariants.{File}
use Rattle.status_base.specs.MemoryTree.{Placed}
use Rattle.status_base.specs.Nodes.{placed_of}
use Rattle.status_base.specs.declared.worktree.node.Node.{Node}
use Rattle.status_format.specs.Reading.{each, stat_in}
use Rattle.status_format.specs.Reads.{◌>>=◌, needed, or_default}
use Rattle.status_profile.specs.Words.{kind_in}
use Rattle.status_profile.specs.declared.node.Place.{Place}
use Rattle.status_profile.specs.declared.node.Place.TheVariants as places

-- the bytes that pairs of hexadecimal digits write
abbrev pub digits_in : Data → Option (List ℕ)
digits_in d = as_str d >>= (λ digits. result_ok (decode_of digits))

-- the bytes of a node: of the digits at `hex`, if it is there, or of the text at `text`, which is empty by default
abbrev pub bytes_of : Option Data → Option Data → Option (List ℕ)
bytes_of (Some hex) text = digits_in hex
bytes_of None text = or_default as_str [] text

-- a path and the node at it, by the fields of an object; its other keys are ignored
unfoldable pub node_in : Data → Option (List ℕ × Placed)
node_in d = do
  path ← needed as_str (get (codes "path") d)
  kind ← or_default kind_in File (get (codes "kind") d)
  bytes ← bytes_of (get (codes "hex") d) (get (codes "text") d)
  executable ← or_default as_bool false (get (codes "executable") d)
  stat ← stat_in 0 d
  Some (
    path,
    record {
      metadata = record {
        kind = kind;
        len = length bytes;
        executable = executable;
        mtime = Some stat.mtime;
        ctime = Some stat.ctime;
        dev = stat.dev;
        ino = stat.ino;
        uid = stat.uid;
        gid = stat.gid;
      };
      bytes = bytes;
    },
  )

abbrev pub nodes_in : Data → Option (List (List ℕ × Placed))
nodes_in d = as_array d >>= each node_in

-- the place of a worktree: memory, with nodes by their paths, or the folder at a path
pub data PlaceValue : Type 0 where
  in_memory : List (List ℕ × Placed) → PlaceValue
  in_folder : List ℕ → PlaceValue

-- a path and the node at it
abbrev pub node_value : BString × Node → List ℕ × Placed
node_value e = (bstring_bytes e.0, placed_of e.1)

abbrev pub place_value : Place → PlaceValue
place_value (places.Nodes nodes) = in_memory (map node_value nodes.items)
place_value (places.Folder path) = in_folder (string_bytes path)

-- a worktree's place, by the values of `folder` and `worktree`; if there is a folder, the nodes are ignored
abbrev pub place_in : Option Data → Option Data → Option PlaceValue
place_in (Some path) list = do
  text ← as_str path
  Some (in_folder text)
place_in None list = do
  value ← list
  found ← nodes_in value
  Some (in_memory found)
