-- The nodes that listings of directories know.
use Rattle.std.specs.Prelude.{ℕ, Bool, true, false, List, [], ◌∷◌, Option, Some, None, option_map, if◌then◌else◌}
use Rattle.std.specs.List.{before_last, after_last}
use Rattle.std.specs.Str.{bytes_eq}
use Rattle.status_index.specs.declared.stat.Metadata.{Metadata}
use Rattle.status_index.specs.declared.stat.NodeKind.{NodeKind}
use Rattle.status_index.specs.declared.stat.NodeKind.TheVariants.{File, Link, Directory}
use Rattle.status_base.specs.Paths.{is_slash}
use Rattle.status_base.specs.declared.fscache.Stat.{Stat}

-- The names in a directory with their stats, or None if the directory can't be listed.
abbrev pub Listing : Type 0
Listing = Option (List (List ℕ × Stat))

-- Which listings of a directory may be returned.
abbrev pub MayList : Type 1
MayList = List ℕ → Listing → Type 0

-- A path is split at its last slash. A path without a slash is a file name in the root, whose path is empty.
abbrev pub file_name_of : List ℕ → List ℕ
file_name_of path = after_last is_slash path

abbrev pub directory_of : List ℕ → List ℕ
directory_of path = before_last is_slash path

abbrev pub later_or : Option Stat → Option Stat → Option Stat
later_or (Some later) earlier = Some later
later_or None earlier = earlier

-- The stat of a name. Of equal names the last one counts.
abbrev pub stat_named : List ℕ → List (List ℕ × Stat) → Option Stat
stat_named name [] = None
stat_named name (e ∷ es) = later_or (stat_named name es) (if bytes_eq e.0 name then Some e.1 else None)

-- The stat of a name in a listing. An empty name isn't looked up.
abbrev pub stat_in_listing : Listing → List ℕ → Option Stat
stat_in_listing None name = None
stat_in_listing (Some entries) [] = None
stat_in_listing (Some entries) (b ∷ name) = stat_named (b ∷ name) entries

-- A listing knows a path by its file name's last entry, as a directory, link or file that isn't executable. The listing is that
-- of the path's directory.
abbrev pub listed : (List ℕ → Listing) → List ℕ → Option Stat
listed listing path = stat_in_listing (listing (directory_of path)) (file_name_of path)

-- The node of a listed stat: a directory, otherwise a link, otherwise a file, which is never executable.
abbrev pub listed_kind : Bool → Bool → NodeKind
listed_kind true is_symlink = Directory
listed_kind false true = Link
listed_kind false false = File

abbrev pub listed_node : Stat → Metadata
listed_node s = record {
  kind = listed_kind s.is_dir s.is_symlink;
  len = s.size;
  executable = false;
  mtime = Some (record { secs = s.mtime_secs; nsecs = s.mtime_nsecs });
  ctime = Some (record { secs = s.ctime_secs; nsecs = s.ctime_nsecs });
  dev = 0;
  ino = 0;
  uid = 0;
  gid = 0;
}

-- The node that listings know at a path, if listings are used.
abbrev pub known_node : Bool → (List ℕ → Listing) → List ℕ → Option Metadata
known_node true listing path = option_map listed_node (listed listing path)
known_node false listing path = None
