-- The stat of a node.
use Rattle.std.specs.Prelude.{◌%◌, ◌^◌, Option, Some, None}
use Rattle.status_index.specs.declared.stat.Time.{Time}
use Rattle.status_index.specs.declared.stat.Stat.{Stat}
use Rattle.status_index.specs.declared.stat.Metadata.{Metadata}

-- The stat of a node with these times, if both are known.
abbrev pub stat_with : Metadata → Option Time → Option Time → Option Stat
stat_with n (Some mtime) (Some ctime) =
    Some (record { mtime = mtime; ctime = ctime; dev = n.dev; ino = n.ino; uid = n.uid; gid = n.gid; size = n.len % 2 ^ 32 })
stat_with n _ _ = None

-- A node's stat has the low 32 bits of its length; there is none if a time isn't known.
abbrev pub stat_of : Metadata → Option Stat
stat_of n = stat_with n n.mtime n.ctime
