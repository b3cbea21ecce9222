-- The orders of the public types.
-- Times by seconds, then nanoseconds; stats by fields; ids by kind, then bytes; flags and modes by bits.
use Rattle.std.specs.Prelude.{ℕ}
use Rattle.std.specs.Ordering.{nat_cmp, ordering_then}
use Rattle.std.specs.Cmp.Lexicographic.{slice_cmp}
use Rattle.std.specs.declared.cmp.Ordering.{Ordering}
use Rattle.status_index.specs.declared.entry.Flags.{Flags}
use Rattle.status_index.specs.declared.id.HashKind.{HashKind}
use Rattle.status_index.specs.declared.id.HashKind.TheVariants.{Sha1, Sha256}
use Rattle.status_index.specs.declared.id.ObjectId.{ObjectId}
use Rattle.status_index.specs.declared.mode.Mode.{Mode}
use Rattle.status_index.specs.declared.stat.Moment.{Moment}
use Rattle.status_index.specs.declared.stat.Stat.{Stat}
use Rattle.status_index.specs.declared.stat.Time.{Time}
use Rattle.status_index.specs.BlobId.{id_kind, id_bytes}
use Rattle.status_index.specs.Mode.{mode_bits}

-- By seconds, and then by nanoseconds.
abbrev pub moment_cmp : Moment → Moment → Ordering
moment_cmp a b = ordering_then (nat_cmp a.secs b.secs) (nat_cmp a.nsecs b.nsecs)

abbrev pub time_cmp : Time → Time → Ordering
time_cmp a b = ordering_then (nat_cmp a.secs b.secs) (nat_cmp a.nsecs b.nsecs)

-- By the first that differs of mtime, ctime, device, inode, owner, group and size.
abbrev pub stat_cmp : Stat → Stat → Ordering
stat_cmp a b =
    ordering_then (time_cmp a.mtime b.mtime)
    (ordering_then (time_cmp a.ctime b.ctime)
    (ordering_then (nat_cmp a.dev b.dev)
    (ordering_then (nat_cmp a.ino b.ino)
    (ordering_then (nat_cmp a.uid b.uid)
    (ordering_then (nat_cmp a.gid b.gid)
    (nat_cmp a.size b.size))))))

-- SHA-1 is before SHA-256.
abbrev pub kind_rank : HashKind → ℕ
kind_rank Sha1 = 0
kind_rank Sha256 = 1

-- By kind, and then by bytes.
abbrev pub id_cmp : ObjectId → ObjectId → Ordering
id_cmp a b = ordering_then (nat_cmp (kind_rank (id_kind a)) (kind_rank (id_kind b))) (slice_cmp nat_cmp (id_bytes a) (id_bytes b))

-- By the bits, as a number.
abbrev pub flags_cmp : Flags → Flags → Ordering
flags_cmp a b = nat_cmp a.0 b.0

-- By git's bits, as a number.
abbrev pub mode_cmp : Mode → Mode → Ordering
mode_cmp a b = nat_cmp (mode_bits a) (mode_bits b)
