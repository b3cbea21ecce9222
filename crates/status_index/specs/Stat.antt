-- Stats that agree, and stats that may hide a write.
use Rattle.std.specs.Prelude.{◌==◌, nat_le, Bool, true, false, not, ◌&&◌, ◌||◌}
use Rattle.std.specs.Ordering.{nat_cmp}
use Rattle.std.specs.declared.cmp.Ordering.{Ordering}
use Rattle.std.specs.declared.cmp.Ordering.TheVariants.{Less, Equal, Greater}
use Rattle.status_index.specs.declared.stat.Time.{Time}
use Rattle.status_index.specs.declared.stat.Moment.{Moment}
use Rattle.status_index.specs.declared.stat.Stat.{Stat}
use Rattle.status_index.specs.declared.stat.Options.{Options}

-- Whether nanoseconds count.
abbrev pub counts_nsecs : Options → Bool
counts_nsecs o = o.check_stat && o.use_nsec

-- Equal seconds, and equal nanoseconds if they count.
abbrev pub time_agrees : Options → Time → Time → Bool
time_agrees o a b = a.secs == b.secs && (not (counts_nsecs o) || a.nsecs == b.nsecs)

-- Equal inode, group and owner, and equal device if that counts.
abbrev pub owner_agrees : Options → Stat → Stat → Bool
owner_agrees o a b = a.ino == b.ino && a.gid == b.gid && a.uid == b.uid && (not o.use_stdev || a.dev == b.dev)

-- Equal size, mtime, and those of ctime, nanoseconds, inode, owners and device that count.
abbrev pub stat_agrees : Options → Stat → Stat → Bool
stat_agrees o a b =
    time_agrees o a.mtime b.mtime && a.size == b.size
    && (not o.trust_ctime || time_agrees o a.ctime b.ctime)
    && (not o.check_stat || owner_agrees o a b)

-- By the timestamp's seconds, compared with the stat's: racy if less, not racy if greater. In the same second `early`
-- decides: whether nanoseconds don't count, or the timestamp's are at most the stat's.
abbrev pub racy_by_seconds : Ordering → Bool → Bool
racy_by_seconds Less early = true
racy_by_seconds Equal early = early
racy_by_seconds Greater early = false

-- The index's timestamp isn't later than the stat's mtime; if nanoseconds don't count, a time in the same second isn't
-- later. So a write at the timestamp or after it may leave the stat equal.
abbrev pub is_racy : Options → Moment → Stat → Bool
is_racy o timestamp a =
    racy_by_seconds (nat_cmp timestamp.secs a.mtime.secs) (not (counts_nsecs o) || nat_le timestamp.nsecs a.mtime.nsecs)
