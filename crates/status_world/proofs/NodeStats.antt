-- The stat of a node that was put is known, and its size is the number of the bytes.
use Rattle.std.proofs.Common.{◌≡◌, ◌∙◌, ap, ℕ, ◌<◌, ◌%◌, ◌^◌, length, Some, arith}
use Rattle.status_index.specs.NodeStat.{stat_of, stat_with}
use Rattle.status_index.specs.declared.stat.Metadata.{Metadata}
use Rattle.status_index.specs.declared.stat.Moment.{Moment}
use Rattle.status_index.specs.declared.stat.Stat.{Stat}
use Rattle.status_index.specs.declared.stat.Time.{Time}
use Rattle.status_base.specs.MemoryTree.{Placed}
use Rattle.status_world.specs.Moments.{IsAtMost, moment_of}
use Rattle.status_world.specs.Sound.{IsFormedNode}

-- A node's stat is known.
pub record KnownStat (clock : Moment) (n : Placed) : Type 0 where
  pub now : Stat
  pub is : stat_of n.metadata ≡ Some now
  pub size : now.size ≡ length n.bytes
  pub stamped : n.metadata.mtime ≡ Some now.mtime
  pub changed : n.metadata.ctime ≡ Some now.ctime
  pub mtime : IsAtMost (moment_of now.mtime) clock
  pub ctime : IsAtMost (moment_of now.ctime) clock

abbrev pub stat_at : Metadata → Time → Time → Stat
stat_at n mtime ctime = record { mtime = mtime; ctime = ctime; dev = n.dev; ino = n.ino; uid = n.uid; gid = n.gid; size = n.len % 2 ^ 32 }

pub stat_stamped : (n : Metadata) (mtime ctime : Time) → n.mtime ≡ Some mtime → n.ctime ≡ Some ctime → stat_of n ≡ Some (stat_at n mtime ctime)
stat_stamped n mtime ctime m c = ap (λ o. stat_with n o n.ctime) m ∙ ap (λ o. stat_with n (Some mtime) o) c

-- A size below 2^32 is its own low 32 bits.
pub small_size : (n : ℕ) → n < 4294967296 → n % 2 ^ 32 ≡ n
small_size n h = grind arith

pub stat_known : (clock : Moment) (n : Placed) → IsFormedNode clock n → KnownStat clock n
stat_known clock n f = record {
  now = stat_at n.metadata f.mtime.0 f.ctime.0;
  is = stat_stamped n.metadata f.mtime.0 f.ctime.0 f.mtime.1 f.ctime.1;
  size = ap (λ k. k % 2 ^ 32) f.len ∙ small_size (length n.bytes) f.small;
  stamped = f.mtime.1;
  changed = f.ctime.1;
  mtime = f.mtime.2;
  ctime = f.ctime.2;
}
