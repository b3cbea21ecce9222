-- When the index of a world can be trusted. It can in every world that began empty, if contents with equal ids are equal.
use Rattle.std.specs.Prelude.{◌≡◌, ◌⊎◌, ℕ, ◌<◌, true, false, List, length, All, AllPairs, Option, Some, None, IsTrue, IfSome, ⊤, is_some}
use Rattle.std.specs.Ordering.{nat_cmp}
use Rattle.std.specs.declared.cmp.Ordering.TheVariants.{Less}
use Rattle.std.specs.Cmp.Lexicographic.{slice_cmp}
use Rattle.std.specs.FinMap as paths
use Rattle.status_index.specs.declared.stat.Moment.{Moment}
use Rattle.status_index.specs.declared.stat.Stat.{Stat}
use Rattle.status_index.specs.declared.stat.Time.{Time}
use Rattle.status_index.specs.BlobId.{blob_id}
use Rattle.status_index.specs.Entries.{IndexEntry}
use Rattle.status_index.specs.FlagBits.{bits_of_stage}
use Rattle.status_index.specs.Mode.{new_mode}
use Rattle.status_index.specs.NodeStat.{stat_of}
use Rattle.status_index.specs.Stat.{is_racy}
use Rattle.status_base.specs.MemoryTree.{Placed}
use Rattle.status_base.specs.Nodes.{is_bad_path}
use Rattle.status_base.specs.Paths.{lies_above}
use Rattle.status_call.specs.Status.{is_trusted}
use Rattle.status_compare.specs.declared.compare.Comparer.TheVariants.{Hash}
use Rattle.status_world.specs.Moments.{IsAtMost, moment_of}
use Rattle.status_world.specs.PlainWorld.{Plain}
use Rattle.status_world.specs.StampedWorld.{StampedWorld, node_at, entry_of_path, is_stored_kind, query_of}

-- A time is known, and isn't after a moment.
abbrev pub IsKnownBy : Option Time → Moment → Type 0
IsKnownBy stamp clock = (t : Time) × (stamp ≡ Some t) × IsAtMost (moment_of t) clock

-- A time is known, and isn't before another time.
abbrev pub IsKnownSince : Time → Option Time → Type 0
IsKnownSince before stamp = (t : Time) × (stamp ≡ Some t) × IsAtMost (moment_of before) (moment_of t)

-- A node that an event put: a file or link whose length is the number of its bytes, with times that aren't after the clock.
pub record IsFormedNode (clock : Moment) (n : Placed) : Type 0 where
  pub kind : IsTrue (is_stored_kind n.metadata.kind)
  pub len : n.metadata.len ≡ length n.bytes
  pub small : length n.bytes < 4294967296
  pub mtime : IsKnownBy n.metadata.mtime clock
  pub ctime : IsKnownBy n.metadata.ctime clock

-- An entry is as staged: it has stage 0, no flags, and the id and mode of what was staged.
pub record IsFormedEntry (w : StampedWorld) (e : IndexEntry) (s : Plain) : Type 0 where
  pub kind : IsTrue (is_stored_kind s.kind)
  pub id : e.id ≡ blob_id w.kind s.bytes
  pub mode : e.mode ≡ new_mode w.executable_bit s.kind s.executable
  pub flags : e.flags.0 ≡ bits_of_stage 0
  pub small : length s.bytes < 4294967296
  pub mtime : IsAtMost (moment_of e.stat.mtime) w.clock
  pub ctime : IsAtMost (moment_of e.stat.ctime) w.clock

-- An entry's times aren't after those of the node at its path.
pub record IsFormedPair (n : Placed) (e : IndexEntry) : Type 0 where
  pub mtime : IsKnownSince e.stat.mtime n.metadata.mtime
  pub ctime : IsKnownSince e.stat.ctime n.metadata.ctime

-- One path is formed: its node, its entry, and what was staged there. It has an entry exactly if something was staged.
abbrev pub IsFormedAt : StampedWorld → Option Placed → Option IndexEntry → Option Plain → Type 0
IsFormedAt w n None None = IfSome n (IsFormedNode w.clock)
IsFormedAt w n (Some e) None = ⊥
IsFormedAt w n None (Some s) = ⊥
IsFormedAt w None (Some e) (Some s) = IsFormedEntry w e s
IsFormedAt w (Some n) (Some e) (Some s) = IsFormedNode w.clock n × IsFormedEntry w e s × IsFormedPair n e

-- Times are known and not after the clock, nodes are files and links without faults, and entries are as staged.
-- Every new world is so, and every event keeps it, whether contents with equal ids are equal or not.
pub record IsFormed (w : StampedWorld) : Type 0 where
  pub at : (p : List ℕ) → IsFormedAt w (node_at w p) (entry_of_path p w.entries) (paths.get w.staged p)
  pub timestamp : IsAtMost w.timestamp w.clock
  -- The entries' paths are normal, and ascend strictly.
  pub normal : All (λ e. is_bad_path e.path ≡ false) w.entries
  pub ascending : AllPairs (λ a b. slice_cmp nat_cmp a.path b.path ≡ Less) w.entries
  -- Nothing is below a node, and no fault is planted.
  pub leaves : (p d : List ℕ) → IsTrue (is_some (node_at w p)) → IsTrue (lies_above d p) → node_at w d ≡ None
  pub unplanted : w.tree.planted ≡ paths.empty

-- If an entry has its file's kind, is trusted and isn't racy, the file has the staged bytes.
-- It is trusted if its stat agrees with the file's, and its size is 0 exactly if its id is the empty blob's.
pub record IsTrustworthy (w : StampedWorld) (n : Placed) (e : IndexEntry) (s : Plain) : Type 0 where
  pub bytes : (now : Stat) → stat_of n.metadata ≡ Some now → n.metadata.kind ≡ s.kind
      → is_trusted (query_of w Hash) e now ≡ true → is_racy w.stat_options w.timestamp now ≡ false → n.bytes ≡ s.bytes

-- An entry's size is the number of the staged bytes, or 0.
abbrev pub IsStagedSize : IndexEntry → Plain → Type 0
IsStagedSize e s = (e.stat.size ≡ length s.bytes) ⊎ (e.stat.size ≡ 0)

-- The invariant for one path.
abbrev pub IsSoundAt : StampedWorld → Option Placed → Option IndexEntry → Option Plain → Type 0
IsSoundAt w (Some n) (Some e) (Some s) = IsStagedSize e s × IsTrustworthy w n e s
IsSoundAt w None (Some e) (Some s) = IsStagedSize e s
IsSoundAt w _ _ _ = ⊤

-- The invariant of the history theorem.
-- The index can be trusted at each path.
abbrev pub IsSound : StampedWorld → Type 0
IsSound w = (p : List ℕ) → IsSoundAt w (node_at w p) (entry_of_path p w.entries) (paths.get w.staged p)
