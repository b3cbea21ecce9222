-- Which events are refused, and why.
-- A refusal is due if it follows from the event and the world, not from memory or threads.
use Rattle.std.specs.Prelude.{◌≡◌, ◌≢◌, ℕ, nat_lt, nat_le, Bool, true, false, not, ◌||◌, List, length, Option, Some, None, is_some, if◌then◌else◌, ⊤}
use Rattle.bstr.specs.Owned.{bstring_bytes}
use Rattle.status_index.specs.declared.stat.NodeKind.{NodeKind}
use Rattle.status_index.specs.declared.stat.NodeKind.TheVariants.{File, Link, Directory, Other}
use Rattle.status_index.specs.declared.stat.Moment.{Moment}
use Rattle.status_base.specs.MemoryTree.{Placed, has_below, has_file_above}
use Rattle.status_base.specs.Nodes.{is_bad_path, IsLookedBelow}
use Rattle.status_compare.specs.declared.error.Error.{Error}
use Rattle.status_compare.specs.declared.error.Error.TheVariants as errors
use Rattle.status_call.specs.Records.{first_fault}
use Rattle.status_world.specs.declared.world.event.Event.{Event}
use Rattle.status_world.specs.declared.world.event.Event.TheVariants as events
use Rattle.status_world.specs.declared.world.event.Refusal.{Refusal}
use Rattle.status_world.specs.declared.world.event.Refusal.TheVariants as refusals
use Rattle.status_world.specs.Moments.{is_after, plus_seconds, plus_nanoseconds}
use Rattle.status_world.specs.StampedWorld.{StampedWorld, node_at, stored_node, query_of}

-- The first of two refusals that is due.
infixr 20 ◌orelse◌
abbrev pub ◌orelse◌ : Option Refusal → Option Refusal → Option Refusal
(Some r) orelse others = Some r
None orelse others = others

-- A refusal that is due if the condition holds.
abbrev pub refuse_if : Bool → Refusal → Option Refusal
refuse_if b r = if b then Some r else None

-- Whether a moment is after the greatest second, 2^32 - 1.
abbrev pub is_past_end : Moment → Bool
is_past_end m = nat_lt 4294967295 m.secs

-- Whether a node of this kind is a regular file.
abbrev pub is_file_kind : NodeKind → Bool
is_file_kind File = true
is_file_kind Link = false
is_file_kind Directory = false
is_file_kind Other = false

-- Whether there is a node that is a regular file.
abbrev pub is_regular_file : Option Placed → Bool
is_regular_file (Some n) = is_file_kind n.metadata.kind
is_regular_file None = false

-- Whether no file or link can be put at a path, since a file or link is above it, or the path is a directory.
abbrev pub is_blocked : StampedWorld → List ℕ → Bool
is_blocked w path = has_file_above w.tree path || has_below w.tree path

-- The refusal of a file or link: for a bad path, something in the way, or 2^32 bytes or more.
abbrev pub write_refusal : StampedWorld → List ℕ → List ℕ → Option Refusal
write_refusal w path bytes =
    refuse_if (is_bad_path path) refusals.BadPath
    orelse (refuse_if (is_blocked w path) refusals.InTheWay
    orelse refuse_if (nat_le 4294967296 (length bytes)) refusals.TooLarge)

-- The refusal of a run's timestamp: it has 1,000,000,000 nanoseconds or more, or is after the clock.
abbrev pub stamp_refusal : Moment → Moment → Option Refusal
stamp_refusal clock stamp =
    refuse_if (nat_le 1000000000 stamp.nsecs) refusals.BadMoment orelse refuse_if (is_after stamp clock) refusals.StampLater

-- The refusal of a run whose status has this fault.
abbrev pub fault_refusal : Option Error → Option Refusal
fault_refusal (Some e) = Some (refusals.Run e)
fault_refusal None = None

-- An event is refused for clock, path, size, node or timestamp, and some also for memory or a thread.
-- This is the refusal that is due, without those for memory or a thread.
abbrev pub refusal_of : Event → StampedWorld → Option Refusal
refusal_of (events.Tick n) w = refuse_if (is_past_end (plus_seconds w.clock n)) refusals.ClockEnd
refusal_of (events.TickNanos n) w = refuse_if (is_past_end (plus_nanoseconds w.clock n)) refusals.ClockEnd
refusal_of (events.Write path bytes) w = write_refusal w (bstring_bytes path) bytes.items
refusal_of (events.Link path target) w = write_refusal w (bstring_bytes path) target.items
refusal_of (events.SetExecutable path executable) w =
    refuse_if (is_bad_path (bstring_bytes path)) refusals.BadPath
    orelse refuse_if (not (is_regular_file (node_at w (bstring_bytes path)))) refusals.NotAFile
refusal_of (events.Remove path) w =
    refuse_if (is_bad_path (bstring_bytes path)) refusals.BadPath
    orelse refuse_if (not (is_some (stored_node (node_at w (bstring_bytes path))))) refusals.NotAFile
refusal_of (events.Stage path) w = refuse_if (is_bad_path (bstring_bytes path)) refusals.BadPath
refusal_of (events.Run comparer chunk_size thread_limit stamp) w =
    stamp_refusal w.clock stamp orelse fault_refusal (first_fault (query_of w comparer) w.entries)

-- The refusal of a new world: the clock or the timestamp has 1,000,000,000 nanoseconds or more, or the timestamp is after the
-- clock.
abbrev pub start_refusal : Moment → Moment → Option Refusal
start_refusal clock timestamp =
    refuse_if (nat_le 1000000000 clock.nsecs || nat_le 1000000000 timestamp.nsecs) refusals.BadMoment
    orelse refuse_if (is_after timestamp clock) refusals.StampLater

-- A run whose timestamp isn't refused.
abbrev pub IsRunBegun : Event → StampedWorld → Type 0
IsRunBegun (events.Run comparer chunk_size thread_limit stamp) w = stamp_refusal w.clock stamp ≡ None
IsRunBegun _ w = ⊥

-- A run that may have more than one worker.
abbrev pub IsShared : Event → Type 0
IsShared (events.Run comparer chunk_size thread_limit stamp) = thread_limit ≢ Some 1
IsShared _ = ⊥

-- An event that allocates memory before a refusal is known, or if none is due:
-- a write or a link looks up the paths below its own, if nothing above is in the way;
-- executability is set in a copy of the file; a file or link is copied when it is staged;
-- and room for a run's report is allocated before anything else.
abbrev pub TakesMemory : Event → StampedWorld → Type 0
TakesMemory (events.Tick n) w = ⊥
TakesMemory (events.TickNanos n) w = ⊥
TakesMemory (events.Write path bytes) w = IsLookedBelow w.tree (bstring_bytes path)
TakesMemory (events.Link path target) w = IsLookedBelow w.tree (bstring_bytes path)
TakesMemory (events.SetExecutable path executable) w = refusal_of (events.SetExecutable path executable) w ≡ None
TakesMemory (events.Remove path) w = ⊥
TakesMemory (events.Stage path) w =
    (refusal_of (events.Stage path) w ≡ None) × (is_some (stored_node (node_at w (bstring_bytes path))) ≡ true)
TakesMemory (events.Run comparer chunk_size thread_limit stamp) w = ⊤

-- Why an event may be refused. An event that allocates memory may be out of memory. A run whose timestamp isn't refused may
-- also be out of memory in its status or, with more than one worker, be refused a thread. Otherwise the refusal is the one
-- that is due.
abbrev pub IsRefused : Refusal → Event → StampedWorld → Type 0
IsRefused refusals.Memory e w = TakesMemory e w
IsRefused refusals.Interrupted e w = ⊥
IsRefused (refusals.Run errors.Memory) e w = IsRunBegun e w
IsRefused (refusals.Run errors.SpawnThread) e w = IsRunBegun e w × IsShared e
IsRefused r e w = refusal_of e w ≡ Some r

-- A refusal that isn't the fault of an entry. A run is then refused only for its timestamp, memory or a thread.
abbrev pub IsNoRunFault : Refusal → Type 0
IsNoRunFault (refusals.Run errors.Memory) = ⊤
IsNoRunFault (refusals.Run errors.SpawnThread) = ⊤
IsNoRunFault (refusals.Run _) = ⊥
IsNoRunFault _ = ⊤
