-- The stamped world, in which nodes have times, and what events and runs do in it.
use Rattle.std.specs.Prelude.{ℕ, Bool, true, false, List, [], ◌∷◌, ◌++◌, length, map, filter, find, Option, Some, None, option_map, unwrap_or, Result, Ok, Err, if◌then◌else◌}
use Rattle.std.specs.List.{flat_map, enumerate_from}
use Rattle.std.specs.Option.{option_to_list}
use Rattle.std.specs.Ordering.{nat_cmp, is_lt}
use Rattle.std.specs.Cmp.Lexicographic.{slice_cmp}
use Rattle.std.specs.FinMap as paths
use Rattle.std.specs.Str.{bytes_eq}
use Rattle.bstr.specs.Owned.{bstring_bytes}
use Rattle.status_index.specs.declared.id.HashKind.{HashKind}
use Rattle.status_index.specs.declared.id.ObjectId.{ObjectId}
use Rattle.status_index.specs.declared.stat.NodeKind.{NodeKind}
use Rattle.status_index.specs.declared.mode.Mode.{Mode}
use Rattle.status_index.specs.declared.stat.NodeKind.TheVariants.{File, Link, Directory, Other}
use Rattle.status_index.specs.declared.stat.Moment.{Moment}
use Rattle.status_index.specs.declared.stat.Options.{Options as StatOptions}
use Rattle.status_index.specs.declared.stat.Stat.{Stat}
use Rattle.status_index.specs.BlobId.{blob_id}
use Rattle.status_index.specs.Entries.{IndexEntry, entry_of_fields}
use Rattle.status_index.specs.FlagBits.{bits_of_stage}
use Rattle.status_index.specs.Mode.{new_mode}
use Rattle.status_index.specs.NodeStat.{stat_of}
use Rattle.status_index.specs.Staging.{with_entry, with_put}
use Rattle.status_base.specs.MemoryTree.{Placed, PathMap, Tree, lstat_in, open_in, target_in}
use Rattle.status_base.specs.Trees.{empty_tree}
use Rattle.status_compare.specs.declared.error.Error.{Error}
use Rattle.status_compare.specs.NamedComparers.{compared_by, counted_by}
use Rattle.status_compare.specs.declared.compare.Comparer.{Comparer}
use Rattle.status_call.specs.declared.index_as_worktree.types.Options.{Options}
use Rattle.status_call.specs.Counts.{counts_in, reads_in}
use Rattle.status_call.specs.IndexChanges.{change_of, updated_entry}
use Rattle.status_call.specs.Counts.{outcome_of}
use Rattle.status_call.specs.Query.{Query}
use Rattle.status_call.specs.Records.{verdict}
use Rattle.status_world.specs.declared.world.event.Event.{Event}
use Rattle.status_world.specs.declared.world.event.Event.TheVariants as events
use Rattle.status_world.specs.Moments.{stamp_of, plus_seconds, plus_nanoseconds}
use Rattle.status_world.specs.PlainWorld.{Plain, executable_of_kind, with_value}
use Rattle.status_world.specs.Reports.{RunStatus, Reported, RunReport}
use Rattle.status_world.specs.RunStatus.{status_query}

-- A world has options, a clock, a worktree in memory, an index, and what was staged last, which no run reads.
pub record StampedWorld : Type 0 where
  -- The kind of ids, which parts of stats have to be equal, and whether executability counts.
  pub kind : HashKind
  pub stat_options : StatOptions
  pub executable_bit : Bool
  pub clock : Moment
  pub tree : Tree
  -- The entries of the index, and when it was written.
  pub entries : List IndexEntry
  pub timestamp : Moment
  -- The files and links that were staged last, by path.
  pub staged : PathMap Plain

-- A world without nodes, entries and staged paths.
abbrev pub empty_world : HashKind → StatOptions → Bool → Moment → Moment → StampedWorld
empty_world kind options executable_bit clock timestamp = record {
  kind = kind;
  stat_options = options;
  executable_bit = executable_bit;
  clock = clock;
  tree = empty_tree;
  entries = [];
  timestamp = timestamp;
  staged = paths.empty;
}

-- The node that was put at a path.
abbrev pub node_at : StampedWorld → List ℕ → Option Placed
node_at w path = paths.get w.tree.nodes path

-- A world in which a path has this node, or none.
abbrev pub with_node : StampedWorld → List ℕ → Option Placed → StampedWorld
with_node w path node = record w { tree = record w.tree { nodes = with_value w.tree.nodes path node } }

-- A file or link that is written at this moment. Its length is the number of its bytes.
abbrev pub written : Moment → NodeKind → Bool → List ℕ → Placed
written clock kind executable bytes = record {
  metadata = record {
    kind = kind;
    len = length bytes;
    executable = executable;
    mtime = Some (stamp_of clock);
    ctime = Some (stamp_of clock);
    dev = 0;
    ino = 0;
    uid = 0;
    gid = 0;
  };
  bytes = bytes;
}

-- Whether an executable file is at a path.
abbrev pub is_executable_at : Option Placed → Bool
is_executable_at (Some n) = executable_of_kind n.metadata.kind n.metadata.executable
is_executable_at None = false

-- A node whose executability is set at this moment. Its mtime stays.
abbrev pub with_executability : Moment → Bool → Placed → Placed
with_executability clock executable n =
    record n { metadata = record n.metadata { executable = executable; ctime = Some (stamp_of clock) } }

-- ---- staging

-- Whether an index can have an entry for a node of this kind.
abbrev pub is_stored_kind : NodeKind → Bool
is_stored_kind File = true
is_stored_kind Link = true
is_stored_kind Directory = false
is_stored_kind Other = false

-- The node, if it is a file or link.
abbrev pub stored_node : Option Placed → Option Placed
stored_node (Some n) = if is_stored_kind n.metadata.kind then Some n else None
stored_node None = None

-- A node as a plain value, without its times.
abbrev pub plain_of : Placed → Plain
plain_of n = record {
  kind = n.metadata.kind;
  bytes = n.bytes;
  executable = executable_of_kind n.metadata.kind n.metadata.executable;
}

-- A stat of zeros, for a node whose times aren't known. In a formed world all times are known.
abbrev pub zero_stat : Stat
zero_stat = record {
  mtime = record { secs = 0; nsecs = 0 };
  ctime = record { secs = 0; nsecs = 0 };
  dev = 0;
  ino = 0;
  uid = 0;
  gid = 0;
  size = 0;
}

-- An entry of stage 0, without flags.
abbrev pub fresh_entry : List ℕ → Stat → ObjectId → Mode → IndexEntry
fresh_entry path stat id mode = entry_of_fields path stat id (record { 0 = bits_of_stage 0 }) mode

-- The entry of a node that is staged.
abbrev pub entry_of : StampedWorld → List ℕ → Placed → IndexEntry
entry_of w path n = fresh_entry path (unwrap_or (stat_of n.metadata) zero_stat) (blob_id w.kind n.bytes)
    (new_mode w.executable_bit n.metadata.kind n.metadata.executable)

-- A world in which an entry was put into the index, and what was staged was recorded for its path.
abbrev pub with_staged : StampedWorld → IndexEntry → Plain → StampedWorld
with_staged w e s = record w { entries = with_put w.entries e; staged = paths.insert w.staged e.path s }

-- The entry of a path, if there is one.
abbrev pub entry_of_path : List ℕ → List IndexEntry → Option IndexEntry
entry_of_path path es = find (λ e. bytes_eq e.path path) es

-- ---- a run

-- The options of a run's status: the file system has links, and no listing is used. The query doesn't depend on the thread
-- limit and the chunk size.
abbrev pub options_of : StampedWorld → Options
options_of w = record {
  fs = record { symlink = true; executable_bit = w.executable_bit };
  thread_limit = None;
  stat = w.stat_options;
  fscache = false;
  chunk_size = 0;
}

-- The query of a run's status.
abbrev pub query_of : StampedWorld → Comparer → Query (Option ObjectId) (Unit {0})
query_of w comparer = status_query (options_of w) w.timestamp true (lstat_in w.tree) (open_in w.tree) (target_in w.tree)
    (compared_by comparer) (counted_by comparer)

-- The verdict of an entry in a run: its status, none, or its fault.
abbrev pub verdict_in : StampedWorld → Comparer → IndexEntry → Result (Option RunStatus) Error
verdict_in w comparer e = verdict (query_of w comparer) w.entries e

-- The record of an entry, if it has a status.
abbrev pub reported_by : ℕ → List ℕ → Result (Option RunStatus) Error → List Reported
reported_by i path (Ok (Some status)) = record { entry_index = i; path = path; status = status } ∷ []
reported_by i path (Ok None) = []
reported_by i path (Err e) = []

-- A run is a status of all paths, without filter, listings, blobs or submodules.
-- Its report has the records of all entries and their counts, if no entry has a fault.
abbrev pub report_of : StampedWorld → Comparer → RunReport
report_of w comparer = record {
  records = flat_map (λ p. reported_by p.0 p.1.path (verdict_in w comparer p.1)) (enumerate_from 0 w.entries);
  outcome = outcome_of
      (record {
        totals = record {
          counts = counts_in (query_of w comparer) w.entries w.entries;
          reads = reads_in (query_of w comparer) w.entries;
        };
        interrupted = false;
      })
      (length w.entries)
      (record { start = 0; end = length w.entries });
}

-- An entry after the change that its status asks for is stored. Its position, here 0, doesn't matter.
abbrev pub stored_verdict : IndexEntry → Result (Option RunStatus) Error → IndexEntry
stored_verdict e (Ok (Some status)) = updated_entry (change_of 0 status) e
stored_verdict e (Ok None) = e
stored_verdict e (Err fault) = e

-- ---- the events

-- An event moves the clock, changes or stages a path, or runs a status and stores what it asks.
abbrev pub after_event : Event → StampedWorld → StampedWorld
after_event (events.Tick n) w = record w { clock = plus_seconds w.clock n }
after_event (events.TickNanos n) w = record w { clock = plus_nanoseconds w.clock n }
after_event (events.Write path bytes) w =
    with_node w (bstring_bytes path) (Some (written w.clock File (is_executable_at (node_at w (bstring_bytes path))) bytes.items))
after_event (events.Link path target) w =
    with_node w (bstring_bytes path) (Some (written w.clock Link false target.items))
after_event (events.SetExecutable path executable) w =
    with_node w (bstring_bytes path) (option_map (with_executability w.clock executable) (node_at w (bstring_bytes path)))
after_event (events.Remove path) w = with_node w (bstring_bytes path) None
after_event (events.Stage path) w = record w {
  entries = with_entry w.entries (bstring_bytes path) (option_map (entry_of w (bstring_bytes path)) (stored_node (node_at w (bstring_bytes path))));
  staged = with_value w.staged (bstring_bytes path) (option_map plain_of (stored_node (node_at w (bstring_bytes path))));
}
after_event (events.Run comparer chunk_size thread_limit stamp) w = record w {
  entries = map (λ e. stored_verdict e (verdict_in w comparer e)) w.entries;
  timestamp = stamp;
}
