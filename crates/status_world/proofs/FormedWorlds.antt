-- Worlds begin formed, and accepted events keep them so.
use Rattle.std.proofs.Common.{◌≡◌, refl, sym, subst, ℕ, ◌<◌, ◌&&◌, Bool, true, false, not, List, length, Option, Some, None, option_map, is_some, IsTrue, IfSome, arith}
use Rattle.std.specs.Prelude.{nat_le}
use Rattle.std.specs.Ordering.{nat_cmp}
use Rattle.std.specs.Cmp.Lexicographic.{slice_cmp}
use Rattle.std.specs.FinMap as paths
use Rattle.std.proofs.lemmas.Bool.{or_parts}
use Rattle.std.proofs.lemmas.Bool.Decides.{nat_tests}
use Rattle.bstr.specs.Owned.{bstring_bytes}
use Rattle.bstr.specs.declared.bstring.BString.{BString}
use Rattle.status_index.specs.declared.id.HashKind.{HashKind}
use Rattle.status_index.specs.declared.stat.NodeKind.{NodeKind}
use Rattle.status_index.specs.declared.stat.NodeKind.TheVariants.{File, Link}
use Rattle.status_index.specs.declared.stat.Moment.{Moment}
use Rattle.status_index.specs.declared.stat.Options.{Options}
use Rattle.status_index.specs.Entries.{IndexEntry}
use Rattle.status_base.specs.MemoryTree.{Placed, has_below, has_file_above}
use Rattle.status_base.specs.Nodes.{is_bad_path}
use Rattle.status_world.specs.declared.world.event.Event.{Event}
use Rattle.status_world.specs.declared.world.event.Event.TheVariants as events
use Rattle.status_world.specs.declared.world.event.Run.{Run}
use Rattle.status_world.specs.declared.world.event.Refusal.{Refusal}
use Rattle.status_world.specs.declared.world.event.Refusal.TheVariants as refusals
use Rattle.status_world.specs.Moments.{IsAtMost, is_after, plus_seconds, plus_nanoseconds}
use Rattle.status_world.specs.PlainWorld.{Plain, with_value}
use Rattle.status_call.specs.Records.{first_fault}
use Rattle.status_world.specs.Refusals.{◌orelse◌, refuse_if, refusal_of, start_refusal, stamp_refusal, fault_refusal, is_blocked, is_regular_file, write_refusal}
use Rattle.status_world.specs.Sound.{IsFormed, IsFormedAt, IsFormedNode}
use Rattle.status_world.specs.Events.{run_event}
use Rattle.status_world.specs.StampedWorld.{StampedWorld, query_of, empty_world, node_at, entry_of_path, with_node, written, with_executability, stored_node, entry_of, plain_of, is_stored_kind, after_event, stored_verdict}
use Rattle.status_world.proofs.EntryLists.{All-with, ascending-with, ascending-map, normal-map}
use Rattle.status_world.proofs.EntryVerdicts.{node_of_at, verdict_by}
use Rattle.status_world.proofs.Formed.{Follows, formed_later, formed_written, formed_removed, formed_changed, formed_staged, formed_stored}
use Rattle.status_world.proofs.Leaves.{AreLeaves, leaves_changed, leaves_put}
use Rattle.status_world.proofs.Moments.{at_most_refl, at_most_trans, at_most_plus, at_most_plus_nanos, at_most_not_after}
use Rattle.status_world.proofs.PathCases.{each_with, each_staged, each_run, stored_in, stored_paths}

-- ---- what follows if an event isn't refused

orelse_none : (a b : Option Refusal) → (a orelse b) ≡ None → (a ≡ None) × (b ≡ None)
orelse_none None b h = (refl, h)
orelse_none (Some r) b h = cc

refuse_none : (b : Bool) (r : Refusal) → refuse_if b r ≡ None → b ≡ false
refuse_none true r h = cc
refuse_none false r h = refl

pub record IsWritable (w : StampedWorld) (p bytes : List ℕ) : Type 0 where
  pub good : is_bad_path p ≡ false
  pub free : is_blocked w p ≡ false
  pub small : length bytes < 4294967296

not_large : (n : ℕ) → nat_le 4294967296 n ≡ false → n < 4294967296
not_large n h = grind (arith, nat_tests)

pub writable : (w : StampedWorld) (p bytes : List ℕ) → write_refusal w p bytes ≡ None → IsWritable w p bytes
writable w p bytes h =
    let first = orelse_none _ _ h in
    let second = orelse_none _ _ first.1 in
    record { good = refuse_none (is_bad_path p) _ first.0; free = refuse_none (is_blocked w p) _ second.0; small = not_large (length bytes) (refuse_none (nat_le 4294967296 (length bytes)) _ second.1) }

-- A run's timestamp isn't after the clock.
pub runnable : (w : StampedWorld) (run : Run) → refusal_of (run_event run) w ≡ None → IsAtMost run.stamp w.clock
runnable w run h =
    let stamped = (orelse_none (stamp_refusal w.clock run.stamp) (fault_refusal (first_fault (query_of w run.comparer) w.entries)) h).0 in
    let later = (orelse_none (refuse_if (nat_le 1000000000 run.stamp.nsecs) refusals.BadMoment) (refuse_if (is_after run.stamp w.clock) refusals.StampLater) stamped).1 in
    at_most_not_after run.stamp w.clock (refuse_none (is_after run.stamp w.clock) refusals.StampLater later)

not_false : (b : Bool) → not b ≡ false → b ≡ true
not_false true h = refl
not_false false h = cc

-- If executability is set, a regular file is there.
pub not_a_file : (w : StampedWorld) (path : BString) (executable : Bool) → refusal_of (events.SetExecutable path executable) w ≡ None → is_regular_file (node_at w (bstring_bytes path)) ≡ true
not_a_file w path executable h = not_false _ (refuse_none (not (is_regular_file (node_at w (bstring_bytes path)))) _ (orelse_none _ _ h).1)

-- ---- the beginning

pub formed_new : (kind : HashKind) (o : Options) (x : Bool) (clock timestamp : Moment) → start_refusal clock timestamp ≡ None → IsFormed (empty_world kind o x clock timestamp)
formed_new kind o x clock timestamp h =
    let w : StampedWorld = empty_world kind o x clock timestamp in
    let bare : (p : List ℕ) → paths.get w.tree.nodes p ≡ None = λ p. paths.get-empty (slice_cmp nat_cmp) p in
    let unstaged : (p : List ℕ) → paths.get w.staged p ≡ None = λ p. paths.get-empty (slice_cmp nat_cmp) p in
    record {
      at = λ p. subst (λ n. IsFormedAt w n None (paths.get w.staged p)) (sym (bare p)) (subst (λ s. IsFormedAt w None None s) (sym (unstaged p)) tt);
      timestamp = at_most_not_after timestamp clock (refuse_none (is_after timestamp clock) _ (orelse_none _ _ h).1);
      normal = λ k d l. absurd (omega arith);
      ascending = λ i j d l m. absurd (omega arith);
      leaves = λ p d there above. bare d;
      unplanted = refl;
    }

-- ---- the clock advances

formed_clock : (w : StampedWorld) (c : Moment) → IsAtMost w.clock c → IsFormed w → IsFormed (record w { clock = c })
formed_clock w c later f = record {
  at = λ p. formed_later w (record w { clock = c }) (record { kind = refl; executable_bit = refl; clock = later }) (node_at w p) (entry_of_path p w.entries) (paths.get w.staged p) (f.at p);
  timestamp = at_most_trans w.timestamp w.clock c f.timestamp later;
  normal = f.normal;
  ascending = f.ascending;
  leaves = f.leaves;
  unplanted = f.unplanted;
}

-- ---- another node

formed_with_node : (w : StampedWorld) (p : List ℕ) (v : Option Placed) → IsFormed w → IsFormedAt w v (entry_of_path p w.entries) (paths.get w.staged p)
    → AreLeaves (with_value w.tree.nodes p v) → IsFormed (with_node w p v)
formed_with_node w p v f here leaves =
    let u : StampedWorld = with_node w p v in
    let as_before : (q : List ℕ) (n : Option Placed) → IsFormedAt w n (entry_of_path q w.entries) (paths.get w.staged q) → IsFormedAt u n (entry_of_path q w.entries) (paths.get w.staged q) =
    λ q n h. formed_later w u (record { kind = refl; executable_bit = refl; clock = at_most_refl w.clock }) n (entry_of_path q w.entries) (paths.get w.staged q) h in
    record {
      at = each_with w.tree.nodes p v (λ q n. IsFormedAt u n (entry_of_path q w.entries) (paths.get w.staged q)) (as_before p v here) (λ q. as_before q (node_at w q) (f.at q));
      timestamp = f.timestamp;
      normal = f.normal;
      ascending = f.ascending;
      leaves = leaves;
      unplanted = f.unplanted;
    }

-- Each node is a file or link.
stored_kinds : (w : StampedWorld) → IsFormed w → (q : List ℕ) → IfSome (paths.get w.tree.nodes q) (λ m. IsTrue (is_stored_kind m.metadata.kind))
stored_kinds w f q = kind_of (node_at w q) (node_of_at w (node_at w q) (entry_of_path q w.entries) (paths.get w.staged q) (f.at q))
  where
    kind_of : (o : Option Placed) → IfSome o (IsFormedNode w.clock) → IfSome o (λ m. IsTrue (is_stored_kind m.metadata.kind))
    kind_of None h = tt
    kind_of (Some n) h = h.kind

none_of_both : (a b : Bool) → b ≡ false → (a && b) ≡ false
none_of_both true b none = none
none_of_both false b none = refl

formed_put : (w : StampedWorld) (p : List ℕ) (kind : NodeKind) (executable : Bool) (bytes : List ℕ) → IsTrue (is_stored_kind kind) → IsWritable w p bytes → IsFormed w
    → IsFormed (with_node w p (Some (written w.clock kind executable bytes)))
formed_put w p kind executable bytes stored may f =
    let parts = or_parts (has_file_above w.tree p) (has_below w.tree p) may.free in
    formed_with_node w p (Some (written w.clock kind executable bytes)) f
    (formed_written w kind executable bytes stored may.small (node_at w p) (entry_of_path p w.entries) (paths.get w.staged p) (f.at p))
    (leaves_put w.tree p (written w.clock kind executable bytes) (stored_kinds w f) parts.0 (none_of_both (not (is_some (node_at w p))) (has_below w.tree p) parts.1) f.leaves)

formed_remove : (w : StampedWorld) (p : List ℕ) → IsFormed w → IsFormed (with_node w p None)
formed_remove w p f =
    formed_with_node w p None f
    (formed_removed w (node_at w p) (entry_of_path p w.entries) (paths.get w.staged p) (f.at p))
    (leaves_changed w.tree.nodes p None (λ h. cc) f.leaves)

formed_set : (w : StampedWorld) (p : List ℕ) (executable : Bool) → IsFormed w → IsFormed (with_node w p (option_map (with_executability w.clock executable) (node_at w p)))
formed_set w p executable f =
    formed_with_node w p (option_map (with_executability w.clock executable) (node_at w p)) f
    (formed_changed w executable (node_at w p) (entry_of_path p w.entries) (paths.get w.staged p) (f.at p))
    (leaves_changed w.tree.nodes p _ (had (node_at w p)) f.leaves)
  where
    had : (o : Option Placed) → IsTrue (is_some (option_map (with_executability w.clock executable) o)) → IsTrue (is_some o)
    had None h = h
    had (Some n) h = refl

-- ---- staging

module _ (w : StampedWorld) (p : List ℕ) where
  abbrev pub new_entry_at : Option IndexEntry
  new_entry_at = option_map (entry_of w p) (stored_node (node_at w p))

  all_mapped : (P : IndexEntry → Type 0) → ((n : Placed) → P (entry_of w p n)) → (o : Option Placed) → IfSome (option_map (entry_of w p) o) P
  all_mapped P h None = tt
  all_mapped P h (Some n) = h n

  -- The new entry has the path.
  pub new_named : IfSome new_entry_at (λ e. e.path ≡ p)
  new_named = all_mapped (λ e. e.path ≡ p) (λ n. refl) (stored_node (node_at w p))

formed_stage : (w : StampedWorld) (path : BString) → is_bad_path (bstring_bytes path) ≡ false → IsFormed w → IsFormed (after_event (events.Stage path) w)
formed_stage w path good f =
    let p : List ℕ = bstring_bytes path in
    let u : StampedWorld = after_event (events.Stage path) w in
    let stays : Follows w u = record { kind = refl; executable_bit = refl; clock = at_most_refl w.clock } in
    let as_before : (q : List ℕ) (e : Option IndexEntry) (s : Option Plain) → IsFormedAt w (node_at w q) e s → IsFormedAt u (node_at w q) e s = λ q e s h. formed_later w u stays (node_at w q) e s h in
    record {
      at = each_staged w.entries w.staged p (new_entry_at w p) (option_map plain_of (stored_node (node_at w p))) (λ q e s. IsFormedAt u (node_at w q) e s) (new_named w p)
          (as_before p (new_entry_at w p) (option_map plain_of (stored_node (node_at w p))) (formed_staged w p (node_at w p) (entry_of_path p w.entries) (paths.get w.staged p) (f.at p)))
          (λ q. as_before q (entry_of_path q w.entries) (paths.get w.staged q) (f.at q));
      timestamp = f.timestamp;
      normal = All-with (λ e. is_bad_path e.path ≡ false) w.entries p (new_entry_at w p) f.normal (all_mapped w p (λ e. is_bad_path e.path ≡ false) (λ n. good) (stored_node (node_at w p)));
      ascending = ascending-with w.entries p (new_entry_at w p) f.ascending (new_named w p);
      leaves = f.leaves;
      unplanted = f.unplanted;
    }

-- ---- a run

module _ (w : StampedWorld) (run : Run) (f : IsFormed w) where
  abbrev after : StampedWorld
  after = after_event (run_event run) w

  abbrev stays : Follows w after
  stays = record { kind = refl; executable_bit = refl; clock = at_most_refl w.clock }

  run_some : (e : IndexEntry) (n : Option Placed) (s : Option Plain) → node_at w e.path ≡ n → IsFormedAt w n (Some e) s
      → IsFormedAt after n (Some (stored_verdict e (verdict_by w run.comparer e n))) s
  run_some e n None there h = absurd h
  run_some e None (Some s) there h = formed_later w after stays None (Some e) (Some s) h
  run_some e (Some n) (Some s) there h =
      formed_stored w run.comparer e n s (record { node = h.0; entry = h.1; there = there; unplanted = f.unplanted }) h.2 run.stamp after.entries

  formed_run : IsAtMost run.stamp w.clock → IsFormed after
  formed_run stamp = record {
    at = each_run w run.comparer (λ q e. IsFormedAt after (node_at w q) e (paths.get w.staged q)) f
        (λ q none. formed_later w after stays (node_at w q) None (paths.get w.staged q) (subst (λ e. IsFormedAt w (node_at w q) e (paths.get w.staged q)) none (f.at q)))
        (λ e staged. run_some e (node_at w e.path) (paths.get w.staged e.path) refl
        (subst (λ o. IsFormedAt w (node_at w e.path) o (paths.get w.staged e.path)) staged.here (f.at e.path)));
    timestamp = stamp;
    normal = normal-map (stored_in w run.comparer) (stored_paths w run.comparer) w.entries f.normal;
    ascending = ascending-map (stored_in w run.comparer) (stored_paths w run.comparer) w.entries f.ascending;
    leaves = f.leaves;
    unplanted = f.unplanted;
  }

-- ---- each event

pub formed_kept : (e : Event) (w : StampedWorld) → refusal_of e w ≡ None → IsFormed w → IsFormed (after_event e w)
formed_kept (events.Tick n) w h f = formed_clock w (plus_seconds w.clock n) (at_most_plus w.clock n) f
formed_kept (events.TickNanos n) w h f = formed_clock w (plus_nanoseconds w.clock n) (at_most_plus_nanos w.clock n) f
formed_kept (events.Write path bytes) w h f = formed_put w (bstring_bytes path) File _ bytes.items refl (writable w (bstring_bytes path) bytes.items h) f
formed_kept (events.Link path target) w h f = formed_put w (bstring_bytes path) Link false target.items refl (writable w (bstring_bytes path) target.items h) f
formed_kept (events.SetExecutable path executable) w h f = formed_set w (bstring_bytes path) executable f
formed_kept (events.Remove path) w h f = formed_remove w (bstring_bytes path) f
formed_kept (events.Stage path) w h f = formed_stage w path (refuse_none (is_bad_path (bstring_bytes path)) _ h) f
formed_kept (events.Run comparer chunk_size thread_limit stamp) w h f =
    let run : Run = record { comparer = comparer; chunk_size = chunk_size; thread_limit = thread_limit; stamp = stamp } in
    formed_run w run f (runnable w run h)
