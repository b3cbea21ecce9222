-- An index that can be trusted still can after accepted events.
use Rattle.std.proofs.Common.{◌≡◌, refl, sym, subst, ℕ, Bool, false, List, Option, Some, None, option_map}
use Rattle.std.specs.FinMap as paths
use Rattle.bstr.specs.Owned.{bstring_bytes}
use Rattle.status_index.specs.declared.id.HashKind.{HashKind}
use Rattle.status_index.specs.declared.stat.NodeKind.TheVariants.{File, Link}
use Rattle.status_index.specs.declared.stat.Moment.{Moment}
use Rattle.status_index.specs.declared.stat.Options.{Options}
use Rattle.status_index.specs.Entries.{IndexEntry}
use Rattle.status_base.specs.MemoryTree.{Placed}
use Rattle.status_world.specs.declared.world.event.Event.{Event}
use Rattle.status_world.specs.declared.world.event.Event.TheVariants as events
use Rattle.status_world.specs.declared.world.event.Run.{Run}
use Rattle.status_world.specs.Moments.{plus_seconds, plus_nanoseconds}
use Rattle.status_world.specs.PlainWorld.{Plain}
use Rattle.status_world.specs.Sound.{IsFormed, IsSound, IsSoundAt}
use Rattle.status_world.specs.Events.{run_event}
use Rattle.status_world.specs.StampedWorld.{StampedWorld, empty_world, node_at, entry_of_path, with_node, written, is_executable_at, with_executability, stored_node, plain_of, stored_verdict, after_event}
use Rattle.status_world.proofs.EntryVerdicts.{IsStagedEntry, verdict_by}
use Rattle.status_world.proofs.ExactReports.{AllHaveOwnIds, met_at}
use Rattle.status_world.proofs.FormedWorlds.{new_entry_at, new_named}
use Rattle.status_world.proofs.PathCases.{each_with, each_staged, each_run}
use Rattle.status_world.proofs.Steps.{at_over, at_later, at_written, at_changed, at_removed, at_staged, at_stored}

-- A path without an entry is sound.
no_entry : (w : StampedWorld) (n : Option Placed) (s : Option Plain) → IsSoundAt w n None s
no_entry w None s = tt
no_entry w (Some n) s = tt

pub sound_new : (kind : HashKind) (o : Options) (x : Bool) (clock timestamp : Moment) → IsSound (empty_world kind o x clock timestamp)
sound_new kind o x clock timestamp p = let w = empty_world kind o x clock timestamp in no_entry w (node_at w p) (paths.get w.staged p)

sound_with_node : (w : StampedWorld) (p : List ℕ) (v : Option Placed) → IsSound w → IsSoundAt w v (entry_of_path p w.entries) (paths.get w.staged p) → IsSound (with_node w p v)
sound_with_node w p v sound here =
    let u : StampedWorld = with_node w p v in
    each_with w.tree.nodes p v (λ q n. IsSoundAt u n (entry_of_path q w.entries) (paths.get w.staged q))
    (at_over w u refl refl v (entry_of_path p w.entries) (paths.get w.staged p) here)
    (λ q. at_over w u refl refl (node_at w q) (entry_of_path q w.entries) (paths.get w.staged q) (sound q))

module _ (w : StampedWorld) (run : Run) (f : IsFormed w) (sound : IsSound w) (own : AllHaveOwnIds w) where
  abbrev after : StampedWorld
  after = after_event (run_event run) w

  run_by : (e : IndexEntry) (staged : IsStagedEntry w e) (n : Option Placed) → node_at w e.path ≡ n → IsSoundAt w n (Some e) (Some staged.was)
      → IsSoundAt after n (Some (stored_verdict e (verdict_by w run.comparer e n))) (Some staged.was)
  run_by e staged None there h = h
  run_by e staged (Some n) there h =
      at_stored w run.comparer e n staged.was (met_at w f e n staged there) (own e.path n staged.was there staged.staged) h run.stamp after.entries

  sound_run : IsSound after
  sound_run =
      each_run w run.comparer (λ q e. IsSoundAt after (node_at w q) e (paths.get w.staged q)) f
      (λ q none. no_entry after (node_at w q) (paths.get w.staged q))
      (λ e staged.
      subst (λ s. IsSoundAt after (node_at w e.path) (Some (stored_verdict e (verdict_by w run.comparer e (node_at w e.path)))) s) (sym staged.staged)
      (run_by e staged (node_at w e.path) refl
      (subst (λ o. IsSoundAt w (node_at w e.path) o (Some staged.was)) staged.here
      (subst (λ s. IsSoundAt w (node_at w e.path) (entry_of_path e.path w.entries) s) staged.staged (sound e.path)))))

-- The index can still be trusted after each event.
pub sound_kept : (e : Event) (w : StampedWorld) → IsFormed w → AllHaveOwnIds w → IsSound w → IsSound (after_event e w)
sound_kept (events.Tick n) w f own sound = λ p. at_later w (plus_seconds w.clock n) (node_at w p) (entry_of_path p w.entries) (paths.get w.staged p) (sound p)
sound_kept (events.TickNanos n) w f own sound = λ p. at_later w (plus_nanoseconds w.clock n) (node_at w p) (entry_of_path p w.entries) (paths.get w.staged p) (sound p)
sound_kept (events.Write path bytes) w f own sound =
    let p : List ℕ = bstring_bytes path in
    sound_with_node w p (Some (written w.clock File (is_executable_at (node_at w p)) bytes.items)) sound
    (at_written w File (is_executable_at (node_at w p)) bytes.items f.timestamp (node_at w p) (entry_of_path p w.entries) (paths.get w.staged p) (sound p))
sound_kept (events.Link path target) w f own sound =
    let p : List ℕ = bstring_bytes path in
    sound_with_node w p (Some (written w.clock Link false target.items)) sound
    (at_written w Link false target.items f.timestamp (node_at w p) (entry_of_path p w.entries) (paths.get w.staged p) (sound p))
sound_kept (events.SetExecutable path executable) w f own sound =
    let p : List ℕ = bstring_bytes path in
    sound_with_node w p (option_map (with_executability w.clock executable) (node_at w p)) sound
    (at_changed w executable (node_at w p) (entry_of_path p w.entries) (paths.get w.staged p) (f.at p) (sound p))
sound_kept (events.Remove path) w f own sound =
    let p : List ℕ = bstring_bytes path in
    sound_with_node w p None sound (at_removed w (node_at w p) (entry_of_path p w.entries) (paths.get w.staged p) (sound p))
sound_kept (events.Stage path) w f own sound =
    let p : List ℕ = bstring_bytes path in
    let u : StampedWorld = after_event (events.Stage path) w in
    let v : Option Plain = option_map plain_of (stored_node (node_at w p)) in
    each_staged w.entries w.staged p (new_entry_at w p) v (λ q e s. IsSoundAt u (node_at w q) e s) (new_named w p)
    (at_over w u refl refl (node_at w p) (new_entry_at w p) v (at_staged w p (node_at w p) (entry_of_path p w.entries) (paths.get w.staged p) (f.at p)))
    (λ q. at_over w u refl refl (node_at w q) (entry_of_path q w.entries) (paths.get w.staged q) (sound q))
sound_kept (events.Run comparer chunk_size thread_limit stamp) w f own sound = sound_run w (record { comparer = comparer; chunk_size = chunk_size; thread_limit = thread_limit; stamp = stamp }) f sound own
