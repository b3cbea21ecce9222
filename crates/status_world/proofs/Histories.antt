-- The history theorem: in a list of accepted events each run's report is exact, and the index can be trusted at the end.
use Rattle.std.proofs.Common.{◌≡◌, inl, inr, refl, sym, ap, subst, ◌∙◌, ℕ, zero, suc, Bool, true, false, cond, List, [], ◌∷◌, ◌++◌, map, take, Option, Some, None, IfSome}
use Rattle.std.specs.Prelude.{nat_le}
use Rattle.std.specs.Ordering.{nat_cmp}
use Rattle.std.specs.Cmp.Lexicographic.{slice_cmp}
use Rattle.std.specs.FinMap as paths
use Rattle.status_base.specs.MemoryTree.{Placed, PathMap}
use Rattle.status_compare.specs.declared.error.Error.{Error}
use Rattle.status_world.specs.declared.world.event.Event.{Event}
use Rattle.status_world.specs.declared.world.event.Event.TheVariants as events
use Rattle.status_compare.specs.declared.compare.Comparer.{Comparer}
use Rattle.status_world.specs.declared.world.event.Run.{Run}
use Rattle.status_world.specs.declared.world.event.Refusal.{Refusal}
use Rattle.status_world.specs.declared.world.event.Refusal.TheVariants as refusals
use Rattle.status_world.specs.Events.{contents_at, contents_of_events, run_event}
use Rattle.status_world.specs.History.{IsIn, AreAccepted, after_events, reports_at, reports_of, plain_at, plains_of, IsExact, AreExact, plain_world_of, contents_at_hand, HaveDistinctIds, accepted_count, IsReplay, IsExactReplay}
use Rattle.status_world.specs.Moments.{is_after}
use Rattle.status_world.specs.PlainWorld.{Plain, PlainWorld, plain_after}
use Rattle.status_world.specs.Refusals.{◌orelse◌, fault_refusal, stamp_refusal, refusal_of}
use Rattle.status_world.specs.Reports.{RunReport}
use Rattle.status_world.specs.Sound.{IsFormed, IsSound}
use Rattle.status_world.specs.StampedWorld.{StampedWorld, node_at, report_of, after_event}
use Rattle.status_world.proofs.ChangedPaths.{in_left, in_right, in_either}
use Rattle.status_world.proofs.EntryLists.{is_path}
use Rattle.status_world.proofs.ExactReports.{AllHaveOwnIds, report_shown, run_faultless}
use Rattle.status_world.proofs.FormedWorlds.{formed_kept}
use Rattle.status_world.proofs.KnownContents.{KnowsContents, AreDistinct, own_ids, known_after}
use Rattle.status_world.proofs.Shown.{Shows, shows_plain, shows_after}
use Rattle.status_world.proofs.SoundWorlds.{sound_kept}

-- ---- over any predicate on contents

kind_kept : (e : Event) (w : StampedWorld) → (after_event e w).kind ≡ w.kind
kind_kept (events.Tick n) w = refl
kind_kept (events.TickNanos n) w = refl
kind_kept (events.Write path bytes) w = refl
kind_kept (events.Link path target) w = refl
kind_kept (events.SetExecutable path executable) w = refl
kind_kept (events.Remove path) w = refl
kind_kept (events.Stage path) w = refl
kind_kept (events.Run comparer chunk_size thread_limit stamp) w = refl

bit_kept : (e : Event) (w : StampedWorld) → (after_event e w).executable_bit ≡ w.executable_bit
bit_kept (events.Tick n) w = refl
bit_kept (events.TickNanos n) w = refl
bit_kept (events.Write path bytes) w = refl
bit_kept (events.Link path target) w = refl
bit_kept (events.SetExecutable path executable) w = refl
bit_kept (events.Remove path) w = refl
bit_kept (events.Stage path) w = refl
bit_kept (events.Run comparer chunk_size thread_limit stamp) w = refl

-- An exact report is put in front if the event is a run.
exact_more : (e : Event) (w : StampedWorld) (p : PlainWorld) (x : Bool) (rs : List RunReport) (ps : List PlainWorld) → ((c : Comparer) → IsExact x (report_of w c) p)
    → AreExact x rs ps → AreExact x (reports_at e w ++ rs) (plain_at e p ++ ps)
exact_more (events.Run comparer chunk_size thread_limit stamp) w p x rs ps now later = (now comparer, later)
exact_more (events.Tick n) w p x rs ps now later = later
exact_more (events.TickNanos n) w p x rs ps now later = later
exact_more (events.Write path bytes) w p x rs ps now later = later
exact_more (events.Link path target) w p x rs ps now later = later
exact_more (events.SetExecutable path executable) w p x rs ps now later = later
exact_more (events.Remove path) w p x rs ps now later = later
exact_more (events.Stage path) w p x rs ps now later = later

-- The reports are exact, and the last world is formed and can be trusted.
pub record IsTrueHistory (es : List Event) (w : StampedWorld) (p : PlainWorld) : Type 0 where
  pub exact : AreExact w.executable_bit (reports_of es w) (plains_of es p)
  pub formed : IsFormed (after_events es w)
  pub sound : IsSound (after_events es w)

module _ (K : List ℕ → Type 0) where
  abbrev AllBrought : List Event → Type 0
  AllBrought es = (x : List ℕ) → IsIn x (contents_of_events es) → K x

  pub history_over : (es : List Event) (w : StampedWorld) (p : PlainWorld) → AreDistinct K w.kind → KnowsContents K w → AllBrought es
      → IsFormed w → IsSound w → Shows w p → AreAccepted es w → IsTrueHistory es w p
  history_over [] w p distinct known brought f sound shows accepted = record { exact = tt; formed = f; sound = sound }
  history_over (e ∷ es) w p distinct known brought f sound shows accepted =
      let own : AllHaveOwnIds w = own_ids K w distinct known in
      let after : StampedWorld = after_event e w in
      let later : IsTrueHistory es after (plain_after e p) =
      history_over es after (plain_after e p)
      (subst (AreDistinct K) (sym (kind_kept e w)) distinct)
      (known_after K e w (λ x h. brought x (in_left x (contents_at e) (contents_of_events es) h)) known)
      (λ x h. brought x (in_right x (contents_at e) (contents_of_events es) h))
      (formed_kept e w accepted.0 f) (sound_kept e w f own sound) (shows_after e w p accepted.0 f shows) accepted.1 in
      record {
        exact = exact_more e w p w.executable_bit (reports_of es after) (plains_of es (plain_after e p)) (λ c. report_shown w c f sound own p shows)
            (subst (λ x. AreExact x (reports_of es after) (plains_of es (plain_after e p))) (bit_kept e w) later.exact);
        formed = later.formed;
        sound = later.sound;
      }

-- ---- all contents

module _ {A : Type 0} (bytes : A → List ℕ) where
  found_in : (b : Bool) (x : A) (o : Option A) (others : List (List ℕ)) → IfSome o (λ y. IsIn (bytes y) others) → IfSome (cond b (Some x) o) (λ y. IsIn (bytes y) (bytes x ∷ others))
  found_in true x o others h = inl refl
  found_in false x None others h = tt
  found_in false x (Some y) others h = inr h

  find-in : (es : List (List ℕ × A)) (q : List ℕ) → IfSome (paths.find (slice_cmp nat_cmp) q es) (λ y. IsIn (bytes y) (map bytes (map (λ e. e.1) es)))
  find-in [] q = tt
  find-in (e ∷ es) q = found_in (is_path q e.0) e.1 (paths.find (slice_cmp nat_cmp) q es) (map bytes (map (λ e. e.1) es)) (find-in es q)

  -- A value that a lookup finds is among the map's values.
  get-in : (m : PathMap A) (q : List ℕ) → IfSome (paths.get m q) (λ y. IsIn (bytes y) (map bytes (paths.values m)))
  get-in m q = subst (λ o. IfSome o (λ y. IsIn (bytes y) (map bytes (paths.values m)))) (sym (paths.get-entries m q)) (find-in (paths.entries m) q)

  some_weaker : (P Q : List ℕ → Type 0) → ((x : List ℕ) → P x → Q x) → (o : Option A) → IfSome o (λ y. P (bytes y)) → IfSome o (λ y. Q (bytes y))
  some_weaker P Q f None h = tt
  some_weaker P Q f (Some y) h = f (bytes y) h

module _ (w : StampedWorld) (es : List Event) where
  abbrev AtHand : List ℕ → Type 0
  AtHand x = IsIn x (contents_at_hand w es)

  abbrev of_nodes : List (List ℕ)
  of_nodes = map (λ n. n.bytes) (paths.values w.tree.nodes)

  abbrev of_staged : List (List ℕ)
  of_staged = map (λ s. s.bytes) (paths.values w.staged)

  node_at_hand : (x : List ℕ) → IsIn x of_nodes → AtHand x
  node_at_hand x h = in_left x (of_nodes ++ of_staged ++ contents_of_events es) ([] ∷ []) (in_left x (of_nodes ++ of_staged) (contents_of_events es) (in_left x of_nodes of_staged h))

  staged_at_hand : (x : List ℕ) → IsIn x of_staged → AtHand x
  staged_at_hand x h = in_left x (of_nodes ++ of_staged ++ contents_of_events es) ([] ∷ []) (in_left x (of_nodes ++ of_staged) (contents_of_events es) (in_right x of_nodes of_staged h))

  event_at_hand : (x : List ℕ) → IsIn x (contents_of_events es) → AtHand x
  event_at_hand x h = in_left x (of_nodes ++ of_staged ++ contents_of_events es) ([] ∷ []) (in_right x (of_nodes ++ of_staged) (contents_of_events es) h)

  known_at_hand : KnowsContents AtHand w
  known_at_hand = record {
    nodes = λ q. some_weaker (λ (n : Placed). n.bytes) (λ x. IsIn x of_nodes) AtHand node_at_hand (node_at w q) (get-in (λ (n : Placed). n.bytes) w.tree.nodes q);
    staged = λ q. some_weaker (λ (s : Plain). s.bytes) (λ x. IsIn x of_staged) AtHand staged_at_hand (paths.get w.staged q) (get-in (λ (s : Plain). s.bytes) w.staged q);
    empty = in_right [] (of_nodes ++ of_staged ++ contents_of_events es) ([] ∷ []) (inl refl);
  }

-- If a world's index can be trusted, it still can after accepted events. The report of each run is then exact for the plain
-- world at the run.
pub history : (es : List Event) (w : StampedWorld) → IsFormed w → IsSound w → HaveDistinctIds w.kind (contents_at_hand w es) → AreAccepted es w
    → AreExact w.executable_bit (reports_of es w) (plains_of es (plain_world_of w)) × IsSound (after_events es w)
history es w f sound distinct accepted =
    let all : IsTrueHistory es w (plain_world_of w) =
    history_over (AtHand w es) es w (plain_world_of w) distinct (known_at_hand w es) (event_at_hand w es) f sound (shows_plain w) accepted in
    (all.exact, all.sound)

-- Accepted events keep a world formed, whether contents with equal ids are equal or not.
pub formed_events : (es : List Event) (w : StampedWorld) → IsFormed w → AreAccepted es w → IsFormed (after_events es w)
formed_events [] w f accepted = f
formed_events (e ∷ es) w f accepted = formed_events es (after_event e w) (formed_kept e w accepted.0 f) accepted.1

-- The report of one run is exact.
pub report_exact : (w : StampedWorld) (es : List Event) (c : Comparer) → IsFormed w → IsSound w → HaveDistinctIds w.kind (contents_at_hand w es) → IsExact w.executable_bit (report_of w c) (plain_world_of w)
report_exact w es c f sound distinct =
    report_shown w c f sound (own_ids (AtHand w es) w distinct (known_at_hand w es)) (plain_world_of w) (shows_plain w)

-- ---- a replay

-- The reports of a replay are exact, and its index can still be trusted.
pub replay_exact : (w : StampedWorld) (es : List Event) (final : StampedWorld) (reports : List RunReport) (stopped : Option (ℕ × Refusal)) → IsFormed w → IsSound w
    → HaveDistinctIds w.kind (contents_at_hand w (take (accepted_count es stopped) es)) → IsReplay w es final reports stopped → IsExactReplay w es final reports stopped
replay_exact w es final reports stopped f sound distinct replay =
    let n : ℕ = accepted_count es stopped in
    let all : IsTrueHistory (take n es) w (plain_world_of w) =
    history_over (AtHand w (take n es)) (take n es) w (plain_world_of w) distinct (known_at_hand w (take n es)) (event_at_hand w (take n es)) f sound (shows_plain w) replay.accepted in
    record {
      exact = subst (λ (rs : List RunReport). AreExact w.executable_bit rs (plains_of (take n es) (plain_world_of w))) (sym replay.reported) all.exact;
      sound = subst IsSound (sym replay.world) all.sound;
    }

-- A run of a formed world is refused for its timestamp alone.
orelse_nothing : (o : Option Refusal) → (o orelse None) ≡ o
orelse_nothing (Some r) = refl
orelse_nothing None = refl

pub run_refusal : (w : StampedWorld) (run : Run) → IsFormed w → refusal_of (run_event run) w ≡ stamp_refusal w.clock run.stamp
run_refusal w run f =
    ap (λ (o : Option Error). stamp_refusal w.clock run.stamp orelse fault_refusal o) (run_faultless w run.comparer f)
    ∙ orelse_nothing (stamp_refusal w.clock run.stamp)
