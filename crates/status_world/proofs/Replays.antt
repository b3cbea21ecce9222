-- A replay, event by event. Its reports and its last world are those of the accepted events.
use Rattle.std.proofs.Common.{◌≡◌, inl, refl, sym, ap, subst, ◌∙◌, ℕ, ◌+◌, ◌<◌, List, [], ◌∷◌, ◌++◌, length, take, drop, Bool, Option, Some, None, option_map, IfSome, Ok, Err, slice_index_or, append_assoc}
use Rattle.std.specs.Ordering.{nat_cmp}
use Rattle.std.specs.Cmp.Lexicographic.{slice_cmp}
use Rattle.std.specs.FinMap as paths
use Rattle.std.proofs.Math.Seq.{drop-length}
use Rattle.std.proofs.lemmas.List.{append-nil, take_more, drop_more}
use Rattle.status_base.specs.MemoryTree.{Placed}
use Rattle.status_index.specs.declared.id.HashKind.{HashKind}
use Rattle.status_index.specs.declared.stat.Moment.{Moment}
use Rattle.status_index.specs.declared.stat.Options.{Options}
use Rattle.status_world.specs.declared.world.event.Event.{Event}
use Rattle.status_world.specs.declared.world.event.Refusal.{Refusal}
use Rattle.status_world.specs.EventAnswers.{IsListStep}
use Rattle.status_world.specs.Events.{contents_of_events}
use Rattle.status_world.specs.History.{IsIn, AreAccepted, after_events, reports_at, reports_of, plains_of, AreExact, HaveDistinctIds, accepted_count, IsStop, IsReplay}
use Rattle.status_world.specs.Laws.{MissesNoChange, ReplayLaw}
use Rattle.status_world.specs.PlainWorld.{empty_plain}
use Rattle.status_world.specs.Refusals.{refusal_of, start_refusal, IsRefused}
use Rattle.status_world.specs.Reports.{RunReport}
use Rattle.status_world.specs.Sound.{IsFormed, IsSound}
use Rattle.status_world.specs.StampedWorld.{StampedWorld, empty_world, plain_of, after_event}
use Rattle.status_world.proofs.ChangedPaths.{in_left, in_right}
use Rattle.status_world.proofs.FormedWorlds.{formed_new}
use Rattle.status_world.proofs.Histories.{IsTrueHistory, history_over, formed_events}
use Rattle.status_world.proofs.KnownContents.{KnowsContents}
use Rattle.status_world.proofs.Shown.{Shows}
use Rattle.status_world.proofs.SoundWorlds.{sound_new}

-- ---- one more event

after_more : (es : List Event) (e : Event) (w : StampedWorld) → after_events (es ++ e ∷ []) w ≡ after_event e (after_events es w)
after_more [] e w = refl
after_more (x ∷ es) e w = after_more es e (after_event x w)

accepted_more : (es : List Event) (e : Event) (w : StampedWorld) → AreAccepted es w → refusal_of e (after_events es w) ≡ None → AreAccepted (es ++ e ∷ []) w
accepted_more [] e w all last = (last, tt)
accepted_more (x ∷ es) e w all last = (all.0, accepted_more es e (after_event x w) all.1 last)

reports_more : (es : List Event) (e : Event) (w : StampedWorld) → reports_of (es ++ e ∷ []) w ≡ reports_of es w ++ reports_at e (after_events es w)
reports_more [] e w = append-nil (reports_at e w)
reports_more (x ∷ es) e w =
    ap (λ l. reports_at x w ++ l) (reports_more es e (after_event x w))
    ∙ sym (append_assoc (reports_at x w) (reports_of es (after_event x w)) (reports_at e (after_events es (after_event x w))))

-- The world and the reports after accepted events.
pub record AreReplayed (es : List Event) (w now : StampedWorld) (earlier : List RunReport) : Type 0 where
  pub accepted : AreAccepted es w
  pub world : now ≡ after_events es w
  pub reported : earlier ≡ reports_of es w

-- Before the first event.
pub begun : (w : StampedWorld) (earlier : List RunReport) → earlier ≡ [] → AreReplayed [] w w earlier
begun w earlier none = record { accepted = tt; world = refl; reported = none }

replayed_more : (es : List Event) (e : Event) (w now after : StampedWorld) (earlier all : List RunReport) → AreReplayed es w now earlier → IsListStep e now earlier (Ok tt) after all
    → AreReplayed (es ++ e ∷ []) w after all
replayed_more es e w now after earlier all so_far step = record {
  accepted = accepted_more es e w so_far.accepted (subst (λ u. refusal_of e u ≡ None) so_far.world step.0);
  world = step.2 ∙ (ap (after_event e) so_far.world ∙ sym (after_more es e w));
  reported = step.1 ∙ (ap (λ l. l ++ reports_at e now) so_far.reported ∙ (ap (λ u. reports_of es w ++ reports_at e u) so_far.world ∙ sym (reports_more es e w)));
}

-- One more event, by its position in the list.
pub one_more : (es : List Event) (n : ℕ) (e : Event) (w now after : StampedWorld) (earlier all : List RunReport) → n < length es → e ≡ slice_index_or es n e
    → AreReplayed (take n es) w now earlier → IsListStep e now earlier (Ok tt) after all → AreReplayed (take (n + 1) es) w after all
one_more es n e w now after earlier all before here so_far step =
    subst (λ l. AreReplayed l w after all) (sym (take_more es n e before ∙ ap (λ x. take n es ++ x ∷ []) (sym here)))
    (replayed_more (take n es) e w now after earlier all so_far step)

-- ---- the end

pub stopped_at : (es : List Event) (n : ℕ) (e : Event) (r : Refusal) (w now after : StampedWorld) (earlier all : List RunReport) → n < length es → e ≡ slice_index_or es n e
    → AreReplayed (take n es) w now earlier → IsListStep e now earlier (Err r) after all → IsReplay w es after all (Some (n, r))
stopped_at es n e r w now after earlier all before here so_far step = record {
  accepted = so_far.accepted;
  world = step.2 ∙ so_far.world;
  reported = step.1 ∙ so_far.reported;
  stop = subst (λ l. IsStop l after (Some (n, r))) (sym (drop_more es n e before ∙ ap (λ x. x ∷ drop (n + 1) es) (sym here))) (subst (λ u. IsRefused r e u) (sym step.2) step.0);
}

pub ended : (es : List Event) (n : ℕ) (w now : StampedWorld) (earlier : List RunReport) → n ≡ length es → AreReplayed (take n es) w now earlier → IsReplay w es now earlier None
ended es n w now earlier end so_far =
    let all : AreReplayed (take (length es) es) w now earlier = subst (λ k. AreReplayed (take k es) w now earlier) end so_far in
    record { accepted = all.accepted; world = all.world; reported = all.reported; stop = drop-length es }

-- A replay leaves a formed world formed.
pub replay_formed : (w : StampedWorld) (es : List Event) (final : StampedWorld) (reports : List RunReport) (stopped : Option (ℕ × Refusal)) → IsFormed w
    → IsReplay w es final reports stopped → IsFormed final
replay_formed w es final reports stopped f replay = subst IsFormed (sym replay.world) (formed_events (take (accepted_count es stopped) es) w f replay.accepted)

-- ---- from the beginning

module _ (kind : HashKind) (o : Options) (x : Bool) (clock timestamp : Moment) where
  abbrev start : StampedWorld
  start = empty_world kind o x clock timestamp

  shows_new : Shows start empty_plain
  shows_new = record {
    files = λ q. paths.get-empty (slice_cmp nat_cmp) q ∙ sym (ap (option_map plain_of) (paths.get-empty (slice_cmp nat_cmp) q));
    staged = refl;
  }

  module _ (es : List Event) where
    abbrev Brought : List ℕ → Type 0
    Brought c = IsIn c (contents_of_events es ++ [] ∷ [])

    known_new : KnowsContents Brought start
    known_new = record {
      nodes = λ q. subst (λ n. IfSome n (λ n. Brought n.bytes)) (sym (paths.get-empty (slice_cmp nat_cmp) q)) tt;
      staged = λ q. subst (λ s. IfSome s (λ s. Brought s.bytes)) (sym (paths.get-empty (slice_cmp nat_cmp) q)) tt;
      empty = in_right [] (contents_of_events es) ([] ∷ []) (inl refl);
    }

pub replay_law : (kind : HashKind) (o : Options) (x : Bool) (clock timestamp : Moment) → start_refusal clock timestamp ≡ None → ReplayLaw kind o x clock timestamp
replay_law kind o x clock timestamp due es final reports stopped replay distinct =
    let w : StampedWorld = empty_world kind o x clock timestamp in
    let n : ℕ = accepted_count es stopped in
    let all : IsTrueHistory (take n es) w empty_plain =
    history_over (Brought kind o x clock timestamp (take n es)) (take n es) w empty_plain distinct (known_new kind o x clock timestamp (take n es))
    (λ c h. in_left c (contents_of_events (take n es)) ([] ∷ []) h)
    (formed_new kind o x clock timestamp due) (sound_new kind o x clock timestamp) (shows_new kind o x clock timestamp) replay.accepted in
    record {
      exact = subst (λ (rs : List RunReport). AreExact x rs (plains_of (take n es) empty_plain)) (sym replay.reported) all.exact;
      formed = subst IsFormed (sym replay.world) all.formed;
      sound = subst IsSound (sym replay.world) all.sound;
    }
