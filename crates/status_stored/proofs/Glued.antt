-- Replays one after another, each from the last world of the one before it.
use Rattle.std.proofs.Common.{◌≡◌, refl, sym, ap, subst, ◌∙◌, ℕ, zero, suc, ◌+◌, ◌≤◌, ◌<◌, List, [], ◌∷◌, ◌++◌, length, length-append, take, drop, Option, Some, None, append_assoc, arith}
use Rattle.std.proofs.Math.Seq.{take-append-add, take-append-le, drop-append-add, drop-append-le}
use Rattle.std.proofs.lemmas.List.{take_all}
use Rattle.status_world.specs.declared.world.event.Event.{Event}
use Rattle.status_world.specs.declared.world.event.Refusal.{Refusal}
use Rattle.status_world.specs.History.{AreAccepted, after_events, reports_at, reports_of, accepted_count, IsStop, IsReplay}
use Rattle.status_world.specs.Reports.{RunReport}
use Rattle.status_world.specs.StampedWorld.{StampedWorld, after_event}
use Rattle.status_world.proofs.Replays.{AreReplayed, ended}

-- ---- two lists of events

after_all : (es fs : List Event) (w : StampedWorld) → after_events (es ++ fs) w ≡ after_events fs (after_events es w)
after_all [] fs w = refl
after_all (e ∷ es) fs w = after_all es fs (after_event e w)

accepted_all : (es fs : List Event) (w : StampedWorld) → AreAccepted es w → AreAccepted fs (after_events es w) → AreAccepted (es ++ fs) w
accepted_all [] fs w first later = later
accepted_all (e ∷ es) fs w first later = (first.0, accepted_all es fs (after_event e w) first.1 later)

reports_all : (es fs : List Event) (w : StampedWorld) → reports_of (es ++ fs) w ≡ reports_of es w ++ reports_of fs (after_events es w)
reports_all [] fs w = refl
reports_all (e ∷ es) fs w =
    ap (λ l. reports_at e w ++ l) (reports_all es fs (after_event e w))
    ∙ sym (append_assoc (reports_at e w) (reports_of es (after_event e w)) (reports_of fs (after_events es (after_event e w))))

-- ---- one replay after another

-- The stop of a replay, if n events are before it.
abbrev pub shifted : ℕ → Option (ℕ × Refusal) → Option (ℕ × Refusal)
shifted n None = None
shifted n (Some stop) = Some (n + stop.0, stop.1)

whole : (es : List Event) → take (length es) es ≡ es
whole es = take_all (length es) es (omega arith)

-- A replay to the end.
pub all_replayed : (es : List Event) (w now : StampedWorld) (earlier : List RunReport) → IsReplay w es now earlier None → AreReplayed es w now earlier
all_replayed es w now earlier replay = record {
  accepted = subst (λ l. AreAccepted l w) (whole es) replay.accepted;
  world = replay.world ∙ ap (λ l. after_events l w) (whole es);
  reported = replay.reported ∙ ap (λ l. reports_of l w) (whole es);
}

pub to_the_end : (es : List Event) (w now : StampedWorld) (earlier : List RunReport) → AreReplayed es w now earlier → IsReplay w es now earlier None
to_the_end es w now earlier so_far = ended es (length es) w now earlier refl (subst (λ l. AreReplayed l w now earlier) (sym (whole es)) so_far)

count_all : (es fs : List Event) (stop : Option (ℕ × Refusal)) → accepted_count (es ++ fs) (shifted (length es) stop) ≡ length es + accepted_count fs stop
count_all es fs None = length-append es fs
count_all es fs (Some stop) = refl

stop_shifted : (n : ℕ) (rest : List Event) (w : StampedWorld) (stop : Option (ℕ × Refusal)) → IsStop rest w stop → IsStop rest w (shifted n stop)
stop_shifted n rest w None h = h
stop_shifted n [] w (Some stop) h = h
stop_shifted n (e ∷ rest) w (Some stop) h = h

pub glued : (es fs : List Event) (w between final : StampedWorld) (first later : List RunReport) (stop : Option (ℕ × Refusal)) → AreReplayed es w between first
    → IsReplay between fs final later stop → IsReplay w (es ++ fs) final (first ++ later) (shifted (length es) stop)
glued es fs w between final first later stop before replay =
    let n : ℕ = accepted_count fs stop in
    let all : ℕ = accepted_count (es ++ fs) (shifted (length es) stop) in
    let taken : take all (es ++ fs) ≡ es ++ take n fs = ap (λ k. take k (es ++ fs)) (count_all es fs stop) ∙ take-append-add es fs n in
    let dropped : drop all (es ++ fs) ≡ drop n fs = ap (λ k. drop k (es ++ fs)) (count_all es fs stop) ∙ drop-append-add es fs n in
    record {
      accepted = subst (λ l. AreAccepted l w) (sym taken)
          (accepted_all es (take n fs) w before.accepted (subst (AreAccepted (take n fs)) before.world replay.accepted));
      world = replay.world
          ∙ (ap (after_events (take n fs)) before.world
          ∙ (sym (after_all es (take n fs) w) ∙ ap (λ l. after_events l w) (sym taken)));
      reported = ap (λ l. l ++ later) before.reported
          ∙ (ap (λ l. reports_of es w ++ l) (replay.reported ∙ ap (reports_of (take n fs)) before.world)
          ∙ (sym (reports_all es (take n fs) w) ∙ ap (λ l. reports_of l w) (sym taken)));
      stop = subst (λ l. IsStop l final (shifted (length es) stop)) (sym dropped) (stop_shifted (length es) (drop n fs) final stop replay.stop);
    }

-- ---- events after the one that was refused

pub stop_inside : (es : List Event) (n : ℕ) (w : StampedWorld) (stop : ℕ × Refusal) → IsStop (drop n es) w (Some stop) → n < length es
stop_inside [] zero w stop h = absurd h
stop_inside [] (suc n) w stop h = absurd h
stop_inside (e ∷ es) zero w stop h = omega arith
stop_inside (e ∷ es) (suc n) w stop h = let inside = stop_inside es n w stop h in omega (arith, inside)

stop_before : (rest fs : List Event) (w : StampedWorld) (stop : ℕ × Refusal) → IsStop rest w (Some stop) → IsStop (rest ++ fs) w (Some stop)
stop_before [] fs w stop h = absurd h
stop_before (e ∷ rest) fs w stop h = h

pub with_later : (es fs : List Event) (w final : StampedWorld) (reports : List RunReport) (stop : ℕ × Refusal) → IsReplay w es final reports (Some stop)
    → IsReplay w (es ++ fs) final reports (Some stop)
with_later es fs w final reports stop replay =
    let before : stop.0 < length es = stop_inside es stop.0 final stop replay.stop in
    let inside : stop.0 ≤ length es = omega (arith, before) in
    let taken : take stop.0 (es ++ fs) ≡ take stop.0 es = take-append-le stop.0 es fs inside in
    let dropped : drop stop.0 (es ++ fs) ≡ drop stop.0 es ++ fs = drop-append-le stop.0 es fs inside in
    record {
      accepted = subst (λ l. AreAccepted l w) (sym taken) replay.accepted;
      world = replay.world ∙ ap (λ l. after_events l w) (sym taken);
      reported = replay.reported ∙ ap (λ l. reports_of l w) (sym taken);
      stop = subst (λ l. IsStop l final (Some stop)) (sym dropped) (stop_before (drop stop.0 es) fs final stop replay.stop);
    }
