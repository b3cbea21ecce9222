-- One stretch of events after others.
use Rattle.std.proofs.Common.{◌≡◌, refl, sym, ap, subst, ◌∙◌, ℕ, ◌+◌, ◌<◌, List, [], ◌∷◌, ◌++◌, length, take, drop, Option, Some, None, Vec, slice_index_or, append_assoc, append-nil, take-append-drop}
use Rattle.std.specs.declared.alloc.Global.{Global}
use Rattle.std.proofs.lemmas.List.{get_or_default, take_more}
use Rattle.status_stored.specs.Reopening.{IsPlaceIn, events_in}
use Rattle.status_world.specs.declared.world.event.Event.{Event}
use Rattle.status_world.specs.declared.world.event.Refusal.{Refusal}
use Rattle.status_world.specs.History.{IsReplay}
use Rattle.status_world.specs.Reports.{RunReport}
use Rattle.status_world.specs.StampedWorld.{StampedWorld}
use Rattle.status_world.proofs.Replays.{AreReplayed}
use Rattle.status_stored.proofs.Glued.{shifted, glued, with_later, all_replayed, to_the_end, stop_inside}

events_all : (ss ts : List (Vec Event Global)) → events_in (ss ++ ts) ≡ events_in ss ++ events_in ts
events_all [] ts = refl
events_all (s ∷ ss) ts = ap (λ l. s.items ++ l) (events_all ss ts) ∙ sym (append_assoc s.items (events_in ss) (events_in ts))

pub events_more : (ss : List (Vec Event Global)) (k : ℕ) (s : Vec Event Global) → k < length ss → s ≡ slice_index_or ss k s
    → events_in (take (k + 1) ss) ≡ events_in (take k ss) ++ s.items
events_more ss k s inside here =
    ap events_in (take_more ss k s inside ∙ ap (λ x. take k ss ++ x ∷ []) (sym here))
    ∙ (events_all (take k ss) (s ∷ []) ∙ ap (λ l. events_in (take k ss) ++ l) (append-nil s.items))

module _ (w : StampedWorld) (ss : List (Vec Event Global)) (k : ℕ) (s : Vec Event Global) (inside : k < length ss) (here : s ≡ slice_index_or ss k s)
    (old before new : StampedWorld) (earlier more : List RunReport) (stop : Option (ℕ × Refusal)) (events : List Event) where
  pub next_stretch : AreReplayed (events_in (take k ss)) w old earlier → before ≡ old → events ≡ s.items → IsReplay before events new more stop
      → IsReplay w (events_in (take (k + 1) ss)) new (earlier ++ more) (shifted (length (events_in (take k ss))) stop)
  next_stretch so_far same these replay =
      subst (λ l. IsReplay w l new (earlier ++ more) (shifted (length (events_in (take k ss))) stop)) (sym (events_more ss k s inside here))
      (glued (events_in (take k ss)) s.items w old new earlier more stop so_far
      (subst (λ u. IsReplay u s.items new more stop) same (subst (λ l. IsReplay before l new more stop) these replay)))

  pub goes_on : AreReplayed (events_in (take k ss)) w old earlier → before ≡ old → events ≡ s.items → IsReplay before events new more stop → stop ≡ None
      → AreReplayed (events_in (take (k + 1) ss)) w new (earlier ++ more)
  goes_on so_far same these replay none =
      all_replayed (events_in (take (k + 1) ss)) w new (earlier ++ more)
      (subst (λ o. IsReplay w (events_in (take (k + 1) ss)) new (earlier ++ more) (shifted (length (events_in (take k ss))) o)) none
      (next_stretch so_far same these replay))

  pub stops : (at : ℕ) (r : Refusal) → AreReplayed (events_in (take k ss)) w old earlier → before ≡ old → events ≡ s.items → IsReplay before events new more stop
      → stop ≡ Some (at, r) → IsReplay w (events_in ss) new (earlier ++ more) (Some (length (events_in (take k ss)) + at, r))
  stops at r so_far same these replay some =
      let place : ℕ × Refusal = (length (events_in (take k ss)) + at, r) in
      let whole : events_in ss ≡ events_in (take (k + 1) ss) ++ events_in (drop (k + 1) ss) =
      ap events_in (sym (take-append-drop (k + 1) ss)) ∙ events_all (take (k + 1) ss) (drop (k + 1) ss) in
      subst (λ l. IsReplay w l new (earlier ++ more) (Some place)) (sym whole)
      (with_later (events_in (take (k + 1) ss)) (events_in (drop (k + 1) ss)) w new (earlier ++ more) place
      (subst (λ o. IsReplay w (events_in (take (k + 1) ss)) new (earlier ++ more) (shifted (length (events_in (take k ss))) o)) some
      (next_stretch so_far same these replay)))

  -- The replay of the stretch alone, after those before it.
  pub alone : AreReplayed (events_in (take k ss)) w old earlier → before ≡ old → events ≡ s.items → IsReplay before events new more stop
      → IsReplay w (events_in (take k ss)) old earlier None × ((d : Vec Event Global) → IsReplay old (slice_index_or ss k d).items new more stop)
  alone so_far same these replay = (
    to_the_end (events_in (take k ss)) w old earlier so_far,
    λ d.
        subst (λ (v : Vec Event Global). IsReplay old v.items new more stop) (here ∙ get_or_default ss k s d inside)
        (subst (λ u. IsReplay u s.items new more stop) same (subst (λ l. IsReplay before l new more stop) these replay)),
  )

-- The position at which a stretch stops.
pub stop_place : (ss : List (Vec Event Global)) (k : ℕ) (s : Vec Event Global) (before new : StampedWorld) (more : List RunReport) (stop : Option (ℕ × Refusal))
    (events : List Event) (at : ℕ) (r : Refusal) → k < length ss → s ≡ slice_index_or ss k s → events ≡ s.items → IsReplay before events new more stop → stop ≡ Some (at, r)
    → IsPlaceIn ss k at
stop_place ss k s before new more stop events at r inside here these replay some =
    let stopped : IsReplay before events new more (Some (at, r)) = subst (λ o. IsReplay before events new more o) some replay in
    let within : at < length s.items = subst (λ l. at < length l) these (stop_inside events at new (at, r) stopped.stop) in
    (inside, λ d. subst (λ (v : Vec Event Global). at < length v.items) (here ∙ get_or_default ss k s d inside) within)
