-- The reports of a replay with reopenings are exact.
use Rattle.std.proofs.Common.{◌≡◌, sym, subst, inl, inr, ℕ, ◌+◌, ◌<◌, List, [], ◌∷◌, ◌++◌, length, map, take, drop, Option, Some, None, Vec, slice_index_or, take-append-drop, arith}
use Rattle.std.specs.declared.alloc.Global.{Global}
use Rattle.std.specs.FinMap as paths
use Rattle.std.proofs.lemmas.List.{get_or_default, take_all}
use Rattle.status_stored.specs.declared.replay.Stop.{Stop}
use Rattle.status_stored.specs.declared.replay.Stop.TheVariants as stops
use Rattle.status_stored.specs.Reopening.{IsExactIfReopened, IsExactUpTo, IsReopenedReplay, events_in}
use Rattle.status_world.specs.declared.world.event.Event.{Event}
use Rattle.status_world.specs.declared.world.event.Refusal.{Refusal}
use Rattle.status_world.specs.Events.{contents_at, contents_of_events}
use Rattle.status_world.specs.History.{AreExact, HasDistinctContents, IsIn, IsExactReplay, IsReplay, accepted_count, contents_at_hand, plain_world_of, plains_of}
use Rattle.status_world.specs.Reports.{RunReport}
use Rattle.status_world.specs.Sound.{IsFormed, IsSound}
use Rattle.status_world.specs.StampedWorld.{StampedWorld}
use Rattle.status_world.proofs.ChangedPaths.{in_left, in_right, in_either}
use Rattle.status_world.proofs.Histories.{replay_exact}
use Rattle.status_stored.proofs.Glued.{all_replayed, glued, shifted}
use Rattle.status_stored.proofs.Stretches.{events_more}

-- ---- fewer events have fewer contents

brought_more : (es fs : List Event) (x : List ℕ) → IsIn x (contents_of_events es) → IsIn x (contents_of_events (es ++ fs))
brought_more [] fs x h = absurd h
brought_more (e ∷ es) fs x h =
    elim (in_either x (contents_at e) (contents_of_events es) h) [
      | inl k ↦ in_left x (contents_at e) (contents_of_events (es ++ fs)) k
      | inr k ↦ in_right x (contents_at e) (contents_of_events (es ++ fs)) (brought_more es fs x k)
    ]

module _ (w : StampedWorld) (es fs : List Event) where
  abbrev of_world : List (List ℕ)
  of_world = map (λ n. n.bytes) (paths.values w.tree.nodes) ++ map (λ s. s.bytes) (paths.values w.staged)

  at_hand_more : (x : List ℕ) → IsIn x (contents_at_hand w es) → IsIn x (contents_at_hand w (es ++ fs))
  at_hand_more x h =
      elim (in_either x (of_world ++ contents_of_events es) ([] ∷ []) h) [
        | inl k ↦ in_left x (of_world ++ contents_of_events (es ++ fs)) ([] ∷ [])
            (elim (in_either x of_world (contents_of_events es) k) [
              | inl j ↦ in_left x of_world (contents_of_events (es ++ fs)) j
              | inr j ↦ in_right x of_world (contents_of_events (es ++ fs)) (brought_more es fs x j)
            ])
        | inr k ↦ in_right x (of_world ++ contents_of_events (es ++ fs)) ([] ∷ []) k
      ]

  distinct_fewer : HasDistinctContents w (es ++ fs) → HasDistinctContents w es
  distinct_fewer distinct = λ a b first second same. distinct a b (at_hand_more a first) (at_hand_more b second) same

-- The same for the first n events.
distinct_front : (w : StampedWorld) (n : ℕ) (es : List Event) → HasDistinctContents w es → HasDistinctContents w (take n es)
distinct_front w n es distinct = distinct_fewer w (take n es) (drop n es) (subst (HasDistinctContents w) (sym (take-append-drop n es)) distinct)

-- ---- out of memory for a stretch's reports

at_place : (ss : List (Vec Event Global)) (k : ℕ) → k < length ss → (s : Vec Event Global) × (s ≡ slice_index_or ss k s)
at_place [] k inside = absurd (omega arith)
at_place (s ∷ ss) k inside =
    let it : Vec Event Global = slice_index_or (s ∷ ss) k s in
    (it, get_or_default (s ∷ ss) k s it inside)

module _ (w : StampedWorld) (ss : List (Vec Event Global)) (k : ℕ) (inside : k < length ss) (formed : IsFormed w) (sound : IsSound w)
    (distinct : HasDistinctContents w (events_in (take (k + 1) ss))) (before final : StampedWorld) (reports lost : List RunReport) (stopped : Option (ℕ × Refusal))
    (earlier : IsReplay w (events_in (take k ss)) before reports None)
    (alone : (d : Vec Event Global) → IsReplay before (slice_index_or ss k d).items final lost stopped) where
  abbrev es : List Event
  es = events_in (take k ss)

  abbrev place : (s : Vec Event Global) × (s ≡ slice_index_or ss k s)
  place = at_place ss k inside

  abbrev fs : List Event
  fs = place.0.items

  distinct_both : HasDistinctContents w (es ++ fs)
  distinct_both = subst (HasDistinctContents w) (events_more ss k place.0 inside place.1) distinct

  whole : take (length es) es ≡ es
  whole = take_all (length es) es (omega arith)

  earlier_exact : AreExact w.executable_bit reports (plains_of es (plain_world_of w))
  earlier_exact =
      let all : IsExactReplay w es before reports None =
      replay_exact w es before reports None formed sound (distinct_front w (length es) es (distinct_fewer w es fs distinct_both)) earlier in
      subst (λ l. AreExact w.executable_bit reports (plains_of l (plain_world_of w))) whole all.exact

  later_sound : IsSound final
  later_sound =
      let stretch : IsReplay before fs final lost stopped = subst (λ (s : Vec Event Global). IsReplay before s.items final lost stopped) (sym place.1) (alone place.0) in
      let both : IsReplay w (es ++ fs) final (reports ++ lost) (shifted (length es) stopped) =
      glued es fs w before final reports lost stopped (all_replayed es w before reports earlier) stretch in
      let n : ℕ = accepted_count (es ++ fs) (shifted (length es) stopped) in
      let all : IsExactReplay w (es ++ fs) final (reports ++ lost) (shifted (length es) stopped) =
      replay_exact w (es ++ fs) final (reports ++ lost) (shifted (length es) stopped) formed sound (distinct_front w n (es ++ fs) distinct_both) both in
      all.sound

  lost_exact : IsExactUpTo w (take k ss) final reports
  lost_exact = record { exact = earlier_exact; sound = later_sound }

-- ---- all ends

pub reopened_exact : (w : StampedWorld) (ss : List (Vec Event Global)) (final : StampedWorld) (reports : List RunReport) (stopped : Option Stop) → IsFormed w
    → IsReopenedReplay w ss final reports stopped → IsExactIfReopened w ss final reports stopped
reopened_exact w ss final reports None f h = λ sound distinct. replay_exact w (events_in ss) final reports None f sound distinct h
reopened_exact w ss final reports (Some (stops.Event stretch at refusal)) f h =
    λ sound distinct. replay_exact w (events_in ss) final reports (Some (length (events_in (take stretch ss)) + at, refusal)) f sound distinct h.1
reopened_exact w ss final reports (Some (stops.Opening stretch refusal)) f h =
    λ sound distinct. replay_exact w (events_in (take stretch ss)) final reports None f sound distinct h.2
reopened_exact w ss final reports (Some (stops.Reports stretch)) f h =
    λ sound distinct. lost_exact w ss stretch h.0 f sound distinct h.1 final reports h.3 h.4 h.2 h.5
