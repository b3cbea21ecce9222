-- A run of a formed world isn't refused for an entry's fault. An applied event leaves a formed world, and its report is exact.
use Rattle.std.proofs.Common.{◌≡◌, refl, sym, ap, subst, ◌∙◌, ℕ, Bool, true, false, not, ◌||◌, List, [], ◌∷◌, ◌++◌, drop, Option, Some, None, is_some, length, option_map, IfErr, IfSome, Result, Ok, Err}
use Rattle.std.specs.Prelude.{nat_le}
use Rattle.bstr.specs.Owned.{bstring_bytes}
use Rattle.status_base.specs.Nodes.{is_bad_path}
use Rattle.status_compare.specs.declared.error.Error.{Error}
use Rattle.status_compare.specs.declared.error.Error.TheVariants as errors
use Rattle.status_world.specs.declared.world.event.Event.{Event}
use Rattle.status_world.specs.declared.world.event.Event.TheVariants as events
use Rattle.status_world.specs.declared.world.event.Run.{Run}
use Rattle.status_world.specs.declared.world.event.Refusal.{Refusal}
use Rattle.status_world.specs.declared.world.event.Refusal.TheVariants as refusals
use Rattle.status_world.specs.declared.world.run.Report.{Report}
use Rattle.status_world.specs.EventAnswers.{IsApplied, IsExactEvent}
use Rattle.status_world.specs.History.{HaveDistinctIds, IsExact, IsStop, accepted_count, contents_at_hand, plain_world_of, reports_at, IsReplay}
use Rattle.status_world.specs.Moments.{is_after, plus_seconds, plus_nanoseconds}
use Rattle.status_world.specs.Refusals.{◌orelse◌, refuse_if, is_past_end, is_blocked, is_regular_file, stamp_refusal, refusal_of, IsNoRunFault, IsRefused}
use Rattle.status_world.specs.Reports.{RunReport, report_value}
use Rattle.status_world.specs.Sound.{IsFormed, IsSound}
use Rattle.status_world.specs.StampedWorld.{StampedWorld, after_event, node_at, report_of, stored_node}
use Rattle.status_world.proofs.FormedWorlds.{formed_kept}
use Rattle.status_world.proofs.Histories.{history, report_exact, run_refusal}
use Rattle.status_world.proofs.Replays.{replay_formed}

-- ---- no fault of an entry

abbrev IsPlain : Option Refusal → Type 0
IsPlain None = Unit {0}
IsPlain (Some r) = IsNoRunFault r

plain_if : (b : Bool) (r : Refusal) → IsNoRunFault r → IsPlain (refuse_if b r)
plain_if true r h = h
plain_if false r h = tt

plain_orelse : (a b : Option Refusal) → IsPlain a → IsPlain b → IsPlain (a orelse b)
plain_orelse (Some r) b h k = h
plain_orelse None b h k = k

plain_stamp : (w : StampedWorld) (run : Run) → IsPlain (stamp_refusal w.clock run.stamp)
plain_stamp w run =
    plain_orelse (refuse_if (nat_le 1000000000 run.stamp.nsecs) refusals.BadMoment) (refuse_if (is_after run.stamp w.clock) refusals.StampLater)
    (plain_if (nat_le 1000000000 run.stamp.nsecs) refusals.BadMoment tt) (plain_if (is_after run.stamp w.clock) refusals.StampLater tt)

module _ (w : StampedWorld) (path bytes : List ℕ) where
  plain_write : IsPlain (refuse_if (is_bad_path path) refusals.BadPath orelse (refuse_if (is_blocked w path) refusals.InTheWay orelse refuse_if (nat_le 4294967296 (length bytes)) refusals.TooLarge))
  plain_write =
      plain_orelse (refuse_if (is_bad_path path) refusals.BadPath) (refuse_if (is_blocked w path) refusals.InTheWay orelse refuse_if (nat_le 4294967296 (length bytes)) refusals.TooLarge)
      (plain_if (is_bad_path path) refusals.BadPath tt)
      (plain_orelse (refuse_if (is_blocked w path) refusals.InTheWay) (refuse_if (nat_le 4294967296 (length bytes)) refusals.TooLarge)
      (plain_if (is_blocked w path) refusals.InTheWay tt) (plain_if (nat_le 4294967296 (length bytes)) refusals.TooLarge tt))

  plain_node : (b : Bool) → IsPlain (refuse_if (is_bad_path path) refusals.BadPath orelse refuse_if b refusals.NotAFile)
  plain_node b =
      plain_orelse (refuse_if (is_bad_path path) refusals.BadPath) (refuse_if b refusals.NotAFile) (plain_if (is_bad_path path) refusals.BadPath tt) (plain_if b refusals.NotAFile tt)

plain_refusal : (e : Event) (w : StampedWorld) → IsFormed w → IsPlain (refusal_of e w)
plain_refusal (events.Tick n) w f = plain_if (is_past_end (plus_seconds w.clock n)) refusals.ClockEnd tt
plain_refusal (events.TickNanos n) w f = plain_if (is_past_end (plus_nanoseconds w.clock n)) refusals.ClockEnd tt
plain_refusal (events.Write path bytes) w f = plain_write w (bstring_bytes path) bytes.items
plain_refusal (events.Link path target) w f = plain_write w (bstring_bytes path) target.items
plain_refusal (events.SetExecutable path executable) w f = plain_node w (bstring_bytes path) [] (not (is_regular_file (node_at w (bstring_bytes path))))
plain_refusal (events.Remove path) w f = plain_node w (bstring_bytes path) [] (not (is_some (stored_node (node_at w (bstring_bytes path)))))
plain_refusal (events.Stage path) w f = plain_if (is_bad_path (bstring_bytes path)) refusals.BadPath tt
plain_refusal (events.Run comparer chunk_size thread_limit stamp) w f =
    let run : Run = record { comparer = comparer; chunk_size = chunk_size; thread_limit = thread_limit; stamp = stamp } in
    subst IsPlain (sym (run_refusal w run f)) (plain_stamp w run)

due : (r : Refusal) (e : Event) (w : StampedWorld) → IsFormed w → refusal_of e w ≡ Some r → IsNoRunFault r
due r e w f h = subst IsPlain h (plain_refusal e w f)

pub outside : (r : Refusal) (e : Event) (w : StampedWorld) → IsFormed w → IsRefused r e w → IsNoRunFault r
outside refusals.ClockEnd e w f h = tt
outside refusals.BadPath e w f h = tt
outside refusals.InTheWay e w f h = tt
outside refusals.TooLarge e w f h = tt
outside refusals.NotAFile e w f h = tt
outside refusals.StampLater e w f h = tt
outside refusals.Interrupted e w f h = tt
outside refusals.Memory e w f h = tt
outside refusals.BadMoment e w f h = tt
outside refusals.OtherIndex e w f h = tt
outside (refusals.Run errors.Memory) e w f h = tt
outside (refusals.Run errors.SpawnThread) e w f h = tt
outside (refusals.Run errors.IllformedUtf8) e w f h = due (refusals.Run errors.IllformedUtf8) e w f h
outside (refusals.Run errors.Time) e w f h = due (refusals.Run errors.Time) e w f h
outside (refusals.Run (errors.Io x)) e w f h = due (refusals.Run (errors.Io x)) e w f h
outside (refusals.Run (errors.Find x)) e w f h = due (refusals.Run (errors.Find x)) e w f h
outside (refusals.Run (errors.SubmoduleStatus path text)) e w f h = due (refusals.Run (errors.SubmoduleStatus path text)) e w f h

-- ---- an applied event

pub applied_formed : (e : Event) (old : StampedWorld) (r : Result (Option Report) Refusal) (new : StampedWorld) → IsApplied e old r new → IsFormed old → IsFormed new
applied_formed e old (Ok report) new h f = subst IsFormed (sym h.2) (formed_kept e old h.0 f)
applied_formed e old (Err r) new h f = subst IsFormed (sym h.1) f

pub applied_causes : (e : Event) (old : StampedWorld) (r : Result (Option Report) Refusal) (new : StampedWorld) → IsApplied e old r new → IsFormed old → IfErr r IsNoRunFault
applied_causes e old (Ok report) new h f = tt
applied_causes e old (Err r) new h f = outside r e old f h.0

module _ (old : StampedWorld) (f : IsFormed old) (sound : IsSound old) where
  sound_after : (e : Event) (new : StampedWorld) → HaveDistinctIds old.kind (contents_at_hand old (e ∷ [])) → refusal_of e old ≡ None → new ≡ after_event e old → IsSound new
  sound_after e new distinct accepted same = subst IsSound (sym same) ((history (e ∷ []) old f sound distinct (accepted, tt)).1)

  exact_report : (e : Event) (report : RunReport) → HaveDistinctIds old.kind (contents_at_hand old (e ∷ [])) → report ∷ [] ≡ reports_at e old → IsExact old.executable_bit report (plain_world_of old)
  exact_report (events.Run comparer chunk_size thread_limit stamp) report distinct same =
      subst (λ r. IsExact old.executable_bit r (plain_world_of old)) (sym (first_of report (report_of old comparer) same))
      (report_exact old (events.Run comparer chunk_size thread_limit stamp ∷ []) comparer f sound distinct)
    where
      first_or : RunReport → List RunReport → RunReport
      first_or d [] = d
      first_or d (x ∷ xs) = x

      first_of : (a b : RunReport) → a ∷ [] ≡ b ∷ [] → a ≡ b
      first_of a b same = ap (first_or a) same
  exact_report (events.Tick n) report distinct same = absurd (cc)
  exact_report (events.TickNanos n) report distinct same = absurd (cc)
  exact_report (events.Write path bytes) report distinct same = absurd (cc)
  exact_report (events.Link path target) report distinct same = absurd (cc)
  exact_report (events.SetExecutable path executable) report distinct same = absurd (cc)
  exact_report (events.Remove path) report distinct same = absurd (cc)
  exact_report (events.Stage path) report distinct same = absurd (cc)

  pub applied_exact : (e : Event) (r : Result (Option Report) Refusal) (new : StampedWorld) → HaveDistinctIds old.kind (contents_at_hand old (e ∷ [])) → IsApplied e old r new
      → IsExactEvent old r new
  applied_exact e (Ok (Some report)) new distinct h = (exact_report e (report_value report) distinct h.1, sound_after e new distinct h.0 h.2)
  applied_exact e (Ok None) new distinct h = sound_after e new distinct h.0 h.2
  applied_exact e (Err r) new distinct h = subst IsSound (sym h.1) sound

-- ---- a replay

stop_outside : (rest : List Event) (w : StampedWorld) (stopped : Option (ℕ × Refusal)) → IsFormed w → IsStop rest w stopped → IfSome stopped (λ stop. IsNoRunFault stop.1)
stop_outside rest w None f h = tt
stop_outside [] w (Some stop) f h = absurd h
stop_outside (e ∷ rest) w (Some stop) f h = outside stop.1 e w f h

pub replay_causes : (w : StampedWorld) (es : List Event) (final : StampedWorld) (reports : List RunReport) (stopped : Option (ℕ × Refusal)) → IsFormed w
    → IsReplay w es final reports stopped → IfSome stopped (λ stop. IsNoRunFault stop.1)
replay_causes w es final reports stopped f replay =
    stop_outside (drop (accepted_count es stopped) es) final stopped (replay_formed w es final reports stopped f replay) replay.stop
