-- A replay prints the lines of its reports, up to its end or to what stops it; then the command fails for that. A refused start
-- prints nothing.
use Rattle.std.specs.Prelude.{◌≡◌, ◌⊎◌, IfSome, Vec, ℕ, ◌+◌, ◌-◌, ◌^◌, min, Bool, List, [], ◌∷◌, ◌++◌, length, take, map, Option, None, Some, Result, Ok, Err}
use Rattle.std.specs.Io.KnownBytes.{Appends}
use Rattle.std.specs.List.{flat_map, sum_by}
use Rattle.std.specs.Result.{IsErrAnd}
use Rattle.std.specs.declared.alloc.Global.{Global}
use Rattle.status_stored.specs.Reopening.{IsReopenedReplay}
use Rattle.status_stored.specs.declared.replay.Stop.{Stop}
use Rattle.status_stored.specs.declared.replay.Stop.TheVariants as stops
use Rattle.status_world.specs.Refusals.{start_refusal}
use Rattle.status_world.specs.declared.world.event.Event.{Event}
use Rattle.status_world.specs.declared.world.event.Refusal.{Refusal}
use Rattle.status_world.specs.Reports.{Reported, RunReport, report_value}
use Rattle.status_world.specs.declared.world.run.Report.{Report}
use Rattle.status_world.specs.StampedWorld.{StampedWorld, empty_world}
use Rattle.status_profile.specs.declared.error.ProfileError.{ProfileError}
use Rattle.status_profile.specs.declared.history.History.{History}
use Rattle.status_profile.specs.Histories.{IsHistoryRead}
use Rattle.status_cli.specs.Failures.{failure_of_event, failure_of_profile, failure_of_start}
use Rattle.status_cli.specs.ProfileStatuses.{IsFailed, IsUnreadPrinted}
use Rattle.status_cli.specs.declared.failure.Failure.{Failure}
use Rattle.status_cli.specs.declared.failure.Failure.TheVariants.{Memory}
use Rattle.status_cli.specs.Lines.{record_line, run_line}
use Rattle.text_output.specs.Written.{IsBegun}
use Rattle.status_cli.specs.Printing.{IsUnprinted}
use Rattle.status_cli.specs.Statuses.{totals_text}

abbrev pub reported_line : Reported → List ℕ
reported_line r = record_line r.entry_index r.path r.status

-- the lines of a run's records, and with `counts` of its totals
abbrev pub report_lines : Bool → RunReport → List ℕ
report_lines counts r = flat_map reported_line r.records ++ totals_text counts r.outcome

-- the same after its number
abbrev pub run_lines : Bool → ℕ → Report → List ℕ
run_lines counts run report = run_line run ++ report_lines counts (report_value report)

-- the lines of runs, of which so many come before
abbrev pub runs_behind : Bool → ℕ → List Report → List ℕ
runs_behind counts before [] = []
runs_behind counts before (report ∷ reports) = run_lines counts (before + 1) report ++ runs_behind counts (before + 1) reports

abbrev pub replay_lines : Bool → List Report → List ℕ
replay_lines counts reports = runs_behind counts 0 reports

-- the world that a history begins with
abbrev pub start_of : History → StampedWorld
start_of h = empty_world h.hash h.options.stat h.options.executable_bit h.clock h.timestamp

-- a history that can't begin so, and the command's failure
abbrev pub IsNoStart : History → Failure → Type 0
IsNoStart h failure = (r : Refusal) × (start_refusal h.clock h.timestamp ≡ Some r) × (failure ≡ failure_of_start r)

-- the number of events in the list of a history for these stretches, with the reopening that follows each
abbrev pub event_count : List (Vec Event Global) → ℕ
event_count stretches = sum_by (λ events. length events.items + 1) stretches

-- a count, up to the greatest number that is shown
abbrev pub counted_up : ℕ → ℕ
counted_up n = min n (2 ^ 64 - 1)

-- the command's failure for what stopped a replay of these stretches, at its position in the list of events: an event comes after the
-- stretches before its own and after the events before it, and the reopening at which a stretch begins is the last event before that
abbrev pub failure_of_stop : List (Vec Event Global) → Stop → Failure
failure_of_stop stretches (stops.Event stretch at refusal) = failure_of_event refusal (counted_up (event_count (take stretch stretches) + at))
failure_of_stop stretches (stops.Opening stretch refusal) = failure_of_event refusal (counted_up (event_count (take stretch stretches)) - 1)
failure_of_stop stretches (stops.Reports stretch) = Memory

-- something stopped the replay of these stretches, and this is its failure
abbrev pub IsStopOf : List (Vec Event Global) → Option Stop → Failure → Type 0
IsStopOf stretches None failure = ⊥
IsStopOf stretches (Some stop) failure = failure ≡ failure_of_stop stretches stop

-- all of a text was printed, and the command succeeded if nothing stopped the replay, and failed for what stopped it if something did;
-- or the output can't be written or memory ran out, and a beginning was
abbrev pub IsReplayEnded : {A : Type 0} → List ℕ → List (Vec Event Global) → Option Stop → Option (List ℕ) → Result A Failure → Option (List ℕ) → Type 0
IsReplayEnded text stretches stopped old (Ok _) new = (stopped ≡ None) × Appends old new text
IsReplayEnded text stretches stopped old (Err failure) new = (IsStopOf stretches stopped failure × Appends old new text) ⊎ (IsBegun text old new × IsUnprinted failure)

-- the events were replayed, with what stopped that, if anything, and the lines of the reports were printed as it ended
pub record IsReplayPrinted {A : Type 0} (h : History) (old : Option (List ℕ)) (result : Result A Failure) (new : Option (List ℕ)) : Type 0 where
  pub start : start_refusal h.clock h.timestamp ≡ None
  pub final : StampedWorld
  pub reports : List Report
  pub stopped : Option Stop
  pub replay : IsReopenedReplay (start_of h) h.stretches.items final (map report_value reports) stopped
  pub ended : IsReplayEnded (replay_lines h.options.counts reports) h.stretches.items stopped old result new

-- the same; or the history can't begin so, for which the command fails, and nothing was printed
abbrev pub IsHistoryPrinted : {A : Type 0} → History → Option (List ℕ) → Result A Failure → Option (List ℕ) → Type 0
IsHistoryPrinted h old result new = (IsErrAnd result (IsNoStart h) × (new ≡ old)) ⊎ IsReplayPrinted h old result new

-- a text was read as a history, and this was printed of it; or it says none, and the command fails for this reason; or it can't be
-- read. In both of these nothing was printed
abbrev pub IsReplayText : {A : Type 0} → List ℕ → Option (List ℕ) → Result A Failure → Option (List ℕ) → Type 0
IsReplayText text old result new =
    (IsUnreadPrinted old result new ⊎ ((e : ProfileError) × IsHistoryRead text (Err e) × IsErrAnd result (λ f. f ≡ failure_of_profile e) × (new ≡ old)))
    ⊎ ((h : History) × IsHistoryRead text (Ok h) × IsHistoryPrinted h old result new)

-- the same of a text, if that is known: a beginning of the failure's line was written
abbrev pub IsReplayFailed : Option (List ℕ) → Option (List ℕ) → Option (List ℕ) → List ℕ → Option (List ℕ) → Option (List ℕ) → Type 0
IsReplayFailed text old new name old_faults new_faults = IfSome text (λ t. IsFailed (λ f. IsReplayText {A = Unit {0}} t old (Err f) new) name old_faults new_faults)

-- exactly the lines of all reports of the history that a text says were printed, and its replay ended
pub record IsReplayed (text : List ℕ) (old new : Option (List ℕ)) : Type 0 where
  pub history : History
  pub read : IsHistoryRead text (Ok history)
  pub start : start_refusal history.clock history.timestamp ≡ None
  pub final : StampedWorld
  pub reports : List Report
  pub replay : IsReopenedReplay (start_of history) history.stretches.items final (map report_value reports) None
  pub printed : Appends old new (replay_lines history.options.counts reports)
