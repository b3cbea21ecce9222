-- How the lines of runs follow one another.
use Rattle.std.proofs.Common.{◌≡◌, None, inl, inr, subst, map, Result, Ok, Err, refl, ℕ, ◌+◌, ◌<◌, Bool, List, [], ◌∷◌, ◌++◌, length, Option, sym, ap, ◌∙◌, append_assoc, append-nil, arith, take, drop, length-take, take-append-drop}
use Rattle.std.specs.Prelude.{Vec}
use Rattle.std.specs.Result.{IsErrAnd}
use Rattle.std.specs.declared.alloc.Global.{Global}
use Rattle.status_stored.specs.Reopening.{IsReopenedReplay}
use Rattle.status_stored.specs.declared.replay.Stop.{Stop}
use Rattle.status_world.specs.Refusals.{start_refusal}
use Rattle.status_world.specs.Reports.{report_value}
use Rattle.status_world.specs.StampedWorld.{StampedWorld}
use Rattle.status_world.specs.declared.world.event.Event.{Event}
use Rattle.status_world.specs.declared.world.run.Report.{Report}
use Rattle.status_profile.specs.declared.history.History.{History}
use Rattle.status_cli.specs.declared.failure.Failure.{Failure}
use Rattle.text_output.specs.Written.{IsBegun}
use Rattle.status_cli.specs.Printing.{IsUnprinted}
use Rattle.status_cli.specs.Replays.{IsHistoryPrinted, IsNoStart, IsReplayed, IsReplayText, IsReplayEnded, replay_lines, run_lines, runs_behind, start_of}

runs-append : (counts : Bool) (before : ℕ) (xs ys : List Report) → runs_behind counts before (xs ++ ys) ≡ runs_behind counts before xs ++ runs_behind counts (before + length xs) ys
runs-append counts before [] ys = ap (λ n. runs_behind counts n ys) (omega arith)
runs-append counts before (x ∷ xs) ys =
    ap (λ t. run_lines counts (before + 1) x ++ t) (runs-append counts (before + 1) xs ys ∙ ap (λ n. runs_behind counts (before + 1) xs ++ runs_behind counts n ys) (omega arith))
    ∙ sym (append_assoc (run_lines counts (before + 1) x) (runs_behind counts (before + 1) xs) (runs_behind counts (before + length (x ∷ xs)) ys))

-- the lines of one more run
pub one_more : (counts : Bool) (reports : List Report) (at : ℕ) (report : Report) → at < length reports → replay_lines counts (take at reports ++ report ∷ []) ≡ replay_lines counts (take at reports) ++ run_lines counts (at + 1) report
one_more counts reports at report inside =
    let long : length (take at reports) ≡ at = omega (arith, length-take at reports, inside) in
    runs-append counts 0 (take at reports) (report ∷ [])
    ∙ ap (λ t. replay_lines counts (take at reports) ++ t) (append-nil (run_lines counts (0 + length (take at reports) + 1) report))
    ∙ ap (λ n. replay_lines counts (take at reports) ++ run_lines counts (n + 1) report) (omega (arith, long))

-- ---- a whole history

-- a beginning of the lines was printed
pub ended_begun : {T : Type 0} (text : List ℕ) (stretches : List (Vec Event Global)) (stopped : Option Stop) (old new : Option (List ℕ)) (result : Result T Failure) (failure : Failure) → IsErrAnd result (λ e. e ≡ failure) → IsBegun text old new → IsUnprinted failure → IsReplayEnded text stretches stopped old result new
ended_begun text stretches stopped old new (Ok v) failure failed begun why = absurd failed
ended_begun text stretches stopped old new (Err e) failure failed begun why = inr (begun, rw failed why)

-- the history can't begin so
pub not_started : {A : Type 0} (h : History) (old : Option (List ℕ)) (result : Result A Failure) (failure : Failure) → IsErrAnd result (λ e. e ≡ failure) → IsNoStart h failure → IsHistoryPrinted h old result old
not_started h old (Ok v) failure failed why = absurd failed
not_started h old (Err e) failure failed why = inl (rw failed why, refl)

pub replay_printed : {A : Type 0} (h : History) (w final : StampedWorld) (stretches : List (Vec Event Global)) (reports : List Report) (stopped : Option Stop) (old new : Option (List ℕ)) (result : Result A Failure)
    → start_refusal h.clock h.timestamp ≡ None → w ≡ start_of h → stretches ≡ h.stretches.items → IsReopenedReplay w stretches final (map report_value reports) stopped
    → IsReplayEnded (replay_lines h.options.counts reports) h.stretches.items stopped old result new → IsHistoryPrinted h old result new
replay_printed h w final stretches reports stopped old new result start started same replay ended = inr (record {
  start = start;
  final = final;
  reports = reports;
  stopped = stopped;
  replay = subst (λ v. IsReopenedReplay v h.stretches.items final (map report_value reports) stopped) started (subst (λ l. IsReopenedReplay w l final (map report_value reports) stopped) same replay);
  ended = ended;
})

pub some_replayed : {A : Type 0} (v : A) (text : List ℕ) (old new : Option (List ℕ)) → IsReplayText {A = A} text old (Ok v) new → IsReplayed text old new
some_replayed v text old new (inl (inl unread)) = absurd unread.0
some_replayed v text old new (inl (inr (e, read, failed, same))) = absurd failed
some_replayed v text old new (inr (h, read, inl refused)) = absurd refused.0
some_replayed v text old new (inr (h, read, inr whole)) = record {
  history = h;
  read = read;
  start = whole.start;
  final = whole.final;
  reports = whole.reports;
  replay = subst (λ stopped. IsReopenedReplay (start_of h) h.stretches.items whole.final (map report_value whole.reports) stopped) whole.ended.0 whole.replay;
  printed = whole.ended.1;
}
