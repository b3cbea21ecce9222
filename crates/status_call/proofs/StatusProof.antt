-- The status theorem, from work in order and its end.
use Rattle.std.proofs.Common.{◌≡◌, ◌≢◌, refl, sym, ap, ◌∙◌, subst, ℕ, ◌+◌, ◌-◌, ◌<◌, ◌≤◌, ◌^◌, ◌⊎◌, inl, inr, Bool, IsTrue, List, [], ◌∷◌, ◌++◌, length, length-append, take, drop, map, arith, append_assoc, Option, Some, None, Result, Ok, Err}
use Rattle.std.specs.Prelude.{AllPairs, slice_get}
use Rattle.std.specs.List.{slice_index_or}
use Rattle.std.proofs.lemmas.List.{take-append-drop, append-nil, length-map, length-take, length-drop, get_or-map}
use Rattle.std.proofs.Math.ListN.{get_or-append}
use Rattle.std.specs.declared.ops.Range.{Range}
use Rattle.status_index.specs.declared.state.State.{State}
use Rattle.status_index.specs.Entries.{IndexEntry}
use Rattle.status_index.specs.States.{entries_of, backing_of, index_of}
use Rattle.status_index.specs.Stretch.{part_of}
use Rattle.status_compare.specs.declared.error.Error.{Error}
use Rattle.status_compare.specs.declared.error.Error.TheVariants.{Memory, SpawnThread}
use Rattle.status_call.specs.declared.index_as_worktree.types.Finding.{Finding}
use Rattle.status_call.specs.declared.index_as_worktree.types.Outcome.{Outcome}
use Rattle.status_call.specs.declared.index_as_worktree.counts.Progress.{Progress}
use Rattle.status_call.specs.Counts.{IsOutcome, counts_in, outcome_of, reads_in, skipped_of}
use Rattle.status_call.specs.Pieces.{IsAsSpecified, IsFaultAt, IsFaulty}
use Rattle.status_call.specs.Query.{Query}
use Rattle.status_call.specs.Records.{records_in, records_of, faults_in, first_fault, verdict}
use Rattle.status_call.specs.StatusOf.{IsFaultOrMemory, IsThreadless, OneThreadSpawnsNone}
use Rattle.status_call.specs.StatusTheorem.{IsBeginning, IsComplete, IsStatusReport, IsStatusOf, IsFirstFault, NeverSpawns, considered_entries, start_of}
use Rattle.status_call.specs.Views.{Allows}
use Rattle.status_call.specs.Visits.{Visit, finding_of, IsFaithful}
use Rattle.status_call.specs.WorkInOrder.{IsShortage, IsWorkStopped, IsReportedWork}
use Rattle.status_call.specs.Workers.{most_workers}
use Rattle.status_call.proofs.Counts.{counted_outcome}
use Rattle.status_call.proofs.Records.{records-append}
use Rattle.status_call.proofs.LawRecords.{fault_law}
use Rattle.status_call.proofs.NoThread.{never_spawned}

-- A part from the front.
pub part_front : {X : Type 0} (xs : List X) (n : ℕ) → part_of xs 0 n ≡ take n xs
part_front xs n = ap (λ (k : ℕ). take k xs) (omega arith)

-- If a list ascends, its front does.
pub front_ascends : {X : Type 0} (R : X → X → Type 0) (xs ys zs : List X) → xs ++ ys ≡ zs → AllPairs R zs → AllPairs R xs
front_ascends {X} R xs ys zs e h =
    let k : AllPairs R (xs ++ ys) = subst (λ l. AllPairs R l) (sym e) h in
    λ i j d l m.
    let first = get_or-append xs ys d i (omega arith) in
    let second = get_or-append xs ys d j m in
    let r = k i j d l (omega (arith, length-append xs ys)) in
    subst (λ (y : X). R (slice_index_or xs i d) y) second (subst (λ (x : X). R x (slice_index_or (xs ++ ys) j d)) first r)

-- If a list's image ascends, the list does.
pub map_ascends : {T U : Type 0} (vs : List (Visit T U)) (fs : List (Finding T U)) → map finding_of vs ≡ fs
    → AllPairs (λ a b. a.entry_index < b.entry_index) fs → AllPairs (λ a b. a.entry_index < b.entry_index) vs
map_ascends {T} {U} vs fs e h =
    let k : AllPairs (λ (a b : Finding T U). a.entry_index < b.entry_index) (map finding_of vs) = subst (λ l. AllPairs (λ a b. a.entry_index < b.entry_index) l) (sym e) h in
    λ i j d l m.
    let first = get_or-map finding_of vs i d (finding_of d) (omega arith) in
    let second = get_or-map finding_of vs j d (finding_of d) m in
    let r = k i j (finding_of d) l (omega (arith, length-map vs finding_of)) in
    subst (λ (y : Finding T U). (slice_index_or vs i d).entry_index < y.entry_index) second (subst (λ (x : Finding T U). x.entry_index < (slice_index_or (map finding_of vs) j (finding_of d)).entry_index) first r)

abbrev result_err : Error → Result Outcome Error
result_err e = Err e

err_same : (a b : Error) → result_err a ≡ result_err b → a ≡ b
err_same a b h = cc

pub take_all : {X : Type 0} (xs : List X) → take (length xs) xs ≡ xs
take_all [] = refl
take_all (x ∷ xs) = ap (λ (l : List _). x ∷ l) (take_all xs)

-- An entry's own fault.
fault_here : {T U : Type 0} (q : Query T U) (es : List IndexEntry) (n : ℕ) (e : Error) → e ≢ Memory → IsFaultAt q es n e → (d : IndexEntry) → verdict q es (slice_index_or es n d) ≡ Err e
fault_here q es n e other (inl h) = h
fault_here q es n e other (inr h) = absurd (other h)

fault_not_thread : {T U : Type 0} (q : Query T U) → NeverSpawns q → (es : List IndexEntry) (n : ℕ) (e : Error) → n < length es → e ≡ SpawnThread → IsFaultAt q es n e → ⊥
fault_not_thread q never [] n e inside spawned (inl h) = absurd (omega arith)
fault_not_thread q never (x ∷ es) n e inside spawned (inl h) = never_spawned q never (x ∷ es) (slice_index_or (x ∷ es) n x) (h x ∙ ap (λ (v : Error). Err v) spawned)
fault_not_thread q never es n e inside spawned (inr h) = cc

module _ {T U : Type 0} (q : Query T U) (start : ℕ) (es : List IndexEntry) where
  -- The records of the first entries are a beginning of all.
  pub records_begin : (n : ℕ) → IsBeginning (records_in q es start (take n es)) (records_of q start es)
  records_begin n = (
    records_in q es (start + length (take n es)) (drop n es),
    sym (records-append q es start (take n es) (drop n es)) ∙ ap (records_in q es start) (take-append-drop n es),
  )

  -- If no entry has a fault, there is no first one.
  pub none_first : faults_in q es es ≡ [] → first_fault q es ≡ None
  none_first h = ap (λ (l : List Error). slice_get l 0) h

  -- The records of a part from the front.
  front_records : (n : ℕ) → records_in q es (start + 0) (part_of es 0 n) ≡ records_in q es start (take n es)
  front_records n = ap (λ (i : ℕ). records_in q es i (part_of es 0 n)) (omega arith) ∙ ap (records_in q es start) (part_front es n)

begins_more : {A : Type 0} (xs ys zs : List A) → IsBeginning xs ys → IsBeginning ys zs → IsBeginning xs zs
begins_more xs ys zs a b = (a.0 ++ b.0, sym (append_assoc xs a.0 b.0) ∙ ap (λ (l : List _). l ++ b.0) a.1 ∙ b.1)

module _ {T U : Type 0} (q : Query T U) (may : Allows U) (index : State) (has_flag : Bool) (old new : List (Visit T U)) where
  abbrev es : List IndexEntry
  es = considered_entries q index

  abbrev start : ℕ
  start = start_of q index

  abbrev Work : ℕ → Result Progress Error → Type 0
  Work workers result =
      IsReportedWork q may start es 0 (IsFaithful (entries_of index) (backing_of index)) has_flag workers (length es) old result new

  module _ (workers : ℕ) (p : Progress) (range : Range ℕ) (all : ℕ) (work : Work workers (Ok p))
      (process : range.end - range.start ≡ length es) (rest : all - (range.end - range.start) ≡ length (index_of index) - length es)
      (room : all - (range.end - range.start) + length es < 2 ^ 64) where
    abbrev outcome : Outcome
    outcome = outcome_of p all range

    -- No entry is skipped twice.
    skipped_fits : skipped_of outcome < 2 ^ 64
    skipped_fits =
        let few = work.ended.done.few in
        omega (arith, few.skipped, work.ended.done.high, room)

    -- The counts of the outcome for the first considered entries.
    front_outcome : (n : ℕ) (reported : List (Finding T U)) → IsAsSpecified q start es 0 n reported p.totals → IsOutcome q (index_of index) es (take n es) outcome
    front_outcome n reported m =
        counted_outcome q (index_of index) es (take n es) p all range process rest (m.counts ∙ ap (counts_in q es) (part_front es n)) (λ r. m.reads r ∙ ap (reads_in q) (part_front es n))

    -- The first of the considered entries were processed.
    first_status : IsTrue q.modelled → IsStatusOf q index work.ended.place (map finding_of work.fed.more) outcome
    first_status t =
        let m = work.ended.done.specified t in
        record {
          clear = sym (ap (faults_in q es) (part_front es work.ended.place)) ∙ m.clear;
          records = work.fed.reported ∙ m.records ∙ front_records q start es work.ended.place;
          outcome = front_outcome work.ended.place work.reported m;
        }

    whole_status : (n : ℕ) → n ≡ length es → IsStatusOf q index n (map finding_of work.fed.more) outcome → IsComplete q index (map finding_of work.fed.more) outcome
    whole_status n e h =
        let all_of : take n es ≡ es = ap (λ (k : ℕ). take k es) e ∙ take_all es in
        record {
          no_fault = none_first q start es (sym (ap (faults_in q es) all_of) ∙ h.clear);
          records = h.records ∙ ap (records_in q es start) all_of;
          outcome = subst (λ (part : List IndexEntry). IsOutcome q (index_of index) es part outcome) all_of h.outcome;
        }

    -- All considered entries were processed, or the interrupt flag was seen.
    pub status_ok : IsStatusReport q index old (Ok outcome) new
    status_ok = record {
      more = work.fed.more;
      grew = work.fed.grew;
      faithful = work.fed.faithful_all;
      ascends = map_ascends work.fed.more work.reported work.fed.reported work.ended.done.ascending;
      complete = λ t still. whole_status work.ended.place (work.ended.reached still) (first_status t);
      interrupted = λ t seen. (work.ended.place, work.ended.done.high, first_status t);
      fault = λ t. tt;
      beginning = λ t. subst (λ l. IsBeginning l (records_of q start es)) (sym (first_status t).records) (records_begin q start es work.ended.place);
      fits = skipped_fits;
    }

  module _ (workers : ℕ) (e : Error) (work : Work workers (Err e)) where
    abbrev stop : IsWorkStopped q may start es 0 workers work.reported e
    stop = work.ended

    abbrev By : Type 0
    By = ((work.reported ≡ stop.found) × (stop.place < length es) × IsFaulty q may es stop.place e) ⊎ (IsShortage workers e × IsBeginning work.reported stop.found)

    -- The findings up to the stop are a beginning of the records.
    found_begins : IsTrue q.modelled → IsBeginning stop.found (records_of q start es)
    found_begins t =
        let m = stop.done.specified t in
        subst (λ l. IsBeginning l (records_of q start es)) (sym (m.records ∙ front_records q start es stop.place)) (records_begin q start es stop.place)

    no_shortage : e ≢ Memory → e ≢ SpawnThread → IsShortage workers e → ⊥
    no_shortage other others (inl h) = other h
    no_shortage other others (inr h) = others h.0

    reported_in : By → IsBeginning work.reported stop.found
    reported_in (inl h) = ([], append-nil work.reported ∙ h.0)
    reported_in (inr h) = h.1

    -- The stop is at the first fault.
    at_fault : IsTrue q.modelled → e ≢ Memory → (work.reported ≡ stop.found) × (stop.place < length es) × IsFaulty q may es stop.place e → IsFirstFault q index (map finding_of work.fed.more) e
    at_fault t other h =
        let m = stop.done.specified t in
        let clear : faults_in q es (take stop.place es) ≡ [] = sym (ap (faults_in q es) (part_front es stop.place)) ∙ m.clear in
        let here = fault_here q es stop.place e other (h.2.specified t) in
        record {
          first = fault_law q es stop.place e h.1 clear here;
          place = stop.place;
          inside = h.1;
          clear = clear;
          here = here;
          records = work.fed.reported ∙ h.0 ∙ m.records ∙ front_records q start es stop.place;
        }

    first_fault_at : IsTrue q.modelled → e ≢ Memory → e ≢ SpawnThread → By → IsFirstFault q index (map finding_of work.fed.more) e
    first_fault_at t other others (inr h) = absurd (no_shortage other others h.0)
    first_fault_at t other others (inl h) = at_fault t other h

    lone_shortage : workers ≡ 1 → IsShortage workers e → e ≡ SpawnThread → ⊥
    lone_shortage one (inl h) spawned = cc
    lone_shortage one (inr h) spawned = absurd (omega (arith, one, h.1))

    no_thread : IsTrue q.modelled → workers ≡ 1 → NeverSpawns q → By → e ≡ SpawnThread → ⊥
    no_thread t one never (inl h) spawned = fault_not_thread q never es stop.place e h.1 spawned (h.2.specified t)
    no_thread t one never (inr h) spawned = lone_shortage one h.0 spawned

    -- The work ended.
    pub status_err : IsStatusReport q index old (Err e) new
    status_err = record {
      more = work.fed.more;
      grew = work.fed.grew;
      faithful = work.fed.faithful_all;
      ascends = map_ascends work.fed.more work.reported work.fed.reported (front_ascends (λ a b. a.entry_index < b.entry_index) work.reported (reported_in stop.by).0 stop.found (reported_in stop.by).1 stop.done.ascending);
      complete = λ t. tt;
      interrupted = λ t. tt;
      fault = λ t other others. first_fault_at t other others stop.by;
      beginning = λ t. subst (λ l. IsBeginning l (records_of q start es)) (sym work.fed.reported) (begins_more work.reported stop.found (records_of q start es) (reported_in stop.by) (found_begins t));
      fits = tt;
    }

    lone_fault : IsTrue q.modelled → workers ≡ 1 → e ≢ Memory → By → IsFirstFault q index (map finding_of work.fed.more) e
    lone_fault t one other (inl h) = at_fault t other h
    lone_fault t one other (inr h) = absurd (no_shortage other (lone_shortage one h.0) h.0)

    -- With one worker any error but out of memory is the first fault, with exactly the records before it.
    pub status_fault : workers ≡ 1 → IsFaultOrMemory q index old (Err e) new
    status_fault one t other = (work.fed.more, work.fed.grew, lone_fault t one other stop.by)

    -- With one worker no thread is refused.
    pub status_alone : (limit : Option ℕ) → workers ≡ most_workers limit → IsTrue q.modelled → limit ≡ Some 1 → NeverSpawns q → result_err e ≢ Err SpawnThread
    status_alone limit same t one never h =
        no_thread t (same ∙ ap most_workers one) never stop.by (err_same e SpawnThread h)

-- The same work, for an equal query and an equal part.
pub work_kept : {T U : Type 0} (q r : Query T U) (may : Allows U) (faithful : Visit T U → Type 0) (interruptible : Bool) (workers start place : ℕ) (whole part : List IndexEntry) (old new : List (Visit T U)) (result : Result Progress Error)
    → r ≡ q → place ≡ start → part ≡ whole → IsReportedWork r may place part 0 faithful interruptible workers (length part) old result new → IsReportedWork q may start whole 0 faithful interruptible workers (length whole) old result new
work_kept q r may faithful interruptible workers start place whole part old new result same at of work =
    subst (λ l. IsReportedWork q may start l 0 faithful interruptible workers (length l) old result new) of
    (subst (λ n. IsReportedWork q may n part 0 faithful interruptible workers (length part) old result new) at
    (subst (λ x. IsReportedWork x may place part 0 faithful interruptible workers (length part) old result new) same work))

-- The theorem, for an equal query.
pub met_along : {T U : Type 0} (q r : Query T U) → r ≡ q → (index : State) (old : List (Visit T U)) (result : Result Outcome Error) (new : List (Visit T U)) → IsStatusReport r index old result new → IsStatusReport q index old result new
met_along q r same index old result new met = subst (λ x. IsStatusReport x index old result new) same met

-- The same about threads, for an equal limit.
pub unspawned_along : {T U : Type 0} (q r : Query T U) → r ≡ q → (m n : Option ℕ) → n ≡ m → (result : Result Outcome Error) → OneThreadSpawnsNone r n result → OneThreadSpawnsNone q m result
unspawned_along q r same m n limit result alone = subst (λ x. OneThreadSpawnsNone x m result) same (subst (λ x. OneThreadSpawnsNone r x result) limit alone)

-- The same without threads.
pub threadless_along : {T U : Type 0} (q r : Query T U) → r ≡ q → (result : Result Outcome Error) → IsThreadless r result → IsThreadless q result
threadless_along q r same result alone = subst (λ x. IsThreadless x result) same alone

-- The same about faults.
pub faults_along : {T U : Type 0} (q r : Query T U) → r ≡ q → (index : State) (old : List (Visit T U)) (result : Result Outcome Error) (new : List (Visit T U)) → IsFaultOrMemory r index old result new → IsFaultOrMemory q index old result new
faults_along q r same index old result new fault = subst (λ x. IsFaultOrMemory x index old result new) same fault

-- The number of considered entries, and of the others.
module _ {X Y : Type 0} (all whole : List X) (entries : List Y) (s e : ℕ) (part : part_of all s e ≡ whole) (order : s ≤ e) (inside : e ≤ length entries) (same : length all ≡ length entries) where
  pub part_len : e - s ≡ length whole
  part_len = sym (ap length (sym part) ∙ omega (arith, length-take (e - s) (drop s all), length-drop s all, order, inside, same))

  pub rest_len : (n : ℕ) → n ≡ length entries → n - (e - s) ≡ length all - length whole
  rest_len n h = omega (arith, part_len, h, same)

  -- The considered and the other entries are all, so their sum fits.
  pub skip_room : (n : ℕ) → n ≡ length entries → n < 2 ^ 64 → n - (e - s) + length whole < 2 ^ 64
  skip_room n h few = omega (arith, part_len, order, inside, h, few)
