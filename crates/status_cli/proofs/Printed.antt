-- How what is printed follows what was printed before.
use Rattle.std.proofs.Common.{◌≡◌, ◌⊎◌, Bool, true, false, IfOk, subst, ℕ, ◌+◌, ◌-◌, List, [], ◌∷◌, ◌++◌, length, Option, Result, Ok, Err, inl, inr, refl, sym, ap, ◌∙◌, append_assoc, append-nil, arith, take, drop, length-drop, take_all, take-append-drop, map}
use Rattle.std.specs.List.{flat_map}
use Rattle.std.specs.Result.{IsErrAnd, IfErr}
use Rattle.std.proofs.lemmas.List.{map-append}
use Rattle.std.proofs.lemmas.List.Folds.{flat_map-map}
use Rattle.std.specs.Io.KnownBytes.{Appends}
use Rattle.std.proofs.KnownBytes.{Appends-trans}
use Rattle.status_call.specs.declared.index_as_worktree.apply.ApplyChange.{ApplyChange}
use Rattle.status_call.specs.declared.index_as_worktree.types.Outcome.{Outcome}
use Rattle.text_output.proofs.Begun.{all_begun, begun_more, begun_longer}
use Rattle.status_cli.specs.declared.failure.Failure.{Failure}
use Rattle.status_cli.specs.declared.failure.Failure.TheVariants.{Memory, Output}
use Rattle.status_cli.specs.declared.status.inputs.WantedChanges.{WantedChanges}
use Rattle.status_cli.specs.FaultLines.{IsFaultWritten, memory_line}
use Rattle.text_output.specs.Written.{IsBegun}
use Rattle.status_cli.specs.Printing.{IsPrinted, IsUnprinted, IsAllWritten}
use Rattle.status_cli.specs.Statuses.{IsPrintEnd, IsJoinedAnswer, IsJoinedPrinted, IsStatusPrinted, JoinedInputs, answered, closing, entry_lines, joined_answered, returned_changes, visit_lines}
use Rattle.status_index.specs.declared.id.HashKind.{HashKind}
use Rattle.status_index.specs.declared.state.State.{State}
use Rattle.status_joined.specs.Items.{Reported}
use Rattle.status_joined.specs.declared.index_as_worktree_with_renames.error.Error.{Error as JoinedError}
use Rattle.status_joined.specs.declared.index_as_worktree_with_renames.types.Outcome.{Outcome as JoinedOutcome}
use Rattle.status_profile.specs.Options.{OptionValues}
use Rattle.status_compare.specs.declared.error.Error.{Error}
use Rattle.status_call.specs.Query.{Query}
use Rattle.status_call.specs.StatusOf.{OneThreadSpawnsNone}
use Rattle.status_call.specs.StatusTheorem.{IsStatusReport}
use Rattle.status_call.specs.Visits.{Visit}
use Rattle.status_index.specs.declared.id.ObjectId.{ObjectId}
use Rattle.status_compare.specs.declared.compare.Comparer.{Comparer}
use Rattle.status_compare.specs.NamedComparers.{compared_by}
use Rattle.status_cli.proofs.NoThreads.{lone_comparers}

pub printed_more : {T : Type 0} (first second : List ℕ) (a b c : Option (List ℕ)) (result : Result T Failure) → Appends a b first → IsPrinted second b result c → IsPrinted (first ++ second) a result c
printed_more first second a b c (Ok v) grew more = Appends-trans a b c first second grew more
printed_more first second a b c (Err e) grew more = (begun_more first second a b c grew more.0, more.1)

-- a text that was written was begun
written_begun : {T : Type 0} (text : List ℕ) (old new : Option (List ℕ)) (result : Result T Failure) → IsAllWritten text old result new → IsBegun text old new
written_begun text old new (Ok v) all = all_begun text old new all
written_begun text old new (Err e) some = some.0

-- a line of a failure that was written was begun
pub fault_begun : {T : Type 0} (names : Bool) (text : List ℕ) (old new : Option (List ℕ)) (result : Result T Failure) → IsFaultWritten names text old result new → IsBegun text old new ⊎ ((names ≡ true) × IsBegun memory_line old new)
fault_begun names text old new result (inl all) = inl (written_begun text old new result all)
fault_begun names text old new result (inr (is, all)) = inr (is, written_begun memory_line old new result all)

-- ---- lines, one after the other

flat_map-append : {A : Type 0} (f : A → List ℕ) (xs ys : List A) → flat_map f (xs ++ ys) ≡ flat_map f xs ++ flat_map f ys
flat_map-append f [] ys = refl
flat_map-append f (x ∷ xs) ys = ap (λ t. f x ++ t) (flat_map-append f xs ys) ∙ sym (append_assoc (f x) (flat_map f xs) (flat_map f ys))

-- The lines of items are those of their values.
pub lines_of_values : {A B : Type 0} (line : B → List ℕ) (view : A → B) (xs : List A) → flat_map (λ x. line (view x)) xs ≡ flat_map line (map view xs)
lines_of_values line view xs = sym (flat_map-map line view xs)

pub values_printed : {A B : Type 0} (line : B → List ℕ) (view : A → B) (xs : List A) (old new : Option (List ℕ)) → Appends old new (flat_map (λ x. line (view x)) xs) → Appends old new (flat_map line (map view xs))
values_printed line view xs old new grew = subst (λ text. Appends old new text) (lines_of_values line view xs) grew

pub values_begun : {A B : Type 0} (line : B → List ℕ) (view : A → B) (xs : List A) (old new : Option (List ℕ)) → IsBegun (flat_map (λ x. line (view x)) xs) old new → IsBegun (flat_map line (map view xs)) old new
values_begun line view xs old new begun = subst (λ text. IsBegun text old new) (lines_of_values line view xs) begun

module _ {A B : Type 0} (line : B → List ℕ) (view : A → B) where
  abbrev lines : List A → List ℕ
  lines xs = flat_map line (map view xs)

  lines-append : (xs ys : List A) → lines (xs ++ ys) ≡ lines xs ++ lines ys
  lines-append xs ys = ap (flat_map line) (map-append view xs ys) ∙ flat_map-append line (map view xs) (map view ys)

  -- the lines of some items, and of one more
  pub lines_next : (done : List A) (x : A) → lines (done ++ x ∷ []) ≡ lines done ++ line (view x)
  lines_next done x = lines-append done (x ∷ []) ∙ ap (λ t. lines done ++ t) (append-nil (line (view x)))

  -- the lines of all items are those of the first, of one, and of the others
  pub lines_whole : (xs : List A) (i : ℕ) (done : List A) (x : A) → take (i + 1) xs ≡ done ++ x ∷ [] → lines xs ≡ (lines done ++ line (view x)) ++ lines (drop (i + 1) xs)
  lines_whole xs i done x next =
      ap lines (sym (take-append-drop (i + 1) xs) ∙ ap (λ t. t ++ drop (i + 1) xs) next)
      ∙ lines-append (done ++ x ∷ []) (drop (i + 1) xs)
      ∙ ap (λ t. t ++ lines (drop (i + 1) xs)) (lines_next done x)

  -- the lines of the items so far, and one more
  pub printed_next : (done : List A) (x : A) (old mid new : Option (List ℕ)) → Appends old mid (lines done) → Appends mid new (line (view x)) → Appends old new (lines (done ++ x ∷ []))
  printed_next done x old mid new before here =
      rw (lines_next done x) (Appends-trans old mid new (lines done) (line (view x)) before here)

  -- the lines of the items so far, and a beginning of the next
  pub begun_next : (xs : List A) (i : ℕ) (done : List A) (x : A) (old mid new : Option (List ℕ)) → take (i + 1) xs ≡ done ++ x ∷ [] → Appends old mid (lines done) → IsBegun (line (view x)) mid new → IsBegun (lines xs) old new
  begun_next xs i done x old mid new next before here =
      rw (lines_whole xs i done x next) (begun_longer (lines done ++ line (view x)) (lines (drop (i + 1) xs)) old new (begun_more (lines done) (line (view x)) old mid new before here))

pub failed_written : {T : Type 0} (text : List ℕ) (old new : Option (List ℕ)) (failure : Failure) (result : Result T Failure) → IsErrAnd result (λ e. e ≡ failure) → IsBegun text old new → failure ≡ Output → IsAllWritten text old result new
failed_written text old new failure (Ok v) failed begun why = absurd failed
failed_written text old new failure (Err e) failed begun why = (begun, rw failed why)

-- ---- how a status ends

-- a beginning of the first text was printed
pub ended_early : {T : Type 0} (first second : List ℕ) (answer : Result Outcome Failure) (old new : Option (List ℕ)) (failure : Failure) (result : Result T Failure) → IsErrAnd result (λ e. e ≡ failure) → IsBegun first old new → IsUnprinted failure → IsPrintEnd (first ++ second) answer old result new
ended_early first second answer old new failure (Ok v) failed begun why = absurd failed
ended_early first second (Ok o) old new failure (Err e) failed begun why = (begun_longer first second old new begun, rw failed why)
ended_early first second (Err f) old new failure (Err e) failed begun why = inr (begun_longer first second old new begun, rw failed why)

-- one text was printed, and then the other as the status ended
pub ended_after : {T : Type 0} (first second : List ℕ) (answer : Result Outcome Failure) (a b c : Option (List ℕ)) (result : Result T Failure) → Appends a b first → IsPrintEnd second answer b result c → IsPrintEnd (first ++ second) answer a result c
ended_after first second (Ok o) a b c result grew ended = printed_more first second a b c result grew ended
ended_after first second (Err f) a b c (Ok v) grew ended = ended
ended_after first second (Err f) a b c (Err e) grew (inl all) = inl (Appends-trans a b c first second grew all.0, all.1)
ended_after first second (Err f) a b c (Err e) grew (inr some) = inr (begun_more first second a b c grew some.0, some.1)

-- a failure is passed on
pub ended_failed : (T : Type 0) {U : Type 0} (text : List ℕ) (answer : Result Outcome Failure) (old new : Option (List ℕ)) (failure : Failure) (result : Result U Failure) → IsErrAnd result (λ e. e ≡ failure) → IsPrintEnd {T = T} text answer old (Err failure) new → IsPrintEnd text answer old result new
ended_failed T text answer old new failure (Ok v) failed ended = absurd failed
ended_failed T text (Ok o) old new failure (Err e) failed ended = (ended.0, rw failed ended.1)
ended_failed T text (Err f) old new failure (Err e) failed ended = rw failed ended

-- all was printed, and then memory ran out, or it didn't
pub ended_then : (T : Type 0) {U : Type 0} (text : List ℕ) (answer : Result Outcome Failure) (old new : Option (List ℕ)) (v : T) (result : Result U Failure) → IfErr result IsUnprinted → IsPrintEnd {T = T} text answer old (Ok v) new → IsPrintEnd text answer old result new
ended_then T text (Ok o) old new v (Ok u) why ended = ended
ended_then T text (Ok o) old new v (Err e) why ended = (all_begun text old new ended, why)
ended_then T text (Err f) old new v result why ended = absurd ended

-- a status reported to a collector that had no record, and this was printed of it
pub printed_status : {U : Type 0} (c : Comparer) (query : Query (Option ObjectId) U) (limit : Option ℕ) (index : State) (counts : Bool) (wanted : WantedChanges) (none visits : List (Visit (Option ObjectId) U)) (answer : Result Outcome Error) (old new : Option (List ℕ)) (result : Result (List ApplyChange) Failure)
    → none ≡ [] → IsStatusReport query index none answer visits → IfOk answer (λ o. o.interrupted ≡ false) → query.compared ≡ compared_by c → OneThreadSpawnsNone query limit answer → IsPrintEnd (visit_lines visits ++ closing counts (answered answer)) (answered answer) old result new
    → IfOk result (λ changes. changes ≡ returned_changes wanted visits) → IsStatusPrinted query limit index counts wanted old result new
printed_status c query limit index counts wanted none visits answer old new result empty met whole by alone ended returned =
    record { visits = visits; answer = answer; met = subst (λ start. IsStatusReport query index start answer visits) empty met; whole = whole; alone = lone_comparers query c by limit answer alone; ended = ended; returned = returned }

pub printed_joined : {T U A : Type 0} (inputs : JoinedInputs T U) (o : OptionValues) (hash : HashKind) (index : State) (none entries : List (Reported T U)) (answer : Result JoinedOutcome JoinedError) (old new : Option (List ℕ)) (result : Result A Failure)
    → none ≡ [] → IsJoinedAnswer inputs o hash index true none answer entries → IsPrintEnd (entry_lines entries ++ closing o.counts (joined_answered answer)) (joined_answered answer) old result new → IsJoinedPrinted inputs o hash index old result new
printed_joined inputs o hash index none entries answer old new result empty met ended =
    record { entries = entries; answer = answer; met = subst (λ start. IsJoinedAnswer inputs o hash index true start answer entries) empty met; ended = ended }

pub memory_unprinted : {T : Type 0} (result : Result T Failure) → IsErrAnd result (λ e. e ≡ Memory) → IfErr result IsUnprinted
memory_unprinted (Ok v) failed = tt
memory_unprinted (Err e) failed = inr failed
