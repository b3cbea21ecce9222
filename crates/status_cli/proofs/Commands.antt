-- The output of a command whose parts pass their results on.
use Rattle.std.proofs.Common.{◌≡◌, Bool, true, false, ℕ, List, [], ◌++◌, Option, Some, None, Result, Ok, Err, IfOk, inl, inr, refl, sym, ap, subst, ◌∙◌}
use Rattle.std.specs.Prelude.{IfSome}
use Rattle.std.specs.Result.{IsErrAnd}
use Rattle.status_compare.specs.declared.error.Error.{Error}
use Rattle.status_call.specs.declared.index_as_worktree.apply.ApplyChange.{ApplyChange}
use Rattle.status_call.specs.declared.index_as_worktree.types.Outcome.{Outcome}
use Rattle.status_call.specs.Query.{Query}
use Rattle.status_call.specs.StatusOf.{OneThreadSpawnsNone}
use Rattle.status_call.specs.StatusTheorem.{IsStatusReport}
use Rattle.status_call.specs.Visits.{Visit}
use Rattle.status_index.specs.declared.id.HashKind.{HashKind}
use Rattle.status_index.specs.declared.state.State.{State}
use Rattle.status_profile.specs.declared.node.Place.{Place}
use Rattle.status_profile.specs.declared.node.Place.TheVariants as places
use Rattle.status_profile.specs.declared.profile.Profile.{Profile}
use Rattle.status_joined.specs.Walkings.{Walking}
use Rattle.status_profile.specs.Options.{OptionValues, is_joined, option_values}
use Rattle.status_cli.specs.declared.failure.Failure.{Failure}
use Rattle.status_cli.specs.declared.status.inputs.WantedChanges.{WantedChanges}
use Rattle.status_cli.specs.declared.status.inputs.WantedChanges.TheVariants.{Dropped}
use Rattle.status_cli.specs.Printing.{result_map}
use Rattle.status_cli.specs.Statuses.{IsJoinedPrinted, IsStatusPrinted, IsPrintEnd, JoinedInputs, answered, closing, visit_lines}
use Rattle.status_cli.specs.ProfileStatuses.{IsPlacePrinted, IsPrintedOver, IsStatusOver, WorktreeResults, asked_in, folder_results, folder_walk, tree_results, tree_walk}
use Rattle.status_cli.proofs.Printed.{printed_status}
use Rattle.status_index.specs.declared.id.ObjectId.{ObjectId}
use Rattle.status_compare.specs.declared.compare.Comparer.{Comparer}
use Rattle.status_compare.specs.NamedComparers.{compared_by}

-- both succeeded, or both failed for one reason
abbrev pub AreAlike : {A B : Type 0} → Result A Failure → Result B Failure → Type 0
AreAlike (Ok x) (Ok y) = Unit {0}
AreAlike (Ok x) (Err f) = ⊥
AreAlike (Err e) (Ok y) = ⊥
AreAlike (Err e) (Err f) = e ≡ f

pub failed_alike : {A B : Type 0} (r : Result A Failure) (s : Result B Failure) (e : Failure) → r ≡ Err e → IsErrAnd s (λ f. f ≡ e) → AreAlike r s
failed_alike (Ok x) s e was h = let never : ⊥ = cc in absurd never
failed_alike (Err d) (Ok y) e was h = absurd h
failed_alike (Err d) (Err f) e was h = let same : d ≡ e = cc in same ∙ sym h

pub done_alike : {A B : Type 0} (r : Result A Failure) (x : A) (y : B) → r ≡ Ok x → AreAlike r (Ok y)
done_alike r x y e = rw e tt

pub ended_alike : {A B : Type 0} (text : List ℕ) (answer : Result Outcome Failure) (old new : Option (List ℕ)) (r : Result A Failure) (s : Result B Failure) → AreAlike r s → IsPrintEnd text answer old r new → IsPrintEnd text answer old s new
ended_alike text (Ok o) old new (Ok x) (Ok y) same h = h
ended_alike text (Err f) old new (Ok x) (Ok y) same h = h
ended_alike text answer old new (Ok x) (Err f) same h = absurd same
ended_alike text answer old new (Err e) (Ok y) same h = absurd same
ended_alike text (Ok o) old new (Err e) (Err f) same h = rw (← same) h
ended_alike text (Err d) old new (Err e) (Err f) same h = rw (← same) h

-- the lines of a joined status, at another result that is alike
pub joined_alike : {T U A B : Type 0} (r : Result A Failure) (s : Result B Failure) → AreAlike r s → (old new : Option (List ℕ)) (inputs : JoinedInputs T U) (o : OptionValues) (hash : HashKind) (index : State)
    → IsJoinedPrinted inputs o hash index old r new → IsJoinedPrinted inputs o hash index old s new
joined_alike r s same old new inputs o hash index h = record { entries = h.entries; answer = h.answer; met = h.met; ended = ended_alike _ _ old new r s same h.ended }

-- what failed, failed alike by a view of values
pub map_err : {A B : Type 0} (view : A → B) (r : Result A Failure) (e : Failure) → IsErrAnd r (λ f. f ≡ e) → result_map view r ≡ Err e
map_err view (Ok x) e h = absurd h
map_err view (Err f) e h = ap Err h

pub map_failed : {A B : Type 0} (view : A → B) (r : Result A Failure) (e : Failure) (P : Failure → Type 0) → IsErrAnd r (λ f. f ≡ e) → P e → IsErrAnd (result_map view r) P
map_failed view r e P h p = subst (λ s. IsErrAnd s P) (sym (map_err view r e h)) p

-- what failed has no value
pub if_failed : {A : Type 0} (r : Result A Failure) (P : Failure → Type 0) (Q : A → Type 0) → IsErrAnd r P → IfOk r Q
if_failed (Ok x) P Q h = absurd h
if_failed (Err e) P Q h = tt

-- a status failed while it was printed, or after it
pub printed_failed : {U A : Type 0} (view : A → List ApplyChange) (c : Comparer) (query : Query (Option ObjectId) U) (limit : Option ℕ) (index : State) (counts : Bool) (wanted : WantedChanges) (none visits : List (Visit (Option ObjectId) U)) (answer : Result Outcome Error) (old new : Option (List ℕ)) (r : Result A Failure) (P : Failure → Type 0)
    → IsErrAnd r P → none ≡ [] → IsStatusReport query index none answer visits → IfOk answer (λ o. o.interrupted ≡ false) → query.compared ≡ compared_by c → OneThreadSpawnsNone query limit answer → IsPrintEnd (visit_lines visits ++ closing counts (answered answer)) (answered answer) old r new
    → IsStatusPrinted query limit index counts wanted old (result_map view r) new
printed_failed view c query limit index counts wanted none visits answer old new (Ok x) P failed empty met whole by alone ended = absurd failed
printed_failed {A = A} view c query limit index counts wanted none visits answer old new (Err e) P failed empty met whole by alone ended =
    printed_status c query limit index counts wanted none visits answer old new (Err e) empty met whole by alone (ended_alike {A = A} _ _ old new (Err e) (Err e) refl ended) tt

module _ (p : Profile) (old : Option (List ℕ)) (changes : List ApplyChange) (new : Option (List ℕ)) where
  over_dropped : (w : WorktreeResults) (prefix : List ℕ) (included : List ℕ → Bool → Bool) (walking : Walking) → IsStatusOver w (asked_in p Dropped) prefix included walking old (Ok changes) new → changes ≡ []
  over_dropped w prefix included walking h = by_kind (is_joined (option_values p.options)) refl
    where
      by_kind : (b : Bool) → is_joined (option_values p.options) ≡ b → changes ≡ []
      by_kind false plain = (h.plain plain).returned
      by_kind true joined = h.unchanged joined

  printed_dropped : (w : WorktreeResults) (walked : List ℕ → (List ℕ → Bool → Bool) → Walking) → IsPrintedOver w walked (asked_in p Dropped) old (Ok changes) new → changes ≡ []
  printed_dropped w walked (inl failed) = absurd failed.0
  printed_dropped w walked (inr h) = over_dropped w _ _ _ h

  -- dropped changes are none
  pub place_dropped : (place : Place) → IsPlacePrinted place (asked_in p Dropped) old (Ok changes) new → changes ≡ []
  place_dropped (places.Folder path) h = printed_dropped folder_results folder_walk h
  place_dropped (places.Nodes nodes) (inl failed) = absurd failed.0
  place_dropped (places.Nodes nodes) (inr h) = printed_dropped (tree_results h.0) (tree_walk h.0 p.index) h.2

-- what holds of the text that was read holds of the reader's, if that is known
pub of_known : (P : List ℕ → Type 0) (known : Option (List ℕ)) (text : List ℕ) → IfSome known (λ all. text ≡ all) → P text → IfSome known P
of_known P None text same h = tt
of_known P (Some all) text same h = subst P same h

pub known_all : (P : List ℕ → Type 0) → ((text : List ℕ) → P text) → (known : Option (List ℕ)) → IfSome known P
known_all P f None = tt
known_all P f (Some text) = f text

pub known_map : (P Q : List ℕ → Type 0) → ((text : List ℕ) → P text → Q text) → (known : Option (List ℕ)) → IfSome known P → IfSome known Q
known_map P Q f None h = tt
known_map P Q f (Some text) h = f text h
