-- The directories above a path, and its components.
use Rattle.std.proofs.Common.{◌≡◌, ◌≢◌, ℕ, zero, suc, ◌+◌, ◌<◌, ◌≤◌, Bool, true, false, cond, ltb, IsTrue, List, [], ◌∷◌, ◌++◌, length, take, drop, position, Option, Some, None, Result, Err, Contains, slice_index, refl, sym, ◌∙◌, ap, subst, inl, inr, arith, add-one, append_assoc, if◌then◌else◌}
use Rattle.std.specs.List.{slice_split, position_or_len}
use Rattle.std.specs.Result.{result_err}
use Rattle.std.proofs.lemmas.List.{append-nil, length-append}
use Rattle.std.proofs.lemmas.List.Splits.{slice_split_none, slice_split_first}
use Rattle.std.proofs.lemmas.List.Sums.{fails_before_first, position_or_len_is}
use Rattle.std.proofs.lemmas.List.Quantifiers.{position-Some}
use Rattle.std.proofs.lemmas.Bool.{cases_lt, ltb-false}
use Rattle.std.proofs.lemmas.List.Elements.{Contains-append_right, All-from_get_or}
use Rattle.status_index.specs.declared.fault.Fault.{Fault}
use Rattle.status_index.specs.declared.fault.Fault.TheVariants as faults
use Rattle.status_index.specs.declared.stat.Metadata.{Metadata}
use Rattle.status_base.specs.declared.stack.barrier.Stop.{Stop}
use Rattle.status_base.specs.declared.stack.error.StackError.{StackError}
use Rattle.status_base.specs.declared.stack.error.StackError.TheVariants.{EmptyPath, NotNormal, ThroughLink, Memory}
use Rattle.status_base.specs.declared.stack.error.StackError.TheVariants as errors
use Rattle.status_base.specs.Paths.{is_slash, components, directories, directories_below, abnormal_component}
use Rattle.status_base.specs.LinkCheck.{LinkCheck, Barrier, accepted, not_normal, faulty, decided, barrier_of, leftmost_barrier, check_of_normal, link_check}
use Rattle.status_base.specs.CheckState.{CheckState, IsClear, IsClearBelow}
use Rattle.status_base.specs.CheckAnswers.{IsCheckError, IsNamed, IsChecked, accepting_absent, unless_absent}
use Rattle.status_base.specs.Sights.{MayStat}
use Rattle.status_base.specs.AfterQuery.{IsAfterQuery, OnBarred, HasLooked}
use Rattle.status_base.specs.Barriers.{IsOfDirectory, IsStopAbove, IsBarredAt, OnReached, on_the_way}

one_open : (lstat : List ℕ → Result Metadata Fault) (directory : List ℕ) (slash : Bool) (others : List (List ℕ)) → (IsTrue slash → barrier_of (lstat directory) ≡ None) → leftmost_barrier lstat ((if slash then directory ∷ [] else []) ++ others) ≡ leftmost_barrier lstat others
one_open lstat directory true others clear = ap (λ (v : Option Barrier). decided directory v (leftmost_barrier lstat others)) (clear refl)
one_open lstat directory false others clear = refl

-- open directories decide nothing
pub leftmost_open : (lstat : List ℕ → Result Metadata Fault) (path : List ℕ) (n : ℕ) (others : List (List ℕ)) → IsClearBelow lstat path n → leftmost_barrier lstat (directories_below path n ++ others) ≡ leftmost_barrier lstat others
leftmost_open lstat path zero others clear = refl
leftmost_open lstat path (suc n) others clear =
    ap (leftmost_barrier lstat) (append_assoc (directories_below path n) (if is_slash (slice_index path n) then take n path ∷ [] else []) others)
    ∙ leftmost_open lstat path n ((if is_slash (slice_index path n) then take n path ∷ [] else []) ++ others) (λ k below slash. clear k (omega arith) slash)
    ∙ one_open lstat (take n path) (is_slash (slice_index path n)) others (clear n (omega arith))

pub leftmost_clear : (lstat : List ℕ → Result Metadata Fault) (path : List ℕ) → IsClear lstat path → leftmost_barrier lstat (directories path) ≡ accepted
leftmost_clear lstat path clear =
    ap (leftmost_barrier lstat) (sym (append-nil (directories path))) ∙ leftmost_open lstat path (length path) [] clear

directories_last : (path : List ℕ) (n : ℕ) → IsTrue (is_slash (slice_index path n)) → directories_below path (suc n) ≡ directories_below path n ++ take n path ∷ []
directories_last path n slash =
    ap (λ (b : Bool). directories_below path n ++ (if b then take n path ∷ [] else [])) slash

-- a front that a slash follows is among the directories
pub directories_split : (path : List ℕ) (at n : ℕ) → at < n → IsTrue (is_slash (slice_index path at)) → (others : List (List ℕ)) × (directories_below path n ≡ directories_below path at ++ take at path ∷ others)
directories_split path at zero below slash = absurd (omega arith)
directories_split path at (suc n) below slash =
    elim (cases_lt at n) [
      | inl earlier ↦ (let split = directories_split path at n earlier slash in
          let last : List (List ℕ) = (if is_slash (slice_index path n) then take n path ∷ [] else []) in
          (split.0 ++ last, ap (λ (v : List (List ℕ)). v ++ last) split.1 ∙ append_assoc (directories_below path at) (take at path ∷ split.0) last))
      | inr later ↦ (let same : n ≡ at = omega arith in
          let P : ℕ → Type 0 = λ m. directories_below path (suc m) ≡ directories_below path at ++ take at path ∷ [] in
          ([], subst P (sym same) (directories_last path at slash)))
    ]

pub directories_contain : (path : List ℕ) (at : ℕ) → at < length path → IsTrue (is_slash (slice_index path at)) → Contains (directories path) (take at path)
directories_contain path at within slash =
    let split = directories_split path at (length path) within slash in
    let P : List (List ℕ) → Type 0 = λ ds. Contains ds (take at path) in
    subst P (sym split.1) (Contains-append_right (directories_below path at) (take at path ∷ split.0) (take at path) (0, omega arith, refl))

-- if the shorter directories are open, this one decides, or those after it
pub leftmost_at : (lstat : List ℕ → Result Metadata Fault) (path : List ℕ) (at : ℕ) → at < length path → IsTrue (is_slash (slice_index path at)) → IsClearBelow lstat path at → (rest : LinkCheck) × (leftmost_barrier lstat (directories path) ≡ decided (take at path) (barrier_of (lstat (take at path))) rest)
leftmost_at lstat path at within slash clear =
    let split = directories_split path at (length path) within slash in
    (leftmost_barrier lstat split.0, ap (leftmost_barrier lstat) split.1 ∙ leftmost_open lstat path at (take at path ∷ split.0) clear)

refused_accepted : (rest : LinkCheck) (e : StackError) → IsCheckError accepted e → IsCheckError rest e
refused_accepted rest EmptyPath h = absurd (cc)
refused_accepted rest (NotNormal component) h = absurd (cc)
refused_accepted rest (ThroughLink prefix) h = absurd (cc)
refused_accepted rest (errors.Fault f) (inl h) = absurd (cc)
refused_accepted rest (errors.Fault f) (inr h) = inr h
refused_accepted rest Memory h = tt

-- the error of a directory is the same, whatever comes after it
pub refused_decided : (directory : List ℕ) (barrier : Option Barrier) (rest : LinkCheck) (e : StackError) → IsCheckError (decided directory barrier accepted) e → IsCheckError (decided directory barrier rest) e
refused_decided directory (Some barrier) rest e h = h
refused_decided directory None rest e h = refused_accepted rest e h

-- if a path isn't empty and has no abnormal component, the directories above it decide
pub link_check_normal : (lstat : List ℕ → Result Metadata Fault) (path : List ℕ) → 0 < length path → abnormal_component path ≡ None → link_check lstat path ≡ leftmost_barrier lstat (directories path)
link_check_normal lstat [] full normal = absurd (omega arith)
link_check_normal lstat (b ∷ path) full normal = ap (check_of_normal lstat (b ∷ path)) normal

pub link_check_abnormal : (lstat : List ℕ → Result Metadata Fault) (path component : List ℕ) → 0 < length path → abnormal_component path ≡ Some component → link_check lstat path ≡ not_normal component
link_check_abnormal lstat [] component full abnormal = absurd (omega arith)
link_check_abnormal lstat (b ∷ path) component full abnormal = ap (check_of_normal lstat (b ∷ path)) abnormal

pub link_check_clear : (lstat : List ℕ → Result Metadata Fault) (path : List ℕ) → 0 < length path → abnormal_component path ≡ None → IsClear lstat path → link_check lstat path ≡ accepted
link_check_clear lstat path full normal clear = link_check_normal lstat path full normal ∙ leftmost_clear lstat path clear

pub link_check_barred : (lstat : List ℕ → Result Metadata Fault) (path : List ℕ) (stop : Stop) → 0 < length path → abnormal_component path ≡ None → IsStopAbove path stop → IsBarredAt lstat path stop → IsCheckError (link_check lstat path) stop.error
link_check_barred lstat path stop full normal is_stop barred =
    let decides = leftmost_at lstat path stop.at is_stop.within is_stop.slash barred.open_below in
    let P : LinkCheck → Type 0 = λ check. IsCheckError check stop.error in
    subst P (sym (link_check_normal lstat path full normal ∙ decides.1)) (refused_decided (take stop.at path) (barrier_of (lstat (take stop.at path))) decides.0 stop.error barred.barred)

named_directory : (path directory : List ℕ) (e : StackError) → Contains (directories path) directory → IsOfDirectory directory e → IsNamed path e
named_directory path directory EmptyPath above h = absurd h
named_directory path directory (NotNormal component) above h = absurd h
named_directory path directory (ThroughLink prefix) above h =
    let P : List ℕ → Type 0 = λ d. Contains (directories path) d in subst P (sym h) above
named_directory path directory (errors.Fault f) above h = tt
named_directory path directory Memory above h = absurd h

pub named_stop : (path : List ℕ) (stop : Stop) → IsStopAbove path stop → IsNamed path stop.error
named_stop path stop is_stop =
    named_directory path (take stop.at path) stop.error (directories_contain path stop.at is_stop.within is_stop.slash) is_stop.of_directory

-- the components at the first slash
pub components_at : (path : List ℕ) (at : ℕ) → position is_slash path ≡ Some at → components path ≡ take at path ∷ components (drop (at + 1) path)
components_at path at first =
    let found = position-Some is_slash path at 0 first in
    let same : position_or_len is_slash path ≡ at = position_or_len_is is_slash path at 0 (omega arith) found.2 (λ _. found.1) in
    slice_split_first is_slash path 0 (omega arith) ∙ ap (λ (n : ℕ). take n path ∷ slice_split is_slash (drop (n + 1) path)) same

none_past : (test : Bool) (n : ℕ) → cond test (Some n) None ≡ None → test ≡ false
none_past true n h = absurd (cc)
none_past false n h = refl

pub components_none : (path : List ℕ) → position is_slash path ≡ None → components path ≡ path ∷ []
components_none path none =
    let past = none_past (ltb (position_or_len is_slash path) (length path)) (position_or_len is_slash path) none in
    let far = ltb-false (position_or_len is_slash path) (length path) past in
    slice_split_none is_slash path (All-from_get_or (λ (b : ℕ). is_slash b ≡ false) path 0 (λ k within. fails_before_first is_slash path k 0 (omega arith)))

-- a longer front has no fewer directories
pub length-directories : (path : List ℕ) (at n : ℕ) → at ≤ n → length (directories_below path at) ≤ length (directories_below path n)
length-directories path at zero below = let same : at ≡ 0 = omega arith in rw same (omega arith)
length-directories path at (suc n) below =
    elim (cases_lt n at) [
      | inl later ↦ (let same : at ≡ suc n = omega arith in rw same (omega arith))
      | inr earlier ↦ omega (arith, length-directories path at n earlier, length-append (directories_below path n) (if is_slash (slice_index path n) then take n path ∷ [] else []))
    ]

-- one more if a slash follows
pub length-directories-more : (path : List ℕ) (at : ℕ) → IsTrue (is_slash (slice_index path at)) → length (directories_below path (at + 1)) ≡ length (directories_below path at) + 1
length-directories-more path at slash =
    ap (λ (n : ℕ). length (directories_below path n)) (add-one at)
    ∙ ap length (directories_last path at slash)
    ∙ length-append (directories_below path at) (take at path ∷ [])

-- and no more if none follows
pub length-directories-same : (path : List ℕ) (at : ℕ) → is_slash (slice_index path at) ≡ false → length (directories_below path (at + 1)) ≡ length (directories_below path at)
length-directories-same path at bare =
    ap (λ (n : ℕ). length (directories_below path n)) (add-one at)
    ∙ ap (λ (b : Bool). length (directories_below path at ++ (if b then take at path ∷ [] else []))) bare
    ∙ ap length (append-nil (directories_below path at))

-- a fact that holds anyway holds if a link or a fault bars the way
pub on_barred : (e : StackError) (P : Type 0) → P → OnBarred (Some e) P
on_barred EmptyPath P h = tt
on_barred (NotNormal component) P h = tt
on_barred (ThroughLink prefix) P h = h
on_barred (errors.Fault f) P h = h
on_barred Memory P h = tt

-- the directories up to the one that bars the way are no more than those above the path
pub on_the_way-few : (path : List ℕ) (stop : Stop) → IsStopAbove path stop → length (on_the_way path (Some stop)) ≤ length (directories path)
on_the_way-few path stop is_stop = length-directories path (stop.at + 1) (length path) (omega (arith, is_stop.within))

-- if a directory above a path isn't there, the lenient check accepts the path
pub absent_accepted : {A : Type 0} (check : LinkCheck) (result : Result A StackError) → result ≡ Err (errors.Fault faults.NotFound) → IsChecked check result → accepting_absent check ≡ accepted
absent_accepted {A} check result is checked =
    let P : Result A StackError → Type 0 = λ r. IsChecked check r in
    elim (subst P is checked) [ inl e ↦ ap accepting_absent e | inr e ↦ absurd (cc) ]

-- an accepted path is also accepted by the lenient check
pub still_accepted : (check : LinkCheck) → check ≡ accepted → accepting_absent check ≡ accepted
still_accepted check is = ap accepting_absent is

unless_present : (f : Fault) → f ≢ faults.NotFound → unless_absent f ≡ faulty f
unless_present faults.NotFound present = absurd (present refl)
unless_present faults.NotADirectory present = refl
unless_present faults.PermissionDenied present = refl
unless_present faults.Interrupted present = refl
unless_present faults.IllformedUtf8 present = refl
unless_present faults.UnexpectedEnd present = refl
unless_present faults.NotNormal present = refl
unless_present faults.Memory present = refl
unless_present (faults.Other n) present = refl

-- a path that is refused for another reason is also refused by the lenient check
pub still_refused : (check : LinkCheck) (e : StackError) → e ≢ errors.Fault faults.NotFound → IsCheckError check e → IsCheckError (accepting_absent check) e
still_refused check EmptyPath present h = ap accepting_absent h
still_refused check (NotNormal component) present h = ap accepting_absent h
still_refused check (ThroughLink prefix) present h = ap accepting_absent h
still_refused check (errors.Fault f) present (inl h) =
    inl (ap accepting_absent h ∙ unless_present f (λ absent. present (ap errors.Fault absent)))
still_refused check (errors.Fault f) present (inr h) = inr h
still_refused check Memory present h = tt

pub error_same : (P : StackError → Type 0) (e other : StackError) → e ≡ other → P e → P other
error_same P e other same h = subst P same h

-- no directory above an accepted path is missing
pub accepted_present : (check : LinkCheck) → check ≡ accepted → check ≡ faulty faults.NotFound → ⊥
accepted_present check is absent = cc

-- a lenient check after a query that found nothing
pub after_absent : {A : Type 0} (may : MayStat) (modelled : Bool) (lstat : List ℕ → Result Metadata Fault) (query : List ℕ) (result : Result A StackError) (old new : CheckState) → result ≡ Err (errors.Fault faults.NotFound) → IsAfterQuery may modelled lstat query (result_err result) old new → HasLooked old new × IsAfterQuery may modelled lstat query None old new
after_absent {A} may modelled lstat query result old new is after =
    let P : Result A StackError → Type 0 = λ r. OnBarred (result_err r) (HasLooked old new) in
    (subst P is after.barred, record { root = after.root; clear = after.clear; «open» = after.«open»; looks = after.looks; few = after.few; barred = tt; unchanged = after.unchanged })

-- a check after the same query, with its values written in another way
pub after_same : (may : MayStat) (modelled : Bool) (lstat : List ℕ → Result Metadata Fault) (query : List ℕ) (refusal other : Option StackError) (old new later : CheckState) → refusal ≡ other → new ≡ later → IsAfterQuery may modelled lstat query refusal old new → IsAfterQuery may modelled lstat query other old later
after_same may modelled lstat query refusal other old new later same_refusal same_new after =
    let P : Option StackError → Type 0 = λ r. IsAfterQuery may modelled lstat query r old later in
    let Q : CheckState → Type 0 = λ s. IsAfterQuery may modelled lstat query refusal old s in
    subst P same_refusal (subst Q same_new after)

-- a fact that holds anyway holds if the directories were checked
pub on_reached : (A : Type 0) (e : StackError) (P : Type 0) → P → OnReached {A = A} (Err e) P
on_reached A EmptyPath P h = tt
on_reached A (NotNormal component) P h = tt
on_reached A (ThroughLink prefix) P h = tt
on_reached A (errors.Fault f) P h = h
on_reached A Memory P h = tt

pub reached_at_absent : {A : Type 0} (result : Result A StackError) (F : Type 0) → result ≡ Err (errors.Fault faults.NotFound) → OnReached result F → F
reached_at_absent {A} result F is reached =
    let P : Result A StackError → Type 0 = λ r. OnReached r F in subst P is reached
