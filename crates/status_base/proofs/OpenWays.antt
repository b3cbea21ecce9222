-- A link check by results that `lstat` may return, one directory at a time.
use Rattle.std.proofs.Common.{◌≡◌, ◌≢◌, ◌<◌, ◌≤◌, ◌+◌, ℕ, false, List, length, take, drop, Some, None, Result, Ok, Err, slice_index, sym, ◌∙◌, ap, subst, inl, inr, arith}
use Rattle.std.proofs.lemmas.List.{length-take-le}
use Rattle.std.proofs.lemmas.Bool.{cases_lt}
use Rattle.bstr.specs.declared.bstr.BStr.{BStr}
use Rattle.bstr.specs.BStr.{bstr_bytes}
use Rattle.status_index.specs.declared.fault.Fault.{Fault}
use Rattle.status_index.specs.declared.stat.Metadata.{Metadata}
use Rattle.status_base.specs.declared.stack.barrier.Stop.{Stop}
use Rattle.status_base.specs.declared.stack.error.StackError.{StackError}
use Rattle.status_base.specs.declared.stack.error.StackError.TheVariants.{NotNormal}
use Rattle.status_base.specs.Common.{IsCommon}
use Rattle.status_base.specs.Paths.{is_slash, abnormal_component}
use Rattle.status_base.specs.LinkCheck.{accepted, decided, barrier_of}
use Rattle.status_base.specs.CheckState.{IsClearBelow}
use Rattle.status_base.specs.CheckAnswers.{IsCheckError}
use Rattle.status_base.specs.Sights.{Stats, MayStat, IsOpenBelow, IsOpen, IsCheckSeen}
use Rattle.status_base.specs.Barriers.{IsStopAbove, IsBarrierSeen, IsWaySeen}
use Rattle.status_base.proofs.LinkLemmas.{link_check_abnormal, link_check_barred, link_check_clear}
use Rattle.status_base.proofs.CommonFronts.{clear_behind, clear_common, clear_front, clear_none, whole_behind}
use Rattle.status_base.proofs.SightLemmas.{with_answer, answer_here, answer_there, with_answer_allowed}

-- shorter directories stay clear
clear_with_answer : (path : List ℕ) (n : ℕ) (answer : Result Metadata Fault) (lstat : Stats) → n ≤ length path → IsClearBelow lstat path n → IsClearBelow (with_answer (take n path) answer lstat) path n
clear_with_answer path n answer lstat within clear k below slash =
    let differs : length (take k path) ≢ length (take n path) = omega (arith, length-take-le k path (omega arith), length-take-le n path within) in
    ap barrier_of (answer_there (take n path) (take k path) answer lstat differs) ∙ clear k below slash

pub clear_more : (path : List ℕ) (n : ℕ) (lstat : Stats) → barrier_of (lstat (take n path)) ≡ None → IsClearBelow lstat path n → IsClearBelow lstat path (n + 1)
clear_more path n lstat here clear k below slash =
    let P : ℕ → Type 0 = λ m. barrier_of (lstat (take m path)) ≡ None in
    elim (cases_lt k n) [
      | inl less ↦ clear k less slash
      | inr more ↦ (let same : n ≡ k = omega arith in subst P same here)
    ]

-- a front with no slash after it is no directory
pub clear_bare : (path : List ℕ) (n : ℕ) (lstat : Stats) → is_slash (slice_index path n) ≡ false → IsClearBelow lstat path n → IsClearBelow lstat path (n + 1)
clear_bare path n lstat bare clear k below slash =
    elim (cases_lt k n) [
      | inl less ↦ clear k less slash
      | inr more ↦ (let same : k ≡ n = omega arith in
          let other : is_slash (slice_index path k) ≡ false = ap (λ (m : ℕ). is_slash (slice_index path m)) same ∙ bare in
          absurd (cc))
    ]

pub open_bare : (may : MayStat) (path : List ℕ) (n : ℕ) → is_slash (slice_index path n) ≡ false → IsOpenBelow may path n → IsOpenBelow may path (n + 1)
open_bare may path n bare o =
    record { lstat = o.lstat; allowed = o.allowed; clear = clear_bare path n o.lstat bare o.clear }

-- the next directory doesn't bar the way
pub open_more : (may : MayStat) (path : List ℕ) (n : ℕ) → n ≤ length path → IsBarrierSeen may (take n path) None → IsOpenBelow may path n → IsOpenBelow may path (n + 1)
open_more may path n within s o =
    let lstat : Stats = with_answer (take n path) s.answer o.lstat in
    record {
      lstat = lstat;
      allowed = with_answer_allowed may (take n path) s.answer o.lstat s.allowed o.allowed;
      clear = clear_more path n lstat (ap barrier_of (answer_here (take n path) s.answer o.lstat) ∙ s.barrier) (clear_with_answer path n s.answer o.lstat within o.clear);
    }

-- the next directory bars the way
pub way_barred : (may : MayStat) (path : List ℕ) (n : ℕ) (e : StackError) → n < length path → IsBarrierSeen may (take n path) (Some e) → IsOpenBelow may path n → IsWaySeen may path (Some (record { at = n; error = e }))
way_barred may path n e within s o =
    let P : Result Metadata Fault → Type 0 = λ answer. IsCheckError (decided (take n path) (barrier_of answer) accepted) e in
    record {
      lstat = with_answer (take n path) s.answer o.lstat;
      allowed = with_answer_allowed may (take n path) s.answer o.lstat s.allowed o.allowed;
      way = record {
        open_below = clear_with_answer path n s.answer o.lstat (omega arith) o.clear;
        barred = subst P (sym (answer_here (take n path) s.answer o.lstat)) s.barrier;
      };
    }

-- no directory is left
pub way_open : (may : MayStat) (path : List ℕ) (n : ℕ) → length path ≤ n → IsOpenBelow may path n → IsWaySeen may path None
way_open may path n past o = record {
  lstat = o.lstat;
  allowed = o.allowed;
  way = λ k below slash. o.clear k (omega arith) slash;
}

-- if one path is open, the other is open within the common front
pub open_common : (may : MayStat) (tested path : List ℕ) (n : ℕ) → IsCommon tested path n → IsOpen may tested → IsOpenBelow may path n
open_common may tested path n common o =
    record { lstat = o.lstat; allowed = o.allowed; clear = clear_common o.lstat tested path n common o.clear }

-- the tested path after a query: nothing, the whole path, or the directory that bars the way
pub open_none : (may : MayStat) (path items : List ℕ) (start tested : ℕ) → tested ≡ 0 → IsOpen may path → IsOpen may (take tested (drop start items))
open_none may path items start tested none o =
    record { lstat = o.lstat; allowed = o.allowed; clear = clear_none o.lstat items start tested none }

pub open_whole : (may : MayStat) (path items : List ℕ) (start : ℕ) → drop start items ≡ path → IsWaySeen may path None → IsOpen may (take (length path) (drop start items))
open_whole may path items start is w =
    let P : List ℕ → Type 0 = λ p. IsOpen may p in
    subst P (sym (whole_behind path items start is)) (record { lstat = w.lstat; allowed = w.allowed; clear = w.way })

pub open_behind : (may : MayStat) (path items : List ℕ) (start : ℕ) (stop : Stop) → drop start items ≡ path → IsWaySeen may path (Some stop) → IsOpen may (take stop.at (drop start items))
open_behind may path items start stop is w = record {
  lstat = w.lstat;
  allowed = w.allowed;
  clear = clear_behind w.lstat path items start stop.at is (clear_front w.lstat path stop.at w.way.open_below);
}

-- the results of a check
pub seen_abnormal : {A : Type 0} (may : MayStat) (tested path : List ℕ) (component : BStr) → 0 < length path → abnormal_component path ≡ Some (bstr_bytes component) → IsOpen may tested → IsCheckSeen {A = A} may path (Err (NotNormal component))
seen_abnormal {A} may tested path component full abnormal o =
    record { lstat = o.lstat; allowed = o.allowed; checked = link_check_abnormal o.lstat path (bstr_bytes component) full abnormal }

pub seen_clear : {A : Type 0} (may : MayStat) (path : List ℕ) (value : A) → 0 < length path → abnormal_component path ≡ None → IsWaySeen may path None → IsCheckSeen may path (Ok value)
seen_clear {A} may path value full normal w =
    record { lstat = w.lstat; allowed = w.allowed; checked = link_check_clear w.lstat path full normal w.way }

pub seen_barred : {A : Type 0} (may : MayStat) (path : List ℕ) (stop : Stop) → 0 < length path → abnormal_component path ≡ None → IsStopAbove path stop → IsWaySeen may path (Some stop) → IsCheckSeen {A = A} may path (Err stop.error)
seen_barred {A} may path stop full normal is_stop w =
    record { lstat = w.lstat; allowed = w.allowed; checked = link_check_barred w.lstat path stop full normal is_stop w.way }
