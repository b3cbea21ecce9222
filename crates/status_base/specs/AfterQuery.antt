-- A link check after a query.
use Rattle.std.specs.Prelude.{◌≡◌, ◌≤◌, ◌+◌, ℕ, Bool, IsTrue, List, length, OnOk, Option, Some, Result}
use Rattle.std.specs.Result.{result_err}
use Rattle.status_index.specs.declared.fault.Fault.{Fault}
use Rattle.status_index.specs.declared.fault.Fault.TheVariants as faults
use Rattle.status_index.specs.declared.stat.Metadata.{Metadata}
use Rattle.status_index.specs.Content.{saturate}
use Rattle.status_base.specs.declared.stack.error.StackError.{StackError}
use Rattle.status_base.specs.declared.stack.error.StackError.TheVariants.{ThroughLink}
use Rattle.status_base.specs.declared.stack.error.StackError.TheVariants as errors
use Rattle.status_base.specs.Paths.{new_directories}
use Rattle.status_base.specs.LinkCheck.{faulty, link_check}
use Rattle.status_base.specs.CheckState.{CheckState, IsClear}
use Rattle.status_base.specs.CheckAnswers.{IsNormal}
use Rattle.status_base.specs.Sights.{MayStat, IsOpen}

-- A fact that has to hold if a link or a fault bars the way to a path.
abbrev pub OnBarred : Option StackError → Type 0 → Type 0
OnBarred (Some (ThroughLink _)) P = P
OnBarred (Some (errors.Fault _)) P = P
OnBarred _ P = Unit {0}

-- `lstat` was called and counted. The count saturates.
abbrev pub HasLooked : CheckState → CheckState → Type 0
HasLooked old new = saturate (old.looks + 1) ≤ new.looks

-- A check after a query, by the error of a refused path. `lstat` isn't called again for directories that are also above the old
-- path. A call that finds a link or a fault is counted. A query for a path that isn't normal leaves the check unchanged.
pub record IsAfterQuery (may : MayStat) (modelled : Bool) (lstat : List ℕ → Result Metadata Fault) (query : List ℕ) (refusal : Option StackError) (old new : CheckState) : Type 0 where
  pub root : new.root ≡ old.root
  pub clear : IsTrue modelled → IsClear lstat old.path → IsClear lstat new.path
  pub «open» : IsOpen may old.path → IsOpen may new.path
  pub looks : old.looks ≤ new.looks
  pub few : new.looks ≤ old.looks + length (new_directories old.path query)
  pub barred : OnBarred refusal (HasLooked old new)
  pub unchanged : (IsNormal query → ⊥) → new ≡ old

-- The calls of `lstat` are bounded, and each directory is listed once. This is the check after `verified_path`, which returns a
-- path only if each directory above it is open.
pub record IsAfterVerified {A : Type 0} (may : MayStat) (modelled : Bool) (lstat : List ℕ → Result Metadata Fault) (query : List ℕ) (result : Result A StackError) (old new : CheckState) : Type 0 where
  pub path : OnOk result (new.path ≡ query)
  pub after : IsAfterQuery may modelled lstat query (result_err result) old new

-- The check after `verified_path_allow_nonexisting`, which also returns a path if a directory above it isn't there. If the
-- directories that were found open still are, the call of `lstat` that finds nothing is counted too.
pub record IsAfterLenient {A : Type 0} (may : MayStat) (modelled : Bool) (lstat : List ℕ → Result Metadata Fault) (query : List ℕ) (result : Result A StackError) (old new : CheckState) : Type 0 where
  pub absent : OnOk result (IsTrue modelled → IsClear lstat old.path → link_check lstat query ≡ faulty faults.NotFound → HasLooked old new)
  pub after : IsAfterQuery may modelled lstat query (result_err result) old new
