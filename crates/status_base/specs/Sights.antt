-- Which results `lstat` may return, and a link check by them.
use Rattle.std.specs.Prelude.{ℕ, List, length, Result, ⊤}
use Rattle.status_index.specs.declared.fault.Fault.{Fault}
use Rattle.status_index.specs.declared.stat.Metadata.{Metadata}
use Rattle.status_base.specs.declared.stack.error.StackError.{StackError}
use Rattle.status_base.specs.LinkCheck.{link_check}
use Rattle.status_base.specs.CheckState.{IsClearBelow}
use Rattle.status_base.specs.CheckAnswers.{IsChecked}

-- A result of `lstat` for each path.
abbrev pub Stats : Type 0
Stats = List ℕ → Result Metadata Fault

-- Which results `lstat` may return for a path.
abbrev pub MayStat : Type 1
MayStat = List ℕ → Result Metadata Fault → Type 0

-- Any result may be returned.
abbrev pub AnyAnswer : MayStat
AnyAnswer path answer = ⊤

-- Each result is one that may be returned.
abbrev pub AreAllowed : MayStat → Stats → Type 0
AreAllowed may lstat = (path : List ℕ) → may path (lstat path)

-- By results that may be returned, no directory of fewer than n bytes above a path is a link or has a fault.
pub record IsOpenBelow (may : MayStat) (path : List ℕ) (n : ℕ) : Type 0 where
  pub lstat : Stats
  pub allowed : AreAllowed may lstat
  pub clear : IsClearBelow lstat path n

-- By results that may be returned, no proper directory prefix of a path is a link or has a fault.
abbrev pub IsOpen : MayStat → List ℕ → Type 0
IsOpen may path = IsOpenBelow may path (length path)

-- The check of a path is the specified one for results that `lstat` may return, or memory ran out.
pub record IsCheckSeen {A : Type 0} (may : MayStat) (path : List ℕ) (result : Result A StackError) : Type 0 where
  pub lstat : Stats
  pub allowed : AreAllowed may lstat
  pub checked : IsChecked (link_check lstat path) result
