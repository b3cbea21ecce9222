-- Directories that bar the way to a path: they are a link or have a fault.
use Rattle.std.specs.Prelude.{◌≡◌, ◌<◌, ◌+◌, ◌-◌, ℕ, IsTrue, List, length, take, Option, Some, None, Result, Ok, Err, slice_index}
use Rattle.bstr.specs.BStr.{bstr_bytes}
use Rattle.status_index.specs.declared.fault.Fault.{Fault}
use Rattle.status_index.specs.declared.stat.Metadata.{Metadata}
use Rattle.status_base.specs.declared.stack.barrier.Stop.{Stop}
use Rattle.status_base.specs.declared.stack.error.StackError.{StackError}
use Rattle.status_base.specs.declared.stack.error.StackError.TheVariants.{EmptyPath, NotNormal, ThroughLink, Memory}
use Rattle.status_base.specs.declared.stack.error.StackError.TheVariants as errors
use Rattle.status_base.specs.Paths.{is_slash, directories, directories_below}
use Rattle.status_base.specs.LinkCheck.{Barrier, accepted, decided, barrier_of}
use Rattle.status_base.specs.CheckState.{IsClear, IsClearBelow}
use Rattle.status_base.specs.CheckAnswers.{IsCheckError}
use Rattle.status_base.specs.Sights.{Stats, MayStat, AreAllowed}

-- A directory's barrier is returned, or out of memory. None is returned only if the directory doesn't bar the way.
abbrev pub IsBarrier : List ℕ → Option Barrier → Option StackError → Type 0
IsBarrier directory barrier None = barrier ≡ None
IsBarrier directory barrier (Some e) = IsCheckError (decided directory barrier accepted) e

-- It is so for a result that `lstat` may return.
pub record IsBarrierSeen (may : MayStat) (directory : List ℕ) (error : Option StackError) : Type 0 where
  pub answer : Result Metadata Fault
  pub allowed : may directory answer
  pub barrier : IsBarrier directory (barrier_of answer) error

-- The only errors of a directory are that it is a link and that it has a fault.
abbrev pub IsOfDirectory : List ℕ → StackError → Type 0
IsOfDirectory directory (ThroughLink prefix) = bstr_bytes prefix ≡ directory
IsOfDirectory directory (errors.Fault f) = Unit {0}
IsOfDirectory directory EmptyPath = ⊥
IsOfDirectory directory (NotNormal component) = ⊥
IsOfDirectory directory Memory = ⊥

-- No shorter directory bars the way, and the error is that of the directory at which the way is barred.
pub record IsBarredAt (lstat : List ℕ → Result Metadata Fault) (path : List ℕ) (stop : Stop) : Type 0 where
  pub open_below : IsClearBelow lstat path stop.at
  pub barred : IsCheckError (decided (take stop.at path) (barrier_of (lstat (take stop.at path))) accepted) stop.error

-- The directory is above the path, and the error is one of that directory.
pub record IsStopAbove (path : List ℕ) (stop : Stop) : Type 0 where
  pub within : stop.at < length path
  pub slash : IsTrue (is_slash (slice_index path stop.at))
  pub of_directory : IsOfDirectory (take stop.at path) stop.error

-- The directories above a path, up to and including the one that bars the way.
abbrev pub on_the_way : List ℕ → Option Stop → List (List ℕ)
on_the_way path None = directories path
on_the_way path (Some stop) = directories_below path (stop.at + 1)

-- How many of these have at least `from` bytes.
abbrev pub looked_at : List ℕ → ℕ → Option Stop → ℕ
looked_at path from stop = length (on_the_way path stop) - length (directories_below path from)

abbrev pub IsWay : (List ℕ → Result Metadata Fault) → List ℕ → Option Stop → Type 0
IsWay lstat path None = IsClear lstat path
IsWay lstat path (Some stop) = IsBarredAt lstat path stop

-- By results that `lstat` may return, this directory bars the way to a path, or none does.
pub record IsWaySeen (may : MayStat) (path : List ℕ) (stop : Option Stop) : Type 0 where
  pub lstat : Stats
  pub allowed : AreAllowed may lstat
  pub way : IsWay lstat path stop

-- A fact that has to hold if the directories above a path were checked.
abbrev pub OnReached : {A : Type 0} → Result A StackError → Type 0 → Type 0
OnReached (Ok _) P = P
OnReached (Err (errors.Fault _)) P = P
OnReached (Err _) P = Unit {0}
