-- The state of a link check.
use Rattle.std.specs.Prelude.{◌≡◌, ◌<◌, ℕ, IsTrue, List, length, take, None, Result, slice_index}
use Rattle.status_index.specs.declared.fault.Fault.{Fault}
use Rattle.status_index.specs.declared.stat.Metadata.{Metadata}
use Rattle.status_base.specs.Paths.{is_slash}
use Rattle.status_base.specs.LinkCheck.{barrier_of}

-- A check returns what a new one would if what it found open still is; the lenient one accepts missing directories. Its state is
-- the worktree's root, the path whose proper directory prefixes were found open, and how often `lstat` was called.
pub record CheckState : Type 0 where
  pub root : List ℕ
  pub path : List ℕ
  pub looks : ℕ

-- No front of a path that has fewer than n bytes, and that a slash follows, is a link or has a fault.
abbrev pub IsClearBelow : (List ℕ → Result Metadata Fault) → List ℕ → ℕ → Type 0
IsClearBelow lstat path n = (k : ℕ) → k < n → IsTrue (is_slash (slice_index path k)) → barrier_of (lstat (take k path)) ≡ None

-- No proper directory prefix of a path is a link or has a fault.
abbrev pub IsClear : (List ℕ → Result Metadata Fault) → List ℕ → Type 0
IsClear lstat path = IsClearBelow lstat path (length path)
