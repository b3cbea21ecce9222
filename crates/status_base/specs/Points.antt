-- The points at which a fault is planted, and a tree after that.
use Rattle.std.specs.Prelude.{◌≡◌, ℕ, List, Some, Result, Ok, Err}
use Rattle.std.specs.FinMap as map
use Rattle.status_index.specs.declared.fault.Fault.{Fault}
use Rattle.status_base.specs.MemoryTree.{Planted, Tree, planted_at}
use Rattle.status_base.specs.declared.worktree.planted.Point.{Point}
use Rattle.status_base.specs.declared.worktree.planted.Point.TheVariants.{Lstat, Open, ReadLink, Read}

-- Planted faults with one more, which replaces the one at its point.
abbrev pub with_fault : Planted → Point → Fault → Planted
with_fault planted Lstat fault = record planted { lstat = Some fault }
with_fault planted Open fault = record planted { opening = Some fault }
with_fault planted ReadLink fault = record planted { read_link = Some fault }
with_fault planted (Read count) fault = record planted { reads = map.insert planted.reads count fault }

-- A worktree in memory has nodes by path, and faults planted at calls of a path, which come first. Here a fault is planted at a
-- point of a path. After an error the tree is unchanged.
abbrev pub IsPlanted : {A E : Type 0} → Tree → List ℕ → Point → Fault → Result A E → Tree → Type 0
IsPlanted old path point fault (Ok _) new =
    new ≡ record old { planted = map.insert old.planted path (with_fault (planted_at old path) point fault) }
IsPlanted old path point fault (Err _) new = new ≡ old
