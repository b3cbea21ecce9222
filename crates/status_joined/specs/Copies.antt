-- Copies of items.
use Rattle.std.specs.Prelude.{◌≡◌, Option, Some}
use Rattle.status_call.specs.declared.index_as_worktree.types.Change.{Change}
use Rattle.status_call.specs.declared.index_as_worktree.types.Change.TheVariants as changes
use Rattle.status_call.specs.declared.index_as_worktree.types.EntryStatus.{EntryStatus}
use Rattle.status_call.specs.declared.index_as_worktree.types.EntryStatus.TheVariants as statuses
use Rattle.status_call.specs.Visits.{visit}
use Rattle.status_joined.specs.Items.{Item, tracked}

-- t and u relate a value that a comparer or a submodule reports to its possible clones.
module _ {T U : Type 0} (t : T → T → Type 0) (u : U → U → Type 0) where
  -- None is copied as None, and a report as a clone of it.
  abbrev pub IsContentCopy : Option T → Option T → Type 0
  IsContentCopy (Some x) (Some y) = t x y
  IsContentCopy x y = y ≡ x

  -- A report is cloned, and everything besides is the same.
  abbrev pub IsChangeCopy : Change T U → Change T U → Type 0
  IsChangeCopy (changes.Modification executable content to_zero) (changes.Modification executable' content' to_zero') =
      (executable' ≡ executable) × IsContentCopy content content' × (to_zero' ≡ to_zero)
  IsChangeCopy (changes.SubmoduleModification x) (changes.SubmoduleModification y) = u x y
  IsChangeCopy x y = y ≡ x

  abbrev pub IsStatusCopy : EntryStatus T U → EntryStatus T U → Type 0
  IsStatusCopy (statuses.Change x) (statuses.Change y) = IsChangeCopy x y
  IsStatusCopy x y = y ≡ x

  -- A copy is equal to its original, except that it has a clone of the report.
  abbrev pub IsCopy : Item T U → Item T U → Type 0
  IsCopy (tracked v) (tracked w) = (w ≡ visit v.entries v.entry v.entry_index v.path w.status) × IsStatusCopy v.status w.status
  IsCopy x y = y ≡ x
