-- Modes, and how an entry's mode changes to a node's.
use Rattle.std.specs.Prelude.{ℕ, ◌==◌, Bool, true, false, not, ◌&&◌, Option, Some, None, if◌then◌else◌}
use Rattle.status_index.specs.declared.mode.Mode.{Mode}
use Rattle.status_index.specs.declared.mode.Mode.TheVariants as modes
use Rattle.status_index.specs.declared.mode.EntryKind.{EntryKind}
use Rattle.status_index.specs.declared.mode.EntryKind.TheVariants as entry_kinds
use Rattle.status_index.specs.declared.mode.Change.{Change}
use Rattle.status_index.specs.declared.mode.Change.TheVariants.{TypeChange, ExecutableBit}
use Rattle.status_index.specs.declared.stat.Metadata.{Metadata}
use Rattle.status_index.specs.declared.stat.NodeKind.{NodeKind}
use Rattle.status_index.specs.declared.stat.NodeKind.TheVariants as kinds

-- Modes are octal 040000, 100644, 100755, 120000 and, for submodules, 160000.
abbrev pub mode_bits : Mode → ℕ
mode_bits modes.Dir = 0x4000
mode_bits modes.File = 0x81a4
mode_bits modes.FileExecutable = 0x81ed
mode_bits modes.Symlink = 0xa000
mode_bits modes.Commit = 0xe000

-- The mode that has these bits, if one has.
abbrev pub mode_from_bits : ℕ → Option Mode
mode_from_bits bits =
    if bits == mode_bits modes.Dir then Some modes.Dir
    else (if bits == mode_bits modes.File then Some modes.File
    else (if bits == mode_bits modes.FileExecutable then Some modes.FileExecutable
    else (if bits == mode_bits modes.Symlink then Some modes.Symlink
    else (if bits == mode_bits modes.Commit then Some modes.Commit
    else None))))

-- Whether a mode is a submodule's.
abbrev pub is_submodule : Mode → Bool
is_submodule modes.Commit = true
is_submodule modes.Dir = false
is_submodule modes.File = false
is_submodule modes.FileExecutable = false
is_submodule modes.Symlink = false

-- The kind of an entry in a tree object.
abbrev pub entry_kind_of : Mode → Option EntryKind
entry_kind_of modes.Dir = Some entry_kinds.Tree
entry_kind_of modes.File = Some entry_kinds.Blob
entry_kind_of modes.FileExecutable = Some entry_kinds.BlobExecutable
entry_kind_of modes.Symlink = Some entry_kinds.Link
entry_kind_of modes.Commit = Some entry_kinds.Commit

-- The mode of a node. It depends on whether executability counts, the node's kind, and whether it is executable.
abbrev pub new_mode : Bool → NodeKind → Bool → Mode
new_mode executable_bit kinds.Directory executable = modes.Commit
new_mode executable_bit kinds.Link executable = modes.Symlink
new_mode executable_bit kinds.File executable = if executable && executable_bit then modes.FileExecutable else modes.File
new_mode executable_bit kinds.Other executable = modes.File

-- `symlink` is whether the file system has symbolic links, `executable_bit` whether executability counts.
module _ (symlink executable_bit : Bool) where
  -- A change to the node's type.
  abbrev pub other_type : Metadata → Option Change
  other_type n = Some (TypeChange (new_mode executable_bit n.kind n.executable))

  -- A change of executability, if it differs (true) and counts.
  abbrev pub other_executable : Bool → Option Change
  other_executable true = if executable_bit then Some ExecutableBit else None
  other_executable false = None

  -- The change by cases: a file's entry, then a link's, a submodule's and a directory's. All other pairs differ in type.
  abbrev pub mode_change_at : Metadata → Mode → NodeKind → Option Change
  mode_change_at n modes.File kinds.File = other_executable n.executable
  mode_change_at n modes.FileExecutable kinds.File = other_executable (not n.executable)
  mode_change_at n modes.Symlink kinds.Link = None
  mode_change_at n modes.Symlink kinds.File = if symlink then other_type n else None
  mode_change_at n modes.Commit kinds.Directory = None
  mode_change_at n modes.Dir kinds.Directory = None
  mode_change_at n _ _ = other_type n

  -- A mode changes to a node's by type, or by executability if that counts; without symbolic links a file fits a link.
  abbrev pub mode_change : Mode → Metadata → Option Change
  mode_change mode n = mode_change_at n mode n.kind
