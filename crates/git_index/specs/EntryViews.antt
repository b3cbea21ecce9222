-- A header and an entry of the code, as the file has them, and the entry's parts.
use Rattle.std.specs.Prelude.{ℕ, List}
use Rattle.git_index.specs.declared.entry.RawEntry.{RawEntry as Read}
use Rattle.git_index.specs.declared.entry.StatedFlags.{StatedFlags}
use Rattle.git_index.specs.declared.entry.Name.{Name}
use Rattle.git_index.specs.declared.read.Header.{Header}
use Rattle.git_index.specs.RawEntry.{RawEntry}
use Rattle.git_index.specs.Reading.{signature}

-- The signature, the version, and the number of entries.
abbrev pub header_view : Header → ℕ × (ℕ × ℕ)
header_view h = (signature, (h.version, h.count))

abbrev pub raw_entry : Read → RawEntry
raw_entry e = record { stat = e.stat; mode = e.mode; id = e.id; flags = e.flags.0; stated = e.stated; strip = e.strip; name = e.name.now }

-- The flags, the length that they state, and how many bytes they take.
abbrev pub stated_view : StatedFlags → ℕ × ℕ × ℕ
stated_view x = (x.flags, x.path_len, x.size)

-- The bytes to strip, and a name.
abbrev pub name_view : Name → ℕ × List ℕ
name_view x = (x.strip, x.name.now)
