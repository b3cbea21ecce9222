-- The bits of an entry's flags.
use Rattle.std.specs.Prelude.{ℕ, ◌*◌, ◌/◌, ◌%◌, ◌==◌, Bool, not}
use Rattle.std.specs.Int.RustNames.{bit_and}

-- A stage is in the bits 0x3000 of an entry's flags.
abbrev pub stage_of_bits : ℕ → ℕ
stage_of_bits bits = bits / 0x1000 % 4

-- The flags of a stage: its two low bits, and no other flag.
abbrev pub bits_of_stage : ℕ → ℕ
bits_of_stage stage = stage % 4 * 0x1000

-- Whether one of these flags is set.
abbrev pub has_bits : ℕ → ℕ → Bool
has_bits bits flags = not (bit_and bits flags == 0)
