-- Proofs of laws: reading may always run out of memory.
use Rattle.std.specs.Prelude.{ℕ, List, Bool, true, false, Some, Result, Err, refl}
use Rattle.status_index.specs.Content.{Content}
use Rattle.status_index.specs.Given.{MayGive, no_bytes}
use Rattle.status_index.specs.declared.fault.Fault.{Fault}
use Rattle.status_index.specs.declared.fault.Fault.TheVariants.{Memory}
use Rattle.status_index.proofs.Gifts.{cut_at_once}
use Rattle.status_base.specs.Conversions.{Conversion}
use Rattle.status_base.specs.Openings.{MayOpen}
use Rattle.status_base.specs.declared.worktree.filter.ToGitOutcome.{ToGitOutcome}
use Rattle.status_base.specs.declared.worktree.filter.ToGitOutcome.TheVariants.{Unchanged, Buffer}
use Rattle.status_compare.specs.declared.error.Error.TheVariants as errors
use Rattle.status_compare.specs.Reading.{fails}
use Rattle.status_compare.specs.Seen.{IsFileReading}
use Rattle.status_compare.specs.Streams.{outcome_gives, whole}

-- A stream's file may run out of memory, and copying its buffer may.
pub outcome_may_fail : {F : Type 0} (gives : F → MayGive) → ((file : F) → gives file (no_bytes (Some Memory))) → (source : ToGitOutcome F) → outcome_gives gives source (no_bytes (Some Memory))
outcome_may_fail gives law (Unchanged file) = law file
outcome_may_fail gives law (Buffer buffer) = cut_at_once (whole buffer.now)

-- Opening the file may, and reading the link may.
pub file_may_fail : {opens : MayOpen} {links : Result (List ℕ) Fault → Type 0} {conversion : Content → Conversion} {len : ℕ} (is_link : Bool)
    → opens (Err Memory) → links (Err Memory) → IsFileReading opens links is_link conversion len (fails errors.Memory)
file_may_fail true opening linking = record { opened = Err Memory; may_open = opening; linked = Err Memory; may_link = linking; is = refl }
file_may_fail false opening linking = record { opened = Err Memory; may_open = opening; linked = Err Memory; may_link = linking; is = refl }
