-- A conversion that fails.
use Rattle.std.proofs.Common.{◌≡◌, ◌⊎◌, ℕ, List, false, inl, inr, sym, ap, Result, Ok, Err}
use Rattle.status_index.specs.Content.{Content}
use Rattle.status_index.specs.Given.{MayGive}
use Rattle.status_index.specs.declared.fault.Fault.{Fault}
use Rattle.status_index.specs.declared.fault.Fault.TheVariants.{Memory}
use Rattle.status_base.specs.Conversions.{Conversion, refused}
use Rattle.status_base.specs.Openings.{MayOpen}
use Rattle.status_compare.specs.Errors.{error_of}
use Rattle.status_compare.specs.Reading.{converted_reading, fails}
use Rattle.status_compare.specs.Seen.{IsFileReading}

-- The fault is that of a content that the file may give, or memory ran out.
pub refused_reading : (opens : MayOpen) (links : Result (List ℕ) Fault → Type 0) (gives : MayGive) (conversion : Content → Conversion) (len : ℕ) (f : Fault)
    → opens (Err Memory) → links (Err Memory) → ((content : Content) → gives content → opens (Ok content)) → (f ≡ Memory) ⊎ ((content : Content) × gives content × (conversion content ≡ refused f))
    → IsFileReading opens links false conversion len (fails (error_of f))
refused_reading opens links gives conversion len f opening linking opened (inl none) =
    record { opened = Err Memory; may_open = opening; linked = Err Memory; may_link = linking; is = ap (λ (x : Fault). fails (error_of x)) none }
refused_reading opens links gives conversion len f opening linking opened (inr h) =
    record { opened = Ok h.0; may_open = opened h.0 h.1; linked = Err Memory; may_link = linking; is = ap (converted_reading len h.0) (sym h.2) }
