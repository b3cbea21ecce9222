-- The filter returns the specified conversion.
use Rattle.std.proofs.Common.{◌≡◌, Bool, false, List, ℕ, Bor, inr, refl, sym, subst, if◌then◌else◌}
use Rattle.std.specs.Prelude.{Option, None, Result, Ok, Err}
use Rattle.std.specs.Result.{IsErrAnd}
use Rattle.status_base.specs.Conversions.{Conversion, other, refused, same}
use Rattle.status_base.specs.Outcomes.{IsConverted}
use Rattle.status_base.specs.declared.worktree.filter.ToGitOutcome.{ToGitOutcome}
use Rattle.status_base.specs.declared.worktree.filter.ToGitOutcome.TheVariants.{Buffer}
use Rattle.status_index.specs.Content.{Content}
use Rattle.status_index.specs.declared.fault.Fault.{Fault}
use Rattle.status_index.specs.declared.fault.Fault.TheVariants.{Memory}
use Rattle.git_attributes.specs.declared.conversion.Steps.{Steps}
use Rattle.git_attributes.specs.Clean.{conversion_by, filtered, finished, read_as}
use Rattle.git_attributes.specs.Conversions.{is_empty}

-- out of memory is allowed after each conversion
pub memory_converted : {F : Type 0} (left : F → Option Content) (c : Conversion) (was : Option Content) (r : Result (ToGitOutcome F) Fault) → IsErrAnd r (λ e. e ≡ Memory) → IsConverted left c was r
memory_converted left c was (Ok outcome) failed = absurd failed
memory_converted left (refused f) was (Err e) failed = inr failed
memory_converted left same was (Err e) failed = failed
memory_converted left (other bytes) was (Err e) failed = failed

made : (empty : Bool) (fault : Option Fault) (bytes : List ℕ) → empty ≡ false → fault ≡ None → (if empty then same else read_as bytes fault) ≡ other bytes
made empty fault bytes some ended = rw (some, ended) refl

-- the bytes that are stored of a content that is read to its end
pub stored_converted : {F : Type 0} (left : F → Option Content) (steps : Steps) (is_stored : List ℕ → Bool) (content : Content) (was : Option Content) (buffer : Bor (List ℕ))
    → is_empty steps ≡ false → content.fault ≡ None → buffer.now ≡ finished steps is_stored (filtered steps.lfs content.bytes) → IsConverted left (conversion_by steps is_stored content) was (Ok (Buffer buffer))
stored_converted left steps is_stored content was buffer some ended stored =
    subst (λ c. IsConverted left c was (Ok (Buffer buffer))) (sym (made (is_empty steps) content.fault (finished steps is_stored (filtered steps.lfs content.bytes)) some ended)) stored
