-- The specified outcome of a conversion.
use Rattle.std.specs.Prelude.{◌≡◌, Option, Result, Ok, Err, ◌⊎◌}
use Rattle.status_index.specs.Content.{Content}
use Rattle.status_index.specs.Given.{MayGive}
use Rattle.status_index.specs.declared.fault.Fault.{Fault}
use Rattle.status_index.specs.declared.fault.Fault.TheVariants.{Memory}
use Rattle.status_base.specs.declared.worktree.filter.ToGitOutcome.{ToGitOutcome}
use Rattle.status_base.specs.declared.worktree.filter.ToGitOutcome.TheVariants.{Unchanged, Buffer}
use Rattle.status_base.specs.Conversions.{Conversion, refused, same, other}

-- The outcome is as specified, for a file that had this left to read: the file unread, the other bytes, the fault, or out of
-- memory.
abbrev pub IsConverted : {F : Type 0} → (F → Option Content) → Conversion → Option Content → Result (ToGitOutcome F) Fault → Type 0
IsConverted left same was (Ok (Unchanged file)) = left file ≡ was
IsConverted left (other bytes) was (Ok (Buffer buffer)) = buffer.now ≡ bytes
IsConverted left (refused f) was (Err e) = (e ≡ f) ⊎ (e ≡ Memory)
IsConverted left specified was (Err e) = e ≡ Memory
IsConverted left specified was (Ok _) = ⊥

-- The outcome is the conversion of a content that the file may give, or memory ran out. A file that is returned unread may have
-- only contents that are stored unchanged.
abbrev pub IsConversionSeen : {F : Type 0} → (F → MayGive) → (Content → Conversion) → MayGive → Result (ToGitOutcome F) Fault → Type 0
IsConversionSeen gives conversion may (Ok (Unchanged file)) = (content : Content) → gives file content → may content × (conversion content ≡ same)
IsConversionSeen gives conversion may (Ok (Buffer buffer)) = (content : Content) × may content × (conversion content ≡ other buffer.now)
IsConversionSeen gives conversion may (Err e) = (e ≡ Memory) ⊎ ((content : Content) × may content × (conversion content ≡ refused e))
