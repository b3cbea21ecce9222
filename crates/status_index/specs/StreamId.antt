-- The id of the first bytes of a stream, and what is left after them.
use Rattle.std.specs.Prelude.{◌≡◌, ℕ, nat_lt, length, take, drop, Option, Some, None, Result, Ok, Err, IfSome, OnOk, if◌then◌else◌}
use Rattle.status_index.specs.declared.fault.Fault.{Fault}
use Rattle.status_index.specs.declared.fault.Fault.TheVariants.{UnexpectedEnd}
use Rattle.status_index.specs.declared.id.HashKind.{HashKind}
use Rattle.status_index.specs.declared.id.ObjectId.{ObjectId}
use Rattle.status_index.specs.Answer.{IsAnswer}
use Rattle.status_index.specs.BlobId.{blob_id}
use Rattle.status_index.specs.Content.{Content, CountsMore}

-- The error of a reader with too few bytes: the fault after them, or `UnexpectedEnd`.
abbrev pub early_end : Option Fault → Fault
early_end None = UnexpectedEnd
early_end (Some f) = f

-- The id of the next n bytes, which alone are read, or the fault before their end, or `UnexpectedEnd`.
-- It is the id of the blob of these bytes.
abbrev pub first_bytes_id : HashKind → Content → ℕ → Result ObjectId Fault
first_bytes_id kind l n =
    if nat_lt (length l.bytes) n then Err (early_end l.fault) else Ok (blob_id kind (take n l.bytes))

-- The content without its first n bytes.
abbrev pub left_after : Content → ℕ → Content
left_after l n = record { bytes = drop n l.bytes; fault = l.fault }

-- Hashing the next n bytes of a reader returns the specified id. If it succeeds, exactly these bytes are read and counted.
-- The parameters are what the reader has left and has counted, before and after.
pub record IsStreamHash (kind : HashKind) (n : ℕ) (left_old left_new : Option Content) (taken_old taken_new : Option ℕ) (result : Result ObjectId Fault) : Type 0 where
  pub id : IfSome left_old (λ l. IsAnswer (first_bytes_id kind l n) result)
  pub taken : OnOk result (IfSome left_old (λ l. left_new ≡ Some (left_after l n)))
  pub counted : OnOk result (CountsMore taken_old taken_new n)
