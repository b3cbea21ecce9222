-- Comparison by sizes, compared with comparison by ids.
use Rattle.std.specs.Prelude.{◌≡◌, ◌⊎◌, ℕ, ◌%◌, ◌^◌, Bool, true, false, List, [], length, Option, Some, None, Result, Ok, Err}
use Rattle.status_index.specs.BlobId.{blob_id}
use Rattle.status_index.specs.Entries.{IndexEntry}
use Rattle.status_index.specs.declared.id.HashKind.{HashKind}
use Rattle.status_compare.specs.declared.error.Error.{Error}
use Rattle.status_compare.specs.Comparers.{fast_answer, hash_answer}
use Rattle.status_compare.specs.Reading.{Reading, fails, streams, target}

-- Whether a result reports a change.
abbrev pub reports_change : {A : Type 0} → Result (Option A) Error → Bool
reports_change (Ok (Some _)) = true
reports_change (Ok None) = false
reports_change (Err _) = false

-- These two contents have the same id only if they are equal.
abbrev pub HasOwnId : HashKind → List ℕ → List ℕ → Type 0
HasOwnId kind a b = blob_id kind a ≡ blob_id kind b → a ≡ b

-- The size that an index stores for a content, or 0, by which git marks an entry that has to be compared.
abbrev pub IsKeptSize : ℕ → List ℕ → Type 0
IsKeptSize size staged = (size ≡ length staged % 2 ^ 32) ⊎ (size ≡ 0)

-- The reading of an unchanged file that delivers as many bytes as its length, or of a link with this target.
abbrev pub IsWholly : List ℕ → Reading → Type 0
IsWholly bytes (streams content size) = (content.bytes ≡ bytes) × (size ≡ Some (length bytes))
IsWholly bytes (target t) = t ≡ bytes
IsWholly bytes (fails e) = ⊥

-- Both comparisons report a change or neither, if lengths are true, entries keep their size or 0, and ids don't collide. The
-- entry has some staged content, and the file or link has these bytes. Ids don't collide if the staged content has another id
-- than these bytes and than the empty content, unless it equals them.
abbrev pub FastAgrees : IndexEntry → Type 0
FastAgrees entry =
    (kind : HashKind) (staged bytes : List ℕ) (reading : Reading) →
    entry.id ≡ blob_id kind staged →
    IsKeptSize entry.stat.size staged →
    IsWholly bytes reading →
    HasOwnId kind staged bytes →
    HasOwnId kind staged [] →
    reports_change (fast_answer entry (length bytes) reading) ≡ reports_change (hash_answer entry reading)
