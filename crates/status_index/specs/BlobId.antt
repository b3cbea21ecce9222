-- The id of a blob, by FIPS 180-4 and git's object format.
use Rattle.std.specs.Prelude.{ℕ, ◌==◌, Bool, false, List, [], ◌∷◌, ◌++◌, length, replicate, codes, decimal, Option, Some, None, if◌then◌else◌}
use Rattle.std.specs.Str.{bytes_eq}
use Rattle.sha1.specs.Sha1.{sha1}
use Rattle.sha2.specs.Sha256.{sha256}
use Rattle.status_index.specs.declared.id.HashKind.{HashKind}
use Rattle.status_index.specs.declared.id.HashKind.TheVariants.{Sha1, Sha256}
use Rattle.status_index.specs.declared.id.ObjectId.{ObjectId}
use Rattle.status_index.specs.declared.id.ObjectId.TheVariants.{Sha1 as Sha1Id, Sha256 as Sha256Id}

-- Ids have 20 bytes (SHA-1) or 32 (SHA-256); the null id is zeros.
abbrev pub id_kind : ObjectId → HashKind
id_kind (Sha1Id _) = Sha1
id_kind (Sha256Id _) = Sha256

abbrev pub id_bytes : ObjectId → List ℕ
id_bytes (Sha1Id digest) = digest
id_bytes (Sha256Id digest) = digest

-- The id with these bytes: a SHA-1 id for 20 bytes, a SHA-256 id for 32, and otherwise none.
abbrev pub id_from_bytes : List ℕ → Option ObjectId
id_from_bytes bytes =
    if length bytes == 20 then Some (Sha1Id bytes)
    else (if length bytes == 32 then Some (Sha256Id bytes) else None)

abbrev pub null_id : HashKind → ObjectId
null_id Sha1 = Sha1Id (replicate 20 0)
null_id Sha256 = Sha256Id (replicate 32 0)

-- The header of a blob of n bytes: `blob `, n in decimal, and a zero byte.
abbrev pub blob_header : ℕ → List ℕ
blob_header n = codes "blob " ++ decimal n ++ 0 ∷ []

-- The id that is the digest of a message.
abbrev pub digest_id : HashKind → List ℕ → ObjectId
digest_id Sha1 message = Sha1Id (sha1 message)
digest_id Sha256 message = Sha256Id (sha256 message)

-- A blob's id is the digest of `blob `, its length in decimal, a zero byte and its bytes.
abbrev pub blob_id : HashKind → List ℕ → ObjectId
blob_id kind bytes = digest_id kind (blob_header (length bytes) ++ bytes)

-- Whether two ids are equal.
abbrev pub same_id : ObjectId → ObjectId → Bool
same_id (Sha1Id a) (Sha1Id b) = bytes_eq a b
same_id (Sha256Id a) (Sha256Id b) = bytes_eq a b
same_id (Sha1Id a) (Sha256Id b) = false
same_id (Sha256Id a) (Sha1Id b) = false

-- Whether an id is that of the empty blob, for its own kind of digest.
abbrev pub is_empty_blob : ObjectId → Bool
is_empty_blob id = same_id id (blob_id (id_kind id) [])
