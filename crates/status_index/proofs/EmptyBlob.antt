-- The digests of the empty blob, computed.
use Rattle.std.specs.Prelude.{◌≡◌, [], ◌∷◌, ◌++◌, refl}
use Rattle.std.specs.Fmt.{digits}
use Rattle.sha1.specs.Sha1 as S1
use Rattle.sha2.specs.Sha256 as S256
use Rattle.status_index.specs.BlobId.{blob_header}

pub empty_sha1 : S1.sha1 (blob_header 0 ++ []) ≡ 0xe6 ∷ 0x9d ∷ 0xe2 ∷ 0x9b ∷ 0xb2 ∷ 0xd1 ∷ 0xd6 ∷ 0x43 ∷ 0x4b ∷ 0x8b ∷ 0x29 ∷ 0xae ∷ 0x77 ∷ 0x5a ∷ 0xd8 ∷ 0xc2 ∷ 0xe4 ∷ 0x8c ∷ 0x53 ∷ 0x91 ∷ []
unfolding digits S1.first_words S1.schedule S1.rounds S1.compress S1.hash_after S1.digest_bytes S1.sha1
empty_sha1 = refl

pub empty_sha256 : S256.sha256 (blob_header 0 ++ []) ≡ 0x47 ∷ 0x3a ∷ 0x0f ∷ 0x4c ∷ 0x3b ∷ 0xe8 ∷ 0xa9 ∷ 0x36 ∷ 0x81 ∷ 0xa2 ∷ 0x67 ∷ 0xe3 ∷ 0xb1 ∷ 0xe9 ∷ 0xa7 ∷ 0xdc ∷ 0xda ∷ 0x11 ∷ 0x85 ∷ 0x43 ∷ 0x6f ∷ 0xe1 ∷ 0x41 ∷ 0xf7 ∷ 0x74 ∷ 0x91 ∷ 0x20 ∷ 0xa3 ∷ 0x03 ∷ 0x72 ∷ 0x18 ∷ 0x13 ∷ []
unfolding digits S256.first_words S256.schedule S256.rounds S256.compress S256.hash_after S256.digest_bytes S256.sha256
empty_sha256 = refl

pub ruleset empty_ids = (empty_sha1, empty_sha256)
