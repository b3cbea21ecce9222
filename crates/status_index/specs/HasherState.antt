-- The message that a hasher holds.
use Rattle.std.specs.Prelude.{ℕ, List}
use Rattle.sha1.specs.Sha1.{Holds}
use Rattle.sha2.specs.Hashers.{Holds256}
use Rattle.status_index.specs.declared.id.HashKind.{HashKind}
use Rattle.status_index.specs.declared.id.HashKind.TheVariants.{Sha1, Sha256}
use Rattle.status_index.specs.declared.hash.Hasher.{Hasher}
use Rattle.status_index.specs.declared.hash.Hasher.TheVariants.{Sha1 as Sha1Hasher, Sha256 as Sha256Hasher}

-- The hasher is of this kind, and was updated with exactly these bytes.
abbrev pub HoldsMessage : Hasher → HashKind → List ℕ → Type 0
HoldsMessage (Sha1Hasher h) Sha1 m = Holds h m
HoldsMessage (Sha256Hasher h) Sha256 m = Holds256 h m
HoldsMessage (Sha1Hasher h) Sha256 m = ⊥
HoldsMessage (Sha256Hasher h) Sha1 m = ⊥
