-- The statements of a commit's and of a tree's content.
use Rattle.std.specs.Prelude.{◌≡◌, ◌≤◌, ◌<◌, ℕ, ◌+◌, ◌-◌, ◌*◌, List, [], ◌∷◌, ◌++◌, length, codes, Ok, All}
use Rattle.hex.specs.Hex.{decode_of}
use Rattle.status_index.specs.declared.id.HashKind.{HashKind}
use Rattle.status_index.specs.declared.id.HashKind.TheVariants.{Sha1, Sha256}
use Rattle.status_index.specs.declared.id.ObjectId.{ObjectId}
use Rattle.status_index.specs.BlobId.{id_bytes, id_kind}
use Rattle.git_objects.specs.declared.tree.TreeItem.{TreeItem}
use Rattle.git_objects.specs.Splits.{Lacks}

-- A commit names this tree: its first line is `tree `, and the id in hexadecimal digits.
pub record NamesTree (hash : HashKind) (commit : List ℕ) (id : ObjectId) : Type 0 where
  pub digits : List ℕ
  pub rest : List ℕ
  pub line : commit ≡ codes "tree " ++ digits ++ 10 ∷ rest
  pub decoded : decode_of digits ≡ Ok (id_bytes id)
  pub kind : id_kind id ≡ hash

-- An octal digit, as a byte.
abbrev pub IsOctal : ℕ → Type 0
IsOctal d = (48 ≤ d) × (d < 56)

-- The number of these octal digits after those of another number.
abbrev pub octal_after : ℕ → List ℕ → ℕ
octal_after n [] = n
octal_after n (d ∷ ds) = octal_after (n * 8 + (d - 48)) ds

-- The number of bytes of an id.
abbrev pub id_len : HashKind → ℕ
id_len Sha1 = 20
id_len Sha256 = 32

-- A tree begins with this item: its mode in octal digits, a space, its name, a zero byte, and the bytes of its id, which are
-- as many as ids of this kind have.
pub record BeginsWith (hash : HashKind) (tree : List ℕ) (item : TreeItem) (rest : List ℕ) : Type 0 where
  pub digits : List ℕ
  pub bytes : tree ≡ digits ++ 32 ∷ (item.name.now ++ 0 ∷ (id_bytes item.id ++ rest))
  pub octal : All IsOctal digits
  pub mode : octal_after 0 digits ≡ item.mode
  pub name : Lacks 0 item.name.now
  pub kind : id_kind item.id ≡ hash
  pub id_len : length (id_bytes item.id) ≡ id_len hash
