-- The id of an object, by git's object format.
use Rattle.std.specs.Prelude.{◌≡◌, ℕ, List, [], ◌∷◌, ◌++◌, length, codes, decimal}
use Rattle.status_index.specs.declared.id.HashKind.{HashKind}
use Rattle.status_index.specs.declared.id.ObjectId.{ObjectId}
use Rattle.status_index.specs.BlobId.{digest_id, id_kind}
use Rattle.git_objects.specs.declared.object.Object.{Object}
use Rattle.git_objects.specs.declared.object.ObjectKind.{ObjectKind}
use Rattle.git_objects.specs.declared.object.ObjectKind.TheVariants.{Commit, Tree, Blob, Tag}

-- The name of a kind, as an object's header has it.
abbrev pub kind_name : ObjectKind → List ℕ
kind_name Commit = codes "commit"
kind_name Tree = codes "tree"
kind_name Blob = codes "blob"
kind_name Tag = codes "tag"

-- The bytes that are hashed: the kind's name, a space, the content's length in decimal, a zero byte, and the content.
abbrev pub object_bytes : ObjectKind → List ℕ → List ℕ
object_bytes kind content = kind_name kind ++ codes " " ++ decimal (length content) ++ 0 ∷ [] ++ content

-- The id of the object of this kind and content.
abbrev pub id_of_object : HashKind → ObjectKind → List ℕ → ObjectId
id_of_object hash kind content = digest_id hash (object_bytes kind content)

-- The object has this id.
abbrev pub HasId : ObjectId → Object → Type 0
HasId id o = id_of_object (id_kind id) o.kind o.bytes.items ≡ id
