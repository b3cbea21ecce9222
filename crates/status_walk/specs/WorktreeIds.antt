-- The ids of the nodes that a walk found.
use Rattle.std.specs.Prelude.{◌≡◌, ◌⊎◌, ℕ, Bool, true, false, IsTrue, List, Option, Some, None, Result, Ok, Err, if◌then◌else◌}
use Rattle.status_index.specs.BlobId.{blob_id, null_id}
use Rattle.status_index.specs.Content.{Content}
use Rattle.status_index.specs.StreamId.{first_bytes_id}
use Rattle.status_index.specs.declared.fault.Fault.{Fault}
use Rattle.status_index.specs.declared.fault.Fault.TheVariants.{NotFound, PermissionDenied, Interrupted, Memory}
use Rattle.status_index.specs.declared.id.HashKind.{HashKind}
use Rattle.status_index.specs.declared.id.ObjectId.{ObjectId}
use Rattle.status_index.specs.declared.stat.Metadata.{Metadata}
use Rattle.status_base.specs.Conversions.{Conversion, refused, same, other}
use Rattle.status_walk.specs.declared.walk.Kind.{Kind}
use Rattle.status_walk.specs.declared.walk.Kind.TheVariants.{Untrackable, File, Symlink, Directory, Repository}
use Rattle.status_walk.specs.declared.id.IdError.{IdError}
use Rattle.status_walk.specs.declared.id.IdError.TheVariants.{Open, Hash, ReadLink, Convert}

-- A file that can't be opened for one of these faults has the null id.
abbrev pub is_passed_over : Fault → Bool
is_passed_over NotFound = true
is_passed_over PermissionDenied = true
is_passed_over Interrupted = true
is_passed_over _ = false

abbrev pub hashed : Result ObjectId Fault → Result ObjectId IdError
hashed (Ok id) = Ok id
hashed (Err f) = Err (Hash f)

module _ (kind : HashKind) where
  -- The id of a file that the filter keeps unchanged: of as many bytes as its length by `lstat`.
  abbrev pub stored_id : Content → Result Metadata Fault → Result ObjectId IdError
  stored_id content (Ok node) = hashed (first_bytes_id kind content node.len)
  stored_id content (Err f) = Err (Open f)

  -- The id of a file after the filter.
  abbrev pub converted_id : Result Metadata Fault → Content → Conversion → Result ObjectId IdError
  converted_id node content same = stored_id content node
  converted_id node content (other bytes) = Ok (blob_id kind bytes)
  converted_id node content (refused f) = Err (Convert f)

  abbrev pub file_id : Result Metadata Fault → (Content → List ℕ → Conversion) → List ℕ → Result Content Fault → Result ObjectId IdError
  file_id node conversion path (Ok content) = converted_id node content (conversion content path)
  file_id node conversion path (Err f) = if is_passed_over f then Ok (null_id kind) else Err (Open f)

  abbrev pub link_id : Result (List ℕ) Fault → Result ObjectId IdError
  link_id (Ok target) = Ok (blob_id kind target)
  link_id (Err f) = Err (ReadLink f)

  module _ (lstat : List ℕ → Result Metadata Fault) (opened : List ℕ → Result Content Fault) (target : List ℕ → Result (List ℕ) Fault) (conversion : Content → List ℕ → Conversion) (path : List ℕ) where
    -- The id of a link's target or a filtered file, null for other nodes and files that are gone, forbidden or interrupted.
    abbrev pub worktree_id : Option Kind → Result ObjectId IdError
    worktree_id (Some File) = file_id (lstat path) conversion path (opened path)
    worktree_id (Some Symlink) = link_id (target path)
    worktree_id (Some Untrackable) = Ok (null_id kind)
    worktree_id (Some Directory) = Ok (null_id kind)
    worktree_id (Some Repository) = Ok (null_id kind)
    worktree_id None = Ok (null_id kind)

-- The fault in an error.
abbrev pub fault_of : IdError → Fault
fault_of (Open f) = f
fault_of (Hash f) = f
fault_of (ReadLink f) = f
fault_of (Convert f) = f

-- The specified id or error, or out of memory.
abbrev pub IsId : Result ObjectId IdError → Result ObjectId IdError → Type 0
IsId specified (Ok id) = specified ≡ Ok id
IsId specified (Err e) = (specified ≡ Err e) ⊎ (fault_of e ≡ Memory)

-- The specified id of an open file, by the content that it has left, if the worktree is modelled.
abbrev pub IsIdOfFile : Bool → Option Content → (Content → Result ObjectId IdError) → Result ObjectId IdError → Type 0
IsIdOfFile modelled left specified result = (content : Content) → left ≡ Some content → IsTrue modelled → IsId (specified content) result
