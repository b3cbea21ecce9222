-- The bytes that are stored of a file, by its attributes.
use Rattle.std.specs.Prelude.{◌≡◌, ◌↔◌, not, ◌&&◌, [], ◌∷◌, ℕ, ◌||◌, Bool, true, false, List, filter, Option, Some, None, if◌then◌else◌}
use Rattle.std.specs.List.{list_any}
use Rattle.status_base.specs.Conversions.{Conversion, other, refused, same}
use Rattle.status_index.specs.BlobId.{blob_id, same_id}
use Rattle.status_index.specs.Content.{Content}
use Rattle.status_index.specs.Entries.{IndexEntry}
use Rattle.status_index.specs.States.{index_of}
use Rattle.status_index.specs.Stretch.{is_at}
use Rattle.status_index.specs.declared.fault.Fault.{Fault}
use Rattle.status_index.specs.declared.id.HashKind.{HashKind}
use Rattle.git_attributes.specs.declared.clean.CleanFilter.{CleanFilter}
use Rattle.git_attributes.specs.declared.normalization.Normalization.{Normalization}
use Rattle.git_attributes.specs.declared.normalization.Normalization.TheVariants.{Off, On, Auto}
use Rattle.git_attributes.specs.declared.conversion.Steps.{Steps}
use Rattle.git_attributes.specs.Conversions.{is_empty, steps_of}
use Rattle.git_attributes.specs.Files.{states_of}
use Rattle.git_attributes.specs.Ident.{without_ids}
use Rattle.git_attributes.specs.Lfs.{stored_by_lfs}
use Rattle.git_attributes.specs.Text.{has_crlf, is_binary, normalized}
use Rattle.git_attributes.specs.Views.{attributes_view}

-- An entry of the path has the id of these bytes.
abbrev pub has_stored : HashKind → List IndexEntry → List ℕ → List ℕ → Bool
has_stored kind index bytes path = list_any (λ e. same_id e.id (blob_id kind bytes)) (filter (is_at path) index)

-- A binary file isn't converted, and one whose bytes are stored already isn't, if git has to decide by the bytes.
abbrev pub is_kept : Normalization → Bool → List ℕ → Bool
is_kept Off is_stored bytes = true
is_kept On is_stored bytes = false
is_kept Auto is_stored bytes = is_binary bytes || is_stored

-- The bytes that are stored, as far as that concerns line ends.
abbrev pub stored : Normalization → Bool → List ℕ → List ℕ
stored how is_stored bytes = if is_kept how is_stored bytes then bytes else normalized bytes

abbrev pub if_ident : Bool → List ℕ → List ℕ
if_ident ident bytes = if ident then without_ids bytes else bytes

-- The bytes that are stored of those that a filter returns: with the line ends of the index's file if the bytes are stored so.
abbrev pub finished : Steps → (List ℕ → Bool) → List ℕ → List ℕ
finished steps is_stored bytes = if_ident steps.ident (stored steps.line_ends (is_stored (if_ident steps.ident bytes)) bytes)

-- The bytes that git-lfs returns, or the file's.
abbrev pub filtered : Bool → List ℕ → List ℕ
filtered lfs bytes = if lfs then stored_by_lfs bytes else bytes

abbrev pub read_as : List ℕ → Option Fault → Conversion
read_as bytes None = other bytes
read_as bytes (Some fault) = refused fault

-- A file's conversion.
abbrev pub conversion_by : Steps → (List ℕ → Bool) → Content → Conversion
conversion_by steps is_stored content =
    if is_empty steps then same else read_as (finished steps is_stored (filtered steps.lfs content.bytes)) content.fault

-- A file's conversion, by the attributes of its path and the configuration.
abbrev pub cleaned : CleanFilter → Content → List ℕ → Conversion
cleaned filter content path =
    conversion_by (steps_of (states_of (attributes_view filter.attributes.now) path) filter.configured)
    (λ bytes. has_stored filter.kind (index_of filter.index.now) bytes path) content

-- ---- git's own rule for `text=auto`

-- Git doesn't convert a binary file, and no file if the index's one is a text with CRLF.
abbrev pub stored_by_git : List ℕ → List ℕ → List ℕ
stored_by_git blob bytes = if is_binary bytes || (not (is_binary blob) && has_crlf blob) then bytes else normalized bytes

-- A path has one entry, of this blob.
pub record HasBlob (kind : HashKind) (index : List IndexEntry) (path blob : List ℕ) : Type 0 where
  pub entry : IndexEntry
  pub one : filter (is_at path) index ≡ entry ∷ []
  pub id : entry.id ≡ blob_id kind blob

-- If contents with equal ids are equal, the bytes that are stored of a file are its entry's blob exactly if they are by git's rule.
abbrev pub AutoLaw : HashKind → List IndexEntry → List ℕ → List ℕ → List ℕ → Type 0
AutoLaw kind index path blob bytes =
    HasBlob kind index path blob → (blob_id kind bytes ≡ blob_id kind blob → bytes ≡ blob) → (stored Auto (has_stored kind index bytes path) bytes ≡ blob) ↔ (stored_by_git blob bytes ≡ blob)
