-- A run's comparer, which reads a whole node, returns None exactly if the node has the staged bytes.
use Rattle.std.proofs.Common.{◌≡◌, ◌∙◌, ◌↔◌, inl, inr, refl, sym, ap, ℕ, ◌<◌, Bool, true, false, not, List, [], length, Option, Some, None, Result, Ok, Err, option_map, if◌then◌else◌, arith}
use Rattle.std.proofs.Math.Seq.{take-length}
use Rattle.std.proofs.lemmas.Bool.{le-ltb, not-false}
use Rattle.std.proofs.lemmas.Slice.Eq.{bytes_eq-Decides}
use Rattle.status_index.specs.BlobId.{blob_id, id_kind, same_id, is_empty_blob}
use Rattle.status_index.specs.Content.{Content}
use Rattle.status_index.specs.Entries.{IndexEntry}
use Rattle.status_index.specs.StreamId.{first_bytes_id}
use Rattle.status_index.specs.declared.id.HashKind.{HashKind}
use Rattle.status_index.specs.declared.id.HashKind.TheVariants.{Sha1, Sha256}
use Rattle.status_index.specs.declared.id.ObjectId.{ObjectId}
use Rattle.status_index.specs.declared.id.ObjectId.TheVariants.{Sha1 as Sha1Id, Sha256 as Sha256Id}
use Rattle.status_compare.specs.declared.error.Error.{Error}
use Rattle.status_compare.specs.Comparers.{changed_id, hash_answer, fast_answer, size_decides, answer_without_id}
use Rattle.status_compare.specs.FastAgrees.{HasOwnId, IsKeptSize, IsWholly, reports_change}
use Rattle.status_compare.specs.Reading.{Reading, Readings, fails, streams, target}
use Rattle.status_compare.proofs.Agree.{agrees}
use Rattle.status_compare.specs.declared.compare.Comparer.{Comparer}
use Rattle.status_compare.specs.declared.compare.Comparer.TheVariants.{Hash, Fast}
use Rattle.status_world.specs.PlainWorld.{Plain}
use Rattle.status_world.specs.Sound.{IsStagedSize}
use Rattle.status_compare.specs.NamedComparers.{compared_by, with_new_id, without_new_id}
use Rattle.status_world.proofs.NodeStats.{small_size}

-- Ids that pass the test are equal, and equal ids pass it.
pub same_id_is : (a b : ObjectId) → same_id a b ≡ true → a ≡ b
same_id_is (Sha1Id a) (Sha1Id b) e = let same = (bytes_eq-Decides a b).0 e in cc
same_id_is (Sha256Id a) (Sha256Id b) e = let same = (bytes_eq-Decides a b).0 e in cc
same_id_is (Sha1Id a) (Sha256Id b) e = cc
same_id_is (Sha256Id a) (Sha1Id b) e = cc

same_id_self : (a : ObjectId) → same_id a a ≡ true
same_id_self (Sha1Id a) = (bytes_eq-Decides a a).1 refl
same_id_self (Sha256Id a) = (bytes_eq-Decides a a).1 refl

pub kind_of_blob : (kind : HashKind) (bytes : List ℕ) → id_kind (blob_id kind bytes) ≡ kind
kind_of_blob Sha1 bytes = refl
kind_of_blob Sha256 bytes = refl

-- If the id of the staged bytes is an empty blob's, no bytes were staged.
pub staged_empty : (id : ObjectId) (kind : HashKind) (staged : List ℕ) → id ≡ blob_id kind staged → HasOwnId kind staged [] → is_empty_blob id ≡ true → staged ≡ []
staged_empty id kind staged e own empty =
    let one : id_kind id ≡ kind = ap id_kind e ∙ kind_of_blob kind staged in
    own (sym e ∙ same_id_is id (blob_id (id_kind id) []) empty ∙ ap (λ k. blob_id k []) one)

first_of_all : (kind : HashKind) (content : Content) → first_bytes_id kind content (length content.bytes) ≡ Ok (blob_id kind content.bytes)
first_of_all kind content = rw (le-ltb (length content.bytes) (length content.bytes) (omega arith), take-length content.bytes)

hash_whole : (e : IndexEntry) (kind : HashKind) (bytes : List ℕ) (reading : Reading) → id_kind e.id ≡ kind → IsWholly bytes reading
    → hash_answer e reading ≡ Ok (changed_id e.id (blob_id kind bytes))
hash_whole e kind bytes (streams content size) one whole = rw (whole.1, sym whole.0, one, first_of_all kind content)
hash_whole e kind bytes (target t) one whole = rw (whole, one)
hash_whole e kind bytes (fails err) one whole = absurd whole

-- A result that isn't an error.
abbrev pub Answered : Result (Option (Option ObjectId)) Error → Type 0
Answered answer = (found : Option (Option ObjectId)) × (answer ≡ Ok found)

fast_answered : (decides : Bool) (change : Option ObjectId) → Answered (without_new_id (if decides then Ok (Some tt) else answer_without_id (Ok change)))
fast_answered true change = (Some None, refl)
fast_answered false (Some id) = (Some None, refl)
fast_answered false None = (None, refl)

-- Both comparers succeed for a whole node.
pub answered : (c : Comparer) (e : IndexEntry) (kind : HashKind) (bytes : List ℕ) (len : ℕ) (m : Readings) → id_kind e.id ≡ kind → IsWholly bytes m.file
    → Answered (compared_by c e len m)
answered Hash e kind bytes len m one whole = (option_map Some (changed_id e.id (blob_id kind bytes)), ap with_new_id (hash_whole e kind bytes m.file one whole))
answered Fast e kind bytes len m one whole =
    let by_id = fast_answered (size_decides e len) (changed_id e.id (blob_id kind bytes)) in
    (by_id.0, ap (λ h. without_new_id (if size_decides e len then Ok (Some tt) else answer_without_id h)) (hash_whole e kind bytes m.file one whole) ∙ by_id.1)

-- An entry's size that is the staged one or 0 is one that the comparers accept.
kept_size : (e : IndexEntry) (s : Plain) → length s.bytes < 4294967296 → IsStagedSize e s → IsKeptSize e.stat.size s.bytes
kept_size e s small (inl h) = inl (h ∙ sym (small_size (length s.bytes) small))
kept_size e s small (inr h) = inr h

reports_with_id : (r : Result (Option ObjectId) Error) → reports_change (with_new_id r) ≡ reports_change r
reports_with_id (Ok (Some id)) = refl
reports_with_id (Ok None) = refl
reports_with_id (Err err) = refl

reports_without_id : (r : Result (Option (Unit {0})) Error) → reports_change (without_new_id r) ≡ reports_change r
reports_without_id (Ok (Some u)) = refl
reports_without_id (Ok None) = refl
reports_without_id (Err err) = refl

reports_test : (same : Bool) (id : ObjectId) → reports_change {A = ObjectId} (Ok (if same then None else Some id)) ≡ not same
reports_test true id = refl
reports_test false id = refl

-- The premises on an entry, the staged bytes and a node's bytes.
pub record HasStaged (kind : HashKind) (e : IndexEntry) (s : Plain) (bytes : List ℕ) : Type 0 where
  pub id : e.id ≡ blob_id kind s.bytes
  pub small : length s.bytes < 4294967296
  pub size : IsStagedSize e s
  pub own : HasOwnId kind s.bytes bytes
  pub own_empty : HasOwnId kind s.bytes []

-- A comparer returns a change exactly if the ids differ.
reports_ids : (c : Comparer) (e : IndexEntry) (kind : HashKind) (s : Plain) (bytes : List ℕ) (m : Readings) → HasStaged kind e s bytes → IsWholly bytes m.file
    → reports_change (compared_by c e (length bytes) m) ≡ not (same_id e.id (blob_id kind bytes))
reports_ids Hash e kind s bytes m h whole =
    reports_with_id (hash_answer e m.file)
    ∙ (ap reports_change (hash_whole e kind bytes m.file (ap id_kind h.id ∙ kind_of_blob kind s.bytes) whole)
    ∙ reports_test (same_id e.id (blob_id kind bytes)) (blob_id kind bytes))
reports_ids Fast e kind s bytes m h whole =
    reports_without_id (fast_answer e (length bytes) m.file)
    ∙ (agrees e kind s.bytes bytes m.file h.id (kept_size e s h.small h.size) whole h.own h.own_empty
    ∙ (ap reports_change (hash_whole e kind bytes m.file (ap id_kind h.id ∙ kind_of_blob kind s.bytes) whole)
    ∙ reports_test (same_id e.id (blob_id kind bytes)) (blob_id kind bytes)))

none_reported : (found : Option (Option ObjectId)) → reports_change {A = Option ObjectId} (Ok found) ≡ false → found ≡ None
none_reported (Some id) e = cc
none_reported None e = refl

-- A comparer returns None exactly if the bytes are the staged ones.
pub answer_says : (c : Comparer) (e : IndexEntry) (kind : HashKind) (s : Plain) (bytes : List ℕ) (m : Readings) → HasStaged kind e s bytes → IsWholly bytes m.file
    → (found : Option (Option ObjectId)) → compared_by c e (length bytes) m ≡ Ok found → (found ≡ None) ↔ (bytes ≡ s.bytes)
answer_says c e kind s bytes m h whole found is =
    let reported : reports_change {A = Option ObjectId} (Ok found) ≡ not (same_id e.id (blob_id kind bytes)) = sym (ap reports_change is) ∙ reports_ids c e kind s bytes m h whole in (
      λ none. sym (h.own (sym h.id ∙ same_id_is e.id (blob_id kind bytes) (not-false (same_id e.id (blob_id kind bytes)) (sym reported ∙ ap (λ o. reports_change {A = Option ObjectId} (Ok o)) none)))),
      λ same. none_reported found (reported ∙ ap not (ap (same_id e.id) (ap (blob_id kind) same ∙ sym h.id) ∙ same_id_self e.id)),
    )
