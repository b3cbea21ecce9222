-- Comparison by sizes agrees with comparison by ids.
use Rattle.std.proofs.Common.{◌≡◌, ◌≢◌, ℕ, ◌%◌, ◌^◌, ◌==◌, ◌||◌, ◌&&◌, not, Bool, true, false, List, [], length, Option, Some, None, Result, Ok, Err, inl, inr, refl, sym, ap, ◌∙◌, if◌then◌else◌, arith}
use Rattle.std.proofs.Math.Seq.{take-length}
use Rattle.std.proofs.lemmas.Bool.{le-ltb}
use Rattle.std.proofs.lemmas.Bool.Decides.{nat_tests}
use Rattle.std.proofs.lemmas.Slice.Eq.{bytes_eq-Decides}
use Rattle.status_index.specs.BlobId.{blob_id, id_kind, same_id, is_empty_blob}
use Rattle.status_index.specs.Content.{Content}
use Rattle.status_index.specs.StreamId.{first_bytes_id}
use Rattle.status_index.specs.Entries.{IndexEntry}
use Rattle.status_index.specs.declared.id.HashKind.{HashKind}
use Rattle.status_index.specs.declared.id.HashKind.TheVariants.{Sha1, Sha256}
use Rattle.status_index.specs.declared.id.ObjectId.{ObjectId}
use Rattle.status_index.specs.declared.id.ObjectId.TheVariants.{Sha1 as Sha1Id, Sha256 as Sha256Id}
use Rattle.status_compare.specs.declared.error.Error.{Error}
use Rattle.status_compare.specs.Comparers.{changed_id, hash_answer, size_decides, answer_without_id}
use Rattle.status_compare.specs.FastAgrees.{FastAgrees, HasOwnId, IsKeptSize, IsWholly, reports_change}
use Rattle.status_compare.specs.Reading.{Reading, fails, streams, target}

-- Ids that pass the test are equal.
same_id_is : (a b : ObjectId) → same_id a b ≡ true → a ≡ b
same_id_is (Sha1Id a) (Sha1Id b) e = let same = (bytes_eq-Decides a b).0 e in cc
same_id_is (Sha256Id a) (Sha256Id b) e = let same = (bytes_eq-Decides a b).0 e in cc
same_id_is (Sha1Id a) (Sha256Id b) e = cc
same_id_is (Sha256Id a) (Sha1Id b) e = cc

kind_of_blob : (kind : HashKind) (bytes : List ℕ) → id_kind (blob_id kind bytes) ≡ kind
kind_of_blob Sha1 bytes = refl
kind_of_blob Sha256 bytes = refl

-- The first bytes, as many as there are, are all bytes.
first_of_all : (kind : HashKind) (content : Content) → first_bytes_id kind content (length content.bytes) ≡ Ok (blob_id kind content.bytes)
first_of_all kind content = rw (le-ltb (length content.bytes) (length content.bytes) (omega arith), take-length content.bytes)

-- Another id is a change.
reports_by_test : (same : Bool) (new : ObjectId) → (same ≡ true → ⊥) → reports_change {A = ObjectId} (Ok (if same then None else Some new)) ≡ true
reports_by_test true new other = absurd (other refl)
reports_by_test false new other = refl

-- If sizes decide, it is enough that ids show a change.
agree_by_test : (decides : Bool) (answer : Result (Option ObjectId) Error) → (decides ≡ true → reports_change answer ≡ true) → reports_change (if decides then Ok (Some tt) else answer_without_id answer) ≡ reports_change answer
agree_by_test true answer h = sym (h refl)
agree_by_test false (Ok (Some _)) h = refl
agree_by_test false (Ok None) h = refl
agree_by_test false (Err _) h = refl

-- If sizes decide, the entry's size is another, and it is 0 only for the empty blob.
decides_parts : (size low : ℕ) (empty : Bool) → (not (size == low) && (empty || not (size == 0))) ≡ true → (size ≢ low) × (size ≡ 0 → empty ≡ true)
decides_parts size low true h = (grind (arith, nat_tests), λ _. refl)
decides_parts size low false h = (grind (arith, nat_tests), grind (arith, nat_tests))

-- An entry whose id is that of no bytes has no bytes staged.
staged_empty : (id : ObjectId) (kind : HashKind) (staged : List ℕ) → id ≡ blob_id kind staged → HasOwnId kind staged [] → is_empty_blob id ≡ true → staged ≡ []
staged_empty id kind staged e own empty =
    let same : id ≡ blob_id (id_kind id) [] = same_id_is _ _ empty in
    let one : id_kind id ≡ kind = ap id_kind e ∙ kind_of_blob kind staged in
    own (sym e ∙ same ∙ ap (λ k. blob_id k []) one)

-- The stored size of the file's own content, or 0, doesn't decide.
size_kept : (size : ℕ) (staged bytes : List ℕ) → IsKeptSize size staged → staged ≡ bytes → (size ≡ 0 → staged ≡ []) → size ≡ length bytes % 2 ^ 32
size_kept size staged bytes (inl kept) same empty = kept ∙ ap (λ xs. length xs % 2 ^ 32) same
size_kept size staged bytes (inr zero) same empty = zero ∙ ap (λ xs. length xs % 2 ^ 32) (sym (empty zero) ∙ same)

-- If sizes decide, the file's id is another.
other_id : (entry : IndexEntry) (kind : HashKind) (staged bytes : List ℕ) → entry.id ≡ blob_id kind staged →
    IsKeptSize entry.stat.size staged → HasOwnId kind staged bytes → HasOwnId kind staged [] →
    size_decides entry (length bytes) ≡ true → same_id entry.id (blob_id kind bytes) ≡ true → ⊥
other_id entry kind staged bytes id kept own own_empty decides same =
    let parts = decides_parts entry.stat.size (length bytes % 2 ^ 32) (is_empty_blob entry.id) decides in
    let one : staged ≡ bytes = own (sym id ∙ same_id_is _ _ same) in
    parts.0 (size_kept entry.stat.size staged bytes kept one (λ zero. staged_empty entry.id kind staged id own_empty (parts.1 zero)))

-- The comparison by ids of a whole file or link.
hash_of_whole : (entry : IndexEntry) (kind : HashKind) (staged bytes : List ℕ) (reading : Reading) → entry.id ≡ blob_id kind staged →
    IsWholly bytes reading → hash_answer entry reading ≡ Ok (changed_id entry.id (blob_id kind bytes))
hash_of_whole entry kind staged bytes (streams content size) id whole =
    let one : id_kind entry.id ≡ kind = ap id_kind id ∙ kind_of_blob kind staged in
    rw (whole.1, sym whole.0, one, first_of_all kind content)
hash_of_whole entry kind staged bytes (target t) id whole =
    let one : id_kind entry.id ≡ kind = ap id_kind id ∙ kind_of_blob kind staged in
    rw (whole, one)
hash_of_whole entry kind staged bytes (fails e) id whole = absurd whole

pub agrees : (entry : IndexEntry) → FastAgrees entry
agrees entry kind staged bytes reading id kept whole own own_empty =
    agree_by_test (size_decides entry (length bytes)) (hash_answer entry reading) (λ decides.
    ap reports_change (hash_of_whole entry kind staged bytes reading id whole)
    ∙ reports_by_test (same_id entry.id (blob_id kind bytes)) (blob_id kind bytes)
    (other_id entry kind staged bytes id kept own own_empty decides))
