-- The comparison by an id that was made of a reading.
use Rattle.std.proofs.Common.{◌≡◌, ◌⊎◌, ℕ, Bool, true, false, inl, inr, sym, ap, ◌∙◌, subst, option_map, Option, Some, None, Ok, Err, arith, if◌then◌else◌}
use Rattle.status_index.specs.BlobId.{id_kind}
use Rattle.status_index.specs.Content.{saturate}
use Rattle.status_index.specs.Entries.{IndexEntry}
use Rattle.status_index.specs.declared.id.HashKind.{HashKind}
use Rattle.status_index.specs.declared.id.ObjectId.{ObjectId}
use Rattle.status_compare.specs.declared.error.Error.{Error}
use Rattle.status_compare.specs.declared.error.Error.TheVariants.{Memory}
use Rattle.status_compare.specs.Comparers.{answer_without_id, changed_id, changed_result, counts_after_fast, counts_after_hash, fast_answer, hash_answer, hashed_bytes, reading_id, size_decides, without_id}
use Rattle.status_compare.specs.NamedComparers.{compared_by, counted_by, with_new_id, without_new_id}
use Rattle.status_compare.specs.Reading.{IsSpecified, Reading, Readings, counts_at_stream, fails, streams, target}
use Rattle.status_compare.specs.Reads.{HasRead, with_bytes}
use Rattle.status_compare.specs.declared.compare.Comparer.{Comparer}
use Rattle.status_compare.specs.declared.compare.Comparer.TheVariants.{Hash, Fast}
use Rattle.status_compare.specs.declared.read_data.Reads.{Reads}

-- Making the id failed.
pub failed_answer : (old : ObjectId) (kind : HashKind) (r : Reading) (e : Error) → kind ≡ id_kind old → (reading_id kind r ≡ Err e) ⊎ (e ≡ Memory)
    → IsSpecified (changed_result old (reading_id (id_kind old) r)) (Err e)
failed_answer old kind r e one (inl h) = inl (ap (changed_result old) (sym h ∙ ap (λ (k : HashKind). reading_id k r) one))
failed_answer old kind r e one (inr h) = inr (ap (λ (x : Error). Err x) h)

-- The id was made.
pub hashed_answer : (old new : ObjectId) (kind : HashKind) (r : Reading) (result : Option ObjectId) → kind ≡ id_kind old → reading_id kind r ≡ Ok new → result ≡ changed_id old new
    → IsSpecified (changed_result old (reading_id (id_kind old) r)) (Ok result)
hashed_answer old new kind r result one h is =
    inl (ap (λ (o : Option ObjectId). Ok o) is ∙ ap (changed_result old) (sym h ∙ ap (λ (k : HashKind). reading_id k r) one))

-- The bytes that were hashed are counted.
pub hashed_counts : (r : Reading) (kind : HashKind) (id : ObjectId) (before between after : Reads) (bytes : ℕ) → reading_id kind r ≡ Ok id → between ≡ counts_at_stream r before → after ≡ with_bytes between bytes → saturate bytes ≡ saturate (hashed_bytes r)
    → after ≡ counts_after_hash r before
hashed_counts (fails e) kind id before between after bytes made stream more same = absurd (let x = made in cc)
hashed_counts (streams content size) kind id before between after bytes made stream more same = more ∙ ap (λ (k : Reads). with_bytes k bytes) stream ∙ counted (counts_at_stream (streams content size) before) bytes (hashed_bytes (streams content size)) same
  where
    counted : (k : Reads) (a b : ℕ) → saturate a ≡ saturate b → with_bytes k a ≡ with_bytes k b
    counted k a b e = ap (λ (n : ℕ). record k { bytes = n }) (omega (arith, e))
hashed_counts (target t) kind id before between after bytes made stream more same = more ∙ ap (λ (k : Reads). with_bytes k bytes) stream ∙ counted (counts_at_stream (target t) before) bytes (hashed_bytes (target t)) same
  where
    counted : (k : Reads) (a b : ℕ) → saturate a ≡ saturate b → with_bytes k a ≡ with_bytes k b
    counted k a b e = ap (λ (n : ℕ). record k { bytes = n }) (omega (arith, e))

-- The comparison by sizes, if they decide and if they don't.
module _ (e : IndexEntry) (len : ℕ) (r : Reading) where
  pub fast_decided : size_decides e len ≡ true → fast_answer e len r ≡ Ok (Some tt)
  fast_decided h = ap (λ (b : Bool). if b then Ok (Some tt) else answer_without_id (hash_answer e r)) h

  fast_open : size_decides e len ≡ false → fast_answer e len r ≡ answer_without_id (hash_answer e r)
  fast_open h = ap (λ (b : Bool). if b then Ok (Some tt) else answer_without_id (hash_answer e r)) h

  pub fast_uncounted : (k : Reads) → size_decides e len ≡ true → counts_after_fast e len r k ≡ k
  fast_uncounted k h = ap (λ (b : Bool). if b then k else counts_after_hash r k) h

  pub fast_counted : (k : Reads) → size_decides e len ≡ false → counts_after_fast e len r k ≡ counts_after_hash r k
  fast_counted k h = ap (λ (b : Bool). if b then k else counts_after_hash r k) h

  pub fast_failed : (x : Error) → size_decides e len ≡ false → IsSpecified (hash_answer e r) (Err x) → IsSpecified (fast_answer e len r) (Err x)
  fast_failed x h (inl s) = inl (ap answer_without_id s ∙ sym (fast_open h))
  fast_failed x h (inr s) = let same : x ≡ Memory = cc in inr (ap (λ (y : Error). Err y) same)

  pub fast_hashed : (change : Option ObjectId) (mapped : Option (Unit {0})) → size_decides e len ≡ false → IsSpecified (hash_answer e r) (Ok change) → mapped ≡ without_id change → IsSpecified (fast_answer e len r) (Ok mapped)
  fast_hashed change mapped h (inl s) m = inl (ap (λ (o : Option (Unit {0})). Ok o) m ∙ ap answer_without_id s ∙ sym (fast_open h))
  fast_hashed change mapped h (inr s) m = absurd (let x = s in cc)

-- The same by the name of a comparer.
module _ (e : IndexEntry) (len : ℕ) (m : Readings) where
  pub hash_failed : (c : Comparer) (x : Error) → c ≡ Hash → IsSpecified (hash_answer e m.file) (Err x) → IsSpecified (compared_by c e len m) (Err x)
  hash_failed c x is (inl s) = inl (ap with_new_id s ∙ ap (λ (n : Comparer). compared_by n e len m) (sym is))
  hash_failed c x is (inr s) = let same : x ≡ Memory = cc in inr (ap (λ (y : Error). Err y) same)

  pub sizes_failed : (c : Comparer) (x : Error) → c ≡ Fast → IsSpecified (fast_answer e len m.file) (Err x) → IsSpecified (compared_by c e len m) (Err x)
  sizes_failed c x is (inl s) = inl (ap without_new_id s ∙ ap (λ (n : Comparer). compared_by n e len m) (sym is))
  sizes_failed c x is (inr s) = let same : x ≡ Memory = cc in inr (ap (λ (y : Error). Err y) same)

  pub hash_named : (c : Comparer) (change : Option ObjectId) (mapped : Option (Option ObjectId)) → c ≡ Hash → IsSpecified (hash_answer e m.file) (Ok change) → mapped ≡ option_map Some change → IsSpecified (compared_by c e len m) (Ok mapped)
  hash_named c change mapped is (inl s) same = inl (ap (λ (o : Option (Option ObjectId)). Ok o) same ∙ ap with_new_id s ∙ ap (λ (n : Comparer). compared_by n e len m) (sym is))
  hash_named c change mapped is (inr s) same = absurd (let x = s in cc)

  pub sizes_named : (c : Comparer) (change : Option (Unit {0})) (mapped : Option (Option ObjectId)) → c ≡ Fast → IsSpecified (fast_answer e len m.file) (Ok change) → mapped ≡ option_map (λ _. None) change → IsSpecified (compared_by c e len m) (Ok mapped)
  sizes_named c change mapped is (inl s) same = inl (ap (λ (o : Option (Option ObjectId)). Ok o) same ∙ ap without_new_id s ∙ ap (λ (n : Comparer). compared_by n e len m) (sym is))
  sizes_named c change mapped is (inr s) same = absurd (let x = s in cc)

  pub named_counts : (c n : Comparer) (before after : Reads) → c ≡ n → HasRead (counted_by n e len m before) after → HasRead (counted_by c e len m before) after
  named_counts c n before after is = subst (λ (x : Comparer). HasRead (counted_by x e len m before) after) (sym is)
