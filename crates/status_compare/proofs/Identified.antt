-- The id of what a stream may give.
use Rattle.std.proofs.Common.{◌≡◌, ◌≤◌, ℕ, Bool, true, false, List, ◌++◌, length, take, inl, inr, refl, sym, ap, ◌∙◌, subst, OnOk, Option, Some, None, Result, Ok, Err, arith, nat_lt, if◌then◌else◌}
use Rattle.std.proofs.lemmas.Bool.{le-ltb, ltb-false}
use Rattle.std.proofs.lemmas.List.{length-append, take-append-le}
use Rattle.status_index.specs.BlobId.{blob_id}
use Rattle.status_index.specs.Content.{Content, CountsMore, saturate}
use Rattle.status_index.specs.Given.{MayGive}
use Rattle.status_index.specs.StreamId.{early_end, first_bytes_id}
use Rattle.status_index.specs.declared.fault.Fault.{Fault}
use Rattle.status_index.specs.declared.fault.Fault.TheVariants as faults
use Rattle.status_index.specs.declared.id.HashKind.{HashKind}
use Rattle.status_index.specs.declared.id.ObjectId.{ObjectId}
use Rattle.status_base.specs.declared.worktree.filter.ToGitOutcome.{ToGitOutcome}
use Rattle.status_base.specs.declared.worktree.filter.ToGitOutcome.TheVariants.{Unchanged, Buffer}
use Rattle.status_compare.specs.declared.error.Error.{Error}
use Rattle.status_compare.specs.declared.error.Error.TheVariants.{Memory}
use Rattle.status_compare.specs.declared.stream.Stream.{Stream}
use Rattle.status_compare.specs.Comparers.{hashed_bytes, reading_id, worktree_result}
use Rattle.status_compare.specs.Reading.{Reading, streams, target}
use Rattle.status_compare.specs.Seen.{IsIdSeen, IsNewStream}
use Rattle.status_compare.specs.StreamCounts.{count_after, count_or_none, count_reported}
use Rattle.status_compare.specs.StreamIds.{IsIdOf}
use Rattle.status_compare.specs.Streams.{outcome_buffer, outcome_gives, stream_taken, whole}

-- A fact of an Ok, by another one.
on_ok : {A E : Type 0} {P Q : Type 0} (r : Result A E) → (P → Q) → OnOk r P → OnOk r Q
on_ok (Ok x) f h = f h
on_ok (Err e) f h = tt

-- A stream that counted from 0 reports what it counted.
reported : {F : Type 0} (before after : Stream F) (n : ℕ) → stream_taken before ≡ Some 0 → CountsMore (stream_taken before) (stream_taken after) n → saturate (count_reported after) ≡ saturate n
reported before after n new h = by_counts after.counts after.counted (subst (λ (t : Option ℕ). CountsMore t (stream_taken after) n) new h)
  where
    by_counts : (counts : Bool) (counted : ℕ) → CountsMore (Some 0) (if counts then Some counted else None) n → saturate (count_or_none counts counted) ≡ saturate n
    by_counts true counted h = h ∙ ap saturate (omega arith)
    by_counts false counted h = absurd h

-- The same if one step counted n bytes.
reported_step : {F : Type 0} (after : Stream F) (counts : Bool) (counted n : ℕ) → (if counts then Some counted else None) ≡ Some 0 → after.counts ≡ counts → after.counted ≡ count_after counts counted n
    → saturate (count_reported after) ≡ saturate n
reported_step after true counted n new same more =
    let zero : counted ≡ 0 = cc in
    ap (λ (c : Bool). saturate (count_or_none c after.counted)) same ∙ ap saturate more ∙ omega (arith, zero)
reported_step after false counted n new same more = absurd (cc)

module _ {F : Type 0} (gives : F → MayGive) (kind : HashKind) where
  is_id : (after : Stream F) (r : Reading) (result : Result ObjectId Error) → reading_id kind r ≡ result → OnOk result (saturate (count_reported after) ≡ saturate (hashed_bytes r)) → IsIdOf kind r after result
  is_id after r (Ok id) h count = (h, count)
  is_id after r (Err e) h count = inl h

  -- The first bytes of a beginning of the buffer are those of the buffer.
  of_cut : (after : Stream F) (bytes rest : List ℕ) (all : List ℕ) (n : ℕ) (fault : Option Fault) (result : Result ObjectId Error) → all ≡ bytes ++ rest → fault ≡ Some faults.Memory
      → worktree_result (first_bytes_id kind (record { bytes = bytes; fault = fault }) n) ≡ result → OnOk result (saturate (count_reported after) ≡ saturate n) → IsIdOf kind (streams (whole all) (Some n)) after result
  of_cut after bytes rest all n fault result split cut id count = by_length (nat_lt (length bytes) n) refl
    where
      by_length : (short : Bool) → nat_lt (length bytes) n ≡ short → IsIdOf kind (streams (whole all) (Some n)) after result
      by_length true h =
          let failed : result ≡ Err Memory = sym id ∙ ap (λ (b : Bool). worktree_result (if b then Err (early_end fault) else Ok (blob_id kind (take n bytes)))) h ∙ ap (λ (f : Option Fault). worktree_result {A = ObjectId} (Err (early_end f))) cut in
          subst (IsIdOf kind (streams (whole all) (Some n)) after) (sym failed) (inr refl)
      by_length false h =
          let few : n ≤ length bytes = ltb-false (length bytes) n h in
          let long : nat_lt (length all) n ≡ false = le-ltb (length all) n (omega (arith, few, ap length split, length-append bytes rest)) in
          let same : take n all ≡ take n bytes = ap (take n) split ∙ take-append-le n bytes rest few in
          let one : reading_id kind (streams (whole all) (Some n)) ≡ result =
          ap (λ (b : Bool). worktree_result (if b then Err (early_end None) else Ok (blob_id kind (take n all)))) long
          ∙ ap (λ (xs : List ℕ). worktree_result (Ok (blob_id kind xs))) same
          ∙ ap (λ (b : Bool). worktree_result (if b then Err (early_end fault) else Ok (blob_id kind (take n bytes)))) (sym h) ∙ id in
          is_id after (streams (whole all) (Some n)) result one count

  -- As many bytes as a stream's size were hashed.
  pub sized : (source : ToGitOutcome F) (size : Option ℕ) (counts : Bool) (counted : ℕ) (after : Stream F) (n : ℕ) (content : Content) (result : Result ObjectId Error)
      → size ≡ Some n → IsNewStream {F = F} (record { source = source; size = size; counts = counts; counted = counted }) → outcome_gives gives source content
      → worktree_result (first_bytes_id kind content n) ≡ result → OnOk result (CountsMore (if counts then Some counted else None) (stream_taken after) n)
      → IsIdSeen gives kind (record { source = source; size = size; counts = counts; counted = counted }) after result
  sized source size counts counted after n content result is (inr h) given id count = absurd (let e = sym is ∙ h.1 in cc)
  sized (Unchanged file) size counts counted after n content result is (inl h) given id count =
      let before : Stream F = record { source = Unchanged file; size = size; counts = counts; counted = counted } in
      record { reading = streams content (Some n); given = (given, is, h); id = is_id after (streams content (Some n)) result id (on_ok result (reported before after n h) count) }
  sized (Buffer b) size counts counted after n content result is (inl h) (inl same) id count =
      let before : Stream F = record { source = Buffer b; size = size; counts = counts; counted = counted } in
      record { reading = streams (whole b.now) (Some n); given = (refl, is, h); id = is_id after (streams (whole b.now) (Some n)) result (ap (λ (c : Content). worktree_result (first_bytes_id kind c n)) (sym same) ∙ id) (on_ok result (reported before after n h) count) }
  sized (Buffer b) size counts counted after n content result is (inl h) (inr cut) id count =
      let before : Stream F = record { source = Buffer b; size = size; counts = counts; counted = counted } in
      record { reading = streams (whole b.now) (Some n); given = (refl, is, h); id = of_cut after content.bytes cut.1.0 b.now n content.fault result cut.1.1 cut.0 id (on_ok result (reported before after n h) count) }

  -- A buffer was hashed.
  pub buffered : (source : ToGitOutcome F) (size : Option ℕ) (counts : Bool) (counted : ℕ) (after : Stream F) (bytes : List ℕ)
      → size ≡ None → outcome_buffer source ≡ Some bytes → IsNewStream {F = F} (record { source = source; size = size; counts = counts; counted = counted })
      → after.counts ≡ counts → after.counted ≡ count_after counts counted (length bytes)
      → IsIdSeen gives kind (record { source = source; size = size; counts = counts; counted = counted }) after (Ok (blob_id kind bytes))
  buffered (Unchanged file) size counts counted after bytes is source h same more = absurd (let e = source in cc)
  buffered (Buffer b) size counts counted after bytes is source (inr h) same more =
      record { reading = target bytes; given = (source, is, h.0); id = (refl, uncounted counts h.0 same) }
    where
      uncounted : (c : Bool) → (if c then Some counted else None) ≡ None → after.counts ≡ c → saturate (count_reported after) ≡ saturate 0
      uncounted true e s = absurd (cc)
      uncounted false e s = ap (λ (c : Bool). saturate (count_or_none c after.counted)) s
  buffered (Buffer b) size counts counted after bytes is source (inl h) same more =
      let b_is : b.now ≡ bytes = some_is source in
      record { reading = streams (whole b.now) None; given = (refl, is, h); id = (ap (λ (xs : List ℕ). Ok (blob_id kind xs)) b_is, reported_step after counts counted (length bytes) h same more ∙ ap (λ (xs : List ℕ). saturate (length xs)) (sym b_is)) }
    where
      some_is : Some b.now ≡ Some bytes → b.now ≡ bytes
      some_is e = cc

  -- All bytes of a file were hashed, or reading them failed.
  pub unsized : (source : ToGitOutcome F) (size : Option ℕ) (counts : Bool) (counted : ℕ) (after : Stream F) (content : Content) (result : Result ObjectId Error)
      → size ≡ None → outcome_buffer source ≡ None → IsNewStream {F = F} (record { source = source; size = size; counts = counts; counted = counted }) → outcome_gives gives source content
      → reading_id kind (streams content None) ≡ result → OnOk result ((after.counts ≡ counts) × (after.counted ≡ count_after counts counted (length content.bytes)))
      → IsIdSeen gives kind (record { source = source; size = size; counts = counts; counted = counted }) after result
  unsized (Buffer b) size counts counted after content result is source h given id count = absurd (let e = source in cc)
  unsized (Unchanged file) size counts counted after content result is source (inr h) given id count = absurd (let e = h.2.1 in cc)
  unsized (Unchanged file) size counts counted after content result is source (inl h) given id count =
      record { reading = streams content None; given = (given, is, h); id = is_id after (streams content None) result id (on_ok result (λ k. reported_step after counts counted (length content.bytes) h k.0 k.1) count) }
