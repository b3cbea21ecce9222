-- The buckets of changes that are sorted by type and id.
use Rattle.std.proofs.Common.{◌≡◌, ◌≢◌, refl, sym, ap, subst, ◌∙◌, ℕ, ◌+◌, ◌<◌, ◌≤◌, ◌==◌, ◌⊎◌, inl, inr, Bool, true, false, cond, List, [], ◌∷◌, ◌++◌, length, map, slice_index, slice_index_or, set, take, All, arith, eqb-true, get_or-set_other, append-nil}
use denote.Ref.{Bor}
use Rattle.std.specs.Global.{Vec}
use Rattle.std.specs.Cmp.{nat_cmp_is}
use Rattle.std.specs.Cmp.Lexicographic.{slice_cmp}
use Rattle.std.specs.Ordering.{nat_cmp, ordering_then}
use Rattle.std.specs.declared.cmp.Ordering.{Ordering}
use Rattle.std.specs.declared.cmp.Ordering.TheVariants.{Less, Equal}
use Rattle.std.proofs.lemmas.Bool.{cases_lt, eq-eqb, ne_eqb, true≢false}
use Rattle.std.proofs.lemmas.Grind.{get_or-set_at}
use Rattle.std.proofs.lemmas.List.{map_push, get_or_read}
use Rattle.std.proofs.lemmas.List.Elements.{filter-append, filter_more}
use Rattle.std.proofs.Math.ListN.{length-set}
use Rattle.status_index.specs.BlobId.{id_kind, id_bytes}
use Rattle.status_index.specs.Orders.{kind_rank, id_cmp}
use Rattle.status_index.specs.declared.id.HashKind.{HashKind}
use Rattle.status_index.specs.declared.id.HashKind.TheVariants.{Sha1, Sha256}
use Rattle.status_index.specs.declared.mode.EntryKind.{EntryKind}
use Rattle.status_index.specs.declared.mode.EntryKind.TheVariants.{Tree, Blob, BlobExecutable, Link, Commit}
use Rattle.status_rewrites.specs.declared.tracker.ChangeKind.{ChangeKind}
use Rattle.status_rewrites.specs.declared.seen.Seen.{Seen}
use Rattle.status_rewrites.specs.Buckets.{bucket_count, bucket_number, in_bucket, leading_bits, changes_named, AreBuckets}
use Rattle.status_rewrites.specs.TrackedChanges.{Changed}
use Rattle.status_rewrites.specs.IdentityPairs.{mode_number, key_cmp, may_stand}
use Rattle.status_rewrites.specs.Joins.{side_of}
use Rattle.status_rewrites.specs.SeenItems.{changed_of}

pub kind_few : (k : HashKind) → kind_rank k < 2
kind_few Sha1 = omega arith
kind_few Sha256 = omega arith

pub mode_few : (m : EntryKind) → mode_number m < 3
mode_few Blob = omega arith
mode_few BlobExecutable = omega arith
mode_few Link = omega arith
mode_few Tree = omega arith
mode_few Commit = omega arith

pub bucket_few : (x : Changed) → bucket_number x < bucket_count
unfolding bucket_number bucket_count
bucket_few x = omega (arith, kind_few (id_kind x.id), mode_few x.mode)

less_at : (x y : ℕ) (r : Ordering) → x ≤ y → (x ≡ y → r ≡ Less) → (x < y) ⊎ (y ≤ x) → ordering_then (nat_cmp x y) r ≡ Less
less_at x y r le same (inl lt) = ap (λ o. ordering_then o r) (sym (nat_cmp_is x y Less lt))
less_at x y r le same (inr ge) =
    let e : x ≡ y = omega arith in
    ap (λ o. ordering_then o r) (sym (nat_cmp_is x y Equal e)) ∙ same e

less_then : (x y : ℕ) (r : Ordering) → x ≤ y → (x ≡ y → r ≡ Less) → ordering_then (nat_cmp x y) r ≡ Less
less_then x y r le same = less_at x y r le same (cases_lt x y)

-- A list with a lower first number is lower. The first number of an empty list is 0.
rest_less : (xs ys : List ℕ) → slice_index xs 0 < slice_index ys 0 → slice_cmp nat_cmp xs ys ≡ Less
rest_less [] [] lt = absurd (omega arith)
rest_less [] (y ∷ ys) lt = refl
rest_less (x ∷ xs) [] lt = absurd (omega arith)
rest_less (x ∷ xs) (y ∷ ys) lt = less_then x y (slice_cmp nat_cmp xs ys) (omega arith) (λ e. absurd (omega arith))

bits_less : (xs ys : List ℕ) → leading_bits xs < leading_bits ys → slice_cmp nat_cmp xs ys ≡ Less
bits_less [] [] lt = absurd (omega arith)
bits_less [] (y ∷ ys) lt = refl
bits_less (x ∷ xs) [] lt = absurd (omega arith)
bits_less (x ∷ xs) (y ∷ ys) lt =
    less_then x y (slice_cmp nat_cmp xs ys) (omega arith) (λ e. rest_less xs ys (omega arith))

-- A change in a lower bucket has a lower key.
pub bucket_below : (a b : Changed) → bucket_number a < bucket_number b → key_cmp a b ≡ Less
unfolding bucket_number key_cmp
bucket_below a b lt =
    let i = kind_few (id_kind a.id) in
    let j = kind_few (id_kind b.id) in
    less_then (mode_number a.mode) (mode_number b.mode) (id_cmp a.id b.id) (omega arith)
    (λ e. less_then (kind_rank (id_kind a.id)) (kind_rank (id_kind b.id)) (slice_cmp nat_cmp (id_bytes a.id) (id_bytes b.id)) (omega arith)
    (λ h. bits_less (id_bytes a.id) (id_bytes b.id) (omega arith)))

pub none_dealt : (buckets : List (Vec (Bor Seen))) → length buckets ≡ bucket_count → All (λ v. v.items ≡ []) buckets → AreBuckets [] buckets
none_dealt buckets long none = record { count = long; each = λ i d within. ap (map (λ s. s.now)) (none i d within) }

module _ (xs : List Seen) (x : Seen) where
  -- The bucket of an element gets it.
  in_own : (number : ℕ) → bucket_number (changed_of x) ≡ number → in_bucket number (xs ++ x ∷ []) ≡ in_bucket number xs ++ x ∷ []
  in_own number e =
      filter-append (λ s. bucket_number (changed_of s) == number) xs (x ∷ [])
      ∙ ap (λ b. in_bucket number xs ++ cond b (x ∷ []) []) (eq-eqb (bucket_number (changed_of x)) number e)

  -- The other buckets are unchanged.
  in_other : (number : ℕ) → bucket_number (changed_of x) ≢ number → in_bucket number (xs ++ x ∷ []) ≡ in_bucket number xs
  in_other number ne =
      filter-append (λ s. bucket_number (changed_of s) == number) xs (x ∷ [])
      ∙ ap (λ b. in_bucket number xs ++ cond b (x ∷ []) []) (ne_eqb (bucket_number (changed_of x)) number ne)
      ∙ append-nil (in_bucket number xs)

  each_at : (buckets : List (Vec (Bor Seen))) (bucket : Vec (Bor Seen)) → AreBuckets xs buckets → ((d : Vec (Bor Seen)) → changes_named bucket ≡ changes_named (slice_index_or buckets (bucket_number (changed_of x)) d) ++ x ∷ []) → (i : ℕ) (d : Vec (Bor Seen)) → i < length buckets → (own : Bool) → (bucket_number (changed_of x) == i) ≡ own → changes_named (slice_index_or (set buckets (bucket_number (changed_of x)) bucket) i d) ≡ in_bucket i (xs ++ x ∷ [])
  each_at buckets bucket are more i d within true same =
      let e : bucket_number (changed_of x) ≡ i = eqb-true (bucket_number (changed_of x)) i same in
      ap changes_named (get_or-set_at buckets (bucket_number (changed_of x)) i bucket d (sym e) (omega arith))
      ∙ more d
      ∙ ap (λ k. changes_named (slice_index_or buckets k d) ++ x ∷ []) e
      ∙ ap (λ v. v ++ x ∷ []) (are.each i d within)
      ∙ sym (in_own i e)
  each_at buckets bucket are more i d within false other =
      let ne : i ≢ bucket_number (changed_of x) = λ e. true≢false (sym (eq-eqb (bucket_number (changed_of x)) i (sym e)) ∙ other) in
      ap changes_named (get_or-set_other buckets (bucket_number (changed_of x)) i bucket d ne)
      ∙ are.each i d within
      ∙ sym (in_other i (λ e. ne (sym e)))

  dealt_more : (buckets : List (Vec (Bor Seen))) (bucket : Vec (Bor Seen)) → AreBuckets xs buckets → ((d : Vec (Bor Seen)) → changes_named bucket ≡ changes_named (slice_index_or buckets (bucket_number (changed_of x)) d) ++ x ∷ []) → AreBuckets (xs ++ x ∷ []) (set buckets (bucket_number (changed_of x)) bucket)
  dealt_more buckets bucket are more = record {
    count = omega (arith, are.count, length-set buckets (bucket_number (changed_of x)) bucket);
    each = λ i d within.
        each_at buckets bucket are more i d (omega (arith, length-set buckets (bucket_number (changed_of x)) bucket)) (bucket_number (changed_of x) == i) refl;
  }

-- An element is appended to its bucket.
pub put_behind : (xs : List Seen) (x : Seen) (buckets : List (Vec (Bor Seen))) (n : ℕ) (old new : Vec (Bor Seen)) (r : Bor Seen) → n ≡ bucket_number (changed_of x) → n < length buckets → r.now ≡ x → old ≡ slice_index_or buckets n old → new.items ≡ old.items ++ r ∷ [] → AreBuckets xs buckets → AreBuckets (xs ++ x ∷ []) (set buckets n new)
put_behind xs x buckets n old new r number within names read pushed are =
    subst (λ m. AreBuckets (xs ++ x ∷ []) (set buckets m new)) (sym number)
    (dealt_more xs x buckets new are
    (λ d. ap (map (λ s. s.now)) pushed
    ∙ map_push (λ (s : Bor Seen). s.now) old.items r
    ∙ ap (λ v. changes_named old ++ v ∷ []) names
    ∙ ap (λ v. changes_named v ++ x ∷ []) (get_or_read buckets n old within read d ∙ ap (λ m. slice_index_or buckets m d) number)))

-- A side has one more element, or is unchanged.
pub side_more : (side : ChangeKind) (track_empty : Bool) (xs : List Seen) (i : ℕ) (d : Seen) → i < length xs → (own : Bool) → may_stand side track_empty (changed_of (slice_index_or xs i d)) ≡ own → side_of side track_empty (take (i + 1) xs) ≡ side_of side track_empty (take i xs) ++ cond own (slice_index_or xs i d ∷ []) []
side_more side track_empty xs i d within own e =
    filter_more (λ s. may_stand side track_empty (changed_of s)) xs i d within
    ∙ ap (λ b. side_of side track_empty (take i xs) ++ cond b (slice_index_or xs i d ∷ []) []) e
