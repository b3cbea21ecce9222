-- A list that is joined bucket by bucket. The number of a bucket never falls as the keys ascend.
use Rattle.std.proofs.Common.{◌≡◌, refl, sym, ap, subst, ◌∙◌, ℕ, ◌+◌, ◌-◌, ◌<◌, ◌≤◌, ◌==◌, nat_lt, ◌⊎◌, inl, inr, Bool, true, false, cond, List, [], ◌∷◌, ◌++◌, length, slice_index_or, All, arith, eqb-true}
use Rattle.std.specs.Cmp.{IsTotalOrder}
use Rattle.std.specs.List.{filter, zip}
use Rattle.std.specs.List.Sorted.{IsSortedBy}
use Rattle.std.specs.Ordering.{is_lt, is_eq, ordering_reverse}
use Rattle.std.specs.declared.cmp.Ordering.{Ordering}
use Rattle.std.specs.declared.cmp.Ordering.TheVariants.{Less, Equal, Greater}
use Rattle.std.proofs.lemmas.Bool.{false≢true, cases_lt}
use Rattle.std.proofs.lemmas.Bool.Decides.{nat_tests}
use Rattle.std.proofs.lemmas.List.{append-nil, length-append, get_or_append_left, get_or-append_right}
use Rattle.std.proofs.lemmas.List.Elements.{All-nil, All-cons, All-append, All-weaker, filter-append}

filter-cond : {X : Type 0} (p : X → Bool) (b : Bool) (x : X) (xs : List X) → filter p (cond b (x ∷ xs) xs) ≡ cond b (cond (p x) (x ∷ filter p xs) (filter p xs)) (filter p xs)
filter-cond p true x xs = refl
filter-cond p false x xs = refl

-- The elements of a row that are in a bucket, if the whole row is in one bucket.
kept_at : {X : Type 0} (x : X) (rows kept : List X) (own here like : Bool) → (like ≡ true → here ≡ own) → kept ≡ cond own rows [] → cond here (cond like (x ∷ kept) kept) kept ≡ cond own (cond like (x ∷ rows) rows) []
kept_at x rows kept true here true same e = ap (λ b. cond b (x ∷ kept) kept) (same refl) ∙ ap (λ v. x ∷ v) e
kept_at x rows kept false here true same e = ap (λ b. cond b (x ∷ kept) kept) (same refl) ∙ e
kept_at x rows kept own true false same e = e
kept_at x rows kept own false false same e = e

-- The elements below a number, followed by those with it, are those below the next number.
next_at : {X : Type 0} (m k : ℕ) (rows : List X) → cond (nat_lt m k) rows [] ++ cond (m == k) rows [] ≡ cond (nat_lt m (k + 1)) rows []
next_at m k rows = grind (arith, nat_tests, append-nil)

none_at : {X : Type 0} (m : ℕ) (rows : List X) → [] ≡ cond (nat_lt m 0) rows []
none_at m rows = grind (arith, nat_tests)

empty_at : {X : Type 0} (b : Bool) → cond {A = List X} b [] [] ≡ []
empty_at true = refl
empty_at false = refl

all_at : {X : Type 0} (m k : ℕ) (rows : List X) → m < k → cond (nat_lt m k) rows [] ≡ rows
all_at m k rows h = grind (arith, nat_tests)

seam : {X : Type 0} (lt : X → X → Bool) (P Q : X → Type 0) → ((x y : X) → P x → Q y → lt y x ≡ false) → (xs ys : List X) → All P xs → All Q ys → IsSortedBy lt xs → IsSortedBy lt ys → (k : ℕ) (d : X) → k + 1 < length (xs ++ ys) → (k + 1 < length xs) ⊎ (length xs ≤ k + 1) → (k < length xs) ⊎ (length xs ≤ k) → lt (slice_index_or (xs ++ ys) (k + 1) d) (slice_index_or (xs ++ ys) k d) ≡ false
seam lt P Q apart xs ys low high first second k d within (inl next) here =
    let left : slice_index_or (xs ++ ys) k d ≡ slice_index_or xs k d = get_or_append_left xs ys d k (omega arith) in
    let right : slice_index_or (xs ++ ys) (k + 1) d ≡ slice_index_or xs (k + 1) d = get_or_append_left xs ys d (k + 1) next in
    rw (right, left) (first k d (omega arith) next)
seam lt P Q apart xs ys low high first second k d within (inr next) (inl here) =
    let left : slice_index_or (xs ++ ys) k d ≡ slice_index_or xs k d = get_or_append_left xs ys d k here in
    let right : slice_index_or (xs ++ ys) (k + 1) d ≡ slice_index_or ys (k + 1 - length xs) d = get_or-append_right xs ys (length xs) (k + 1) d refl next in
    rw (right, left) (apart (slice_index_or xs k d) (slice_index_or ys (k + 1 - length xs) d) (low k d here) (high (k + 1 - length xs) d (omega (arith, length-append xs ys))))
seam lt P Q apart xs ys low high first second k d within (inr next) (inr here) =
    let i : ℕ = k - length xs in
    let left : slice_index_or (xs ++ ys) k d ≡ slice_index_or ys i d = get_or-append_right xs ys (length xs) k d refl here in
    let on : k + 1 - length xs ≡ i + 1 = omega arith in
    let right : slice_index_or (xs ++ ys) (k + 1) d ≡ slice_index_or ys (i + 1) d =
    get_or-append_right xs ys (length xs) (k + 1) d refl next ∙ ap (λ j. slice_index_or ys j d) on in
    rw (right, left) (second i d (omega arith) (omega (arith, length-append xs ys)))

-- A sorted list followed by another is sorted, if no element of the first is above one of the second.
pub IsSortedBy-append : {X : Type 0} (lt : X → X → Bool) (P Q : X → Type 0) → ((x y : X) → P x → Q y → lt y x ≡ false) → (xs ys : List X) → All P xs → All Q ys → IsSortedBy lt xs → IsSortedBy lt ys → IsSortedBy lt (xs ++ ys)
IsSortedBy-append lt P Q apart xs ys low high first second k d from within =
    seam lt P Q apart xs ys low high first second k d within (cases_lt (k + 1) (length xs)) (cases_lt k (length xs))

zip_cond : {X : Type 0} (b : Bool) (xs ys : List X) → zip {K = X} {X = X} (cond b xs []) (cond b ys []) ≡ cond b (zip xs ys) []
zip_cond true xs ys = refl
zip_cond false xs ys = refl

like_itself : (r : Ordering) → r ≡ ordering_reverse r → is_eq r ≡ true
like_itself Less e = cc
like_itself Equal e = refl
like_itself Greater e = cc

none_first : {X : Type 0} (x : X) (rest : List X) (b : Bool) → cond b (x ∷ rest) rest ≡ [] → b ≡ false
none_first x rest true e = cc
none_first x rest false e = refl

none_later : {X : Type 0} (x : X) (rest : List X) (b : Bool) → cond b (x ∷ rest) rest ≡ [] → rest ≡ []
none_later x rest true e = cc
none_later x rest false e = e

-- If no element of a list passes a test, the test is false of all.
none_passes : {X : Type 0} (p : X → Bool) (xs : List X) → filter p xs ≡ [] → All (λ x. p x ≡ false) xs
none_passes p [] e = All-nil (λ x. p x ≡ false)
none_passes p (x ∷ xs) e =
    All-cons (λ y. p y ≡ false) x xs (none_first x (filter p xs) (p x) e) (none_passes p xs (none_later x (filter p xs) (p x) e))

-- Elements have keys with an order R, and keys have numbers that never fall.
module _ {A K : Type 0} (R : K → K → Ordering) (o : IsTotalOrder R) (f : A → K) (n : K → ℕ) (below : (a b : K) → n a < n b → R a b ≡ Less) where
  -- The elements of a list with a key.
  abbrev pub row_of : K → List A → List A
  row_of k xs = filter (λ z. is_eq (R (f z) k)) xs

  -- The elements of a list with a number.
  abbrev pub numbered : ℕ → List A → List A
  numbered k xs = filter (λ z. n (f z) == k) xs

  alike_at : (a b : K) → is_eq (R a b) ≡ true → (n a < n b) ⊎ (n b ≤ n a) → (n b < n a) ⊎ (n a ≤ n b) → n a ≡ n b
  alike_at a b like (inl lt) back = absurd (false≢true (sym (ap is_eq (below a b lt)) ∙ like))
  alike_at a b like (inr le) (inl lt) =
      absurd (false≢true (sym (ap is_eq (o.antisymm a b ∙ ap ordering_reverse (below b a lt))) ∙ like))
  alike_at a b like (inr le) (inr ge) = omega arith

  number_of_alike : (a b : K) → is_eq (R a b) ≡ true → n a ≡ n b
  number_of_alike a b like = alike_at a b like (cases_lt (n a) (n b)) (cases_lt (n b) (n a))

  row_numbered : (number : ℕ) (key : K) (xs : List A) → row_of key (numbered number xs) ≡ cond (n key == number) (row_of key xs) []
  row_numbered number key [] = sym (empty_at (n key == number))
  row_numbered number key (x ∷ xs) =
      filter-cond (λ z. is_eq (R (f z) key)) (n (f x) == number) x (numbered number xs)
      ∙ kept_at x (row_of key xs) (row_of key (numbered number xs)) (n key == number) (n (f x) == number) (is_eq (R (f x) key))
      (λ like. ap (λ m. m == number) (number_of_alike (f x) key like)) (row_numbered number key xs)

  abbrev pub row_first : K → List (A × A) → List (A × A)
  row_first k ms = filter (λ m. is_eq (R (f m.0) k)) ms

  -- The matches of the numbers below this one, by key.
  pub record Matched (gone came : List A) (number : ℕ) (ms : List (A × A)) : Type 0 where
    pub by_key : IsSortedBy (λ a b. is_lt (R (f a.0) (f b.0))) ms
    pub low : All (λ m. n (f m.0) < number) ms
    pub each : (key : K) → row_first key ms ≡ cond (nat_lt (n key) number) (zip (row_of key gone) (row_of key came)) []

  pub matched_none : (gone came : List A) → Matched gone came 0 []
  matched_none gone came = record {
    by_key = λ k d from within. absurd (omega arith);
    low = All-nil (λ m. n (f m.0) < 0);
    each = λ key. none_at (n key) (zip (row_of key gone) (row_of key came));
  }

  after : (number : ℕ) (x y : A × A) → n (f x.0) < number → n (f y.0) ≡ number → is_lt (R (f y.0) (f x.0)) ≡ false
  after number x y low at =
      ap is_lt (o.antisymm (f y.0) (f x.0)) ∙ ap (λ r. is_lt (ordering_reverse r)) (below (f x.0) (f y.0) (omega arith))

  -- A row is empty unless its key has the number.
  row_here : (number : ℕ) (gone came : List A) (ns : List (A × A)) (first second : List A) → ((key : K) → row_of key first ≡ row_of key (numbered number gone)) → ((key : K) → row_of key second ≡ row_of key (numbered number came)) → ((key : K) → row_first key ns ≡ zip (row_of key first) (row_of key second)) → (key : K) → row_first key ns ≡ cond (n key == number) (zip (row_of key gone) (row_of key came)) []
  row_here number gone came ns first second firsts seconds each key =
      each key
      ∙ ap (λ v. zip v (row_of key second)) (firsts key ∙ row_numbered number key gone)
      ∙ ap (λ v. zip (cond (n key == number) (row_of key gone) []) v) (seconds key ∙ row_numbered number key came)
      ∙ zip_cond (n key == number) (row_of key gone) (row_of key came)

  here_at : (number : ℕ) (ns : List (A × A)) (m : A × A) (rows : List (A × A)) (own : Bool) → (n (f m.0) == number) ≡ own → row_first (f m.0) ns ≡ cond own rows [] → (k : ℕ) (d : A × A) → k < length ns → slice_index_or ns k d ≡ m → n (f m.0) ≡ number
  here_at number ns m rows true same e k d within is = eqb-true (n (f m.0)) number same
  here_at number ns m rows false same e k d within is =
      absurd (false≢true
      (sym (subst (λ v. is_eq (R (f v.0) (f m.0)) ≡ false) is (none_passes (λ v. is_eq (R (f v.0) (f m.0))) ns e k d within))
      ∙ like_itself (R (f m.0) (f m.0)) (o.antisymm (f m.0) (f m.0))))

  pub matched_more : (gone came : List A) (number : ℕ) (ms ns : List (A × A)) (first second : List A) → Matched gone came number ms → ((key : K) → row_of key first ≡ row_of key (numbered number gone)) → ((key : K) → row_of key second ≡ row_of key (numbered number came)) → IsSortedBy (λ a b. is_lt (R (f a.0) (f b.0))) ns → ((key : K) → row_first key ns ≡ zip (row_of key first) (row_of key second)) → Matched gone came (number + 1) (ms ++ ns)
  matched_more gone came number ms ns first second done firsts seconds up each =
      let row : (key : K) → row_first key ns ≡ cond (n key == number) (zip (row_of key gone) (row_of key came)) [] =
      row_here number gone came ns first second firsts seconds each in
      let here : All (λ m. n (f m.0) ≡ number) ns =
      λ k d within. here_at number ns (slice_index_or ns k d) (zip (row_of (f (slice_index_or ns k d).0) gone) (row_of (f (slice_index_or ns k d).0) came)) (n (f (slice_index_or ns k d).0) == number) refl (row (f (slice_index_or ns k d).0)) k d within refl in
      record {
        by_key = IsSortedBy-append (λ a b. is_lt (R (f a.0) (f b.0))) (λ m. n (f m.0) < number) (λ m. n (f m.0) ≡ number) (after number) ms ns done.low here done.by_key up;
        low = All-append (λ m. n (f m.0) < number + 1) ms ns
            (All-weaker (λ m. n (f m.0) < number) (λ m. n (f m.0) < number + 1) (λ m h. omega arith) ms done.low)
            (All-weaker (λ m. n (f m.0) ≡ number) (λ m. n (f m.0) < number + 1) (λ m h. omega arith) ns here);
        each = λ key.
            filter-append (λ m. is_eq (R (f m.0) key)) ms ns
            ∙ ap (λ v. v ++ row_first key ns) (done.each key)
            ∙ ap (λ v. cond (nat_lt (n key) number) (zip (row_of key gone) (row_of key came)) [] ++ v) (row key)
            ∙ next_at (n key) number (zip (row_of key gone) (row_of key came));
      }

  pub matched_all : (gone came : List A) (number : ℕ) (ms : List (A × A)) → ((key : K) → n key < number) → Matched gone came number ms → (key : K) → row_first key ms ≡ zip (row_of key gone) (row_of key came)
  matched_all gone came number ms few done key = done.each key ∙ all_at (n key) number (zip (row_of key gone) (row_of key came)) (few key)
