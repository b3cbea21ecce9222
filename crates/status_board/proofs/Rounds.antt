-- The gathered results, put in order, are a round.
use Rattle.std.proofs.Common.{Any, IsTrue, inl, inr, ◌≡◌, refl, sym, ap, subst, ℕ, zero, suc, ◌+◌, ◌-◌, ◌<◌, ◌≤◌, ◌==◌, Bool, true, false, cond, nat_lt, List, [], ◌∷◌, length, All, Contains, Option, None, Some, slice_get, Result, Ok, Err, IfOk, Vec, arith}
use Rattle.std.specs.List.{slice_index_or}
use Rattle.std.proofs.lemmas.List.Elements.{All-head, All-tail, All-contains, Contains-append_right}
use Rattle.std.proofs.lemmas.Option.{slice_get_cases}
use Rattle.std.proofs.lemmas.Bool.{cases_Bool, eqb-true, eq-eqb, lt-ltb, ltb-true}
use Rattle.status_board.specs.Numbers.{times, HasEachBelow, IsLeast, LiesBelow}
use Rattle.status_board.specs.Seats.{BoardId, SeatState, drawn_of, barred_of, reported_of}
use Rattle.status_board.specs.declared.work.Finished.{Finished}
use Rattle.status_board.specs.Accounts.{AreAccounted, end_of}
use Rattle.status_board.specs.FinishedPieces.{outs_at, shorts_of, IsInOrder, IsOutOf}
use Rattle.status_board.specs.Round.{EndsShort, IsRound}
use Rattle.status_board.proofs.Lists.{outs_at-here, outs_at-other, outs_at-each, shorts_of-here, shorts_of-other}

one_if : (b : Bool) → b ≡ true → cond {A = ℕ} b 1 0 ≡ 1
one_if b e = ap (λ (c : Bool). cond {A = ℕ} c 1 0) e

none_if : (b : Bool) → b ≡ false → cond {A = ℕ} b 1 0 ≡ 0
none_if b e = ap (λ (c : Bool). cond {A = ℕ} c 1 0) e

times_at : (xs : List ℕ) (k x : ℕ) → k < length xs → slice_index_or xs k x ≡ x → 0 < times x xs
times_at [] k x l is = absurd (omega arith)
times_at (y ∷ ys) zero x l is = let e = one_if (y == x) (eq-eqb y x is) in omega arith
times_at (y ∷ ys) (suc k) x l is = let r = times_at ys k x (omega arith) is in omega arith

-- a number that a list contains occurs in it, and the other way round
contains_times : (xs : List ℕ) (x : ℕ) → Contains xs x → 0 < times x xs
contains_times xs x c = times_at xs c.0 x c.1 c.2

times_contains : (xs : List ℕ) (x : ℕ) → 0 < times x xs → Contains xs x
times_contains [] x h = absurd (omega arith)
times_contains (y ∷ ys) x h = elim (cases_Bool (y == x)) [
  | inl e ↦ (0, omega arith, eqb-true y x e)
  | inr e ↦ (let z = none_if (y == x) e in Contains-append_right (y ∷ []) ys x (times_contains ys x (omega arith)))
]

-- if a fact holds of each element and not of a number, the number isn't in the list
never : (P : ℕ → Type 0) (x : ℕ) (xs : List ℕ) → All P xs → (P x → ⊥) → times x xs ≡ 0
never P x [] all out = refl
never P x (y ∷ ys) all out = elim (cases_Bool (y == x)) [
  | inl e ↦ absurd (out (subst P (eqb-true y x e) (All-head P y ys all)))
  | inr e ↦ (let z = none_if (y == x) e in let r = never P x ys (All-tail P y ys all) out in omega arith)
]

-- a piece below the end isn't after the least reported one
not_behind : (least : Option ℕ) (n drawn : ℕ) → n < end_of least drawn → LiesBelow least n → ⊥
not_behind None n drawn l behind = behind
not_behind (Some m) n drawn l behind = omega arith

-- the end is at most one more than a reported piece
least_le : (least : Option ℕ) (xs : List ℕ) (n drawn : ℕ) → IsLeast least xs → Contains xs n → end_of least drawn ≤ n + 1
least_le None xs n drawn nil has = let l : length xs ≡ 0 = ap length nil in let k = has.1 in absurd (omega arith)
least_le (Some m) xs n drawn is has = let l : m ≤ n = All-contains (λ x. m ≤ x) xs n is.1 has in omega arith

module _ {O : Type 0} (short : O → Bool) where
  how_short : List O → ℕ
  how_short [] = 0
  how_short (o ∷ os) = cond {A = ℕ} (short o) 1 0 + how_short os

  how_short-le : (os : List O) → how_short os ≤ length os
  unfolding how_short
  how_short-le [] = omega arith
  how_short-le (o ∷ os) =
      let r = how_short-le os in
      elim (cases_Bool (short o)) [
        | inl e ↦ (let k = one_if (short o) e in omega arith)
        | inr e ↦ (let k = none_if (short o) e in omega arith)
      ]

  -- how often a number was reported, by the results of its pieces
  shorts_count : (n : ℕ) (fs : List (Finished O)) → times n (shorts_of short fs) ≡ how_short (outs_at n fs)
  unfolding how_short
  shorts_count n [] = refl
  shorts_count n (f ∷ fs) =
      let r = shorts_count n fs in
      elim (cases_Bool (f.number == n)) [
        | inl e ↦ elim (cases_Bool (short f.out)) [
          | inl d ↦ (let s : times n (shorts_of short (f ∷ fs)) ≡ times n (f.number ∷ shorts_of short fs) = ap (times n) (shorts_of-here short f fs d) in let o : how_short (outs_at n (f ∷ fs)) ≡ how_short (f.out ∷ outs_at n fs) = ap how_short (outs_at-here n f fs e) in let j = one_if (f.number == n) e in let k = one_if (short f.out) d in omega arith)
          | inr d ↦ (let s : times n (shorts_of short (f ∷ fs)) ≡ times n (shorts_of short fs) = ap (times n) (shorts_of-other short f fs d) in let o : how_short (outs_at n (f ∷ fs)) ≡ how_short (f.out ∷ outs_at n fs) = ap how_short (outs_at-here n f fs e) in let k = none_if (short f.out) d in omega arith)
        ]
        | inr e ↦ elim (cases_Bool (short f.out)) [
          | inl d ↦ (let s : times n (shorts_of short (f ∷ fs)) ≡ times n (f.number ∷ shorts_of short fs) = ap (times n) (shorts_of-here short f fs d) in let o : how_short (outs_at n (f ∷ fs)) ≡ how_short (outs_at n fs) = ap how_short (outs_at-other n f fs e) in let j = none_if (f.number == n) e in omega arith)
          | inr d ↦ (let s : times n (shorts_of short (f ∷ fs)) ≡ times n (shorts_of short fs) = ap (times n) (shorts_of-other short f fs d) in let o : how_short (outs_at n (f ∷ fs)) ≡ how_short (outs_at n fs) = ap how_short (outs_at-other n f fs e) in omega arith)
        ]
      ]

  -- whether the one piece of a number was short, by how often the number was reported
  one_short : (n : ℕ) (fs : List (Finished O)) (out : O) → outs_at n fs ≡ out ∷ [] → times n (shorts_of short fs) ≡ cond {A = ℕ} (short out) 1 0
  unfolding how_short
  one_short n fs out is = let a = shorts_count n fs in let b : how_short (outs_at n fs) ≡ cond {A = ℕ} (short out) 1 0 + 0 = ap how_short is in omega arith

  module _ (board : BoardId) (seats : List SeatState) (fs : List (Finished O)) (all : AreAccounted short board seats fs) (drawn : ℕ) (below : HasEachBelow drawn (drawn_of seats)) where
    -- a reported piece was drawn
    reported_inside : (n : ℕ) → Contains (reported_of seats) n → n < drawn
    reported_inside n has =
        let met : 0 < times n (shorts_of short fs) = subst (λ (ks : List ℕ). 0 < times n ks) all.reported (contains_times (reported_of seats) n has) in
        let count = shorts_count n fs in
        let few = how_short-le (outs_at n fs) in
        let sum = all.drawn n in
        let once = below n in
        elim (cases_Bool (nat_lt n drawn)) [
          | inl e ↦ ltb-true n drawn e
          | inr e ↦ (let z = none_if (nat_lt n drawn) e in absurd (omega arith))
        ]

    pub end_inside : (least : Option ℕ) → IsLeast least (reported_of seats) → end_of least drawn ≤ drawn
    end_inside None is = omega arith
    end_inside (Some m) is = let l = reported_inside m is.0 in omega arith

    module _ (least : Option ℕ) (is_least : IsLeast least (reported_of seats)) (behind : All (LiesBelow least) (barred_of seats)) where
      -- each piece below the end was finished once
      pub finished_once : (n : ℕ) → n < end_of least drawn → length (outs_at n fs) ≡ 1
      finished_once n l =
          let inside = end_inside least is_least in
          let sum = all.drawn n in
          let once = below n in
          let none_barred = never (LiesBelow least) n (barred_of seats) behind (not_behind least n drawn l) in
          let under : n < drawn = omega arith in
          let one = one_if (nat_lt n drawn) (lt-ltb n drawn under) in
          omega arith

      module _ (outs : List O) (ordered : IsInOrder fs (end_of least drawn) outs) where
        whole_before : (n : ℕ) (out : O) → slice_get outs n ≡ Some out → n + 1 < length outs → short out ≡ false
        whole_before n out at l = elim (cases_Bool (short out)) [
          | inl e ↦ (let count = one_short n fs out (ordered.each n out at) in
              let one = one_if (short out) e in
              let met : 0 < times n (reported_of seats) = subst (λ (ks : List ℕ). 0 < times n ks) (sym all.reported) (omega arith) in
              let end = least_le least (reported_of seats) n drawn is_least (times_contains (reported_of seats) n met) in
              absurd (omega (arith, ordered.all)))
          | inr e ↦ e
        ]

        -- the piece of a reported number ended short
        short_met : (n : ℕ) (out : O) → slice_get outs n ≡ Some out → Contains (reported_of seats) n → short out ≡ true
        short_met n out at has = elim (cases_Bool (short out)) [
          | inl e ↦ e
          | inr e ↦ (let count = one_short n fs out (ordered.each n out at) in
              let zero_short = none_if (short out) e in
              let met : 0 < times n (shorts_of short fs) = subst (λ (ks : List ℕ). 0 < times n ks) all.reported (contains_times (reported_of seats) n has) in
              absurd (omega arith))
        ]

        ends_short : (m : ℕ) → length outs ≡ m + 1 → Contains (reported_of seats) m → EndsShort short outs
        ends_short m long has =
            let last : length outs - 1 ≡ m = omega arith in
            elim (slice_get_cases outs m).1 [
              | inl here ↦ (here.0, subst (λ (k : ℕ). slice_get outs k ≡ Some here.0) (sym last) here.2, short_met m here.0 here.2 has)
              | inr past ↦ (let l = past.0 in absurd (omega arith))
            ]

        through_by : (l : Option ℕ) → l ≡ least → IsLeast l (reported_of seats) → length outs < drawn → EndsShort short outs
        through_by None is nil l = let e : end_of None drawn ≡ end_of least drawn = ap (λ (o : Option ℕ). end_of o drawn) is in absurd (omega (arith, ordered.all))
        through_by (Some m) is least_is l = let e : end_of (Some m) drawn ≡ end_of least drawn = ap (λ (o : Option ℕ). end_of o drawn) is in ends_short m (omega (arith, ordered.all)) least_is.0

        pub is_round : IsRound (IsOutOf fs) short drawn outs
        is_round = record {
          few = (let inside = end_inside least is_least in omega (arith, ordered.all));
          each = ordered.each;
          before = whole_before;
          through = through_by least refl is_least;
        }

      pub round_of : {E : Type 0} {A : Type 0} (pieces : ℕ) (r : Result (Vec O A) E) → drawn ≡ pieces → IfOk r (λ outs. IsInOrder fs (end_of least drawn) outs.items) → IfOk r (λ outs. IsRound (IsOutOf fs) short pieces outs.items)
      round_of pieces (Ok outs) all_drawn ordered = subst (λ (k : ℕ). IsRound (IsOutOf fs) short k outs.items) all_drawn (is_round outs.items ordered)
      round_of pieces (Err e) all_drawn ordered = tt

-- a fact about each finished piece is one about the results of a round
module _ {O : Type 0} (gives : ℕ → O → Type 0) (short : O → Bool) (pieces : ℕ) (fs : List (Finished O)) (each : All (λ f. gives f.number f.out) fs) where
  pub round_of_results : {E A : Type 0} (r : Result (Vec O A) E) → IfOk r (λ outs. IsRound (IsOutOf fs) short pieces outs.items) → IfOk r (λ outs. IsRound gives short pieces outs.items)
  round_of_results (Ok outs) round = record {
    few = round.few;
    each = λ n out at. All-head (gives n) out [] (subst (λ (os : List O). All (gives n) os) (round.each n out at) (outs_at-each gives n fs each));
    before = round.before;
    through = round.through;
  }
  round_of_results (Err e) round = tt

-- if there are seats and all are done, some seat is done
pub some_done : (ss : List SeatState) → 0 < length ss → All (λ s. s.done ≡ true) ss → Any (λ s. IsTrue s.done) ss
some_done [] some all = absurd (omega arith)
some_done (s ∷ ss) some all = (0, s, omega arith, refl, All-head (λ (u : SeatState). u.done ≡ true) s ss all)
