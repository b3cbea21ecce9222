-- Seats, as contracts see them and by what they know.
use Rattle.std.proofs.Common.{◌≡◌, ℕ, zero, suc, ◌+◌, ◌-◌, ◌<◌, Bool, true, nat_lt, List, [], ◌∷◌, ◌++◌, length, get_or, All, Any, Option, Some, IfSome, IsTrue, replicate, refl, sym, ap, ◌∙◌, subst, arith, append_assoc}
use Rattle.std.proofs.lemmas.Bool.Decides.{nat_tests}
use Rattle.std.proofs.lemmas.List.{append-nil, replicate_more}
use Rattle.std.proofs.lemmas.List.Elements.{All-nil, All-cons, All-push, All-head, All-tail, All-contains, Contains-append_right}
use Rattle.std.proofs.lemmas.List.Quantifiers.{all_pairs_push}
use mathlib.Core.Option.{some}
use lib.ListN.{get_elem?}
use Rattle.atomic_table.specs.Table.{Me, Step, Final, Seen}
use Rattle.atomic_table.specs.Seated.{TableId}
use Rattle.status_board.specs.declared.rules.Known.{Known}
use Rattle.status_board.specs.declared.rules.Limits.{Limits}
use Rattle.status_board.specs.Numbers.{last_of, IsAscending}
use Rattle.status_board.specs.Seats.{BoardId, SeatState, fresh, drawn_of, barred_of, reported_of}
use Rattle.status_board.specs.Shared.{known, drawn_by, after_draw, Draws, merged, stays, weight, shown, IsSeat, Kept}
use Rattle.status_board.proofs.Cuts.{Closing, closes}
use Rattle.status_board.proofs.Lasts.{last_of-snoc}

abbrev pub Hand : Type 0
Hand = Me (Unit {0}) Known

lt_true : (a b : ℕ) → a < b → nat_lt a b ≡ true
lt_true a b h = grind (arith, nat_tests)

drawn_is : (v : Known) (n : ℕ) → n < v.pieces → after_draw v n ≡ drawn_by true v n
drawn_is v n within = ap (λ (b : Bool). drawn_by b v n) (lt_true n v.pieces within)

drew_is : (st : Step (Unit {0})) (me me' : Hand) (n : ℕ) → n < me.0.pieces → Draws st me n me' → me' ≡ (drawn_by true me.0 n, me.1)
drew_is st me me' n within draws = draws.0 ∙ ap (λ (v : Known). (v, me.1)) (drawn_is me.0 n within)

-- a seat that drew a number
pub drew : (st : Step (Unit {0})) (me me' : Hand) (n : ℕ) (last : Option ℕ) (done : Bool) → IsSeat me last done → n < me.0.pieces → Draws st me n me' → IsSeat me' (Some n) done
drew st me me' n last done seat within draws = subst (λ (m : Hand). IsSeat m (Some n) done) (sym (drew_is st me me' n within draws)) record {
  empty = seat.empty;
  one = seat.one;
  missed = seat.missed;
  latest = sym (last_of-snoc me.0.drawn n);
  ascends = all_pairs_push (λ x y. x < y) me.0.drawn n seat.ascends draws.1;
  inside = All-push (λ k. k < me.0.pieces) me.0.drawn n seat.inside within;
}

pub drew_last : (st : Step (Unit {0})) (me me' : Hand) (n : ℕ) → n < me.0.pieces → Draws st me n me' → last_of me'.0.drawn ≡ Some n
drew_last st me me' n within draws = ap (λ (m : Hand). last_of m.0.drawn) (drew_is st me me' n within draws) ∙ last_of-snoc me.0.drawn n

last_below : (n : ℕ) (xs : List ℕ) → All (λ k. k < n) xs → IfSome (last_of xs) (λ x. x < n)
last_below n [] all = tt
last_below n (x ∷ []) all = All-head (λ k. k < n) x [] all
last_below n (x ∷ y ∷ ys) all = last_below n (y ∷ ys) (All-tail (λ k. k < n) x (y ∷ ys) all)

pub last_among : (n : ℕ) (xs : List ℕ) (x : ℕ) → last_of xs ≡ Some x → All (λ k. k < n) xs → x < n
last_among n xs x is all = subst (λ (o : Option ℕ). IfSome o (λ y. y < n)) is (last_below n xs all)

-- one part was split off a token that wasn't used
pub cut_more : (pieces k : ℕ) (me me' : Hand) → me ≡ (known pieces k [] [] [] 0, []) → me' ≡ (stays me.0, me.1) → me' ≡ (known pieces (k - 1) [] [] [] 0, [])
cut_more pieces k me me' is cut = cut ∙ ap (λ (m : Hand). (stays m.0, m.1)) is

-- one more fresh seat
pub fresh_more : (id : BoardId) (n : ℕ) (seats more : List SeatState) (s : SeatState) → seats ≡ replicate n (fresh id) → more ≡ seats ++ s ∷ [] → s ≡ fresh id → more ≡ replicate (n + 1) (fresh id)
fresh_more id n seats more s is push seat = push ∙ (λ i. is i ++ seat i ∷ []) ∙ replicate_more n (fresh id)

-- how many of the seats are done
abbrev pub done_of : List SeatState → ℕ
done_of [] = 0
done_of (s ∷ ss) = done_of ss + weight s.done

-- what the seats know together
abbrev pub gathered : ℕ → List SeatState → Known
gathered pieces ss = known pieces (length ss) (drawn_of ss) (barred_of ss) (reported_of ss) (done_of ss)

hand_is : (table : TableId) (me : Hand) (last : Option ℕ) (done : Bool) (s : SeatState) → IsSeat me last done → shown table me.0 done ≡ s
    → me ≡ (known s.board.pieces 1 s.drawn s.barred s.reported (weight s.done), [])
hand_is table me last done s seat view =
    let missed : me.0.misses ≡ weight s.done = seat.missed ∙ ap (λ (z : SeatState). weight z.done) view in
    λ i. (known ((view i).board.pieces) (seat.one i) ((view i).drawn) ((view i).barred) ((view i).reported) (missed i), seat.empty i)

-- the seats that are no longer left were joined
pub record Gathers (table : TableId) (pieces : ℕ) (all left : List SeatState) (held : TableId) (me : Hand) : Type 0 where
  pub rest : List SeatState
  pub split : left ++ rest ≡ all
  pub table_is : held ≡ table
  pub me_is : me ≡ (gathered pieces rest, [])
  pub some_part : 0 < length rest
  pub ascends : All (λ (s : SeatState). IsAscending s.drawn) rest

board_of : (id : BoardId) (left rest : List SeatState) (s : SeatState) → All (λ (z : SeatState). z.board ≡ id) (left ++ s ∷ rest) → s.board ≡ id
board_of id left rest s all =
    All-contains (λ (z : SeatState). z.board ≡ id) (left ++ s ∷ rest) s all (Contains-append_right left (s ∷ rest) s (0, omega arith, refl))

ascends_of : (table : TableId) (me : Hand) (last : Option ℕ) (done : Bool) (s : SeatState) → IsSeat me last done → shown table me.0 done ≡ s → IsAscending s.drawn
ascends_of table me last done s seat view = subst IsAscending (ap (λ (z : SeatState). z.drawn) view) seat.ascends

pub begins : (id : BoardId) (all left : List SeatState) (s : SeatState) (held : TableId) (me : Hand) (last : Option ℕ) (done : Bool)
    → All (λ (z : SeatState). z.board ≡ id) all → all ≡ left ++ s ∷ [] → IsSeat me last done → shown held me.0 done ≡ s → Gathers id.table id.pieces all left held me
begins id all left s held me last done boards popped seat view =
    let board = board_of id left [] s (subst (All (λ (z : SeatState). z.board ≡ id)) popped boards) in
    let hand = hand_is held me last done s seat view in
    let pieces : s.board.pieces ≡ id.pieces = ap (λ (b : BoardId). b.pieces) board in
    let one : 1 ≡ length (s ∷ []) = omega arith in
    let count : weight s.done ≡ 0 + weight s.done = omega arith in record {
      rest = s ∷ [];
      split = sym popped;
      table_is = ap (λ (z : SeatState). z.board.table) view ∙ ap (λ (b : BoardId). b.table) board;
      me_is = hand ∙ (λ i. (known (pieces i) (one i) (sym (append-nil s.drawn) i) (sym (append-nil s.barred) i) (sym (append-nil s.reported) i) (count i), []));
      some_part = omega arith;
      ascends = All-cons (λ (z : SeatState). IsAscending z.drawn) s [] (ascends_of held me last done s seat view) (All-nil (λ (z : SeatState). IsAscending z.drawn));
    }

-- the board of the seat that is popped next
pub next_board : (id : BoardId) (table : TableId) (pieces : ℕ) (all before left : List SeatState) (s : SeatState) (held : TableId) (me : Hand)
    → All (λ (z : SeatState). z.board ≡ id) all → Gathers table pieces all before held me → before ≡ left ++ s ∷ [] → s.board ≡ id
next_board id table pieces all before left s held me boards g popped =
    let whole : all ≡ left ++ s ∷ g.rest = sym g.split ∙ ap (λ (l : List SeatState). l ++ g.rest) popped ∙ append_assoc left (s ∷ []) g.rest in
    board_of id left g.rest s (subst (All (λ (z : SeatState). z.board ≡ id)) whole boards)

pub gathers : (id : BoardId) (all before left : List SeatState) (s : SeatState) (held held' other : TableId) (me me' seat_me : Hand) (last : Option ℕ) (done : Bool)
    → All (λ (z : SeatState). z.board ≡ id) all → Gathers id.table id.pieces all before held me → before ≡ left ++ s ∷ []
    → IsSeat seat_me last done → shown other seat_me.0 done ≡ s → held' ≡ held → me' ≡ (merged me.0 seat_me.0, me.1) → Gathers id.table id.pieces all left held' me'
gathers id all before left s held held' other me me' seat_me last done boards g popped seat view table_is joined =
    let hand = hand_is other seat_me last done s seat view in
    let more : length g.rest + 1 ≡ length (s ∷ g.rest) = omega arith in record {
      rest = s ∷ g.rest;
      split = sym (append_assoc left (s ∷ []) g.rest) ∙ ap (λ (l : List SeatState). l ++ g.rest) (sym popped) ∙ g.split;
      table_is = table_is ∙ g.table_is;
      me_is = joined
          ∙ (λ i. (merged ((g.me_is i).0) ((hand i).0), (g.me_is i).1))
          ∙ (λ i. (known id.pieces (more i) (drawn_of (s ∷ g.rest)) (barred_of (s ∷ g.rest)) (reported_of (s ∷ g.rest)) (done_of (s ∷ g.rest)), []));
      some_part = omega arith;
      ascends = All-cons (λ (z : SeatState). IsAscending z.drawn) s g.rest (ascends_of other seat_me last done s seat view) g.ascends;
    }

some_at : (ss : List SeatState) (k : ℕ) (x : SeatState) → k < length ss → get_or ss k x ≡ x → IsTrue x.done → 0 < done_of ss
some_at [] k x within is done = absurd (omega arith)
some_at (s ∷ ss) zero x within is done =
    let one : weight s.done ≡ 1 = ap (λ (z : SeatState). weight z.done) is ∙ ap weight done in
    omega arith
some_at (s ∷ ss) (suc k) x within is done = let more = some_at ss k x (omega arith) is done in omega arith

-- if a seat is done, some are
pub some_done : (ss : List SeatState) → Any (λ (s : SeatState). IsTrue s.done) ss → 0 < done_of ss
some_done ss any = some_at ss any.0 any.1 any.2 any.3 any.4

-- once no seat is left, all were joined
pub ended : (table : TableId) (pieces : ℕ) (all left : List SeatState) (held : TableId) (me : Hand) → Gathers table pieces all left held me → length left ≡ 0 → me ≡ (gathered pieces all, [])
ended table pieces all [] held me g none_left = g.me_is ∙ ap (λ (l : List SeatState). (gathered pieces l, [])) g.split
ended table pieces all (s ∷ ss) held me g none_left = absurd (omega arith)

-- the words once all seats are back
pub words_say : (key : Limits) (pieces seats : ℕ) → key ≡ record { pieces = pieces; seats = seats }
    → (all : List SeatState) (id : ℕ) (me : Hand) → me ≡ (gathered pieces all, []) → length all ≡ seats
    → (words : List ℕ) (slots : List (Unit {0})) → Final (Seen (Kept key.pieces key.seats) id me.0) words slots
    → (n m : ℕ) → get_elem? words 0 ≡ some n → get_elem? words 1 ≡ some m → Closing pieces n m (gathered pieces all)
words_say key pieces seats key_is all id me me_is whole words slots final n m first second =
    let parts : me.0.parts ≡ key.seats = ap (λ (h : Hand). h.0.parts) me_is ∙ whole ∙ sym (ap (λ (l : Limits). l.seats) key_is) in
    let closing = closes key.pieces key.seats final.0 final.1.0 id me.0 final.1.1 parts words final.2 n m first second in
    subst (λ (v : Known). Closing pieces n m v) (ap (λ (h : Hand). h.0) me_is) (subst (λ (p : ℕ). Closing p n m me.0) (ap (λ (l : Limits). l.pieces) key_is) closing)
