-- The rule of a board's two words, and what a seat learns from each step. The first word is the next number to be drawn. The
-- second is the least number that was reported, or the number of pieces if none was.
-- Each fact about all seats is a sum over what they know. So it stays true if one seat's knowledge is split in two, or that of
-- two seats is joined.
use Rattle.std.specs.Prelude.{◌≡◌, ◌<◌, ◌≤◌, ◌+◌, ◌-◌, ◌^◌, ℕ, Bool, true, false, nat_lt, min, if◌then◌else◌, List, [], ◌∷◌, ◌++◌, Option, All}
use mathlib.Core.Option.{some}
use lib.ListN.{get_elem?}
use Rattle.atomic_table.specs.Table.{State, Me, Step}
use Rattle.atomic_table.specs.Seated.{TableId}
use Rattle.status_board.specs.declared.rules.Known.{Known}
use Rattle.status_board.specs.Numbers.{times, last_of, IsAscending}
use Rattle.status_board.specs.Seats.{SeatState}

abbrev pub known : ℕ → ℕ → List ℕ → List ℕ → List ℕ → ℕ → Known
known p n d b r m = record { pieces = p; parts = n; drawn = d; barred = b; reported = r; misses = m }

-- The sum of f over a list.
abbrev pub total : {V : Type 0} → (V → ℕ) → List V → ℕ
total f [] = 0
total f (v ∷ vs) = f v + total f vs

-- How many numbers of a list are below t.
abbrev pub below : ℕ → List ℕ → ℕ
below t [] = 0
below t (x ∷ xs) = (if nat_lt x t then 1 else 0) + below t xs

-- What one seat knows is true of the words.
pub record Fits (pieces next least : ℕ) (v : Known) : Type 0 where
  pub limit : 0 < v.parts → v.pieces ≡ pieces
  pub drawn : All (λ k. k < next) v.drawn
  pub reported : All (λ k. least ≤ k) v.reported
  pub inside : All (λ k. k < pieces) v.reported
  pub barred : All (λ k. least < k) v.barred
  pub barred_inside : All (λ k. k < pieces) v.barred
  pub missed : 0 < v.misses → pieces ≤ next
  pub few : v.misses ≤ v.parts
  pub idle : v.parts ≡ 0 → (v.drawn ≡ []) × (v.reported ≡ [])

-- What all seats know together: every part is held by a seat, each number that was dealt was drawn once, and the least
-- reported number is the second word.
pub record Facts (pieces seats next least : ℕ) (views : List Known) : Type 0 where
  pub small : pieces + seats < 2 ^ 63
  pub parts : total (λ (v : Known). v.parts) views ≡ seats
  pub once : (x : ℕ) → total (λ (v : Known). times x v.drawn) views ≡ (if nat_lt x (min next pieces) then 1 else 0)
  pub room : next ≤ pieces + total (λ (v : Known). v.misses) views
  pub top : least ≤ pieces
  pub low : (t : ℕ) → t ≤ least → total (λ (v : Known). below t v.reported) views ≡ 0
  pub met : least < pieces → 0 < total (λ (v : Known). below (least + 1) v.reported) views
  pub each : (i : ℕ) (v : Known) → get_elem? views i ≡ some v → Fits pieces next least v

-- The rule: the words are the two numbers, and the facts hold.
pub record Kept (pieces seats : ℕ) (s : State (Unit {0}) Known) : Type 0 where
  pub next : ℕ
  pub least : ℕ
  pub words : s.words ≡ next ∷ least ∷ []
  pub facts : Facts pieces seats next least s.views

abbrev Hand : Type 0
Hand = Me (Unit {0}) Known

-- After a draw that found a number, and after one that found none.
abbrev pub drawn_by : Bool → Known → ℕ → Known
drawn_by true v n = known v.pieces v.parts (v.drawn ++ n ∷ []) v.barred v.reported v.misses
drawn_by false v n = known v.pieces v.parts v.drawn v.barred v.reported (v.misses + 1)

abbrev pub after_draw : Known → ℕ → Known
after_draw v n = drawn_by (nat_lt n v.pieces) v n

-- A draw finds a number that is above all that this seat drew.
abbrev pub Draws : Step (Unit {0}) → Hand → ℕ → Hand → Type 0
Draws st me n me' = (me' ≡ (after_draw me.0 n, me.1)) × All (λ k. k < n) me.0.drawn

-- After a look that found the piece barred, and after one that didn't.
abbrev pub looked_by : Bool → Known → ℕ → Known
looked_by true v k = known v.pieces v.parts v.drawn (v.barred ++ k ∷ []) v.reported v.misses
looked_by false v k = v

abbrev pub after_look : Known → ℕ → ℕ → Known
after_look v k n = looked_by (nat_lt n k) v k

-- A look finds a number that isn't above any that this seat reported, and is below all that it found barred.
abbrev pub Looks : ℕ → Step (Unit {0}) → Hand → ℕ → Hand → Type 0
Looks k st me n me' = (me' ≡ (after_look me.0 k n, me.1)) × All (λ j. n ≤ j) me.0.reported × All (λ j. n < j) me.0.barred

abbrev pub after_report : Known → ℕ → Known
after_report v k = known v.pieces v.parts v.drawn v.barred (v.reported ++ k ∷ []) v.misses

-- A report adds a number to those that this seat reported.
abbrev pub Reports : Step (Unit {0}) → Hand → ℕ → Hand → Type 0
Reports st me n me' = me' ≡ (after_report me.0 st.first, me.1)

-- One part is split off. It has done nothing yet.
abbrev pub stays : Known → Known
stays v = known v.pieces (v.parts - 1) v.drawn v.barred v.reported v.misses

abbrev pub goes : Known → Known
goes v = known v.pieces 1 [] [] [] 0

-- What two seats know together, with the numbers of the second first.
abbrev pub merged : Known → Known → Known
merged v w = known v.pieces (v.parts + w.parts) (w.drawn ++ v.drawn) (w.barred ++ v.barred) (w.reported ++ v.reported) (v.misses + w.misses)

abbrev pub nobody : Known
nobody = known 0 0 [] [] [] 0

abbrev pub weight : Bool → ℕ
weight true = 1
weight false = 0

-- The state of a seat, as contracts see it.
abbrev pub shown : TableId → Known → Bool → SeatState
shown table v done = record { board = record { table = table; pieces = v.pieces }; drawn = v.drawn; barred = v.barred; reported = v.reported; done = done }

-- A seat's fields agree with what its token knows.
pub record IsSeat (me : Me (Unit {0}) Known) (last : Option ℕ) (done : Bool) : Type 0 where
  pub empty : me.1 ≡ []
  pub one : me.0.parts ≡ 1
  pub missed : me.0.misses ≡ weight done
  pub latest : last ≡ last_of me.0.drawn
  pub ascends : IsAscending me.0.drawn
  pub inside : All (λ k. k < me.0.pieces) me.0.drawn
