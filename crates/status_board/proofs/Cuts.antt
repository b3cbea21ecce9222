-- The rule is kept when a seat is split off, when two seats are joined, and by the last seat.
use Rattle.std.proofs.Common.{◌≡◌, ◌≢◌, ℕ, ◌+◌, ◌<◌, ◌≤◌, Bool, true, false, cond, nat_lt, min, if◌then◌else◌, List, [], ◌∷◌, ◌++◌, set, All, Some, None, refl, sym, ap, ◌∙◌, subst, ⊎_elim, arith}
use mathlib.Core.Option.{some, some-injective}
use lib.ListN.{get_elem?}
use Rattle.std.proofs.lemmas.Bool.{cases_lt, ltb-true, ltb-false}
use Rattle.std.proofs.lemmas.List.Elements.{All-nil, All-append}
use Rattle.atomic_table.specs.Table.{State, Splits, Joins}
use Rattle.atomic_table.proofs.Lists.{at_snoc, set_else}
use Rattle.status_board.specs.declared.rules.Known.{Known}
use Rattle.status_board.specs.Numbers.{times, HasEachBelow, IsLeast, LiesBelow}
use Rattle.status_board.specs.Shared.{total, below, Fits, Facts, Kept, stays, goes, merged, nobody}
use Rattle.status_board.proofs.Totals.{total_set, total_snoc, total_alone, each_set}
use Rattle.status_board.proofs.Counts.{times-append, below-append, contains_met, empty_between}

-- the knowledge of the seat that has every part; n and m are the words
pub record Closing (pieces n m : ℕ) (v : Known) : Type 0 where
  pub drawn : HasEachBelow (min n pieces) v.drawn
  pub least : IsLeast (if nat_lt m pieces then Some m else None) v.reported
  pub barred : All (LiesBelow (if nat_lt m pieces then Some m else None)) v.barred
  pub through : 0 < v.misses → pieces ≤ n

cut_sum : (f : Known → ℕ) (views : List Known) (id : ℕ) (v : Known) → get_elem? views id ≡ some v → f (stays v) + f (goes v) ≡ f v → total f (set views id (stays v) ++ goes v ∷ []) ≡ total f views
cut_sum f views id v at adds =
    let s = total_set f views id v (stays v) at in
    let t = total_snoc f (set views id (stays v)) (goes v) in
    omega arith

join_sum : (f : Known → ℕ) (views : List Known) (id other : ℕ) (v w : Known) → get_elem? views id ≡ some v → get_elem? (set views id (merged v w)) other ≡ some w → f (merged v w) ≡ f v + f w → f nobody ≡ 0
    → total f (set (set views id (merged v w)) other nobody) ≡ total f views
join_sum f views id other v w at at_other adds none_left =
    let s = total_set f views id v (merged v w) at in
    let t = total_set f (set views id (merged v w)) other w nobody at_other in
    omega arith

module _ (pieces seats : ℕ) where
  abbrev F : ℕ → ℕ → List Known → Type 0
  F = Facts pieces seats

  abbrev K : State (Unit {0}) Known → Type 0
  K = Kept pieces seats

  cuts_at : (next least id : ℕ) (views : List Known) (v : Known) → F next least views → get_elem? views id ≡ some v → 1 < v.parts → v.misses ≡ 0 → F next least (set views id (stays v) ++ goes v ∷ [])
  cuts_at next least id views v k at several no_miss =
      let fits = k.each id v at in
      let left : Fits pieces next least (stays v) = record {
        limit = λ _. fits.limit (omega arith);
        drawn = fits.drawn;
        reported = fits.reported;
        inside = fits.inside;
        barred = fits.barred;
        barred_inside = fits.barred_inside;
        missed = fits.missed;
        few = omega arith;
        idle = λ no_part. absurd (omega arith);
      } in
      let right : Fits pieces next least (goes v) = record {
        limit = λ _. fits.limit (omega arith);
        drawn = All-nil (λ j. j < next);
        reported = All-nil (λ j. least ≤ j);
        inside = All-nil (λ j. j < pieces);
        barred = All-nil (λ j. least < j);
        barred_inside = All-nil (λ j. j < pieces);
        missed = λ some_missed. absurd (omega arith);
        few = omega arith;
        idle = λ no_part. (refl, refl);
      } in record {
        small = k.small;
        parts = let s = cut_sum (λ (u : Known). u.parts) views id v at (omega arith) in let p = k.parts in omega arith;
        once = λ x. let s = cut_sum (λ (u : Known). times x u.drawn) views id v at (omega arith) in let o = k.once x in omega arith;
        room = let s = cut_sum (λ (u : Known). u.misses) views id v at (omega arith) in let r = k.room in omega arith;
        top = k.top;
        low = λ t le. let s = cut_sum (λ (u : Known). below t u.reported) views id v at (omega arith) in let l = k.low t le in omega arith;
        met = λ reached. let s = cut_sum (λ (u : Known). below (least + 1) u.reported) views id v at (omega arith) in let m = k.met reached in omega arith;
        each = λ i u there. ⊎_elim
            (each_set (Fits pieces next least) views id (stays v) left k.each i u)
            (λ is. subst (Fits pieces next least) is right)
            (at_snoc (set views id (stays v)) (goes v) u i there);
      }

  pub cuts : (id : ℕ) (v : Known) → 1 < v.parts → v.misses ≡ 0 → Splits K id v (stays v) (goes v)
  cuts id v several no_miss s k at =
      record { next = k.next; least = k.least; words = k.words; facts = cuts_at k.next k.least id s.views v k.facts at several no_miss }

  glued : (next least : ℕ) (v w : Known) → 0 < v.parts → Fits pieces next least v → Fits pieces next least w → Fits pieces next least (merged v w)
  glued next least v w some_part fv fw = record {
    limit = λ _. fv.limit some_part;
    drawn = All-append (λ j. j < next) w.drawn v.drawn fw.drawn fv.drawn;
    reported = All-append (λ j. least ≤ j) w.reported v.reported fw.reported fv.reported;
    inside = All-append (λ j. j < pieces) w.reported v.reported fw.inside fv.inside;
    barred = All-append (λ j. least < j) w.barred v.barred fw.barred fv.barred;
    barred_inside = All-append (λ j. j < pieces) w.barred v.barred fw.barred_inside fv.barred_inside;
    missed = λ some_missed. ⊎_elim fv.missed (λ no_miss. fw.missed (omega arith)) (cases_lt 0 v.misses);
    few = let a = fv.few in let b = fw.few in omega arith;
    idle = λ no_part. absurd (omega arith);
  }

  nobody_fits : (next least : ℕ) → Fits pieces next least nobody
  nobody_fits next least = record {
    limit = λ some_part. absurd (omega arith);
    drawn = All-nil (λ j. j < next);
    reported = All-nil (λ j. least ≤ j);
    inside = All-nil (λ j. j < pieces);
    barred = All-nil (λ j. least < j);
    barred_inside = All-nil (λ j. j < pieces);
    missed = λ some_missed. absurd (omega arith);
    few = omega arith;
    idle = λ no_part. (refl, refl);
  }

  joins_at : (next least id other : ℕ) (views : List Known) (v w : Known) → F next least views → get_elem? views id ≡ some v → other ≢ id → get_elem? (set views id (merged v w)) other ≡ some w → 0 < v.parts
      → F next least (set (set views id (merged v w)) other nobody)
  joins_at next least id other views v w k at apart at_other some_part =
      let fv = k.each id v at in
      let fw = k.each other w (sym (set_else views id other (merged v w) apart) ∙ at_other) in record {
        small = k.small;
        parts = let s = join_sum (λ (u : Known). u.parts) views id other v w at at_other refl refl in let p = k.parts in omega arith;
        once = λ x.
            let a = times-append x w.drawn v.drawn in
            let s = join_sum (λ (u : Known). times x u.drawn) views id other v w at at_other (omega arith) refl in
            let o = k.once x in
            omega arith;
        room = let s = join_sum (λ (u : Known). u.misses) views id other v w at at_other refl refl in let r = k.room in omega arith;
        top = k.top;
        low = λ t le.
            let a = below-append t w.reported v.reported in
            let s = join_sum (λ (u : Known). below t u.reported) views id other v w at at_other (omega arith) refl in
            let l = k.low t le in
            omega arith;
        met = λ reached.
            let a = below-append (least + 1) w.reported v.reported in
            let s = join_sum (λ (u : Known). below (least + 1) u.reported) views id other v w at at_other (omega arith) refl in
            let m = k.met reached in
            omega arith;
        each = each_set (Fits pieces next least) (set views id (merged v w)) other nobody (nobody_fits next least)
            (each_set (Fits pieces next least) views id (merged v w) (glued next least v w some_part fv fw) k.each);
      }

  pub joins : (id : ℕ) (v : Known) (other : ℕ) (w : Known) → 0 < v.parts → Joins K id v other w (merged v w) nobody
  joins id v other w some_part s k at apart at_other =
      record { next = k.next; least = k.least; words = k.words; facts = joins_at k.next k.least id other s.views v w k.facts at apart at_other some_part }

  least_by : (b : Bool) (next least : ℕ) (v : Known) → Fits pieces next least v → (least < pieces → 0 < below (least + 1) v.reported) → nat_lt least pieces ≡ b → IsLeast (cond b (Some least) None) v.reported
  least_by true next least v fits met is = (contains_met least v.reported fits.reported (met (ltb-true least pieces is)), fits.reported)
  least_by false next least v fits met is = empty_between least pieces v.reported fits.reported fits.inside (ltb-false least pieces is)

  barred_by : (b : Bool) (next least : ℕ) (v : Known) → Fits pieces next least v → nat_lt least pieces ≡ b → All (LiesBelow (cond b (Some least) None)) v.barred
  barred_by true next least v fits is = fits.barred
  barred_by false next least v fits is = λ k d within.
      let p = fits.barred k d within in
      let q = fits.barred_inside k d within in
      let r = ltb-false least pieces is in
      absurd (omega arith)

  closes_at : (next least id : ℕ) (views : List Known) (v : Known) → F next least views → get_elem? views id ≡ some v → v.parts ≡ seats → Closing pieces next least v
  closes_at next least id views v k at whole =
      let fits = k.each id v at in
      let all_parts = k.parts ∙ sym whole in record {
        drawn = λ x.
            let alone = total_alone (λ (u : Known). times x u.drawn) (λ (u : Known). u.parts) views id v at all_parts (λ j w there no_part. ap (times x) ((k.each j w there).idle no_part).0) in
            sym alone ∙ k.once x;
        least = least_by (nat_lt least pieces) next least v fits
            (λ reached.
            let alone = total_alone (λ (u : Known). below (least + 1) u.reported) (λ (u : Known). u.parts) views id v at all_parts (λ j w there no_part. ap (below (least + 1)) ((k.each j w there).idle no_part).1) in
            subst (λ (n : ℕ). 0 < n) alone (k.met reached))
            refl;
        barred = barred_by (nat_lt least pieces) next least v fits refl;
        through = fits.missed;
      }

  pub closes : (s : State (Unit {0}) Known) → K s → (id : ℕ) (v : Known) → get_elem? s.views id ≡ some v → v.parts ≡ seats → (ws : List ℕ) → s.words ≡ ws
      → (n m : ℕ) → get_elem? ws 0 ≡ some n → get_elem? ws 1 ≡ some m → Closing pieces n m v
  closes s k id v at whole ws words n m first second =
      let is = sym words ∙ k.words in
      let next_is : k.next ≡ n = some-injective k.next n (sym (ap (λ (l : List ℕ). get_elem? l 0) is) ∙ first) in
      let least_is : k.least ≡ m = some-injective k.least m (sym (ap (λ (l : List ℕ). get_elem? l 1) is) ∙ second) in
      subst (λ (a : ℕ). Closing pieces a m v) next_is (subst (λ (b : ℕ). Closing pieces k.next b v) least_is (closes_at k.next k.least id s.views v k.facts at whole))
