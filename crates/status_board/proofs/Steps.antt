-- A draw, a look and a report keep the rule.
use Rattle.std.proofs.Common.{◌≡◌, ℕ, ◌+◌, ◌%◌, ◌^◌, ◌<◌, ◌≤◌, Bool, true, false, cond, nat_lt, min, List, [], ◌∷◌, get_or, set, refl, sym, ap, subst, inl, inr, arith}
use mathlib.Core.Option.{none, some}
use lib.ListN.{get_elem?}
use Rattle.std.proofs.lemmas.Bool.{cases_lt, ltb-true, ltb-false}
use Rattle.std.proofs.lemmas.List.Elements.{All-push, All-weaker}
use Rattle.atomic_table.specs.Table.{State, Me, Act, step, keeps, Valid, homes_after, carried_after, Allows}
use Rattle.status_board.specs.declared.rules.Known.{Known}
use Rattle.status_board.specs.Numbers.{times}
use Rattle.status_board.specs.Shared.{total, below, Fits, Facts, Kept, drawn_by, after_draw, Draws, looked_by, after_look, Looks, after_report, Reports}
use Rattle.status_board.proofs.Totals.{total_set, total_le, each_set}
use Rattle.status_board.proofs.Counts.{times-append, below-append, once_more, below_one_none, below_one}

module _ (pieces seats : ℕ) where
  abbrev M : Type 0
  M = Me (Unit {0}) Known

  abbrev F : ℕ → ℕ → List Known → Type 0
  F = Facts pieces seats

  abbrev K : State (Unit {0}) Known → Type 0
  K = Kept pieces seats

  -- a step on the first word, in plain facts
  first_word : (slots id : ℕ) (me : M) (f : ℕ → ℕ) (learned : ℕ → M → Type 0)
      → ((next least : ℕ) (views : List Known) → F next least views → get_elem? views id ≡ some me.0 → (w : Known) × F (f next) least (set views id w) × learned next (w, me.1))
      → Allows K slots id me 0 f learned
  first_word slots id me f learned go s k homes at small =
      let t = go k.next k.least s.views k.facts at in
      let P : List ℕ → Type 0 = λ ws. (w : Known) × (a : Act (Unit {0})) × Valid s.homes me.1 a
      × K record { words = set ws 0 (f (get_or ws 0 0)); homes = homes_after s.homes me.1 a; views = set s.views id w }
      × learned (get_or ws 0 0) (w, carried_after me.1 a) in
      subst P (sym k.words) (t.0, keeps, tt, record { next = f k.next; least = k.least; words = refl; facts = t.1 }, t.2)

  -- a step on the second word
  second_word : (slots id : ℕ) (me : M) (f : ℕ → ℕ) (learned : ℕ → M → Type 0)
      → ((next least : ℕ) (views : List Known) → F next least views → get_elem? views id ≡ some me.0 → (w : Known) × F next (f least) (set views id w) × learned least (w, me.1))
      → Allows K slots id me 1 f learned
  second_word slots id me f learned go s k homes at small =
      let t = go k.next k.least s.views k.facts at in
      let P : List ℕ → Type 0 = λ ws. (w : Known) × (a : Act (Unit {0})) × Valid s.homes me.1 a
      × K record { words = set ws 1 (f (get_or ws 1 0)); homes = homes_after s.homes me.1 a; views = set s.views id w }
      × learned (get_or ws 1 0) (w, carried_after me.1 a) in
      subst P (sym k.words) (t.0, keeps, tt, record { next = k.next; least = f k.least; words = refl; facts = t.1 }, t.2)

  -- a seat's knowledge stays true if the next number grows and the least reported one doesn't
  goes_on : (next least next' least' : ℕ) (v : Known) → next ≤ next' → least' ≤ least → Fits pieces next least v → Fits pieces next' least' v
  goes_on next least next' least' v more less fits = record {
    limit = fits.limit;
    drawn = All-weaker (λ k. k < next) (λ k. k < next') (λ k (h : k < next). omega arith) v.drawn fits.drawn;
    reported = All-weaker (λ k. least ≤ k) (λ k. least' ≤ k) (λ k (h : least ≤ k). omega arith) v.reported fits.reported;
    inside = fits.inside;
    barred = All-weaker (λ k. least < k) (λ k. least' < k) (λ k (h : least < k). omega arith) v.barred fits.barred;
    barred_inside = fits.barred_inside;
    missed = λ some_missed. (let r = fits.missed some_missed in omega arith);
    few = fits.few;
    idle = fits.idle;
  }

  -- the next number can't wrap
  in_range : (next least : ℕ) (views : List Known) → F next least views → (next + 1) % 2 ^ 64 ≡ next + 1
  in_range next least views k =
      let few = total_le (λ (v : Known). v.misses) (λ (v : Known). v.parts) views (λ i v at. (k.each i v at).few) in
      let room = k.room in
      let small = k.small in
      let parts = k.parts in
      omega arith

  once_until : (x a b : ℕ) → a ≡ b → cond {A = ℕ} (nat_lt x a) 1 0 ≡ cond {A = ℕ} (nat_lt x b) 1 0
  once_until x a b same = ap (λ (n : ℕ). cond {A = ℕ} (nat_lt x n) 1 0) same

  draws_some : (next least id : ℕ) (views : List Known) (v : Known) → F next least views → get_elem? views id ≡ some v → v.parts ≡ 1 → next < pieces
      → F (next + 1) least (set views id (drawn_by true v next))
  draws_some next least id views v k at one below_pieces =
      let w = drawn_by true v next in
      let fits = k.each id v at in record {
        small = k.small;
        parts = let s = total_set (λ (u : Known). u.parts) views id v w at in let p = k.parts in omega arith;
        once = λ x.
            let s = total_set (λ (u : Known). times x u.drawn) views id v w at in
            let o = k.once x in
            let a = times-append x v.drawn (next ∷ []) in
            let m = once_more x next in
            let before = once_until x (min next pieces) next (omega arith) in
            let after = once_until x (min (next + 1) pieces) (next + 1) (omega arith) in
            omega arith;
        room = let s = total_set (λ (u : Known). u.misses) views id v w at in let r = k.room in omega arith;
        top = k.top;
        low = λ t le. let s = total_set (λ (u : Known). below t u.reported) views id v w at in let l = k.low t le in omega arith;
        met = λ reached. let s = total_set (λ (u : Known). below (least + 1) u.reported) views id v w at in let m = k.met reached in omega arith;
        each = each_set (Fits pieces (next + 1) least) views id w
            (let grown = goes_on next least (next + 1) least v (omega arith) (omega arith) fits in record {
              limit = fits.limit;
              drawn = All-push (λ j. j < next + 1) v.drawn next grown.drawn (omega arith);
              reported = fits.reported;
              inside = fits.inside;
              barred = fits.barred;
              barred_inside = fits.barred_inside;
              missed = grown.missed;
              few = fits.few;
              idle = λ no_part. absurd (omega arith);
            })
            (λ i u there. goes_on next least (next + 1) least u (omega arith) (omega arith) (k.each i u there));
      }

  draws_none : (next least id : ℕ) (views : List Known) (v : Known) → F next least views → get_elem? views id ≡ some v → v.parts ≡ 1 → v.misses ≡ 0 → pieces ≤ next
      → F (next + 1) least (set views id (drawn_by false v next))
  draws_none next least id views v k at one no_miss above_pieces =
      let w = drawn_by false v next in
      let fits = k.each id v at in record {
        small = k.small;
        parts = let s = total_set (λ (u : Known). u.parts) views id v w at in let p = k.parts in omega arith;
        once = λ x.
            let s = total_set (λ (u : Known). times x u.drawn) views id v w at in
            let o = k.once x in
            let same = once_until x (min (next + 1) pieces) (min next pieces) (omega arith) in
            omega arith;
        room = let s = total_set (λ (u : Known). u.misses) views id v w at in let r = k.room in omega arith;
        top = k.top;
        low = λ t le. let s = total_set (λ (u : Known). below t u.reported) views id v w at in let l = k.low t le in omega arith;
        met = λ reached. let s = total_set (λ (u : Known). below (least + 1) u.reported) views id v w at in let m = k.met reached in omega arith;
        each = each_set (Fits pieces (next + 1) least) views id w
            (let grown = goes_on next least (next + 1) least v (omega arith) (omega arith) fits in record {
              limit = fits.limit;
              drawn = grown.drawn;
              reported = fits.reported;
              inside = fits.inside;
              barred = fits.barred;
              barred_inside = fits.barred_inside;
              missed = λ _. omega arith;
              few = omega arith;
              idle = λ no_part. absurd (omega arith);
            })
            (λ i u there. goes_on next least (next + 1) least u (omega arith) (omega arith) (k.each i u there));
      }

  draws_at : (b : Bool) (next least id : ℕ) (views : List Known) (v : Known) → F next least views → get_elem? views id ≡ some v → v.parts ≡ 1 → v.misses ≡ 0 → nat_lt next pieces ≡ b
      → F (next + 1) least (set views id (drawn_by b v next))
  draws_at true next least id views v k at one no_miss is = draws_some next least id views v k at one (ltb-true next pieces is)
  draws_at false next least id views v k at one no_miss is = draws_none next least id views v k at one no_miss (ltb-false next pieces is)

  pub draws : (slots id : ℕ) (me : M) → me.0.parts ≡ 1 → me.0.misses ≡ 0 → Allows K slots id me 0 (λ n. (n + 1) % 2 ^ 64) (Draws (step slots 0 1 0 none) me)
  draws slots id me one no_miss = first_word slots id me (λ n. (n + 1) % 2 ^ 64) (Draws (step slots 0 1 0 none) me) (λ next least views k at.
      let fits = k.each id me.0 at in
      let limit = fits.limit (omega arith) in
      let w = after_draw me.0 next in
      let grown = draws_at (nat_lt next me.0.pieces) next least id views me.0 k at one no_miss (ap (λ (n : ℕ). nat_lt next n) (sym limit)) in
      (w, subst (λ (n : ℕ). F n least (set views id w)) (sym (in_range next least views k)) grown, (refl, fits.drawn)))

  looks_at : (b : Bool) (piece next least id : ℕ) (views : List Known) (v : Known) → F next least views → get_elem? views id ≡ some v → piece < pieces → nat_lt least piece ≡ b
      → F next least (set views id (looked_by b v piece))
  looks_at b piece next least id views v k at within is =
      let w = looked_by b v piece in record {
        small = k.small;
        parts = let s = total_set (λ (u : Known). u.parts) views id v w at in let p = k.parts in let e = same b (λ u. u.parts) refl in omega arith;
        once = λ x. let s = total_set (λ (u : Known). times x u.drawn) views id v w at in let o = k.once x in let e = same b (λ u. times x u.drawn) refl in omega arith;
        room = let s = total_set (λ (u : Known). u.misses) views id v w at in let r = k.room in let e = same b (λ u. u.misses) refl in omega arith;
        top = k.top;
        low = λ t le. let s = total_set (λ (u : Known). below t u.reported) views id v w at in let l = k.low t le in let e = same b (λ u. below t u.reported) refl in omega arith;
        met = λ reached. let s = total_set (λ (u : Known). below (least + 1) u.reported) views id v w at in let m = k.met reached in let e = same b (λ u. below (least + 1) u.reported) refl in omega arith;
        each = each_set (Fits pieces next least) views id w (fits b (k.each id v at) is) k.each;
      }
    where
      same : (b : Bool) (f : Known → ℕ) → f (looked_by true v piece) ≡ f v → f (looked_by b v piece) ≡ f v
      same true f e = e
      same false f e = refl

      fits : (b : Bool) → Fits pieces next least v → nat_lt least piece ≡ b → Fits pieces next least (looked_by b v piece)
      fits true had is = record {
        limit = had.limit;
        drawn = had.drawn;
        reported = had.reported;
        inside = had.inside;
        barred = All-push (λ j. least < j) v.barred piece had.barred (ltb-true least piece is);
        barred_inside = All-push (λ j. j < pieces) v.barred piece had.barred_inside within;
        missed = had.missed;
        few = had.few;
        idle = had.idle;
      }
      fits false had is = had

  pub looks : (slots id : ℕ) (me : M) (piece : ℕ) → piece < pieces → Allows K slots id me 1 (λ n. n) (Looks piece (step slots 1 0 0 none) me)
  looks slots id me piece within = second_word slots id me (λ n. n) (Looks piece (step slots 1 0 0 none) me) (λ next least views k at.
      let fits = k.each id me.0 at in
      (after_look me.0 piece least, looks_at (nat_lt least piece) piece next least id views me.0 k at within refl, (refl, fits.reported, fits.barred)))

  -- a report that is the least, and one that isn't
  reports_met : (piece least : ℕ) (before sum added : ℕ → ℕ) → piece < pieces → ((t : ℕ) → sum t ≡ before t + added t) → (least < pieces → 0 < before (least + 1)) → added (piece + 1) ≡ 1 → 0 < sum (min least piece + 1)
  reports_met piece least before sum added within adds met one = elim (cases_lt least piece) [
    | inl under ↦ (let m : min least piece ≡ least = omega arith in
        let a = adds (least + 1) in
        let b = met (omega arith) in
        subst (λ (n : ℕ). 0 < sum (n + 1)) (sym m) (omega arith))
    | inr above ↦ (let m : min least piece ≡ piece = omega arith in
        let a = adds (piece + 1) in
        subst (λ (n : ℕ). 0 < sum (n + 1)) (sym m) (omega arith))
  ]

  reports_at : (piece next least id : ℕ) (views : List Known) (v : Known) → F next least views → get_elem? views id ≡ some v → v.parts ≡ 1 → piece < pieces
      → F next (min least piece) (set views id (after_report v piece))
  reports_at piece next least id views v k at one within =
      let w = after_report v piece in
      let fits = k.each id v at in
      let before : ℕ → ℕ = λ t. total (λ (u : Known). below t u.reported) views in
      let sum : ℕ → ℕ = λ t. total (λ (u : Known). below t u.reported) (set views id w) in
      let added : ℕ → ℕ = λ t. below t (piece ∷ []) in
      let adds : (t : ℕ) → sum t ≡ before t + added t = λ t.
      let s = total_set (λ (u : Known). below t u.reported) views id v w at in
      let a = below-append t v.reported (piece ∷ []) in
      omega arith in record {
        small = k.small;
        parts = let s = total_set (λ (u : Known). u.parts) views id v w at in let p = k.parts in omega arith;
        once = λ x. let s = total_set (λ (u : Known). times x u.drawn) views id v w at in let o = k.once x in omega arith;
        room = let s = total_set (λ (u : Known). u.misses) views id v w at in let r = k.room in omega arith;
        top = let t = k.top in omega arith;
        low = λ t le. let l = k.low t (omega arith) in let a = adds t in let z = below_one_none t piece (omega arith) in omega arith;
        met = λ _. reports_met piece least before sum added within adds k.met (below_one piece);
        each = each_set (Fits pieces next (min least piece)) views id w
            (let less = goes_on next least next (min least piece) v (omega arith) (omega arith) fits in record {
              limit = fits.limit;
              drawn = fits.drawn;
              reported = All-push (λ j. min least piece ≤ j) v.reported piece less.reported (omega arith);
              inside = All-push (λ j. j < pieces) v.reported piece fits.inside within;
              barred = less.barred;
              barred_inside = fits.barred_inside;
              missed = fits.missed;
              few = fits.few;
              idle = λ no_part. absurd (omega arith);
            })
            (λ i u there. goes_on next least next (min least piece) u (omega arith) (omega arith) (k.each i u there));
      }

  pub reports : (slots id : ℕ) (me : M) (piece : ℕ) → me.0.parts ≡ 1 → piece < pieces → Allows K slots id me 1 (λ n. min n piece) (Reports (step slots 1 piece 0 none) me)
  reports slots id me piece one within = second_word slots id me (λ n. min n piece) (Reports (step slots 1 piece 0 none) me) (λ next least views k at.
      (after_report me.0 piece, reports_at piece next least id views me.0 k at one within, refl))
