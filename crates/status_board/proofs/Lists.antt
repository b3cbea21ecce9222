-- The results of the pieces with a number, in parts of a list.
use Rattle.std.proofs.Common.{◌≡◌, refl, ap, subst, ◌∙◌, ℕ, ◌==◌, Bool, true, false, List, [], ◌∷◌, ◌++◌, map, All}
use Rattle.std.specs.List.{filter}
use Rattle.std.proofs.lemmas.List.{map-append}
use Rattle.std.proofs.lemmas.List.Elements.{filter-append, All-nil, All-cons, All-head, All-tail}
use Rattle.std.proofs.lemmas.Bool.{eqb-true}
use Rattle.status_board.specs.declared.work.Finished.{Finished}
use Rattle.status_board.specs.FinishedPieces.{outs_at, shorts_of}

module _ {O : Type 0} where
  pub outs_at-append : (n : ℕ) (fs gs : List (Finished O)) → outs_at n (fs ++ gs) ≡ outs_at n fs ++ outs_at n gs
  outs_at-append n fs gs =
      ap (map (λ (f : Finished O). f.out)) (filter-append (λ f. f.number == n) fs gs)
      ∙ map-append (λ f. f.out) (filter (λ f. f.number == n) fs) (filter (λ f. f.number == n) gs)

  pub outs_at-here : (n : ℕ) (f : Finished O) (fs : List (Finished O)) → (f.number == n) ≡ true → outs_at n (f ∷ fs) ≡ f.out ∷ outs_at n fs
  outs_at-here n f fs e = rw e

  pub outs_at-other : (n : ℕ) (f : Finished O) (fs : List (Finished O)) → (f.number == n) ≡ false → outs_at n (f ∷ fs) ≡ outs_at n fs
  outs_at-other n f fs e = rw e

  module _ (short : O → Bool) where
    pub shorts_of-append : (fs gs : List (Finished O)) → shorts_of short (fs ++ gs) ≡ shorts_of short fs ++ shorts_of short gs
    shorts_of-append fs gs =
        ap (map (λ (f : Finished O). f.number)) (filter-append (λ f. short f.out) fs gs)
        ∙ map-append (λ f. f.number) (filter (λ f. short f.out) fs) (filter (λ f. short f.out) gs)

    pub shorts_of-here : (f : Finished O) (fs : List (Finished O)) → short f.out ≡ true → shorts_of short (f ∷ fs) ≡ f.number ∷ shorts_of short fs
    shorts_of-here f fs e = rw e

    pub shorts_of-other : (f : Finished O) (fs : List (Finished O)) → short f.out ≡ false → shorts_of short (f ∷ fs) ≡ shorts_of short fs
    shorts_of-other f fs e = rw e

  module _ (gives : ℕ → O → Type 0) where
    -- a fact about each finished piece is one about the results of each number
    pub outs_at-each : (n : ℕ) (fs : List (Finished O)) → All (λ f. gives f.number f.out) fs → All (gives n) (outs_at n fs)
    outs_at-each n [] h = All-nil (gives n)
    outs_at-each n (f ∷ fs) h =
        let rest = outs_at-each n fs (All-tail (λ (x : Finished O). gives x.number x.out) f fs h) in
        let head : gives f.number f.out = All-head (λ (x : Finished O). gives x.number x.out) f fs h in
        elim (f.number == n) as (λ b. (f.number == n) ≡ b → All (gives n) (outs_at n (f ∷ fs))) [
          | true ↦ λ e. rw e (All-cons (gives n) f.out (outs_at n fs) (subst (λ (k : ℕ). gives k f.out) (eqb-true f.number n e) head) rest)
          | false ↦ λ e. rw e rest
        ] refl
