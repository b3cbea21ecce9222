-- A walk over the nodes of a worktree in memory, at each step.
use lib.Seq.{drop-cons, take-suc}
use Rattle.std.proofs.Common.{◌≡◌, refl, sym, ap, ◌∙◌, ℕ, suc, ◌+◌, ◌<◌, ◌≤◌, ◌^◌, Bool, true, false, List, [], ◌∷◌, ◌++◌, length, take, drop, slice_index_or, Option, Some, None, is_some, arith}
use Rattle.std.specs.List.{cons_option, filter, filter_map}
use Rattle.std.specs.Option.{option_to_list}
use Rattle.std.specs.FinMap as paths
use Rattle.std.specs.Global.{Vec}
use Rattle.std.proofs.lemmas.Bool.{true≢false}
use Rattle.std.proofs.lemmas.List.{append-nil, append_assoc, length-drop}
use Rattle.std.proofs.lemmas.List.Elements.{filter-append}
use Rattle.status_index.specs.Entries.{IndexEntry}
use Rattle.status_base.specs.MemoryTree.{Placed, Tree}
use Rattle.status_base.specs.Nodes.{placed_entries}
use Rattle.status_base.specs.declared.worktree.node.Node.{Node}
use Rattle.status_walk.specs.Untracked.{untracked_at, untracked_walk}
use Rattle.status_walk.specs.WalkedNodes.{Walked}

-- One more element is taken of a list with this rest.
module _ {A : Type 0} (xs : List A) (n : ℕ) (w : A) (rest : List A) (e : drop n xs ≡ w ∷ rest) where
  pub in_list : n < length xs
  in_list = omega (arith, length-drop n xs, ap length e)

  parts : w ∷ rest ≡ slice_index_or xs n w ∷ drop (suc n) xs
  parts = sym e ∙ drop-cons xs n w in_list

  pub one_taken : take (suc n) xs ≡ take n xs ++ w ∷ []
  one_taken = take-suc xs n w in_list ∙ ap (λ x. take n xs ++ x ∷ []) (sym (ap (λ l. slice_index_or l 0 w) parts))

  pub one_left : drop (suc n) xs ≡ rest
  one_left = sym (ap (drop 1) parts)

module _ (tree : Tree) (es : List IndexEntry) (included : List ℕ → Bool → Bool) where
  -- The node that the walk passes for one of the worktree, if any.
  abbrev pub out_of : Vec ℕ × Node → Option Walked
  out_of x = untracked_at es included x.0.items x.1.kind

  abbrev all : List Walked
  all = (untracked_walk tree es included).entries

  abbrev found : List (Vec ℕ × Node) → List Walked
  found left = filter_map (λ (p : List ℕ × Placed). untracked_at es included p.0 p.1.metadata.kind) (placed_entries left)

  module _ (keeps : Walked → Bool) (old : List Walked) where
    -- So many nodes were passed, these nodes are left, and these were kept.
    pub record IsWalkSoFar (emitted : ℕ) (left : List (Vec ℕ × Node)) (kept : List Walked) : Type 0 where
      pub rest : found left ≡ drop emitted all
      pub inside : emitted ≤ length all
      pub has : kept ≡ old ++ filter keeps (take emitted all)
      pub fits : emitted + length left < 2 ^ 63

    pub begins : (nodes : List (Vec ℕ × Node)) → placed_entries nodes ≡ paths.entries tree.nodes → length nodes < 2 ^ 63 → IsWalkSoFar 0 nodes old
    begins nodes are short = record {
      rest = ap (filter_map (λ (p : List ℕ × Placed). untracked_at es included p.0 p.1.metadata.kind)) are;
      inside = omega arith;
      has = sym (append-nil old);
      fits = omega (arith, short);
    }

    module _ (n : ℕ) (x : Vec ℕ × Node) (left : List (Vec ℕ × Node)) (kept new : List Walked) (u : IsWalkSoFar n (x ∷ left) kept) (k : new ≡ kept ++ filter keeps (option_to_list (out_of x))) where
      passed_by : (o : Option Walked) → out_of x ≡ o → is_some o ≡ false → IsWalkSoFar n left new
      passed_by None h none = record {
        rest = sym (ap (λ o. cons_option o (found left)) h) ∙ u.rest;
        inside = u.inside;
        has = k ∙ ap (λ o. kept ++ filter keeps (option_to_list o)) h ∙ append-nil kept ∙ u.has;
        fits = omega (arith, u.fits);
      }
      passed_by (Some w) h none = absurd (true≢false none)

      passed_on_by : (o : Option Walked) → out_of x ≡ o → is_some o ≡ true → IsWalkSoFar (n + 1) left new
      passed_on_by None h some = absurd (true≢false (sym some))
      passed_on_by (Some w) h some =
          let e : drop n all ≡ w ∷ found left = sym u.rest ∙ ap (λ o. cons_option o (found left)) h in
          let next : suc n ≡ n + 1 = omega arith in
          record {
            rest = sym (one_left all n w (found left) e) ∙ ap (λ m. drop m all) next;
            inside = omega (arith, in_list all n w (found left) e);
            has = k ∙ ap (λ o. kept ++ filter keeps (option_to_list o)) h ∙ ap (λ l. l ++ filter keeps (w ∷ [])) u.has
                ∙ append_assoc old (filter keeps (take n all)) (filter keeps (w ∷ []))
                ∙ ap (λ l. old ++ l) (sym (filter-append keeps (take n all) (w ∷ [])))
                ∙ ap (λ l. old ++ filter keeps l) (sym (one_taken all n w (found left) e) ∙ ap (λ m. take m all) next);
            fits = omega (arith, u.fits);
          }

      pub passed_over : is_some (out_of x) ≡ false → IsWalkSoFar n left new
      passed_over = passed_by (out_of x) refl

      pub passed : is_some (out_of x) ≡ true → IsWalkSoFar (n + 1) left new
      passed = passed_on_by (out_of x) refl

    pub at_end : (n : ℕ) (kept : List Walked) → IsWalkSoFar n [] kept → n ≡ length all
    at_end n kept u = omega (arith, length-drop n all, ap length u.rest, u.inside)
