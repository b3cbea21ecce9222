-- Trees of nodes, and the paths of a profile's status.
use Rattle.std.proofs.Common.{◌≡◌, ◌+◌, arith, ℕ, Bool, List, [], ◌∷◌, Option, Some, None, Result, Err, IfOk, true, false, true≢false, ◌==◌, length, refl, sym, ap, subst, inl, inr, ◌∙◌}
use Rattle.std.specs.Prelude.{◌⊎◌}
use Rattle.std.proofs.lemmas.Bool.{eqb-true}
use Rattle.std.specs.FinMap as paths
use Rattle.status_base.specs.MemoryTree.{Placed, Tree}
use Rattle.status_base.specs.Nodes.{put_fault}
use Rattle.status_call.specs.declared.index_as_worktree.apply.ApplyChange.{ApplyChange}
use Rattle.status_cli.specs.declared.failure.Failure.{Failure}
use Rattle.status_base.specs.Trees.{empty_tree}
use Rattle.status_base.specs.declared.worktree.node.TreeError.{TreeError}
use Rattle.status_base.specs.declared.worktree.node.TreeError.TheVariants.{Memory}
use Rattle.status_cli.specs.Failures.{failure_of_node}
use Rattle.status_cli.specs.ProfileStatuses.{Asked, IsJoinedOver, IsPlainOver, IsStatusOver, AreNodesRefused, WorktreeResults, begins_with, with_nodes}
use Rattle.status_joined.specs.Walkings.{Walking}
use Rattle.status_profile.specs.Options.{is_joined, option_values}

pub none_long : (xs : List ℕ) → (length xs == 0) ≡ true → xs ≡ []
none_long [] e = refl
none_long (x ∷ xs) e = let never : length (x ∷ xs) ≡ 0 = eqb-true _ _ e in absurd (omega arith)

-- a node is put, and then the others
pub with_nodes_next : (at next : ℕ) (old new : Tree) (node : List ℕ × Placed) (nodes : List (List ℕ × Placed)) → next ≡ at + 1 → put_fault old node.0 node.1.metadata.kind ≡ None → new ≡ record old { nodes = paths.insert old.nodes node.0 node.1 }
    → with_nodes at old (node ∷ nodes) ≡ with_nodes next new nodes
with_nodes_next at next old new node nodes more free put = rw (free, more) (ap (λ t. with_nodes (at + 1) t nodes) (sym put))

-- a node can't be put
with_nodes_fault : (at : ℕ) (tree : Tree) (node : List ℕ × Placed) (nodes : List (List ℕ × Placed)) (e : TreeError) → put_fault tree node.0 node.1.metadata.kind ≡ Some e → with_nodes at tree (node ∷ nodes) ≡ Err (failure_of_node e at)
with_nodes_fault at tree node nodes e fault = rw fault refl

pub nodes_refused : {L : Type 0} (all : List (List ℕ × Placed)) (tree : Tree) (node : List ℕ × Placed) (nodes : List (List ℕ × Placed)) (e : TreeError) (at : ℕ) (failure : Failure) → failure ≡ failure_of_node e at → with_nodes 0 empty_tree all ≡ with_nodes at tree (node ∷ nodes)
    → ((e ≡ Memory) × L) ⊎ (put_fault tree node.0 node.1.metadata.kind ≡ Some e) → AreNodesRefused all failure
nodes_refused all tree node nodes e at failure is left (inl memory) = inl (is ∙ ap (λ x. failure_of_node x at) memory.0)
nodes_refused all tree node nodes e at failure is left (inr fault) = inr (left ∙ with_nodes_fault at tree node nodes e fault ∙ ap Err (sym is))

module _ (w : WorktreeResults) (walked : List ℕ → (List ℕ → Bool → Bool) → Walking) (asked : Asked) (old : Option (List ℕ)) (result : Result (List ApplyChange) Failure) (new : Option (List ℕ)) where
  abbrev at_paths : List ℕ → Type 0
  at_paths p = IsStatusOver w asked p (begins_with p) (walked p (begins_with p)) old result new

  -- the prefix is the options' own
  pub at_prefix : (p q : List ℕ) → p ≡ q → at_paths p → at_paths q
  at_prefix p q e h = subst at_paths e h

module _ (w : WorktreeResults) (asked : Asked) (prefix : List ℕ) (included : List ℕ → Bool → Bool) (walking : Walking) (old : Option (List ℕ)) (result : Result (List ApplyChange) Failure) (new : Option (List ℕ)) where
  pub joined_over : is_joined (option_values asked.options) ≡ true → IfOk result (λ changes. changes ≡ []) → IsJoinedOver w asked prefix included walking old result new
      → IsStatusOver w asked prefix included walking old result new
  joined_over is none h = record { plain = λ not. absurd (true≢false (sym is ∙ not)); joined = λ _. h; unchanged = λ _. none }

  pub plain_over : is_joined (option_values asked.options) ≡ false → IsPlainOver w asked prefix included old result new → IsStatusOver w asked prefix included walking old result new
  plain_over not h = record { plain = λ _. h; joined = λ is. absurd (true≢false (sym is ∙ not)); unchanged = λ is. absurd (true≢false (sym is ∙ not)) }
