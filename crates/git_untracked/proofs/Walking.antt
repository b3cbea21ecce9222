-- The lines of a walk, step by step.
use Rattle.std.proofs.Common.{◌≡◌, ◌∙◌, ℕ, not, Bool, true, false, List, [], ◌∷◌, ◌++◌, length, take, drop, ◌<◌, ◌≤◌, ◌-◌, Vec, slice_index_or, refl, sym, ap, subst, append_assoc, append-nil, arith}
use Rattle.std.proofs.lemmas.List.{take_rest}
use Rattle.std.specs.Global.{Global}
use Rattle.git_untracked.specs.Lines.{Lines, and_lines, is_none_of, no_lines, paths_of}
use Rattle.git_untracked.specs.Questions.{Question, Within}
use Rattle.git_untracked.specs.Requests.{IsAdded}
use Rattle.git_untracked.specs.Walks.{AreNodes, IsNamed}
use Rattle.git_untracked.proofs.Collapsing.{both_same}

and_none : (l : Lines) → and_lines l no_lines ≡ l
and_none l = both_same (l.untracked ++ []) l.untracked (l.ignored ++ []) l.ignored (append-nil l.untracked) (append-nil l.ignored)

and_assoc : (a b c : Lines) → and_lines (and_lines a b) c ≡ and_lines a (and_lines b c)
and_assoc a b c =
    both_same ((a.untracked ++ b.untracked) ++ c.untracked) (a.untracked ++ (b.untracked ++ c.untracked)) ((a.ignored ++ b.ignored) ++ c.ignored) (a.ignored ++ (b.ignored ++ c.ignored))
    (append_assoc a.untracked b.untracked c.untracked) (append_assoc a.ignored b.ignored c.ignored)

-- No line was added.
pub added_none : (are : Lines → Type 0) (old new : Lines) → new ≡ old → are no_lines → IsAdded are old new
added_none are old new same none = (no_lines, same ∙ sym (and_none old), none)

-- Lines that were added are of a weaker kind too.
pub added_as : (are other : Lines → Type 0) (old new : Lines) → ((lines : Lines) → are lines → other lines) → IsAdded are old new → IsAdded other old new
added_as are other old new h added = (added.0, added.1, h added.0 added.2)

module _ (q : Question) (folder : List ℕ) (w : Within) (names : List (List ℕ)) where
  -- With the lines of the other names, these are the lines of all.
  abbrev pub IsSoFar : List (List ℕ) → Lines → Type 0
  IsSoFar rest lines = (later : Lines) → AreNodes q folder w rest later → AreNodes q folder w names (and_lines lines later)

  pub so_far_start : (old new : Lines) → new ≡ old → IsAdded (IsSoFar names) old new
  so_far_start old new same = (no_lines, same ∙ sym (and_none old), λ later nodes. nodes)

  pub so_far_more : (old now new : Lines) (rest after : List (List ℕ)) (name : List ℕ) → rest ≡ name ∷ after → IsAdded (IsSoFar rest) old now → IsAdded (IsNamed q w folder name) now new → IsAdded (IsSoFar after) old new
  so_far_more old now new rest after name split so_far node =
      let lines = so_far.0 in let more = node.0 in (
        and_lines lines more,
        node.1 ∙ (ap (λ (l : Lines). and_lines l more) so_far.1 ∙ and_assoc old lines more),
        λ later nodes.
            subst (λ l. AreNodes q folder w names l) (sym (and_assoc lines more later))
            (so_far.2 (and_lines more later) (subst (λ xs. AreNodes q folder w xs (and_lines more later)) (sym split) (AreNodes.next folder w name after more later node.2 nodes))),
      )

  pub so_far_end : (old new : Lines) → IsAdded (IsSoFar []) old new → IsAdded (AreNodes q folder w names) old new
  so_far_end old new so_far =
      (so_far.0, so_far.1, subst (λ l. AreNodes q folder w names l) (and_none so_far.0) (so_far.2 no_lines (AreNodes.none folder w)))

  pub so_far_enough : (old now new : Lines) (rest after : List (List ℕ)) (name : List ℕ) → rest ≡ name ∷ after → w.one ≡ true → IsAdded (IsSoFar rest) old now
      → (node : IsAdded (IsNamed q w folder name) now new) → is_none_of node.0 ≡ false → IsAdded (AreNodes q folder w names) old new
  so_far_enough old now new rest after name split one so_far node some =
      let lines = so_far.0 in let more = node.0 in (
        and_lines lines more,
        node.1 ∙ (ap (λ (l : Lines). and_lines l more) so_far.1 ∙ and_assoc old lines more),
        so_far.2 more (subst (λ xs. AreNodes q folder w xs more) (sym split) (AreNodes.enough folder w name after more node.2 one some)),
      )

-- A list of paths begins with this one.
pub split_paths : (paths : List (Vec ℕ Global)) (name d : Vec ℕ Global) → name ≡ slice_index_or paths 0 d → 1 ≤ length paths
    → paths_of paths ≡ name.items ∷ paths_of (take (length paths - 1) (drop 1 paths))
split_paths [] name d h some = absurd (omega (arith, some))
split_paths (path ∷ paths) name d h some =
    ap (λ (p : Vec ℕ Global). p.items ∷ paths_of paths) (sym h) ∙ ap (λ (rest : List (Vec ℕ Global)). name.items ∷ paths_of rest) (sym (take_rest (path ∷ paths) 1))

pub no_paths : (paths : List (Vec ℕ Global)) → length paths < 1 → paths_of paths ≡ []
no_paths [] h = refl
no_paths (path ∷ paths) h = absurd (omega (arith, h))

pub not_true : (b : Bool) → not b ≡ true → b ≡ false
not_true true h = absurd (cc)
not_true false h = refl
