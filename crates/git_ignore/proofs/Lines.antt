-- The lines of a file, one after the other.
use Rattle.std.proofs.Common.{◌≡◌, ◌∙◌, ◌<◌, ◌+◌, ℕ, List, [], ◌∷◌, ◌++◌, length, Option, Some, None, sym, ap, append_assoc, arith}
use Rattle.std.proofs.lemmas.List.{length-drop}
use Rattle.std.specs.List.{cons_option, filter_map}
use Rattle.git_patterns.specs.Text.{first_at}
use Rattle.git_patterns.proofs.Items.{Shortens, all, all_more}
use Rattle.git_ignore.specs.Rules.{Rule, line_step, rule_at, split_line}

split_line_leaves : (b : ℕ) (rest : List ℕ) (o : Option ℕ) → length (split_line o (b ∷ rest)).1 < length (b ∷ rest)
split_line_leaves b rest None = omega arith
split_line_leaves b rest (Some at) = omega (arith, length-drop (at + 1) (b ∷ rest))

-- A line leaves less than there was.
pub line_leaves : Shortens length line_step
line_leaves [] = tt
line_leaves (b ∷ rest) = split_line_leaves b rest (first_at 10 (b ∷ rest))

module _ (folder : List ℕ) where
  -- The rules of the lines that are left.
  abbrev pub rules_left : List ℕ → List Rule
  rules_left text = filter_map (rule_at folder) (all length line_step text).0

  rules_more : (text line behind : List ℕ) → line_step text ≡ Some (line, behind) → rules_left text ≡ cons_option (rule_at folder line) (rules_left behind)
  rules_more text line behind e =
      ap (λ (r : List (List ℕ) × List ℕ). filter_map (rule_at folder) r.0) (all_more length line_step line_leaves text (line, behind) e)

  -- A line was read, and its rule, if it has one, was added.
  pub line_read : (text line behind : List ℕ) (found : Option Rule) (rules whole : List Rule) → rules ++ rules_left text ≡ whole
      → line_step text ≡ Some (line, behind) → rule_at folder line ≡ found → rules ++ cons_option found (rules_left behind) ≡ whole
  line_read text line behind found rules whole so_far e f =
      sym (ap (λ (left : List Rule). rules ++ left) (rules_more text line behind e ∙ ap (λ (o : Option Rule). cons_option o (rules_left behind)) f)) ∙ so_far

  pub line_added : (text line behind : List ℕ) (rule : Rule) (rules whole : List Rule) → rules ++ rules_left text ≡ whole
      → line_step text ≡ Some (line, behind) → rule_at folder line ≡ Some rule → (rules ++ rule ∷ []) ++ rules_left behind ≡ whole
  line_added text line behind rule rules whole so_far e f =
      append_assoc rules (rule ∷ []) (rules_left behind) ∙ line_read text line behind (Some rule) rules whole so_far e f
