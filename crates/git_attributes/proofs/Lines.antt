-- The lines of a file, one after the other.
use Rattle.std.proofs.Common.{◌≡◌, Bool, List, ℕ, length, Some, ap}
use Rattle.git_patterns.proofs.Items.{all, all_more}
use Rattle.git_attributes.specs.Files.{Said, line_step, with_any_line, with_lines}
use Rattle.git_attributes.specs.Lines.{line_at}
use Rattle.git_attributes.proofs.Leaving.{line_leaves}

pub lines_more : (has_macros : Bool) (folder : List ℕ) (said : Said) (text line behind : List ℕ) → line_step text ≡ Some (line, behind)
    → with_lines has_macros folder (all length line_step text).0 said ≡ with_lines has_macros folder (all length line_step behind).0 (with_any_line has_macros said (line_at folder line))
lines_more has_macros folder said text line behind e =
    ap (λ (r : List (List ℕ) × List ℕ). with_lines has_macros folder r.0 said) (all_more length line_step line_leaves text (line, behind) e)
