-- The parts of the code in the words of a walk.
use Rattle.std.specs.Prelude.{◌≡◌, ◌⊎◌, ◌&&◌, ◌||◌, not, Bool, true, false, List, [], ◌∷◌, ◌++◌, ℕ}
use Rattle.git_ignore.specs.Rules.{Rule}
use Rattle.git_untracked.specs.Lines.{Lines, and_lines}
use Rattle.git_untracked.specs.Questions.{Question, Within, has_below}
use Rattle.git_untracked.specs.declared.ask.Way.{Way}
use Rattle.git_untracked.specs.declared.ask.Way.TheVariants as ways
use Rattle.git_untracked.specs.declared.walk.Within.{Within as WithinType}

abbrev pub within_view : WithinType → List Rule → Within
within_view w rules = record { rules = rules; excluded = w.is_excluded; one = w.is_one_enough }

-- How a folder of this path is entered, which is ignored or not, and below which a path is selected by itself or not.
abbrev pub IsWay : Question → List ℕ → Bool → Bool → Way → Type 0
IsWay q folder excluded leads ways.Each = (has_below q.index folder ≡ true) ⊎ ((has_below q.index folder ≡ false) × q.may_nest folder false × ((q.all || (leads && not excluded)) ≡ true))
IsWay q folder excluded leads ways.Whole = (has_below q.index folder ≡ false) × q.may_nest folder false × ((q.all || (leads && not excluded)) ≡ false)
IsWay q folder excluded leads ways.Line = (has_below q.index folder ≡ false) × q.may_nest folder true × ((leads && not excluded) ≡ false)
IsWay q folder excluded leads ways.Nothing = (has_below q.index folder ≡ false) × q.may_nest folder true × ((leads && not excluded) ≡ true)

-- The second names are the first without some whose paths in the folder are passed over.
pub data Thins (is_passed : List ℕ → Bool) (folder : List ℕ) : List (List ℕ) → List (List ℕ) → Type 0 where
  none : Thins is_passed folder [] []
  kept : (name : List ℕ) (names thin : List (List ℕ)) → Thins is_passed folder names thin → Thins is_passed folder (name ∷ names) (name ∷ thin)
  dropped : (name : List ℕ) (names thin : List (List ℕ)) → is_passed (folder ++ name) ≡ true → Thins is_passed folder names thin → Thins is_passed folder (name ∷ names) thin

-- These lines were added to others.
abbrev pub IsAdded : (Lines → Type 0) → Lines → Lines → Type 0
IsAdded are old new = (more : Lines) × (new ≡ and_lines old more) × are more
