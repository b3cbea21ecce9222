-- How pathspecs read the text of a pattern: slashes may be bytes as any other, and letters may count without their case.
use Rattle.std.specs.Prelude.{ℕ, ◌+◌, ◌-◌, ◌&&◌, ◌||◌, Bool, true, false, List, [], ◌∷◌, length, Option, option_map, if◌then◌else◌}
use Rattle.git_patterns.specs.declared.set.Item.{Item}
use Rattle.git_patterns.specs.declared.set.Item.TheVariants.{Range}
use Rattle.git_patterns.specs.declared.wildcards.Style.{Style}
use Rattle.git_patterns.specs.Items.{all_of, items_of}
use Rattle.git_patterns.specs.Patterns.{begins_name, part_at}
use Rattle.git_patterns.specs.Sets.{is_lower, is_upper}
use Rattle.git_patterns.specs.Wildmatch.{Part, One, Any, Set, Name, Folders, Everything}

-- A part whose wildcards match slashes too.
abbrev pub crossing : Part → Part
crossing (One c) = One c
crossing Any = Set true true []
crossing (Set slashes negated items) = Set true negated items
crossing Name = Everything
crossing Folders = Folders
crossing Everything = Everything

-- Both cases of an ASCII letter.
abbrev pub cases_of : ℕ → List Item
cases_of c = if is_upper c then Range c c ∷ Range (c + 32) (c + 32) ∷ [] else Range c c ∷ Range (c - 32) (c - 32) ∷ []

-- A part that matches letters in either case. It isn't defined as git's for sets and escaped letters.
abbrev pub folded : Part → Part
folded (One c) = if is_upper c || is_lower c then Set false false (cases_of c) else One c
folded Any = Any
folded (Set slashes negated items) = Set slashes negated items
folded Name = Name
folded Folders = Folders
folded Everything = Everything

abbrev pub in_case : Bool → Part → Part
in_case folds part = if folds then folded part else part

abbrev pub styled : Style → Part → Part
styled style part = in_case style.folds_case (if style.parts_names then part else crossing part)

-- `**` has a meaning of its own only if a slash parts names.
abbrev pub styled_step : Style → Bool × List ℕ → Option (Part × (Bool × List ℕ))
styled_step style s = option_map (λ x. (styled style x.0, (style.parts_names && begins_name x.0, x.1))) (part_at s.0 s.1)

-- The parts of a text, at whose start a name begins.
abbrev pub styled_parts_of : Style → List ℕ → Option (List Part)
styled_parts_of style text = let found = items_of (styled_step style) (length text) (style.parts_names, text) in all_of found.0 found.1.1
