-- The states that the attributes of a path have.
use Rattle.std.specs.Prelude.{ℕ, zero, suc, Bool, true, false, List, [], ◌∷◌, ◌++◌, length, Option, Some, None, if◌then◌else◌}
use Rattle.std.specs.List.{list_any}
use Rattle.std.specs.Option.{option_or}
use Rattle.std.specs.Str.{bytes_eq}
use Rattle.git_patterns.specs.Text.{below, name_of}
use Rattle.git_patterns.specs.Wildmatch.{is_match}
use Rattle.git_attributes.specs.Assignments.{Given, State, Set, Unspecified}
use Rattle.git_attributes.specs.Lines.{Macro, Rule}

-- An attribute has a state.
abbrev pub is_known : List ℕ → List Given → Bool
is_known name known = list_any (λ given. bytes_eq given.0 name) known

-- The assignments of the last macro of a name.
abbrev pub macro_named : List Macro → List ℕ → Option (List Given)
macro_named [] name = None
macro_named (m ∷ ms) name = option_or (macro_named ms name) (if bytes_eq m.name name then Some m.given else None)

abbrev pub is_set : State → Bool
is_set Set = true
is_set state = false

abbrev pub unfolded_by : (List Given → List Given → List Given) → Option (List Given) → List Given → List Given
unfolded_by more None known = known
unfolded_by more (Some given) known = more given known

-- A macro that is set also makes its own assignments.
abbrev pub unfolded_with : (List Given → List Given → List Given) → List Macro → Given → List Given → List Given
unfolded_with more macros given known = if is_set given.1 then unfolded_by more (macro_named macros given.0) known else known

abbrev pub assign : (List Given → List Given → List Given) → List Macro → Given → List Given → List Given
assign more macros given known =
    if is_known given.0 known then known else unfolded_with more macros given (known ++ given ∷ [])

abbrev pub assign_all : (List Given → List Given → List Given) → List Macro → List Given → List Given → List Given
assign_all more macros [] known = known
assign_all more macros (given ∷ rest) known = assign more macros given (assign_all more macros rest known)

abbrev pub keep : List Given → List Given → List Given
keep given known = known

-- Assignments set the states of the attributes that have none yet, the last assignment first. Macros within macros count up to this depth.
abbrev pub assigned : List Macro → ℕ → List Given → List Given → List Given
assigned macros zero = assign_all keep macros
assigned macros (suc depth) = assign_all (assigned macros depth) macros

-- The states after the assignments of a macro, if it is set. Macros within macros count up to this depth.
abbrev pub unfolded : List Macro → ℕ → Given → List Given → List Given
unfolded macros zero = unfolded_with keep macros
unfolded macros (suc depth) = unfolded_with (assigned macros depth) macros

-- The state of an attribute, or unspecified if it has none.
abbrev pub state_in : List ℕ → List Given → State
state_in name [] = Unspecified
state_in name (given ∷ rest) = if bytes_eq given.0 name then given.1 else state_in name rest

-- ---- the rules of a path

abbrev pub is_match_below : Rule → Option (List ℕ) → Bool
is_match_below rule None = false
is_match_below rule (Some path) = is_match rule.parts (if rule.by_name then name_of path else path)

-- A rule is for the paths below its folder that match its pattern: by their last name, or from the folder on.
abbrev pub is_for : Rule → List ℕ → Bool
is_for rule path = is_match_below rule (below rule.folder path)

-- The states of a path's attributes, by rules of which later ones are stronger.
abbrev pub states_by : List Macro → List Rule → List ℕ → List Given
states_by macros [] path = []
states_by macros (rule ∷ rules) path =
    let known = states_by macros rules path in
    if is_for rule path then assigned macros (length macros) rule.given known else known
