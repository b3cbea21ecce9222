-- Which conversions git makes of a file before it stores it (gitattributes(5)).
use Rattle.std.specs.Prelude.{◌&&◌, ◌||◌, not, Bool, true, false, List, codes}
use Rattle.std.specs.Str.{bytes_eq}
use Rattle.git_attributes.specs.declared.conversion.Configured.{Configured}
use Rattle.git_attributes.specs.declared.conversion.Steps.{Steps}
use Rattle.git_attributes.specs.declared.normalization.Normalization.{Normalization}
use Rattle.git_attributes.specs.declared.normalization.Normalization.TheVariants.{Off}
use Rattle.git_attributes.specs.Assignments.{Given, State, Set, Text}
use Rattle.git_attributes.specs.Normalization.{normalization_of}
use Rattle.git_attributes.specs.States.{state_in}

abbrev pub is_set : State → Bool
is_set Set = true
is_set state = false

abbrev pub is_text : State → Bool
is_text (Text text) = true
is_text state = false

abbrev pub is_text_lfs : State → Bool
is_text_lfs (Text text) = bytes_eq text (codes "lfs")
is_text_lfs state = false

-- The filter is `lfs`.
abbrev pub is_lfs : List Given → Bool
is_lfs known = is_text_lfs (state_in (codes "filter") known)

-- `ident` is set.
abbrev pub has_ident : List Given → Bool
has_ident known = is_set (state_in (codes "ident") known)

-- The conversions of a file, by its attributes and the configuration.
abbrev pub steps_of : List Given → Configured → Steps
steps_of known configured =
    record { lfs = configured.has_lfs && is_lfs known; line_ends = normalization_of known configured.auto_line_ends; ident = has_ident known }

abbrev pub is_off : Normalization → Bool
is_off Off = true
is_off how = false

-- A file is stored as it is.
abbrev pub is_empty : Steps → Bool
is_empty steps = not steps.lfs && is_off steps.line_ends && not steps.ident

-- ---- conversions that aren't made

-- There is a filter. Only a text names one.
abbrev pub is_filtered : List Given → Bool
is_filtered known = is_text (state_in (codes "filter") known)

-- There is an encoding.
abbrev pub is_encoded : List Given → Bool
is_encoded known = let state = state_in (codes "working-tree-encoding") known in is_set state || is_text state

-- A filter other than that of git-lfs, or an encoding.
abbrev pub is_unconverted : List Given → Configured → Bool
is_unconverted known configured = is_encoded known || (is_filtered known && not (configured.has_lfs && is_lfs known))
