-- Which files git takes for texts (gitattributes(5), `text` and `eol`).
use Rattle.std.specs.Prelude.{◌||◌, Bool, false, List, codes, Option, Some, None, if◌then◌else◌}
use Rattle.std.specs.Option.{option_or}
use Rattle.std.specs.Str.{bytes_eq}
use Rattle.git_attributes.specs.declared.normalization.Normalization.{Normalization}
use Rattle.git_attributes.specs.declared.normalization.Normalization.TheVariants.{Off, On, Auto}
use Rattle.git_attributes.specs.Assignments.{Given, State, Set, Unset, Unspecified, Text}
use Rattle.git_attributes.specs.States.{state_in}

-- `text` asks for line feeds, `-text` for no change, `text=auto` for line feeds in texts. `text=input` is an old form of `text`.
abbrev pub text_state : State → Option Normalization
text_state Set = Some On
text_state Unset = Some Off
text_state Unspecified = None
text_state (Text text) = if bytes_eq text (codes "auto") then Some Auto else (if bytes_eq text (codes "input") then Some On else None)

-- `eol` is `lf` or `crlf`.
abbrev pub has_line_end : State → Bool
has_line_end (Text text) = bytes_eq text (codes "lf") || bytes_eq text (codes "crlf")
has_line_end state = false

abbrev pub else_by : Bool → Bool → Option Normalization → Normalization
else_by line_end auto (Some asked) = asked
else_by line_end auto None = if line_end then On else (if auto then Auto else Off)

-- `text` decides, otherwise its old name `crlf`. A file with neither is a text if `eol` names a line end; otherwise `core.autocrlf` decides.
abbrev pub normalization_of : List Given → Bool → Normalization
normalization_of known auto =
    else_by (has_line_end (state_in (codes "eol") known)) auto
    (option_or (text_state (state_in (codes "text") known)) (text_state (state_in (codes "crlf") known)))
