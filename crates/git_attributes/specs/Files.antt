-- What attribute files say.
use Rattle.std.specs.Prelude.{ℕ, ◌+◌, Bool, true, List, [], ◌∷◌, ◌++◌, length, take, drop, codes, Option, Some, None, if◌then◌else◌}
use Rattle.git_patterns.specs.Items.{items_of}
use Rattle.git_patterns.specs.Text.{first_at, without_cr, without_mark}
use Rattle.git_attributes.specs.Assignments.{Given}
use Rattle.git_attributes.specs.Lines.{Line, Macro, MacroLine, Rule, RuleLine, line_at}
use Rattle.git_attributes.specs.States.{states_by}

-- The bytes of an attribute file, the folder whose paths its patterns are for, and whether it may state macros.
pub record File : Type 0 where
  pub folder : List ℕ
  pub has_macros : Bool
  pub bytes : List ℕ

-- Rules and macros, of which later ones are stronger.
abbrev pub Said : Type 0
Said = List Rule × List Macro

-- A CR before the line feed isn't part of the line.
abbrev pub split_line : Option ℕ → List ℕ → List ℕ × List ℕ
split_line None text = (text, [])
split_line (Some at) text = (without_cr (take at text), drop (at + 1) text)

-- The first line, and the text after it.
abbrev pub line_step : List ℕ → Option (List ℕ × List ℕ)
line_step [] = None
line_step (b ∷ rest) = Some (split_line (first_at 10 (b ∷ rest)) (b ∷ rest))

-- A line's rule is added, and its macro if the file may state one.
abbrev pub with_line : Bool → Said → Line → Said
with_line has_macros said (RuleLine rule) = (said.0 ++ rule ∷ [], said.1)
with_line has_macros said (MacroLine m) = if has_macros then (said.0, said.1 ++ m ∷ []) else said

abbrev pub with_any_line : Bool → Said → Option Line → Said
with_any_line has_macros said None = said
with_any_line has_macros said (Some line) = with_line has_macros said line

abbrev pub with_lines : Bool → List ℕ → List (List ℕ) → Said → Said
with_lines has_macros folder [] said = said
with_lines has_macros folder (line ∷ lines) said = with_lines has_macros folder lines (with_any_line has_macros said (line_at folder line))

-- The lines of a file are added to those of weaker files. A byte order mark that comes first doesn't count.
abbrev pub with_file : Said → File → Said
with_file said file =
    let text = without_mark file.bytes in
    with_lines file.has_macros file.folder (items_of line_step (length text) text).0 said

-- The states of a path's attributes.
abbrev pub states_of : Said → List ℕ → List Given
states_of said path = states_by said.1 said.0 path

-- The attributes that git has by itself: the macro `binary`.
abbrev pub built_in : File
built_in = record { folder = []; has_macros = true; bytes = codes "[attr]binary -diff -merge -text\n" }

abbrev pub with_files : Said → List File → Said
with_files said [] = said
with_files said (file ∷ files) = with_files (with_file said file) files

-- What attribute files say, the weakest one first. The macro `binary` is weaker than all of them.
abbrev pub attributes_of : List File → Said
attributes_of files = with_files ([], []) (built_in ∷ files)
