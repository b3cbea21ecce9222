-- The code's types as the definitions have them.
use Rattle.std.specs.Prelude.{map}
use Rattle.git_patterns.specs.Views.{pattern_parts}
use Rattle.git_attributes.specs.declared.assignment.Assignment.{Assignment}
use Rattle.git_attributes.specs.declared.assignment.Value.{Value}
use Rattle.git_attributes.specs.declared.assignment.Value.TheVariants.{Set as SetValue, Unset as UnsetValue, Unspecified as UnspecifiedValue, Text as TextValue}
use Rattle.git_attributes.specs.declared.files.AttributeFile.{AttributeFile}
use Rattle.git_attributes.specs.declared.line.Line.{Line as LineType}
use Rattle.git_attributes.specs.declared.line.Line.TheVariants.{Rule as RuleOf, Macro as MacroOf}
use Rattle.git_attributes.specs.declared.line.Macro.{Macro as MacroType}
use Rattle.git_attributes.specs.declared.line.Rule.{Rule as RuleType}
use Rattle.git_attributes.specs.declared.attributes.Attributes.{Attributes as AttributesType}
use Rattle.git_attributes.specs.declared.attributes.Source.{Source as SourceType}
use Rattle.git_attributes.specs.Files.{File, Said}
use Rattle.git_attributes.specs.Assignments.{Given, State, Unset, Unspecified, Text}
use Rattle.git_attributes.specs.Assignments as states
use Rattle.git_attributes.specs.Lines.{Line, Macro, MacroLine, Rule, RuleLine}

-- A value of the code as the state of an attribute.
abbrev pub state_of : Value → State
state_of SetValue = states.Set
state_of UnsetValue = Unset
state_of UnspecifiedValue = Unspecified
state_of (TextValue text) = Text text.now

-- An assignment of the code as a name and its state.
abbrev pub given_of : Assignment → Given
given_of a = (a.name.now, state_of a.value)

-- A rule of the code as a rule of the definitions.
abbrev pub rule_view : RuleType → Rule
rule_view r = record { folder = r.folder.now; by_name = r.by_name; parts = pattern_parts r.pattern; given = map given_of r.given.items }

-- A macro of the code as a macro of the definitions.
abbrev pub macro_view : MacroType → Macro
macro_view m = record { name = m.name.items; given = map given_of m.given.items }

-- A line of the code as a line of the definitions.
abbrev pub line_view : LineType → Line
line_view (RuleOf r) = RuleLine (rule_view r)
line_view (MacroOf m) = MacroLine (macro_view m)

-- The attributes of the code: what their files say.
abbrev pub attributes_view : AttributesType → Said
attributes_view a = (map rule_view a.rules.items, map macro_view a.macros.items)

-- An attribute file of the code as its folder, its bytes, and whether its macros count.
abbrev pub source_view : SourceType → File
source_view s = record { folder = s.folder.now; has_macros = s.has_macros; bytes = s.bytes.now }

-- The same of a file that was read.
abbrev pub file_view : AttributeFile → File
file_view f = record { folder = f.folder.items; has_macros = f.has_macros; bytes = f.bytes.items }
