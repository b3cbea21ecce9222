use Rattle.std.proofs.Common.{◌≡◌, length}
use Rattle.git_patterns.proofs.Items.{all}
use Rattle.git_patterns.specs.Text.{without_mark}
use Rattle.git_attributes.specs.Files.{line_step, with_lines}
use Rattle.git_attributes.specs.Views.{attributes_view}
use Rattle.git_attributes.proofs.attributes.Attributes.read.Given as goal

abbrev pub invariant-lines : goal.invariant-lines
invariant-lines l =
    with_lines l.source.has_macros l.source.folder.now (all length line_step l.rest).0 (attributes_view l.self)
    ≡ with_lines l.source.has_macros l.source.folder.now (all length line_step (without_mark l.source.bytes.now)).0 (attributes_view l.fn.self)

abbrev pub decreases-lines : goal.decreases-lines
decreases-lines l = length l.rest
