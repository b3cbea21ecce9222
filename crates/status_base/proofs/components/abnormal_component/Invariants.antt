use Rattle.std.proofs.Common.{◌≡◌, length}
use Rattle.status_base.specs.Paths.{abnormal_component}
use Rattle.status_base.proofs.components.abnormal_component.Given as goal

-- the components passed so far are normal
abbrev pub invariant-components : goal.invariant-components
invariant-components l = abnormal_component l.rest ≡ abnormal_component l.fn.path

abbrev pub decreases-components : goal.decreases-components
decreases-components l = length l.rest
