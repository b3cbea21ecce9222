-- The filter may be sent to another thread, as a rule set for `search`.
use denote.Ref.{NamedLft}
use denote.Param.Send.{IsSend, IsSync, sendable}
use Rattle.std.proofs.Crossing.{crosses}
use Rattle.status_index.specs.contracts.entry.Entry as entry
use Rattle.status_index.specs.contracts.state.State as state
use Rattle.git_attributes.specs.contracts.assignment.Assignment as assignment
use Rattle.git_attributes.specs.contracts.assignment.Value as value
use Rattle.git_attributes.specs.contracts.attributes.Attributes as attributes
use Rattle.git_attributes.specs.contracts.line.Macro as macros
use Rattle.git_attributes.specs.contracts.line.Rule as rule
use Rattle.git_attributes.specs.contracts.clean.CleanFilter as clean_filter

module _ (κ : NamedLft) where
  Value-sync : IsSync (value.the_row κ)
  Value-sync = search (sendable, crosses) depth 40

  Assignment-sync : IsSync (assignment.the_row κ)
  Assignment-sync = search (Value-sync, sendable, crosses) depth 40

  Rule-sync : IsSync (rule.the_row κ)
  Rule-sync = search (Assignment-sync, sendable, crosses) depth 40 fits 5000

  Macro-sync : IsSync (macros.the_row κ)
  Macro-sync = search (Assignment-sync, sendable, crosses) depth 40

  Attributes-sync : IsSync (attributes.the_row κ)
  Attributes-sync = search (Rule-sync, Macro-sync, sendable, crosses) depth 40

Entry-sync : IsSync entry.the_row
Entry-sync = search (sendable, crosses) depth 40

State-sync : IsSync state.the_row
State-sync = search (Entry-sync, sendable, crosses) depth 60

module _ (κ1 κ2 κ3 : NamedLft) where
  pub CleanFilter-send : IsSend (clean_filter.the_row κ1 κ2 κ3)
  CleanFilter-send = search (Attributes-sync, State-sync, sendable, crosses) depth 60

pub ruleset filter_crosses = (CleanFilter-send, sendable, crosses)
