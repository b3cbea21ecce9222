-- The selections of paths may be sent to another thread.
use denote.Ref.{NamedLft}
use denote.Param.Send.{IsSend, IsSync, sendable}
use Rattle.std.proofs.Crossing.{crosses}
use Rattle.git_pathspecs.proofs.Sent.{element_sync}
use Rattle.status_index.specs.contracts.state.State as state
use Rattle.git_status.specs.contracts.paths.Paths as paths
use Rattle.git_status.specs.contracts.paths.Nodes as nodes

State-sync : IsSync state.the_row
State-sync = search (sendable, crosses) depth 60 fits 5000

module _ (κ : NamedLft) where
  pub paths_send : IsSend (paths.the_row κ)
  paths_send = search (State-sync, element_sync, sendable, crosses) depth 60 fits 5000

  pub paths_sync : IsSync (paths.the_row κ)
  paths_sync = search (State-sync, element_sync, sendable, crosses) depth 60 fits 5000

  pub nodes_sync : IsSync (nodes.the_row κ)
  nodes_sync = search (element_sync, sendable, crosses) depth 60 fits 5000
