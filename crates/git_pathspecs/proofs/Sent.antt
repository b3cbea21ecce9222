-- An element may be shared by threads.
use denote.Ref.{NamedLft}
use denote.Param.Send.{IsSync, sendable}
use Rattle.std.proofs.Crossing.{crosses}
use Rattle.git_pathspecs.specs.contracts.element.Element as element

pub element_sync : (κ : NamedLft) → IsSync (element.the_row κ)
element_sync κ = search (sendable, crosses) depth 60 fits 8000
