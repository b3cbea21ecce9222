-- A worktree in which some directories count as other nodes.
use Rattle.std.specs.Prelude.{◌≡◌, ◌⊎◌, Result, Ok}
use Rattle.status_index.specs.declared.fault.Fault.{Fault}
use Rattle.status_index.specs.declared.stat.Metadata.{Metadata}
use Rattle.status_index.specs.declared.stat.NodeKind.TheVariants.{Directory, Other}

-- The node, which is a node of another kind than a directory.
abbrev pub as_other : Metadata → Metadata
as_other node = record node { kind = Other }

-- The result is a directory that `lstat` may return, as a node of another kind.
pub record IsDirectoryAsOther (may : Result Metadata Fault → Type 0) (result : Result Metadata Fault) : Type 0 where
  pub node : Metadata
  pub allowed : may (Ok node)
  pub directory : node.kind ≡ Directory
  pub other : result ≡ Ok (as_other node)

-- The result is one that `lstat` may return, or a directory as another node.
abbrev pub MayCountAsOther : (Result Metadata Fault → Type 0) → Result Metadata Fault → Type 0
MayCountAsOther may result = may result ⊎ IsDirectoryAsOther may result
