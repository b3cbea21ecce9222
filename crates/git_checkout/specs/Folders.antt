-- The types that a node on disk may have for a walk for untracked files.
use Rattle.std.specs.Prelude.{◌≡◌, ◌⊎◌, Option, Some, None, Result, Ok, Err}
use Rattle.status_index.specs.declared.fault.Fault.{Fault}
use Rattle.status_index.specs.declared.fault.Fault.TheVariants.{IllformedUtf8, NotADirectory, NotFound}
use Rattle.status_index.specs.declared.stat.Metadata.{Metadata}
use Rattle.status_index.specs.declared.stat.NodeKind.{NodeKind}
use Rattle.status_index.specs.declared.stat.NodeKind.TheVariants.{File}

-- The type that `lstat` may report. A node whose path isn't UTF-8, for which the system can't be asked, counts as a file. Nothing is there if
-- `lstat` may report that.
abbrev pub MayBe : (Result Metadata Fault → Type 0) → Option NodeKind → Type 0
MayBe may (Some kind) = ((node : Metadata) × may (Ok node) × (node.kind ≡ kind)) ⊎ (may (Err IllformedUtf8) × (kind ≡ File))
MayBe may None = may (Err NotFound) ⊎ may (Err NotADirectory)
