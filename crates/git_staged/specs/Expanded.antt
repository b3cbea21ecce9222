-- A sparse index, and the index of files that git makes of it (`git sparse-checkout reapply --no-sparse-index`).
use Rattle.std.specs.Prelude.{◌≡◌, ℕ, Bool, true, false, List, [], ◌∷◌, ◌++◌, map}
use Rattle.status_index.specs.declared.entry.TheConstants.Flags.{SKIP_WORKTREE}
use Rattle.status_index.specs.Entries.{IndexEntry}
use Rattle.git_staged.specs.Folders.{with_flags}
use Rattle.git_staged.specs.TreeFiles.{HasFiles, is_folder, nothing_known}

-- The entries of a folder's files, which no sparse checkout has in the worktree; or of a file, its own.
abbrev pub ExpandedBy : Bool → IndexEntry → List IndexEntry → Type 0
ExpandedBy true e es = (depth : ℕ) × (files : List IndexEntry) × HasFiles nothing_known depth e.id e.path files × (es ≡ map (with_flags SKIP_WORKTREE) files)
ExpandedBy false e es = es ≡ e ∷ []

abbrev pub IsExpandedEntry : IndexEntry → List IndexEntry → Type 0
IsExpandedEntry e es = ExpandedBy (is_folder e.mode) e es

-- Those of each entry, one after the other.
abbrev pub IsExpanded : List IndexEntry → List IndexEntry → Type 0
IsExpanded [] es = es ≡ []
IsExpanded (e ∷ rest) es = (own : List IndexEntry) × (more : List IndexEntry) × (es ≡ own ++ more) × IsExpandedEntry e own × IsExpanded rest more
