use Rattle.std.proofs.Common.{◌≡◌, ◌+◌, ◌-◌, ◌*◌, ◌++◌, List, length}
use Rattle.status_index.specs.BlobId.{id_kind}
use Rattle.status_index.specs.Entries.{IndexEntry}
use Rattle.status_index.specs.States.{index_of}
use Rattle.git_staged.specs.Folders.{IsKnown}
use Rattle.git_staged.specs.TreeFiles.{HasFiles}
use Rattle.git_staged.proofs.Folders.{SoFar}
use Rattle.git_staged.proofs.files.+folders.Given as goal

abbrev pub decreases-add_folder : goal.decreases-add_folder
decreases-add_folder g l = 2 * l.depth + 1

abbrev pub decreases-add_item : goal.decreases-add_item
decreases-add_item g l = 2 * l.depth + 2

abbrev pub invariant-add_folder-items : goal.invariant-add_folder-items
invariant-add_folder-items g l = record {
  path : l.path.items ≡ l.fn.path.items;
  files : (es : List IndexEntry) × (index_of l.files ≡ index_of l.fn.files ++ es) × SoFar (HasFiles (IsKnown l.folders) (l.depth - 1)) (id_kind l.tree) l.initial.rest l.fn.path.items es l.rest;
}

abbrev pub decreases-add_folder-items : goal.decreases-add_folder-items
decreases-add_folder-items g l = length l.rest
