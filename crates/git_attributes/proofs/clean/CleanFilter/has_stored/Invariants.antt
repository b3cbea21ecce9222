use Rattle.std.proofs.Common.{◌≡◌, length}
use Rattle.std.specs.List.{list_any}
use Rattle.status_index.specs.BlobId.{blob_id, same_id}
use Rattle.status_index.specs.Entries.{index_entries}
use Rattle.status_index.specs.States.{backing_of, index_of}
use Rattle.git_attributes.specs.Clean.{has_stored}
use Rattle.git_attributes.proofs.clean.CleanFilter.has_stored.Given as goal

abbrev pub invariant-entries : goal.invariant-entries
invariant-entries l =
    list_any (λ e. same_id e.id (blob_id l.self.kind l.bytes)) (index_entries (backing_of l.self.index.now) l.rest)
    ≡ has_stored l.self.kind (index_of l.self.index.now) l.bytes l.path

abbrev pub decreases-entries : goal.decreases-entries
decreases-entries l = length l.rest
