-- A placeholder: the result of reading a list of changes past its end.
use Rattle.std.proofs.Common.{[]}
use Rattle.status_index.specs.declared.id.ObjectId.TheVariants.{Sha1}
use Rattle.status_index.specs.declared.mode.EntryKind.TheVariants.{Tree}
use Rattle.status_rewrites.specs.declared.tracker.ChangeKind.TheVariants.{Deletion}
use Rattle.status_rewrites.specs.declared.seen.Seen.{Seen}

abbrev pub blank : Seen
blank = record { place = 0; id = Sha1 []; kind = Deletion; mode = Tree; path = record { ref_ptr = (0, 0); now = [] } }
