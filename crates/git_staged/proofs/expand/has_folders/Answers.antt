use Rattle.std.proofs.Common.{ap, ◌∙◌}
use Rattle.std.specs.List.{list_any}
use Rattle.status_index.specs.States.{backing_of, entries_of}
use Rattle.git_staged.specs.TreeFiles.{is_folder}
use Rattle.git_staged.proofs.SparseEntries.{folder_seen}
use Rattle.git_staged.proofs.expand.has_folders.Goals as goal

pub returns : goal.returns
returns c = c.any_folder.ensures ∙ (ap (list_any (λ e. is_folder e.mode)) c.entries.ensures.value ∙ folder_seen (backing_of c.args.index.now) (entries_of c.args.index.now))
