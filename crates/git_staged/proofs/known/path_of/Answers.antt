use Rattle.std.proofs.Common.{◌≡◌, ◌∙◌}
use Rattle.status_index.specs.States.{backing_of}
use Rattle.git_staged.proofs.FolderRuns.{front_found}
use Rattle.git_staged.proofs.known.path_of.Goals as goal

pub returns : goal.returns
returns c =
    front_found (backing_of c.args.index.now) c.entries.result.now _ c.args.folder.first c.args.folder.path_len c.in_ok-entry.entry.now c.as_bytes-path.result.now c.get-2.result c.in_ok-entry.ensures.lookup.3.0 c.in_ok-entry.ensures.lookup.1
    (c.as_bytes-path.ensures ∙ (rw c.path_backing.ensures at c.path_in.ensures)) c.entries.ensures.value c.get-2.ensures.lookup.0
