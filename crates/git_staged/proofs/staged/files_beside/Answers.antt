use Rattle.std.proofs.Common.{All, sym, subst}
use Rattle.std.proofs.lemmas.List.Sorted.{All-permutation}
use Rattle.std.proofs.lemmas.Result.{IfOk-weaker}
use Rattle.status_index.specs.BlobId.{id_kind}
use Rattle.status_index.specs.States.{index_of}
use Rattle.git_staged.specs.Folders.{IsFolder}
use Rattle.git_staged.specs.Staged.{IsWritten}
use Rattle.git_staged.proofs.FolderRuns.{known_written, more_known}
use Rattle.git_staged.proofs.staged.files_beside.Goals as goal

pub returns : goal.returns
returns g c = λ made.
    let folder = IsFolder (id_kind c.args.tree) (index_of c.args.index.now) in
    let sorted = All-permutation folder c.args.made.folders.items c.put_in_order.new.folders.items c.put_in_order.ensures made.folders in
    let all = subst (All folder) (sym c.as_slice.ensures.value) sorted in
    IfOk-weaker c.read_beside.result _ _ (λ s files. (files.0, more_known _ (IsWritten (index_of c.args.index.now)) (known_written _ (id_kind c.args.tree) all) files.0 _ _ _ files.1)) c.read_beside.ensures
