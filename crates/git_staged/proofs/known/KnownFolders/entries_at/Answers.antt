use Rattle.std.proofs.Common.{rules, ◌≡◌, sym}
use Rattle.git_staged.proofs.FolderRuns.{found_run}
use Rattle.git_staged.proofs.known.KnownFolders.entries_at.Goals as goal

pub returns : goal.returns
returns c =
    let folder = c.in_ok-folder.field-0.now in
    let same : folder.id ≡ c.args.tree = search rules in
    let at : c.in_ok-path_of.field-0.now ≡ c.args.path.now = search rules in
    found_run c.args.self folder c.seek.result c.args.tree c.args.path.now c.entries.result.now c.get-2.result c.in_ok-folder.ensures.lookup.3.0 (λ d. sym (c.in_ok-folder.ensures.lookup.3.1 d)) same (rw at at c.in_ok-path_of.ensures) c.entries.ensures.value
    c.get-2.ensures.lookup.0
