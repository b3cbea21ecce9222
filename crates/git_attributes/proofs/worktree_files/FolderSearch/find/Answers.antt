use Rattle.git_attributes.proofs.SharedSearch.{all_found}
use Rattle.git_attributes.proofs.worktree_files.FolderSearch.find.Goals as goal

pub returns : goal.returns
returns g c =
    let tree = c.args.self.now.worktree.worktree.now in
    all_found (g.W.Worktree.may_stat tree) (g.W.Worktree.may_open tree) c.args.self.now.index.now c.in_ok-top.field-0 c.in_ok-files.field-0 c.entries.result.now c.append.result c.entries.ensures.value
    c.in_ok-top.ensures c.in_ok-files.ensures c.append.ensures
