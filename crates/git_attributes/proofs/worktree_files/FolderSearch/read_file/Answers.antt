use Rattle.std.proofs.Common.{◌≡◌, ℕ, Global, Vec, rules}
use Rattle.bstr.specs.BStr.{bstr_bytes}
use Rattle.status_index.specs.declared.stat.NodeKind.TheVariants.{File as FileNode}
use Rattle.git_attributes.proofs.FolderSights.{file_looked, read_fault}
use Rattle.git_attributes.proofs.worktree_files.FolderSearch.read_file.Goals as goal

pub read_open-requires : goal.read_open-requires
read_open-requires g c =
    let tree = c.args.self.now.worktree in
    let node = c.in-Ok.node in
    let is : node.kind ≡ FileNode = search rules in
    file_looked (g.W.Worktree.may_stat tree.worktree.now) tree.fscache (bstr_bytes c.args.path) node c.requires c.in-Ok.ensures.seen is

pub returns-in-Err : goal.returns-in-Err
returns-in-Err g c =
    let tree = c.args.self.now.worktree.worktree.now in
    let path = bstr_bytes c.args.path in
    read_fault (g.W.Worktree.may_stat tree path) (g.W.Worktree.may_open tree path) c.in-Err.fault (λ (v : Vec ℕ Global). v.items) c.none_unless_memory.result
    c.in-Err.ensures.seen (g.met.W.Worktree.open_may_fail tree path) c.none_unless_memory.ensures
