use Rattle.std.proofs.Common.{refl, subst, Some, None}
use Rattle.bstr.specs.BStr.{bstr_bytes}
use Rattle.status_base.specs.Sights.{IsOpen}
use Rattle.git_attributes.specs.declared.worktree_files.Found.TheVariants.{File as FoundFile, NoFile}
use Rattle.git_attributes.proofs.FolderSights.{barred_seen, path_read}
use Rattle.git_attributes.proofs.worktree_files.FolderSearch.find_at.Goals as goal

pub read_file-requires : goal.read_file-requires
read_file-requires g c =
    subst (IsOpen (g.W.Worktree.may_stat c.args.self.now.worktree.worktree.now)) c.in-Ok.ensures.after.path (c.in-Ok.ensures.after.after.«open» c.requires)

pub returns-in-Some-clause-seen : goal.returns-in-Some-clause-seen
returns-in-Some-clause-seen g c =
    let tree = c.args.self.now.worktree.worktree.now in
    path_read (g.W.Worktree.may_stat tree) (g.W.Worktree.may_open tree) (bstr_bytes c.args.path) tt (Some c.in-Some.bytes.items) (FoundFile c.in-Some.bytes)
    (c.in-Ok.ensures.seen c.requires) (rw c.in-Some.is at c.in_ok-bytes-in-Ok.ensures) refl (λ gone. cc)

pub returns-in-None-clause-seen : goal.returns-in-None-clause-seen
returns-in-None-clause-seen g c =
    let tree = c.args.self.now.worktree.worktree.now in
    path_read (g.W.Worktree.may_stat tree) (g.W.Worktree.may_open tree) (bstr_bytes c.args.path) tt None NoFile
    (c.in-Ok.ensures.seen c.requires) (rw c.in-None.is at c.in_ok-bytes-in-Ok.ensures) refl (λ gone. cc)

pub returns-in-Err-clause-seen : goal.returns-in-Err-clause-seen
returns-in-Err-clause-seen g c =
    let tree = c.args.self.now.worktree.worktree.now in
    barred_seen (g.W.Worktree.may_stat tree) (g.W.Worktree.may_open tree) (bstr_bytes c.args.path) c.in-Err.error c.found_barred.result
    (g.met.W.Worktree.open_may_fail tree (bstr_bytes c.args.path)) (c.in-Err.ensures.seen c.requires) c.found_barred.ensures
