use Rattle.std.proofs.Common.{◌≡◌, List, ◌++◌, map, true, false, refl, sym, ◌∙◌, ap}
use Rattle.std.proofs.lemmas.List.{append-nil, map_push}
use Rattle.bstr.specs.BStr.{bstr_bytes}
use Rattle.git_attributes.specs.Files.{File}
use Rattle.git_attributes.specs.Views.{file_view}
use Rattle.git_attributes.specs.WorktreeFiles.{file_path}
use Rattle.git_attributes.specs.declared.worktree_files.Found.TheVariants.{File as FoundFile, NoFile, NoFolder}
use Rattle.git_attributes.proofs.FolderSights.{folder_added}
use Rattle.git_attributes.proofs.worktree_files.FolderSearch.add_file.Goals as goal

pub returns-in-File-clause-added : goal.returns-in-File-clause-added
returns-in-File-clause-added g c =
    let tree = c.args.self.now.worktree.worktree.now in
    let old : List File = map file_view c.args.files.now.items in
    let path : bstr_bytes c.new-path.result ≡ file_path c.args.folder.now = c.new-path.ensures ∙ c.as_slice.ensures.value ∙ c.in_ok-path.ensures in
    folder_added (g.W.Worktree.may_stat tree) (g.W.Worktree.may_open tree) c.args.folder.now (bstr_bytes c.new-path.result) (FoundFile c.in-File.bytes) true old (map file_view c.push.new.self.items)
    path (rw c.in-File.is at c.in_ok-bytes.ensures.seen) (λ gone. cc)
    (ap (map file_view) c.in_ok-push-in-File.ensures.items ∙ map_push file_view c.args.files.now.items c.in_ok-new_file-in-File.field-0 ∙ ap (λ (v : List File). old ++ v) c.in_ok-new_file-in-File.ensures)

pub returns-in-NoFile-clause-added : goal.returns-in-NoFile-clause-added
returns-in-NoFile-clause-added g c =
    let tree = c.args.self.now.worktree.worktree.now in
    let old : List File = map file_view c.args.files.now.items in
    let path : bstr_bytes c.new-path.result ≡ file_path c.args.folder.now = c.new-path.ensures ∙ c.as_slice.ensures.value ∙ c.in_ok-path.ensures in
    folder_added (g.W.Worktree.may_stat tree) (g.W.Worktree.may_open tree) c.args.folder.now (bstr_bytes c.new-path.result) NoFile true old old
    path (rw c.in-NoFile.is at c.in_ok-bytes.ensures.seen) (λ gone. cc) (sym (append-nil old))

pub returns-clause-added : goal.returns-clause-added
returns-clause-added g c =
    let tree = c.args.self.now.worktree.worktree.now in
    let old : List File = map file_view c.args.files.now.items in
    let path : bstr_bytes c.new-path.result ≡ file_path c.args.folder.now = c.new-path.ensures ∙ c.as_slice.ensures.value ∙ c.in_ok-path.ensures in
    folder_added (g.W.Worktree.may_stat tree) (g.W.Worktree.may_open tree) c.args.folder.now (bstr_bytes c.new-path.result) NoFolder false old old
    path (rw c.in-NoFolder.is at c.in_ok-bytes.ensures.seen) (λ gone. refl) (sym (append-nil old))
