use Rattle.std.proofs.Common.{◌≡◌, ◌++◌, List, ap, ◌∙◌}
use Rattle.status_index.specs.Entries.{IndexEntry}
use Rattle.status_index.specs.States.{index_of}
use Rattle.git_staged.proofs.files.read_beside.Goals as goal

pub returns-in-Ok : goal.returns-in-Ok
returns-in-Ok g c =
    let added = c.in-Ok.ensures.files in
    let all : index_of c.add_folder.new.files ≡ added.0 = added.1 ∙ ap (λ (l : List IndexEntry). l ++ added.0) c.new-files.ensures.index in
    (2049, rw all (rw c.in_ok-path.ensures.items at added.2))
