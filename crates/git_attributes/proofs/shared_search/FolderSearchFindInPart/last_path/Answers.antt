use Rattle.std.proofs.Common.{refl, sym, ◌∙◌}
use Rattle.status_index.specs.States.{backing_of}
use Rattle.git_attributes.proofs.FoundFiles.{last_path_got}
use Rattle.git_attributes.proofs.shared_search.FolderSearchFindInPart.last_path.Goals as goal

pub returns-in-Some : goal.returns-in-Some
returns-in-Some g c =
    last_path_got (backing_of c.args.self.now.index.now) c.path_backing.result.now c.args.before.now c.as_bytes.result.now c.args.part.now c.in-Some.entry.now
    (c.path_backing.ensures ∙ rw c.index.ensures (refl)) (c.as_bytes.ensures ∙ c.path_in.ensures) (sym c.last.ensures.value ∙ rw c.in-Some.is refl)
