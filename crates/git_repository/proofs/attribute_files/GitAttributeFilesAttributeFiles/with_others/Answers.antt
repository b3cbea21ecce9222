use Rattle.std.proofs.Common.{Global, List, Vec, ap, ◌∙◌}
use Rattle.git_attributes.specs.declared.files.AttributeFile.{AttributeFile}
use Rattle.git_repository.proofs.Outside.{files_with_own, files_without_own}
use Rattle.git_repository.proofs.attribute_files.GitAttributeFilesAttributeFiles.with_others.Goals.{in-Some+in_ok-push, in_default}
use Rattle.git_repository.proofs.attribute_files.GitAttributeFilesAttributeFiles.with_others.Goals as goal

pub returns : goal.returns
returns g c =
    let outer : List AttributeFile = c.in_ok-files.files.items in
    let inner : List AttributeFile = c.args.within.items in
    let both : List AttributeFile = c.append.new.self.items in
    let new : List AttributeFile = c.match-branch-4.files.items in
    elim c.match-branch-4.branch [
      | in-Some+in_ok-push w ↦ files_with_own outer inner both new w.in-Some.own c.in_ok-append.ensures.items (ap (λ (v : Vec AttributeFile Global). v.items) w.files-is ∙ w.in_ok-push.ensures.items)
          (rw w.in-Some.is at c.in_ok-own.ensures) c.in_ok-files.ensures
      | in_default w ↦ files_without_own outer inner new (ap (λ (v : Vec AttributeFile Global). v.items) w.files-is ∙ c.in_ok-append.ensures.items) c.in_ok-files.ensures
    ]
