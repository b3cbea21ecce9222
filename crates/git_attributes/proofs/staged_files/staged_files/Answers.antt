use Rattle.std.proofs.Common.{All, Global, Vec, ap, map, subst, sym, ◌∙◌}
use Rattle.status_index.specs.States.{index_of}
use Rattle.git_attributes.specs.StagedFiles.{IsStagedFile}
use Rattle.git_attributes.specs.Views.{file_view}
use Rattle.git_attributes.specs.declared.files.AttributeFile.{AttributeFile}
use Rattle.git_attributes.proofs.StagedFiles.{one_more, staged_at}
use Rattle.git_attributes.proofs.staged_files.staged_files.Goals.{in-Some+in_ok-push, in_default}
use Rattle.git_attributes.proofs.staged_files.staged_files.Goals as goal

pub loop-entry-preserved : goal.loop-entry-preserved
loop-entry-preserved g c =
    let index = index_of c.args.index.now in
    let inner = map file_view c.args.inner.now in
    elim c.match-branch-2.branch [
      | in-Some+in_ok-push w ↦ one_more index inner c.loop-entry.files.items c.match-branch-2.files.items w.in-Some.file (ap (λ (v : Vec AttributeFile Global). v.items) w.files-is ∙ w.in_ok-push.ensures.items)
          (staged_at c.args.index.now c.entries-entry-items.result.now c.path_backing.result.now inner _ c.loop-entry.entry-index _ c.loop-entry-test.true c.entries-entry-items.ensures.value c.path_backing.ensures (rw w.in-Some.is at c.in_ok-file.ensures))
          c.loop-entry.invariant
      | in_default w ↦ subst (λ (v : Vec AttributeFile Global). All (IsStagedFile index inner) (map file_view v.items)) (sym w.files-is) c.loop-entry.invariant
    ]
