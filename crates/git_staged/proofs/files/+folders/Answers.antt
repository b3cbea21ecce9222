use Rattle.std.proofs.Common.{◌≡◌, ◌++◌, ◌-◌, [], List, refl, sym, ap, ◌∙◌, append_assoc}
use Rattle.std.proofs.lemmas.List.{append-nil}
use Rattle.std.proofs.lemmas.Result.{on_ok_weaker}
use Rattle.status_index.specs.BlobId.{id_kind}
use Rattle.status_index.specs.Entries.{IndexEntry}
use Rattle.status_index.specs.States.{index_of}
use Rattle.git_staged.specs.Folders.{IsKnown}
use Rattle.git_staged.specs.TreeFiles.{HasFiles}
use Rattle.git_staged.proofs.Folders.{start, more, end, known_end}
use Rattle.git_staged.proofs.files.+folders.Goals as goal

pub add_folder-items-init : goal.add_folder-items-init
add_folder-items-init g t c = record {
  path = refl;
  files = ([], sym (append-nil (index_of c.args.files.now)), start (HasFiles (IsKnown c.args.folders) (c.args.depth - 1)) (id_kind c.args.tree) c.as_slice-rest.result.now c.args.path.now.items);
}

pub add_folder-items-preserved : goal.add_folder-items-preserved
add_folder-items-preserved g t c =
    let before = c.items.invariant.files in
    let added = c.in_default-add_item.ensures.files in
    let old = index_of c.args.files.now in
    let seen : index_of c.add_item.new.files ≡ old ++ (before.0 ++ added.0) = added.1 ∙ (ap (λ (l : List IndexEntry). l ++ added.0) before.1 ∙ append_assoc old before.0 added.0) in
    let begins = rw (c.kind.ensures, c.in-Ok-Some.field-0-is) at c.in-Ok-Some.ensures in
    record {
      path = c.in_default-add_item.ensures.path ∙ c.items.invariant.path;
      files = (
        before.0 ++ added.0,
        seen,
        more (HasFiles (IsKnown c.args.folders) (c.args.depth - 1)) (id_kind c.args.tree) c.as_slice-rest.result.now c.args.path.now.items before.0 added.0 c.items.rest.now c.in-Ok-Some.first.rest.now c.in-Ok-Some.first.item before.2 begins (rw c.items.invariant.path at added.2),
      );
    }

pub add_folder-returns-in-Ok-None-clause-files : goal.add_folder-returns-in-Ok-None-clause-files
add_folder-returns-in-Ok-None-clause-files g t c =
    let all = c.items.invariant.files in
    let object = rw (c.in-Tree.is, ← c.as_slice-rest.ensures.value) at c.in-Ok.ensures in
    let done = rw c.in-Ok-None.field-0-is at c.in-Ok-None.ensures in
    (all.0, all.1, end (IsKnown c.args.folders) c.args.depth c.args.tree c.as_slice-rest.result.now c.args.path.now.items all.0 c.items.rest.now (λ zero. c.if-depth-eq0.false zero) object all.2 done)

pub add_folder-returns-in-Some-clause-files : goal.add_folder-returns-in-Some-clause-files
add_folder-returns-in-Some-clause-files g t c =
    let here = rw c.as_slice.ensures.value at c.in-Some.ensures in
    on_ok_weaker c.add_copies.result (λ added. (
      _,
      added.2,
      known_end (IsKnown c.args.folders) c.args.depth c.args.tree c.args.path.now.items _ (λ zero. c.if-depth-eq0.false zero) (rw c.path_backing.ensures (here added.0 added.1)),
    )) c.add_copies.ensures
