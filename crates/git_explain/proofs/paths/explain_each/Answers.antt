use Rattle.std.proofs.Common.{List, ap, map, refl, ◌∙◌}
use Rattle.git_attributes.specs.Files.{attributes_of}
use Rattle.git_attributes.specs.Views.{file_view}
use Rattle.git_attributes.specs.declared.files.AttributeFile.{AttributeFile}
use Rattle.git_explain.proofs.Adding.{adds_anyhow, all_explained}
use Rattle.git_explain.proofs.paths.explain_each.Goals as goal

pub returns : goal.returns
returns g c =
    let read = c.in_ok-attributes.ensures ∙ ap (λ (v : List AttributeFile). attributes_of (map file_view v)) c.deref.ensures.value in
    all_explained _ _ c.args.index.now (record {
      files = map file_view c.in_ok-files.files.items;
      found = record { inner = map file_view c.in_ok-within.within.items; found = rw (c.new.ensures.worktree, c.new.ensures.index) at c.in_ok-within.ensures; others = c.in_ok-files.ensures };
      filter = _;
      attributes = read;
      configured = refl;
      entries = refl;
      kind = refl;
    }) _ _ refl refl (adds_anyhow _ _ _ _ _ _ _ _ _ _ (rw c.new-2.ensures at c.in_ok-add_entries.ensures))
