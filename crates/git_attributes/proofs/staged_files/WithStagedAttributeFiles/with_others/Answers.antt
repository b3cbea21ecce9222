use Rattle.std.proofs.Common.{◌++◌, map, subst, ap, ◌∙◌}
use Rattle.std.proofs.lemmas.List.{map-append}
use Rattle.std.proofs.lemmas.List.Sorted.{IsPermutation-map}
use Rattle.std.proofs.lemmas.Result.{IfOk-weaker}
use Rattle.std.specs.List.Sorted.{IsPermutation}
use Rattle.git_attributes.specs.Views.{file_view}
use Rattle.git_attributes.proofs.StagedFiles.{files_sorted}
use Rattle.git_attributes.proofs.staged_files.WithStagedAttributeFiles.with_others.Goals as goal

pub returns : goal.returns
returns g c =
    let within = c.args.within.items in
    let staged = c.in_ok-staged.staged.items in
    let sorted = c.sort_by_folder.new.files.items in
    IfOk-weaker c.with_others.result _ _ (λ files others. record {
      staged = map file_view staged;
      each = rw c.deref.ensures.value at c.in_ok-staged.ensures;
      within = map file_view sorted;
      all = subst (λ all. IsPermutation all (map file_view sorted)) (ap (map file_view) c.in_ok-all.ensures ∙ map-append file_view within staged) (IsPermutation-map file_view _ _ c.in_ok-sort_by_folder.ensures.bag);
      order = files_sorted sorted c.in_ok-sort_by_folder.ensures.order;
      others = others;
    }) c.with_others.ensures
