use Rattle.std.proofs.Common.{◌≡◌, ◌++◌, ◌∙◌, map, subst, sym}
use Rattle.std.specs.List.{filter}
use Rattle.std.specs.List.Sorted.{IsPermutation}
use Rattle.std.proofs.lemmas.List.Elements.{filter-append}
use Rattle.std.proofs.lemmas.List.Sorted.{IsPermutation-map}
use Rattle.status_index.specs.States.{index_of}
use Rattle.git_staged.specs.Letters.{changes, deletions}
use Rattle.git_staged.specs.Staged.{is_selected, staged_view}
use Rattle.git_staged.proofs.Ordered.{views_sorted}
use Rattle.git_staged.proofs.staged.staged_changes.Goals as goal

pub returns : goal.returns
returns g c =
    let head = index_of c.args.head.now in
    let index = index_of c.args.index.now in
    let selects = is_selected (g.P.Pathspec.included c.args.paths.now) head index in
    let first = rw (c.deref.ensures.value, c.in_ok-changed.ensures, c.new-found.ensures.items) at c.in_ok-push_selected.ensures in
    let both = rw (c.deref-2.ensures.value, c.in_ok-deleted.ensures, first) at c.in_ok-push_selected-2.ensures in
    record {
      all = subst (λ all. IsPermutation all (map staged_view c.sort_by_path.new.found.items)) (both ∙ sym (filter-append selects (changes head index) (deletions index head))) (IsPermutation-map staged_view _ _ c.in_ok-sort_by_path.ensures.bag);
      order = views_sorted c.sort_by_path.new.found.items c.in_ok-sort_by_path.ensures.order;
    }
