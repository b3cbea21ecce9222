use Rattle.std.proofs.Common.{ap, ◌∙◌}
use Rattle.status_index.specs.States.{entries_of}
use Rattle.git_attributes.proofs.SharedSearch.{all_found}
use Rattle.git_attributes.proofs.shared_search.find_attribute_files.Goals as goal

pub returns : goal.returns
returns g c =
    let tree = c.args.search.now.worktree.worktree.now in
    all_found (g.W.Worktree.may_stat tree) (g.W.Worktree.may_open tree) c.args.search.now.index.now c.in_ok-top.top c.in_ok-quarters.field-0 c.entries.result.now c.append.result (c.entries.ensures.value ∙ ap entries_of c.index.ensures)
    c.in_ok-top.ensures c.in_ok-quarters.ensures c.append.ensures
