use Rattle.std.proofs.Common.{◌≡◌, ◌+◌, ◌*◌, length}
use Rattle.git_ignore.specs.Views.{rules_view}
use Rattle.git_untracked.specs.Lines.{lines_view, paths_of}
use Rattle.git_untracked.specs.Requests.{IsAdded, within_view}
use Rattle.git_untracked.proofs.Walking.{IsSoFar}
use Rattle.git_untracked.proofs.walk.+walk.Given as goal

abbrev pub decreases-walk_folder : goal.decreases-walk_folder
decreases-walk_folder g l = 5 * l.depth

abbrev pub decreases-walk_names : goal.decreases-walk_names
decreases-walk_names g l = 5 * l.depth + 4

abbrev pub decreases-walk_node : goal.decreases-walk_node
decreases-walk_node g l = 5 * l.depth + 2

abbrev pub decreases-walk_name : goal.decreases-walk_name
decreases-walk_name g l = 5 * l.depth + 3

abbrev pub decreases-walk_subfolder : goal.decreases-walk_subfolder
decreases-walk_subfolder g l = 5 * l.depth + 1

abbrev pub invariant-walk_names-names : goal.invariant-walk_names-names
invariant-walk_names-names g l = record {
  path : l.path.items ≡ l.fn.path.items;
  rules : rules_view l.rules ≡ rules_view l.fn.rules;
  lines : IsAdded (IsSoFar (g.Q.Ask.question l.ask) l.fn.path.items (within_view l.within (rules_view l.fn.rules)) (paths_of l.initial.rest) (paths_of l.rest)) (lines_view l.fn.lines) (lines_view l.lines);
}

abbrev pub decreases-walk_names-names : goal.decreases-walk_names-names
decreases-walk_names-names g l = length l.rest
