use Rattle.std.proofs.Common.{◌≡◌, ◌≤◌, ◌-◌, true, length, take, drop}
use Rattle.std.specs.List.{list_any}
use Rattle.git_ignore.specs.Excluded.{folders_above, folders_from, is_matched}
use Rattle.git_ignore.specs.Views.{rules_view}
use Rattle.git_ignore.proofs.rules.IgnoreRules.is_excluded.Given as goal

abbrev pub invariant-folders : goal.invariant-folders
invariant-folders l = record {
  same : list_any (λ folder. is_matched (rules_view l.self) folder true) (folders_from (take l.at l.path) (drop l.at l.path))
      ≡ list_any (λ folder. is_matched (rules_view l.self) folder true) (folders_above l.path);
  inside : l.at ≤ length l.path;
}

abbrev pub decreases-folders : goal.decreases-folders
decreases-folders l = length l.path - l.at
