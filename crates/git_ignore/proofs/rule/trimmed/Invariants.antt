use Rattle.std.proofs.Common.{◌≡◌, ◌≤◌, ◌-◌, length, take, drop}
use Rattle.git_ignore.specs.Rules.{kept, trimmed}
use Rattle.git_ignore.proofs.Trimming.{joined}
use Rattle.git_ignore.proofs.rule.trimmed.Given as goal

abbrev pub invariant-bytes : goal.invariant-bytes
invariant-bytes l = record {
  same : joined (take l.kept l.line) (take l.at l.line) (kept l.is_escaped (drop l.at l.line)) ≡ trimmed l.line;
  within : l.kept ≤ l.at;
  inside : l.at ≤ length l.line;
}

abbrev pub decreases-bytes : goal.decreases-bytes
decreases-bytes l = length l.line - l.at
