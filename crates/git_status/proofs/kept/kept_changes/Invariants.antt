use Rattle.std.proofs.Common.{◌≡◌, map, not, take}
use Rattle.std.specs.List.{list_any}
use Rattle.git_attributes.specs.Views.{attributes_view}
use Rattle.status_call.specs.RecorderVisits.{visit_of}
use Rattle.git_status.specs.Kept.{is_left_out, kept_changes}
use Rattle.git_status.proofs.kept.kept_changes.Given as goal

-- the changes of the records so far
abbrev pub invariant-loop-record : goal.invariant-loop-record
invariant-loop-record g l = record {
  changes : l.changes.items ≡ kept_changes (attributes_view l.fn.attributes, l.fn.configured) (map visit_of (take l.record-index l.records));
  all : l.are_all ≡ not (list_any (is_left_out (attributes_view l.fn.attributes, l.fn.configured)) (map visit_of (take l.record-index l.records)));
}
