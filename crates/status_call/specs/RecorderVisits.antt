-- A collector gets the whole index, an entry's position, path and status. A recorder's records have them.
use Rattle.std.specs.Prelude.{List, map}
use Rattle.bstr.specs.BStr.{bstr_bytes}
use Rattle.status_call.specs.declared.index_as_worktree.recorder.Record.{Record}
use Rattle.status_call.specs.declared.index_as_worktree.recorder.Recorder.{Recorder}
use Rattle.status_call.specs.Visits.{Visit, visit}

abbrev pub visit_of : {T U : Type 0} → Record T U → Visit T U
visit_of r = visit r.whole.0.now r.entry.now r.entry_index (bstr_bytes r.relative_path) r.status

abbrev pub visits_of : {T U : Type 0} → Recorder T U → List (Visit T U)
visits_of r = map visit_of r.records.items
