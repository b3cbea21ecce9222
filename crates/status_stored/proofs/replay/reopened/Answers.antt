use Rattle.std.proofs.Common.{◌≡◌, ◌≤◌, List, ◌∙◌}
use Rattle.serde_json.specs.Data.{Data, depth}
use Rattle.serde_json.specs.Read.{max_depth}
use Rattle.serde_json.specs.View.{view}
use Rattle.status_index.specs.declared.stat.Moment.{Moment}
use Rattle.status_index.specs.Entries.{IndexEntry}
use Rattle.status_index.specs.States.{index_of, timestamp_of}
use Rattle.status_stored.proofs.Depths.{index_depth}
use Rattle.status_stored.proofs.Reopening.{parse_refused, loaded_same, never_form, never_refused}
use Rattle.status_stored.specs.StoredIndex.{stored_index}
use Rattle.status_stored.proofs.replay.reopened.Goals as goal

flat : (d : Data) (es : List IndexEntry) (t : Moment) → d ≡ stored_index es t → depth d ≤ max_depth
flat d es t is = rw is (index_depth es t)

pub returns-in-Err : goal.returns-in-Err
returns-in-Err c =
    parse_refused (index_of c.args.state.now) (timestamp_of c.args.state.now) (view c.in-Ok.stored) c.in-Err.refused
    (c.in-Err.ensures (flat _ _ _ c.in-Ok.ensures.1))

pub returns-in-Ok-load_index : goal.returns-in-Ok-load_index
returns-in-Ok-load_index c =
    let parsed = c.in-Ok-read_again.ensures (flat _ _ _ c.in-Ok.ensures.1) in
    (c.in-Ok.ensures.0, loaded_same _ _ _ (parsed ∙ c.in-Ok.ensures.1) c.in-Ok.ensures.0 _ _ c.in-Ok-load_index.ensures)

pub returns-in-Err-Form : goal.returns-in-Err-Form
returns-in-Err-Form c =
    let parsed = c.in-Ok-read_again.ensures (flat _ _ _ c.in-Ok.ensures.1) in
    never_form _ _ _ (parsed ∙ c.in-Ok.ensures.1) c.in-Ok.ensures.0 (rw c.in-Err-Form.field-0-is at c.in-Err-Form.ensures)

pub returns-in-Err-Index : goal.returns-in-Err-Index
returns-in-Err-Index c =
    let parsed = c.in-Ok-read_again.ensures (flat _ _ _ c.in-Ok.ensures.1) in
    let refused = rw c.in-Err-Index.field-0-is at c.in-Err-Index.ensures in
    never_refused _ _ _ (parsed ∙ c.in-Ok.ensures.1) c.in-Ok.ensures.0 _ c.args.state.now.valid refused
