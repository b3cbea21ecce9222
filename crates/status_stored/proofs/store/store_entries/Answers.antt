use Rattle.status_index.specs.Entries.{index_entry}
use Rattle.status_stored.proofs.Storing.{not_utf8_at, values_more}
use Rattle.status_stored.proofs.store.store_entries.Goals as goal

pub returns-in-Err-Form : goal.returns-in-Err-Form
returns-in-Err-Form c =
    not_utf8_at (index_entry c.args.backing.now) c.args.entries.now c.loop-at.at c.loop-at-test.true
    c.loop-at.invariant.storable (rw c.in-Err-Form.field-0-is at c.in-Err-Form.ensures)

pub loop-at-preserved : goal.loop-at-preserved
loop-at-preserved c =
    rw c.in_ok-push-in-Ok.ensures.items
    (values_more (index_entry c.args.backing.now) c.args.entries.now c.loop-at.at _ _ c.loop-at-test.true
    c.loop-at.invariant c.in-Ok.ensures)
