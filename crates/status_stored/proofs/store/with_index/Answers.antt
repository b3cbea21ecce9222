use Rattle.std.proofs.Common.{refl, ◌∙◌}
use Rattle.status_stored.proofs.store.with_index.Goals as goal

pub returns-in-Ok-with_index_members : goal.returns-in-Ok-with_index_members
returns-in-Ok-with_index_members c =
    let stored = rw (c.entries.ensures.value, c.path_backing.ensures) at c.in-Ok.ensures in
    let made = rw c.timestamp.ensures at c.in-Ok-with_index_members.ensures in
    (record { entries = stored.storable; secs = made.secs; nsecs = made.nsecs }, made.members ∙ rw stored.shown refl)
