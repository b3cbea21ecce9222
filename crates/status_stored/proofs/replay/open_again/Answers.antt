use Rattle.std.proofs.Common.{refl, subst, Err}
use Rattle.status_index.specs.States.{index_of, timestamp_of}
use Rattle.status_stored.specs.RoundTrip.{IsRoundTrip}
use Rattle.status_stored.proofs.Opened.{not_text, unread, storable, refused}
use Rattle.status_stored.proofs.replay.open_again.Goals as goal

pub returns-in-Err-NotUtf8 : goal.returns-in-Err-NotUtf8
returns-in-Err-NotUtf8 c =
    let index = c.index.result.now in
    let answer = subst (λ e. IsRoundTrip (index_of index) (timestamp_of index) (Err e)) c.in-Err-NotUtf8.field-0-is c.in-Err-NotUtf8.ensures in
    record { kept = refl; storable = tt; refused = not_text _ _ (timestamp_of index) _ c.index.ensures.entries answer }

pub returns-in-Err-Unreadable : goal.returns-in-Err-Unreadable
returns-in-Err-Unreadable c =
    let index = c.index.result.now in
    let answer = subst (λ e. IsRoundTrip (index_of index) (timestamp_of index) (Err e)) c.in-Err-Unreadable.field-0-is c.in-Err-Unreadable.ensures in
    record { kept = refl; storable = tt; refused = unread _ _ (timestamp_of index) c.index.ensures.entries answer }

pub returns-clause-storable : goal.returns-clause-storable
returns-clause-storable c = storable c.args.world.now _ _ c.in-Ok.index c.reopen.result c.index.ensures.entries c.index.ensures.timestamp c.in-Ok.ensures

pub returns-clause-refused : goal.returns-clause-refused
returns-clause-refused c =
    refused _ _ _ c.in-Ok.index _ _ c.index.ensures.entries c.index.ensures.timestamp c.in-Ok.ensures c.reopen.ensures
