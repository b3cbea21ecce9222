use Rattle.std.proofs.Common.{ap, ◌∙◌}
use Rattle.serde_json.specs.Data.{put}
use Rattle.serde_json.specs.View.{members_view, view}
use Rattle.serde_json.proofs.Views.{members_view-insert_entry}
use Rattle.status_stored.proofs.store.with_member.Goals as goal

pub returns : goal.returns
returns c =
    ap members_view c.in_ok-insert.ensures.entries
    ∙ members_view-insert_entry _ c.in_ok-from_str.field-0 c.args.value
    ∙ ap (λ key. put key (view c.args.value) (members_view c.args.members.entries)) c.in_ok-from_str.ensures.ok
