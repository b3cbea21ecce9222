use Rattle.std.proofs.Common.{map}
use Rattle.std.specs.Str.{IsUtf8}
use Rattle.std.proofs.lemmas.List.Elements.{All-same}
use Rattle.serde_json.specs.View.{view}
use Rattle.status_index.specs.Entries.{IndexEntry, new_entry}
use Rattle.status_profile.specs.Profiles.{field_values, profile_in}
use Rattle.status_profile.proofs.Readings.{index_refused}
use Rattle.status_profile.proofs.profile.Profile.from_value.Goals as goal

pub returns-in-Err-clause-read : goal.returns-in-Err-clause-read
returns-in-Err-clause-read c =
    let said = c.in_ok-hash.ensures.read in
    rw c.of_index.ensures (index_refused (profile_in c.args.kind (view c.args.value.now)) (field_values c.in_ok-hash.field-0) said c.in-Err.error c.in-Err.ensures.refused)

pub returns-in-Ok-clause-utf8 : goal.returns-in-Ok-clause-utf8
returns-in-Ok-clause-utf8 c =
    All-same (λ (x : IndexEntry). IsUtf8 x.path) _ (map new_entry c.in_ok-hash.field-0.entries.items) c.in-Ok.ensures.ok.1 c.in_ok-hash.ensures.utf8
