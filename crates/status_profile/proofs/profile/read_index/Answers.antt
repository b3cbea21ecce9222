use Rattle.std.proofs.Common.{Vec, Global, IfOk, map, sym, subst}
use Rattle.status_index.specs.declared.entry.NewEntry.{NewEntry}
use Rattle.status_index.specs.Entries.{new_entry}
use Rattle.status_stored.specs.Storable.{AreUtf8}
use Rattle.status_profile.specs.declared.error.Key.TheVariants as keys
use Rattle.status_profile.proofs.Readings.{under_ok}
use Rattle.status_profile.proofs.profile.read_index.Goals as goal

abbrev have_utf8 : Vec NewEntry Global → Type 0
have_utf8 es = AreUtf8 (map new_entry es.items)

pub returns-clause-utf8 : goal.returns-clause-utf8
returns-clause-utf8 c =
    subst (λ r. IfOk r have_utf8) (sym c.under.ensures) (under_ok have_utf8 keys.Index c.required_entries.result c.required_entries.ensures.utf8)
