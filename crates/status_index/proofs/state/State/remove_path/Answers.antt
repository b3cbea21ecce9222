use Rattle.std.proofs.Common.{◌∙◌, ap}
use Rattle.bstr.specs.BStr.{bstr_bytes}
use Rattle.status_index.specs.Entries.{index_entries}
use Rattle.status_index.specs.States.{index_of}
use Rattle.status_index.proofs.Staging.{IsIndex-without, stored-without}
use Rattle.status_index.proofs.state.State.remove_path.Goals as goal

pub invariant_of-self : goal.invariant_of-self
invariant_of-self c =
    let s = c.args.self.now in
    let path = bstr_bytes c.args.path in
    let places = rw c.as_bytes.ensures at c.places_of-start.ensures in
    let left = c.drop-drain.ensures.items ∙ c.drain.ensures.kept in
    record { valid = rw (left, stored-without s.backing s.entries.items path s.valid _ _ places.start places.end) (IsIndex-without (index_of s) path s.valid) }

pub returns-clause-index : goal.returns-clause-index
returns-clause-index c =
    let s = c.args.self.now in
    let places = rw c.as_bytes.ensures at c.places_of-start.ensures in
    let left = c.drop-drain.ensures.items ∙ c.drain.ensures.kept in
    ap (index_entries s.backing) left
    ∙ stored-without s.backing s.entries.items (bstr_bytes c.args.path) s.valid _ _ places.start places.end
