use Rattle.std.proofs.Common.{◌∙◌, sym, ap, map, take, drop, ◌-◌}
use Rattle.std.proofs.lemmas.List.{take-map, drop-map}
use Rattle.bstr.specs.BStr.{bstr_bytes}
use Rattle.status_index.specs.Entries.{index_entry}
use Rattle.status_index.specs.States.{entries_of, backing_of, index_of}
use Rattle.status_index.proofs.Places.{filter-at}
use Rattle.status_index.proofs.state.State.entries_at.Goals as goal

pub returns : goal.returns
returns c =
    let s = c.args.self.now in
    let a = c.places_of-start.result.0 in
    let b = c.places_of-start.result.1 in
    let places = rw c.as_bytes.ensures at c.places_of-start.ensures in
    let said = index_entry (backing_of s) in
    ap (λ es. map said (take (b - a) (drop a es))) c.deref.ensures.value
    ∙ sym (take-map said (b - a) (drop a (entries_of s))) ∙ ap (take (b - a)) (sym (drop-map said a (entries_of s)))
    ∙ rw (places.start, places.end) (sym (filter-at (index_of s) (bstr_bytes c.args.path) s.valid))
