-- The index loaded from a stored index.
use Rattle.std.proofs.Common.{◌≡◌, List, map, Some, None, Err, sym, ap, ◌∙◌}
use Rattle.serde_json.specs.Data.{Data}
use Rattle.status_index.specs.declared.stat.Moment.{Moment}
use Rattle.status_index.specs.declared.state.IndexError.{IndexError}
use Rattle.status_index.specs.declared.state.IndexError.TheVariants as refusals
use Rattle.status_index.specs.Entries.{IndexEntry, IsIndex}
use Rattle.status_stored.specs.declared.error.ReopenError.{ReopenError}
use Rattle.status_stored.specs.declared.error.ReopenError.TheVariants.{NotUtf8, Unreadable, Memory}
use Rattle.status_stored.specs.Loading.{IsRefusedIndex}
use Rattle.status_stored.specs.Reading.{index_in}
use Rattle.status_stored.specs.RoundTrip.{IsReadAgain, IsRoundTrip}
use Rattle.status_format.specs.Storable.{known_entry}
use Rattle.status_stored.specs.Storable.{IsStorableIndex}
use Rattle.status_stored.specs.StoredIndex.{stored_index}
use Rattle.status_stored.proofs.Back.{index_back, known_index}

-- If a written value isn't parsed, the error is out of memory.
pub parse_refused : (es : List IndexEntry) (t : Moment) (d : Data) (e : ReopenError) → IsReadAgain d (Err e) → IsRoundTrip es t (Err e)
parse_refused es t d (NotUtf8 at) h = absurd h
parse_refused es t d Unreadable h = absurd h
parse_refused es t d Memory h = tt

one_pair : (a b : List IndexEntry × Moment) → Some a ≡ Some b → a ≡ b
one_pair a b h = cc

module _ (es : List IndexEntry) (t : Moment) (d : Data) (is : d ≡ stored_index es t) (h : IsStorableIndex es t) where
  said : index_in d ≡ Some (map known_entry es, t)
  said = rw is (index_back es t h)

  pub loaded_same : (read : List IndexEntry) (at : Moment) → index_in d ≡ Some (read, at) → (read ≡ map known_entry es) × (at ≡ t)
  loaded_same read at loaded =
      let same = one_pair (read, at) (map known_entry es, t) (sym loaded ∙ said) in
      (ap (λ pair. pair.0) same, ap (λ pair. pair.1) same)

  pub never_form : index_in d ≡ None → ⊥
  never_form none = cc said

  pub never_refused : (e : IndexError) → IsIndex es → IsRefusedIndex (index_in d) e → ⊥
  never_refused (refusals.EmptyPath at) index refused =
      let refusal = rw said at refused in
      refusal.1 (known_index es index)
  never_refused (refusals.NotAscending at) index refused =
      let refusal = rw said at refused in
      refusal.1 (known_index es index)
  never_refused (refusals.MixedHash at) index refused =
      let refusal = rw said at refused in
      refusal.1 (known_index es index)
  never_refused refusals.Memory index refused = rw said at refused
