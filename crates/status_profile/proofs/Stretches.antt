-- The stretches of a list of events, item by item.
use Rattle.std.proofs.Common.{◌≡◌, true, false, List, [], ◌∷◌, ◌++◌, map, Option, Some, None, option_map, refl, sym, ◌∙◌, append_assoc}
use Rattle.serde_json.specs.Data.{Data, Items, item}
use Rattle.serde_json.specs.Find.{as_array}
use Rattle.std.proofs.lemmas.List.{map-append}
use Rattle.std.specs.Prelude.{Vec}
use Rattle.std.specs.declared.alloc.Global.{Global}
use Rattle.status_world.specs.declared.world.event.Event.{Event}
use Rattle.status_profile.specs.Events.{EventValue, event_of, event_value, is_reopening, stretch_values, stretches_from}

-- these stretches, and after them those of the events and the items that are left
abbrev pub stretches_onto : List (List EventValue) → List EventValue → Items → Option (List (List EventValue))
stretches_onto stretches events js = option_map (λ rest. stretches ++ rest) (stretches_from events js)

onto_more : (s : List (List EventValue)) (e : List EventValue) (r : Option (List (List EventValue))) → option_map (λ rest. s ++ rest) (option_map (λ rest. e ∷ rest) r) ≡ option_map (λ rest. (s ++ e ∷ []) ++ rest) r
onto_more s e None = refl
onto_more s e (Some rest) = simp append_assoc

module _ (s : List (List EventValue)) (e : List EventValue) (j : Data) (js parts : Items) (list : as_array j ≡ Some parts) where
  reopened : is_reopening parts ≡ true → stretches_onto s e (item j js) ≡ stretches_onto (s ++ e ∷ []) [] js
  reopened is = rw (list, is) (onto_more s e (stretches_from [] js))

  one_event : is_reopening parts ≡ false → (x : EventValue) → event_of parts ≡ Some x → stretches_onto s e (item j js) ≡ stretches_onto s (e ++ x ∷ []) js
  one_event is x h = rw (list, is, h) refl

-- a turn of the loop
module _ (stretches : Vec (Vec Event Global) Global) (stretch : Vec Event Global) (j : Data) (js parts : Items) (list : as_array j ≡ Some parts) (whole : Option (List (List EventValue))) (held : stretches_onto (stretch_values stretches) (map event_value stretch.items) (item j js) ≡ whole) where
  pub turn_reopened : is_reopening parts ≡ true → (moved : Vec Event Global) → moved ≡ stretch → (after : Vec (Vec Event Global) Global) → after.items ≡ stretches.items ++ moved ∷ [] → (fresh : Vec Event Global) → fresh.items ≡ [] → stretches_onto (stretch_values after) (map event_value fresh.items) js ≡ whole
  turn_reopened is moved same after pushed fresh empty = rw (pushed, empty, same, map-append) (sym (reopened (stretch_values stretches) (map event_value stretch.items) j js parts list is) ∙ held)

  pub turn_event : is_reopening parts ≡ false → (x : Event) → event_of parts ≡ Some (event_value x) → (after : Vec (Vec Event Global) Global) → after ≡ stretches → (more : Vec Event Global) → more.items ≡ stretch.items ++ x ∷ [] → stretches_onto (stretch_values after) (map event_value more.items) js ≡ whole
  turn_event is x read after same more pushed = rw (same, pushed, map-append) (sym (one_event (stretch_values stretches) (map event_value stretch.items) j js parts list is (event_value x) read) ∙ held)
