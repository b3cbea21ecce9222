-- The entries after all pairs.
use Rattle.std.proofs.Common.{◌≡◌, refl, ap, subst, ◌∙◌, ℕ, ◌≤◌, Bool, List, length, take, take_all, flat_map, sum_by, Option, Some, None, option_map}
use Rattle.std.specs.List.{enumerate_from}
use Rattle.std.proofs.lemmas.List.Folds.{flat_map-map}
use Rattle.status_rewrites.specs.declared.tracker.Pair.{Pair}
use Rattle.status_rewrites.specs.declared.place.Place.{Place}
use Rattle.status_rewrites.specs.declared.rewrites.Rewritten.{Rewritten}
use Rattle.status_rewrites.specs.AfterRewrites.{IsRewritten, after_rewrites, pair_to, pairs_of, parts, entries_here, item_left}
use Rattle.status_rewrites.specs.Lawful.{AreLawful}
use Rattle.status_rewrites.specs.Parts.{renames_from}
use Rattle.status_rewrites.specs.Places.{standing_by, standing_in}
use Rattle.status_rewrites.proofs.Gets.{flat_map_agree}
use Rattle.status_rewrites.proofs.Pairing.{HasPaired}
use Rattle.status_rewrites.proofs.Placing.{is_copying, place_at, places_after}
use Rattle.status_rewrites.proofs.Weights.{all_weigh}

same_standing : {I : Type 0} (o : Option I) (m : Option (Pair × I)) → standing_by o (option_map (λ (n : Pair × I). n.1) m) (is_copying m) ≡ entries_here o m
same_standing None m = refl
same_standing (Some x) None = refl
same_standing (Some x) (Some m) = refl

-- The states' entries are the list after the rewrites.
all_standing : {I : Type 0} (xs : List I) (ms : List (Pair × I)) → flat_map standing_in (places_after xs ms) ≡ after_rewrites xs ms
all_standing {I} xs ms =
    flat_map-map standing_in (λ (e : ℕ × I). place_at ms e.0 e.1) (enumerate_from 0 xs)
    ∙ flat_map_agree (λ (e : ℕ × I). standing_in (place_at ms e.0 e.1)) (λ (e : ℕ × I). entries_here (item_left (renames_from (pairs_of ms) e.0) e.1) (pair_to ms e.0))
    (λ (e : ℕ × I). same_standing (item_left (renames_from (pairs_of ms) e.0) e.1) (pair_to ms e.0)) (enumerate_from 0 xs)

pub all_rewritten : {I : Type 0} (removed walked : I → Bool) (is_made_of : I → I → Type 0) (xs : List I) (ps : List Pair) (n : ℕ) (places : List (Place I)) (entries : List (Rewritten I)) → length ps ≤ n → HasPaired removed walked is_made_of xs (take n ps) places → entries ≡ flat_map standing_in places → AreLawful removed walked xs ps × IsRewritten is_made_of xs ps entries
all_rewritten removed walked is_made_of xs ps n places entries all h is =
    let whole : take n ps ≡ ps = take_all n ps all in
    let lawful : AreLawful removed walked xs ps = subst (λ qs. AreLawful removed walked xs qs) whole h.lawful in
    let rewritten : IsRewritten is_made_of xs ps entries = record {
      moves = h.moves;
      moves_are = h.moves_are ∙ whole;
      bring = h.bring;
      entries_are = is ∙ ap (flat_map standing_in) h.places_are ∙ all_standing xs h.moves;
      bag = λ f. ap (λ es. sum_by f (flat_map parts es)) is ∙ all_weigh f places ∙ h.bag f;
    } in
    (lawful, rewritten)
