-- The destination of each rewrite is a walked item.
use Rattle.std.proofs.Common.{◌≡◌, refl, sym, ap, subst, ◌∙◌, ℕ, zero, suc, ◌+◌, ◌<◌, inl, inr, Bool, true, List, [], ◌∷◌, Option, Some, None, slice_get, flat_map, arith}
use Rattle.std.specs.List.{All, enumerate_from}
use Rattle.std.proofs.lemmas.Bool.{cases_lt}
use Rattle.std.proofs.lemmas.List.Elements.{All-append, All-nil, All-push}
use Rattle.std.proofs.lemmas.Option.{none-some, same_Some}
use Rattle.status_rewrites.specs.declared.tracker.Pair.{Pair}
use Rattle.status_rewrites.specs.declared.rewrites.Rewritten.{Rewritten}
use Rattle.status_rewrites.specs.declared.rewrites.Rewritten.TheVariants.{Alone, Rewrite}
use Rattle.status_rewrites.specs.AfterRewrites.{IsRewritten, pair_to, pairs_of, entries_here, item_left}
use Rattle.status_rewrites.specs.Entries.{IsLed}
use Rattle.status_rewrites.specs.Lawful.{AreLawful}
use Rattle.status_rewrites.specs.Parts.{renames_from, pairs_to}
use Rattle.status_rewrites.proofs.Counting.{none_coming}

-- If the results for each element and its position have a property, all results have it.
each_holds : {X Y : Type 0} (P : Y → Type 0) (g : ℕ × X → List Y) (n : ℕ) (xs : List X) → ((i j : ℕ) (x : X) → n + i ≡ j → slice_get xs i ≡ Some x → All P (g (j, x))) → All P (flat_map g (enumerate_from n xs))
each_holds P g n [] h = All-nil P
each_holds P g n (x ∷ xs) h =
    All-append P (g (n, x)) (flat_map g (enumerate_from (n + 1) xs)) (h 0 n x (omega arith) refl)
    (each_holds P g (n + 1) xs (λ i j z e here. h (suc i) j z (omega (arith, e)) here))

pair_comes : {I : Type 0} (ms : List (Pair × I)) (i : ℕ) (m : Pair × I) → pair_to ms i ≡ Some m → 0 < pairs_to (pairs_of ms) i
pair_comes ms i m h = elim (cases_lt 0 (pairs_to (pairs_of ms) i)) [
  | inl some ↦ some
  | inr none ↦ absurd (none-some m (sym (none_coming ms i (omega (arith, none))) ∙ h))
]

module _ {I : Type 0} (walked : I → Bool) where
  one_led : (e : Rewritten I) → IsLed walked e → All (IsLed walked) (e ∷ [])
  one_led e h = All-push (IsLed walked) [] e (All-nil (IsLed walked)) h

  standing_led : (o : Option I) (m : Option (Pair × I)) (x : I) → ((z : I) → o ≡ Some z → z ≡ x) → ((n : Pair × I) → m ≡ Some n → walked x ≡ true) → All (IsLed walked) (entries_here o m)
  standing_led None m x same led = All-nil (IsLed walked)
  standing_led (Some z) None x same led = one_led (Alone z) tt
  standing_led (Some z) (Some n) x same led = one_led (Rewrite n.1 z n.0.copy) (ap walked (same z refl) ∙ led n refl)

  stays_same : (n : ℕ) (x z : I) → item_left n x ≡ Some z → z ≡ x
  stays_same zero x z h = sym (same_Some x z h)
  stays_same (suc n) x z h = absurd (none-some z h)

pub destinations_walked : {I : Type 0} (removed walked : I → Bool) (is_made_of : I → I → Type 0) (xs : List I) (ps : List Pair) (entries : List (Rewritten I)) → AreLawful removed walked xs ps → IsRewritten is_made_of xs ps entries → All (IsLed walked) entries
destinations_walked {I} removed walked is_made_of xs ps entries lawful h =
    let ms = h.moves in
    let g = λ (e : ℕ × I). entries_here (item_left (renames_from (pairs_of ms) e.0) e.1) (pair_to ms e.0) in
    let all : All (IsLed walked) (flat_map g (enumerate_from 0 xs)) = each_holds (IsLed walked) g 0 xs (λ i j x e here.
    let there : slice_get xs j ≡ Some x = let same : i ≡ j = omega (arith, e) in subst (λ k. slice_get xs k ≡ Some x) same here in
    standing_led walked (item_left (renames_from (pairs_of ms) j) x) (pair_to ms j) x (stays_same walked (renames_from (pairs_of ms) j) x)
    (λ n come. (lawful.each j x there).comes_walked (subst (λ qs. 0 < pairs_to qs j) h.moves_are (pair_comes ms j n come)))) in
    subst (All (IsLed walked)) (sym h.entries_are) all
