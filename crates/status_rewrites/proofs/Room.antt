-- The states that leave room for a pair.
use Rattle.std.proofs.Common.{◌≡◌, refl, ap, ◌∙◌, ℕ, zero, suc, Bool, true, false, Option, Some, None}
use Rattle.std.proofs.lemmas.Bool.{false≢true, true≢false}
use Rattle.status_rewrites.specs.declared.tracker.Pair.{Pair}
use Rattle.status_rewrites.specs.Places.{is_free, may_go}
use Rattle.status_rewrites.proofs.Placing.{place_of}

-- An item without a part.
pub when_free : {I : Type 0} (test : I → Bool) (g k : ℕ) (m : Option (Pair × I)) (x : I) → is_free test (place_of g k m x) ≡ true → (g ≡ 0) × (k ≡ 0) × (m ≡ None) × (test x ≡ true)
when_free test zero zero None x h = (refl, refl, refl, h)
when_free test (suc g) zero None x h = absurd (false≢true h)
when_free test g zero (Some n) x h = absurd (false≢true h)
when_free test g (suc k) m x h = absurd (false≢true h)

pub free_when : {I : Type 0} (test : I → Bool) (g k : ℕ) (m : Option (Pair × I)) (x : I) → g ≡ 0 → k ≡ 0 → m ≡ None → test x ≡ true → is_free test (place_of g k m x) ≡ true
free_when test g k m x eg ek em h =
    ap (λ t. is_free test (place_of t k m x)) eg
    ∙ ap (λ t. is_free test (place_of 0 t m x)) ek
    ∙ ap (λ t. is_free test (place_of 0 0 t x)) em
    ∙ h

-- An item that is still there, and is no destination.
copies_when_at : {I : Type 0} (removed : I → Bool) (k : ℕ) (x : I) → may_go removed true (place_of 0 k None x) ≡ true
copies_when_at removed k x = refl

pub copies_when : {I : Type 0} (removed : I → Bool) (g k : ℕ) (m : Option (Pair × I)) (x : I) → g ≡ 0 → m ≡ None → may_go removed true (place_of g k m x) ≡ true
copies_when removed g k m x eg em =
    ap (λ t. may_go removed true (place_of t k m x)) eg
    ∙ ap (λ t. may_go removed true (place_of 0 k t x)) em
    ∙ copies_when_at removed k x

-- An item that may be a source.
pub when_goes : {I : Type 0} (removed : I → Bool) (c : Bool) (g k : ℕ) (m : Option (Pair × I)) (x : I) → may_go removed c (place_of g k m x) ≡ true → (g ≡ 0) × (m ≡ None) × (c ≡ false → (k ≡ 0) × (removed x ≡ true))
when_goes removed true zero k None x h = (refl, refl, λ e. absurd (true≢false e))
when_goes removed true (suc g) k None x h = absurd (false≢true h)
when_goes removed true g k (Some n) x h = absurd (false≢true h)
when_goes removed false g k m x h =
    let open_there = when_free removed g k m x h in
    (open_there.0, open_there.2, λ e. (open_there.1, open_there.3))
