-- A field that is read is the field that was written, and what was written is read again.
use Rattle.std.proofs.Common.{◌≡◌, ℕ, ◌+◌, ◌^◌, ◌<◌, ◌≤◌, Bool, true, false, cond, ltb, List, ◌++◌, length, get_or, take, drop, Result, Ok, Err, if◌then◌else◌, refl, sym, ap, subst, ◌∙◌, append_assoc, arith, inl, inr}
use Rattle.std.specs.Int.{w16, w32, from_be_bytes, to_be_bytes}
use Rattle.std.proofs.lemmas.Bool.{cases_lt, ltb-false, le-ltb}
use Rattle.std.proofs.lemmas.List.{take_at, drop_at, take-append-drop, length-append, length-take, get_or-drop, get_or-take, get_or_past}
use Rattle.std.proofs.lemmas.Nat.{be_bytes_2, be_bytes_4, from_be_bytes-to_be_bytes_2, from_be_bytes-to_be_bytes_4}
use Rattle.git_index.specs.declared.fault.Fault.{Fault}
use Rattle.git_index.specs.declared.fault.Fault.TheVariants.{Truncated}
use Rattle.git_index.specs.Numbers.{u16_bytes, u32_bytes}
use Rattle.git_index.specs.Reading.{◌>>=◌, both, u16_at, u32_at}

abbrev pub IsBytes : List ℕ → Type 0
IsBytes bytes = (i : ℕ) → get_or bytes i 0 < 256

pub IsBytes-drop : (n : ℕ) (bytes : List ℕ) → IsBytes bytes → IsBytes (drop n bytes)
IsBytes-drop n bytes h i = rw get_or-drop (h (n + i))

pub IsBytes-take : (n : ℕ) (bytes : List ℕ) → IsBytes bytes → IsBytes (take n bytes)
IsBytes-take n bytes h i =
    elim (cases_lt i n) [
      | inl lt ↦ rw (get_or-take n bytes i 0 lt) (h i)
      | inr le ↦ rw (get_or_past (take n bytes) i 0 (omega (arith, length-take n bytes))) (omega arith)
    ]

-- the value of a step that did not fail
pub bind_ok : {A B : Type 0} (r : Result A Fault) (f : A → Result B Fault) (y : B) → (r >>= f) ≡ Ok y → (x : A) × (r ≡ Ok x) × (f x ≡ Ok y)
bind_ok (Ok x) f y e = (x, refl, e)
bind_ok (Err d) f y e = absurd cc

-- a test that did not fail
pub guard_ok : {A : Type 0} (b : Bool) (d : Fault) (r : Result A Fault) (y : A) → cond b (Err d) r ≡ Ok y → (b ≡ false) × (r ≡ Ok y)
guard_ok true d r y e = absurd cc
guard_ok false d r y e = (refl, e)

pub guard_yes : {A : Type 0} (b : Bool) (d : Fault) (r : Result A Fault) (y : A) → cond b r (Err d) ≡ Ok y → (b ≡ true) × (r ≡ Ok y)
guard_yes true d r y e = (refl, e)
guard_yes false d r y e = absurd cc

abbrev done : {A : Type 0} → A → Result A Fault
done x = Ok x

pub ok_is : {A : Type 0} (x y : A) → done x ≡ done y → x ≡ y
ok_is x y e = cc

-- what a reader took from the front
pub record Takes (bytes text rest : List ℕ) : Type 0 where
  pub parts : bytes ≡ text ++ rest
  pub rest_fits : IsBytes rest

pub Takes-then : (a x b y c : List ℕ) → Takes a x b → Takes b y c → Takes a (x ++ y) c
Takes-then a x b y c p q = record { parts = p.parts ∙ ap (λ (t : List ℕ). x ++ t) q.parts ∙ sym (append_assoc x y c); rest_fits = q.rest_fits }

-- A reader reads exactly what was spelled.
pub record IsReader (A : Type 0) (f : List ℕ → Result (A × List ℕ) Fault) (spell : A → List ℕ) (Fits : A → Type 0) : Type 0 where
  pub takes : (bytes : List ℕ) (x : A) (rest : List ℕ) → IsBytes bytes → f bytes ≡ Ok (x, rest) → Takes bytes (spell x) rest × Fits x
  pub again : (x : A) (rest : List ℕ) → Fits x → f (spell x ++ rest) ≡ Ok (x, rest)

-- the first bytes, if there are so many
-- what a reader of n bytes returns
abbrev pub front_at : {A : Type 0} → ℕ → (List ℕ → A) → List ℕ → Result (A × List ℕ) Fault
front_at n of bytes = if ltb (length bytes) n then Err Truncated else Ok (of (take n bytes), drop n bytes)

front_parts : {A : Type 0} (n : ℕ) (of : List ℕ → A) (bytes : List ℕ) (x : A) (rest : List ℕ) → front_at n of bytes ≡ Ok (x, rest)
    → (n ≤ length bytes) × (of (take n bytes) ≡ x) × (drop n bytes ≡ rest)
front_parts {A} n of bytes x rest e =
    let g = guard_ok (ltb (length bytes) n) Truncated (Ok (of (take n bytes), drop n bytes)) (x, rest) e in
    let made : A × List ℕ = (of (take n bytes), drop n bytes) in
    let same = ok_is made (x, rest) g.1 in
    (ltb-false _ _ g.0, ap (λ (p : A × List ℕ). p.0) same, ap (λ (p : A × List ℕ). p.1) same)

-- A reader of n bytes.
pub front_reader : {A : Type 0} (n : ℕ) (of : List ℕ → A) (spell : A → List ℕ) (Fits : A → Type 0)
    → ((x : A) → Fits x → length (spell x) ≡ n)
    → ((bytes : List ℕ) → length bytes ≡ n → IsBytes bytes → (spell (of bytes) ≡ bytes) × Fits (of bytes))
    → ((x : A) → Fits x → of (spell x) ≡ x)
    → IsReader A (front_at n of) spell Fits
front_reader {A} n of spell Fits len back again = record {
  takes = λ bytes x rest fits e.
      let p = front_parts n of bytes x rest e in
      let b = back (take n bytes) (omega (arith, length-take n bytes, p.0)) (IsBytes-take n bytes fits) in
      let parts : bytes ≡ spell (of (take n bytes)) ++ drop n bytes = rw b.0 (sym (take-append-drop n bytes)) in
      let whole : Takes bytes (spell (of (take n bytes))) (drop n bytes) × Fits (of (take n bytes)) = (record { parts = parts; rest_fits = IsBytes-drop n bytes fits }, b.1) in
      let one : Takes bytes (spell x) (drop n bytes) × Fits x = subst (λ (y : A). Takes bytes (spell y) (drop n bytes) × Fits y) p.1 whole in
      subst (λ (r : List ℕ). Takes bytes (spell x) r × Fits x) p.2 one;
  again = λ x rest fits.
      let long : ltb (length (spell x ++ rest)) n ≡ false = le-ltb _ _ (omega (arith, length-append (spell x) rest, len x fits)) in
      rw (long, take_at (spell x) rest n (len x fits), drop_at (spell x) rest n (len x fits), again x fits) refl;
}

-- One reader after the other.
pub both_reader : {A B : Type 0} {f : List ℕ → Result (A × List ℕ) Fault} {g : List ℕ → Result (B × List ℕ) Fault} {a : A → List ℕ} {b : B → List ℕ} {P : A → Type 0} {Q : B → Type 0}
    → IsReader A f a P → IsReader B g b Q → IsReader (A × B) (both f g) (λ x. a x.0 ++ b x.1) (λ x. P x.0 × Q x.1)
both_reader {A} {B} {f} {g} {a} {b} {P} {Q} r s = record {
  takes = λ bytes x rest fits e.
      let p = bind_ok (f bytes) (λ y. g y.1 >>= λ z. Ok ((y.0, z.0), z.1)) (x, rest) e in
      let q = bind_ok (g p.0.1) (λ z. Ok ((p.0.0, z.0), z.1)) (x, rest) p.2 in
      let t = r.takes bytes p.0.0 p.0.1 fits p.1 in
      let u = s.takes p.0.1 q.0.0 q.0.1 t.0.rest_fits q.1 in
      let made : (A × B) × List ℕ = ((p.0.0, q.0.0), q.0.1) in
      let whole : Takes bytes (a made.0.0 ++ b made.0.1) made.1 × (P made.0.0 × Q made.0.1) = (Takes-then bytes (a p.0.0) p.0.1 (b q.0.0) q.0.1 t.0 u.0, (t.1, u.1)) in
      subst (λ (y : (A × B) × List ℕ). Takes bytes (a y.0.0 ++ b y.0.1) y.1 × (P y.0.0 × Q y.0.1)) (ok_is made (x, rest) q.2) whole;
  again = λ x rest fits.
      rw (append_assoc (a x.0) (b x.1) rest, r.again x.0 (b x.1 ++ rest) fits.0, s.again x.1 rest fits.1) refl;
}

-- A reader of the same under another form.
pub map_reader : {A B : Type 0} {f : List ℕ → Result (A × List ℕ) Fault} {a : A → List ℕ} {P : A → Type 0} (to : A → B) (from : B → A)
    → ((x : A) → from (to x) ≡ x) → ((y : B) → to (from y) ≡ y)
    → IsReader A f a P → IsReader B (λ bytes. f bytes >>= λ x. Ok (to x.0, x.1)) (λ y. a (from y)) (λ y. P (from y))
map_reader {A} {B} {f} {a} {P} to from back forth r = record {
  takes = λ bytes y rest fits e.
      let p = bind_ok (f bytes) (λ x. Ok (to x.0, x.1)) (y, rest) e in
      let t = r.takes bytes p.0.0 p.0.1 fits p.1 in
      let made : B × List ℕ = (to p.0.0, p.0.1) in
      let whole : Takes bytes (a (from made.0)) made.1 × P (from made.0) = subst (λ (x : A). Takes bytes (a x) p.0.1 × P x) (sym (back p.0.0)) t in
      subst (λ (z : B × List ℕ). Takes bytes (a (from z.0)) z.1 × P (from z.0)) (ok_is made (y, rest) p.2) whole;
  again = λ y rest fits. rw (r.again (from y) rest fits, forth y) refl;
}

-- ---- numbers

pub u16_reader : IsReader ℕ u16_at u16_bytes (λ n. n < 2 ^ 16)
unfolding u16_at u16_bytes
u16_reader = front_reader 2 (from_be_bytes w16) (to_be_bytes w16) (λ n. n < 2 ^ 16) (λ n _. refl)
    (λ bytes len fits. (be_bytes_2 bytes _ len fits refl, omega (arith, fits 0, fits 1)))
    from_be_bytes-to_be_bytes_2

pub u32_reader : IsReader ℕ u32_at u32_bytes (λ n. n < 2 ^ 32)
unfolding u32_at u32_bytes
u32_reader = front_reader 4 (from_be_bytes w32) (to_be_bytes w32) (λ n. n < 2 ^ 32) (λ n _. refl)
    (λ bytes len fits. (be_bytes_4 bytes _ len fits refl, omega (arith, fits 0, fits 1, fits 2, fits 3)))
    from_be_bytes-to_be_bytes_4
