-- Numbers of variable width.
use Rattle.std.proofs.Common.{◌≡◌, ℕ, suc, ◌+◌, ◌-◌, ◌*◌, ◌/◌, ◌%◌, ◌<◌, ◌≤◌, cond, ltb, List, [], ◌∷◌, ◌++◌, Result, Ok, refl, ap, subst, ◌∙◌, arith, inl, inr}
use Rattle.std.proofs.lemmas.Bool.{ltb-true, ltb-false, lt-ltb, le-ltb, cases_lt}
use Rattle.git_index.specs.declared.fault.Fault.{Fault}
use Rattle.git_index.specs.declared.fault.Fault.TheVariants.{LongStrip}
use Rattle.git_index.specs.Numbers.{two_bytes, three_bytes, four_bytes, too_many, width_bytes}
use Rattle.git_index.specs.Reading.{◌>>=◌, byte_at, second_at, third_at, fourth_at, width_at}
use Rattle.git_index.proofs.Fields.{IsBytes, bind_ok, guard_yes, ok_is, Takes, Takes-then, IsReader}
use Rattle.git_index.proofs.Flags.{chosen}

abbrev Got : Type 0
Got = ℕ × List ℕ

abbrev pair : ℕ → List ℕ → Got
pair n rest = (n, rest)

-- ---- a byte

byte_takes : (bytes : List ℕ) (b : ℕ) (rest : List ℕ) → IsBytes bytes → byte_at bytes ≡ Ok (b, rest) → Takes bytes (b ∷ []) rest × (b < 256)
unfolding byte_at
byte_takes [] b rest fits e = absurd cc
byte_takes (x ∷ xs) b rest fits e =
    subst (λ (y : Got). Takes (x ∷ xs) (y.0 ∷ []) y.1 × (y.0 < 256)) (ok_is (pair x xs) (pair b rest) e) (record { parts = refl; rest_fits = λ i. fits (suc i) }, fits 0)

byte_again : (b : ℕ) (rest : List ℕ) → byte_at (b ∷ rest) ≡ Ok (b, rest)
unfolding byte_at
byte_again b rest = refl

pub byte_reader : IsReader ℕ byte_at (λ b. b ∷ []) (λ b. b < 256)
byte_reader = record { takes = byte_takes; again = λ b rest _. byte_again b rest }

-- ---- the bytes of each width

one_is : (a : ℕ) → a < 0x80 → width_bytes a ≡ a ∷ []
unfolding width_bytes
one_is a lt = rw (lt-ltb a two_bytes lt) refl

two_is : (a b n : ℕ) → 0x80 ≤ a → a < 256 → b < 0x80 → n ≡ two_bytes + (a - 0x80) * 0x80 + b → width_bytes n ≡ a ∷ b ∷ []
unfolding width_bytes
two_is a b n la ha hb e =
    let first : 0x80 + (n - two_bytes) / 0x80 ≡ a = omega arith in
    let second : (n - two_bytes) % 0x80 ≡ b = omega arith in
    rw (le-ltb n two_bytes (omega arith), lt-ltb n three_bytes (omega arith), first, second) refl

three_is : (a b c n : ℕ) → 0x80 ≤ a → a < 256 → 0x80 ≤ b → b < 256 → c < 0x80 → n ≡ three_bytes + (a - 0x80) * 0x4000 + (b - 0x80) * 0x80 + c → width_bytes n ≡ a ∷ b ∷ c ∷ []
unfolding width_bytes
three_is a b c n la ha lb hb hc e =
    let first : 0x80 + (n - three_bytes) / 0x4000 ≡ a = omega arith in
    let second : 0x80 + (n - three_bytes) / 0x80 % 0x80 ≡ b = omega arith in
    let third : (n - three_bytes) % 0x80 ≡ c = omega arith in
    rw (le-ltb n two_bytes (omega arith), le-ltb n three_bytes (omega arith), lt-ltb n four_bytes (omega arith), first, second, third) refl

four_is : (a b c d n : ℕ) → 0x80 ≤ a → a < 256 → 0x80 ≤ b → b < 256 → 0x80 ≤ c → c < 256 → d < 0x80 → n ≡ four_bytes + (a - 0x80) * 0x200000 + (b - 0x80) * 0x4000 + (c - 0x80) * 0x80 + d → width_bytes n ≡ a ∷ b ∷ c ∷ d ∷ []
unfolding width_bytes
four_is a b c d n la ha lb hb lc hc hd e =
    let first : 0x80 + (n - four_bytes) / 0x200000 % 0x80 ≡ a = omega arith in
    let second : 0x80 + (n - four_bytes) / 0x4000 % 0x80 ≡ b = omega arith in
    let third : 0x80 + (n - four_bytes) / 0x80 % 0x80 ≡ c = omega arith in
    let fourth : (n - four_bytes) % 0x80 ≡ d = omega arith in
    rw (le-ltb n two_bytes (omega arith), le-ltb n three_bytes (omega arith), le-ltb n four_bytes (omega arith), first, second, third, fourth) refl

-- ---- what is read

abbrev Width : List ℕ → Got → Type 0
Width bytes x = Takes bytes (width_bytes x.0) x.1 × (x.0 < too_many)

fourth_takes : (bytes : List ℕ) (a b c : ℕ) (three : List ℕ) (x : Got) → 0x80 ≤ a → a < 256 → 0x80 ≤ b → b < 256 → 0x80 ≤ c → c < 256 → Takes bytes (a ∷ b ∷ c ∷ []) three
    → byte_at three >>= (λ d. fourth_at d a b c) ≡ Ok x → Width bytes x
fourth_takes bytes a b c three x la ha lb hb lc hc t e =
    let p = bind_ok (byte_at three) (λ d. fourth_at d a b c) x e in
    let d = p.0.0 in
    let u = byte_reader.takes three d p.0.1 t.rest_fits p.1 in
    let n = four_bytes + (a - 0x80) * 0x200000 + (b - 0x80) * 0x4000 + (c - 0x80) * 0x80 + d in
    let g = guard_yes (ltb d 0x80) LongStrip (Ok (pair n p.0.1)) x p.2 in
    let hd : d < 0x80 = ltb-true d 0x80 g.0 in
    let all = Takes-then bytes (a ∷ b ∷ c ∷ []) three (d ∷ []) p.0.1 t u.0 in
    subst (Width bytes) (ok_is (pair n p.0.1) x g.1) (rw (four_is a b c d n la ha lb hb lc hc hd refl) all, omega arith)

third_takes : (bytes : List ℕ) (a b : ℕ) (two : List ℕ) (x : Got) → 0x80 ≤ a → a < 256 → 0x80 ≤ b → b < 256 → Takes bytes (a ∷ b ∷ []) two
    → byte_at two >>= (λ c. third_at c a b) ≡ Ok x → Width bytes x
third_takes bytes a b two x la ha lb hb t e =
    let p = bind_ok (byte_at two) (λ c. third_at c a b) x e in
    let c = p.0.0 in
    let u = byte_reader.takes two c p.0.1 t.rest_fits p.1 in
    let n = three_bytes + (a - 0x80) * 0x4000 + (b - 0x80) * 0x80 + c in
    let all = Takes-then bytes (a ∷ b ∷ []) two (c ∷ []) p.0.1 t u.0 in
    elim (chosen (ltb c 0x80) (Ok (pair n p.0.1)) (byte_at p.0.1 >>= λ d. fourth_at d a b c) (Ok x) p.2) [
      | inl h ↦ subst (Width bytes) (ok_is (pair n p.0.1) x h.1) (rw (three_is a b c n la ha lb hb (ltb-true c 0x80 h.0) refl) all, let hc : c < 0x80 = ltb-true c 0x80 h.0 in omega arith)
      | inr h ↦ fourth_takes bytes a b c p.0.1 x la ha lb hb (ltb-false c 0x80 h.0) u.1 all h.1
    ]

second_takes : (bytes : List ℕ) (a : ℕ) (one : List ℕ) (x : Got) → 0x80 ≤ a → a < 256 → Takes bytes (a ∷ []) one
    → byte_at one >>= (λ b. second_at b a) ≡ Ok x → Width bytes x
second_takes bytes a one x la ha t e =
    let p = bind_ok (byte_at one) (λ b. second_at b a) x e in
    let b = p.0.0 in
    let u = byte_reader.takes one b p.0.1 t.rest_fits p.1 in
    let n = two_bytes + (a - 0x80) * 0x80 + b in
    let all = Takes-then bytes (a ∷ []) one (b ∷ []) p.0.1 t u.0 in
    elim (chosen (ltb b 0x80) (Ok (pair n p.0.1)) (byte_at p.0.1 >>= λ c. third_at c a b) (Ok x) p.2) [
      | inl h ↦ subst (Width bytes) (ok_is (pair n p.0.1) x h.1) (rw (two_is a b n la ha (ltb-true b 0x80 h.0) refl) all, let hb : b < 0x80 = ltb-true b 0x80 h.0 in omega arith)
      | inr h ↦ third_takes bytes a b p.0.1 x la ha (ltb-false b 0x80 h.0) u.1 all h.1
    ]

width_takes : (bytes : List ℕ) (n : ℕ) (rest : List ℕ) → IsBytes bytes → width_at bytes ≡ Ok (n, rest) → Takes bytes (width_bytes n) rest × (n < too_many)
unfolding width_at
width_takes bytes n rest fits e =
    let k : Got → Result Got Fault = λ a. cond (ltb a.0 0x80) (Ok a) (byte_at a.1 >>= λ b. second_at b a.0) in
    let p = bind_ok (byte_at bytes) k (pair n rest) e in
    let t = byte_reader.takes bytes p.0.0 p.0.1 fits p.1 in
    elim (chosen (ltb p.0.0 0x80) (Ok p.0) (byte_at p.0.1 >>= λ b. second_at b p.0.0) (Ok (pair n rest)) p.2) [
      | inl h ↦ subst (Width bytes) (ok_is p.0 (pair n rest) h.1) (rw (one_is p.0.0 (ltb-true p.0.0 0x80 h.0)) t.0, let ha : p.0.0 < 0x80 = ltb-true p.0.0 0x80 h.0 in omega arith)
      | inr h ↦ second_takes bytes p.0.0 p.0.1 (pair n rest) (ltb-false p.0.0 0x80 h.0) t.1 t.0 h.1
    ]

-- ---- and again

abbrev is_read : List ℕ → ℕ → List ℕ → Type 0
is_read bytes n rest = width_at bytes ≡ Ok (n, rest)

read_one : (a : ℕ) (rest : List ℕ) → a < 0x80 → is_read (a ∷ rest) a rest
unfolding width_at byte_at
read_one a rest lt = rw (lt-ltb a 0x80 lt) refl

read_two : (a b n : ℕ) (rest : List ℕ) → 0x80 ≤ a → b < 0x80 → n ≡ two_bytes + (a - 0x80) * 0x80 + b → is_read (a ∷ b ∷ rest) n rest
unfolding width_at byte_at
read_two a b n rest la hb e = rw (le-ltb a 0x80 la, lt-ltb b 0x80 hb, e) refl

read_three : (a b c n : ℕ) (rest : List ℕ) → 0x80 ≤ a → 0x80 ≤ b → c < 0x80 → n ≡ three_bytes + (a - 0x80) * 0x4000 + (b - 0x80) * 0x80 + c → is_read (a ∷ b ∷ c ∷ rest) n rest
unfolding width_at byte_at
read_three a b c n rest la lb hc e = rw (le-ltb a 0x80 la, le-ltb b 0x80 lb, lt-ltb c 0x80 hc, e) refl

read_four : (a b c d n : ℕ) (rest : List ℕ) → 0x80 ≤ a → 0x80 ≤ b → 0x80 ≤ c → d < 0x80 → n ≡ four_bytes + (a - 0x80) * 0x200000 + (b - 0x80) * 0x4000 + (c - 0x80) * 0x80 + d → is_read (a ∷ b ∷ c ∷ d ∷ rest) n rest
unfolding width_at byte_at
read_four a b c d n rest la lb lc hd e = rw (le-ltb a 0x80 la, le-ltb b 0x80 lb, le-ltb c 0x80 lc, lt-ltb d 0x80 hd, e) refl

width_again : (n : ℕ) (rest : List ℕ) → n < too_many → width_at (width_bytes n ++ rest) ≡ Ok (n, rest)
width_again n rest lt =
    elim (cases_lt n two_bytes) [
      | inl one ↦ ap (λ (t : List ℕ). width_at (t ++ rest)) (one_is n one) ∙ read_one n rest one
      | inr ge1 ↦ elim (cases_lt n three_bytes) [
        | inl two ↦
            let a = 0x80 + (n - two_bytes) / 0x80 in
            let b = (n - two_bytes) % 0x80 in
            let e : n ≡ two_bytes + (a - 0x80) * 0x80 + b = omega arith in
            ap (λ (t : List ℕ). width_at (t ++ rest)) (two_is a b n (omega arith) (omega arith) (omega arith) e) ∙ read_two a b n rest (omega arith) (omega arith) e
        | inr ge2 ↦ elim (cases_lt n four_bytes) [
          | inl three ↦
              let a = 0x80 + (n - three_bytes) / 0x4000 in
              let b = 0x80 + (n - three_bytes) / 0x80 % 0x80 in
              let c = (n - three_bytes) % 0x80 in
              let e : n ≡ three_bytes + (a - 0x80) * 0x4000 + (b - 0x80) * 0x80 + c = omega arith in
              ap (λ (t : List ℕ). width_at (t ++ rest)) (three_is a b c n (omega arith) (omega arith) (omega arith) (omega arith) (omega arith) e) ∙ read_three a b c n rest (omega arith) (omega arith) (omega arith) e
          | inr ge3 ↦
              let a = 0x80 + (n - four_bytes) / 0x200000 % 0x80 in
              let b = 0x80 + (n - four_bytes) / 0x4000 % 0x80 in
              let c = 0x80 + (n - four_bytes) / 0x80 % 0x80 in
              let d = (n - four_bytes) % 0x80 in
              let e : n ≡ four_bytes + (a - 0x80) * 0x200000 + (b - 0x80) * 0x4000 + (c - 0x80) * 0x80 + d = omega arith in
              ap (λ (t : List ℕ). width_at (t ++ rest)) (four_is a b c d n (omega arith) (omega arith) (omega arith) (omega arith) (omega arith) (omega arith) (omega arith) e)
              ∙ read_four a b c d n rest (omega arith) (omega arith) (omega arith) (omega arith) e
        ]
      ]
    ]

pub width_reader : IsReader ℕ width_at width_bytes (λ n. n < too_many)
width_reader = record { takes = width_takes; again = width_again }
