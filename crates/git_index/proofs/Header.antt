-- The header and the extensions.
use Rattle.std.proofs.Common.{◌≡◌, ℕ, ◌^◌, ◌<◌, ◌≤◌, Bool, true, false, cond, ltb, eqb, List, ◌++◌, length, take, drop, Result, Ok, Err, refl, sym, subst, append_assoc, arith}
use Rattle.std.proofs.lemmas.Bool.{ltb-false, le-ltb}
use Rattle.std.proofs.lemmas.List.{take_at, drop_at, take-append-drop, length-append, length-take}
use Rattle.git_index.specs.declared.fault.Fault.{Fault}
use Rattle.git_index.specs.declared.fault.Fault.TheVariants.{Truncated, BadSignature, UnknownVersion, Required}
use Rattle.git_index.specs.Numbers.{u32_bytes}
use Rattle.git_index.specs.Reading.{checked, signature, u32_at, header_at, extension_name_at, content_at, extension_at}
use Rattle.git_index.specs.File.{is_known, is_version}
use Rattle.git_index.proofs.Fields.{IsBytes, IsBytes-drop, bind_ok, guard_ok, guard_yes, ok_is, Takes, Takes-then, IsReader, front_reader, both_reader, u32_reader}

-- A reader of what passes a test.
pub checked_reader : {A : Type 0} {f : List ℕ → Result (A × List ℕ) Fault} {a : A → List ℕ} {P : A → Type 0} (test : A → Bool) (fault : Fault) → IsReader A f a P → IsReader A (checked test fault f) a (λ x. P x × (test x ≡ true))
checked_reader {A} {f} {a} {P} test fault r = record {
  takes = λ bytes x rest fits e.
      let k : A × List ℕ → Result (A × List ℕ) Fault = λ y. cond (test y.0) (Ok y) (Err fault) in
      let p = bind_ok (f bytes) k (x, rest) e in
      let g = guard_yes (test p.0.0) fault (Ok p.0) (x, rest) p.2 in
      let t = r.takes bytes p.0.0 p.0.1 fits p.1 in
      subst (λ (y : A × List ℕ). Takes bytes (a y.0) y.1 × (P y.0 × (test y.0 ≡ true))) (ok_is p.0 (x, rest) g.1) (t.0, (t.1, g.0));
  again = λ x rest fits. rw (r.again x rest fits.0, fits.1) refl;
}

abbrev pub HeaderFits : ℕ × (ℕ × ℕ) → Type 0
HeaderFits x = (x.0 < 2 ^ 32 × (eqb x.0 signature ≡ true)) × ((x.1.0 < 2 ^ 32 × (is_version x.1.0 ≡ true)) × (x.1.1 < 2 ^ 32))

pub header_reader : IsReader (ℕ × (ℕ × ℕ)) header_at (λ x. u32_bytes x.0 ++ (u32_bytes x.1.0 ++ u32_bytes x.1.1)) HeaderFits
unfolding header_at
header_reader = both_reader (checked_reader (λ n. eqb n signature) BadSignature u32_reader) (both_reader (checked_reader is_version UnknownVersion u32_reader) u32_reader)

abbrev IsName : List ℕ → Type 0
IsName name = length name ≡ 4

name_reader : IsReader (List ℕ) extension_name_at (λ n. n) IsName
unfolding extension_name_at
name_reader = front_reader 4 (λ n. n) (λ n. n) IsName (λ _ h. h) (λ _ len _. (refl, len)) (λ _ _. refl)

abbrev Sized : List ℕ → Type 0
Sized content = length content < 2 ^ 32

content_takes : (bytes x rest : List ℕ) → IsBytes bytes → content_at bytes ≡ Ok (x, rest) → Takes bytes (u32_bytes (length x) ++ x) rest × Sized x
unfolding content_at
content_takes bytes x rest fits e =
    let k : ℕ × List ℕ → Result (List ℕ × List ℕ) Fault = λ n. cond (ltb (length n.1) n.0) (Err Truncated) (Ok (take n.0 n.1, drop n.0 n.1)) in
    let b = bind_ok (u32_at bytes) k (x, rest) e in
    let n = b.0 in
    let t = u32_reader.takes bytes n.0 n.1 fits b.1 in
    let g = guard_ok (ltb (length n.1) n.0) Truncated (Ok (take n.0 n.1, drop n.0 n.1)) (x, rest) b.2 in
    let long : n.0 ≤ length n.1 = ltb-false _ _ g.0 in
    let len : length (take n.0 n.1) ≡ n.0 = omega (arith, length-take n.0 n.1) in
    let second : Takes n.1 (take n.0 n.1) (drop n.0 n.1) = record { parts = sym (take-append-drop n.0 n.1); rest_fits = IsBytes-drop n.0 n.1 t.0.rest_fits } in
    let two = Takes-then bytes (u32_bytes n.0) n.1 (take n.0 n.1) (drop n.0 n.1) t.0 second in
    let whole : Takes bytes (u32_bytes (length (take n.0 n.1)) ++ take n.0 n.1) (drop n.0 n.1) = subst (λ (k : ℕ). Takes bytes (u32_bytes k ++ take n.0 n.1) (drop n.0 n.1)) (sym len) two in
    subst (λ (p : List ℕ × List ℕ). Takes bytes (u32_bytes (length p.0) ++ p.0) p.1 × Sized p.0) (ok_is (take n.0 n.1, drop n.0 n.1) (x, rest) g.1) (whole, omega (arith, t.1))

content_again : (x rest : List ℕ) → Sized x → content_at ((u32_bytes (length x) ++ x) ++ rest) ≡ Ok (x, rest)
unfolding content_at
content_again x rest lt =
    let long : ltb (length (x ++ rest)) (length x) ≡ false = le-ltb _ _ (omega (arith, length-append x rest)) in
    rw (append_assoc (u32_bytes (length x)) x rest, u32_reader.again (length x) (x ++ rest) lt, long, take_at x rest (length x) refl, drop_at x rest (length x) refl) refl

content_reader : IsReader (List ℕ) content_at (λ x. u32_bytes (length x) ++ x) Sized
content_reader = record { takes = content_takes; again = content_again }

abbrev pub PartsFit : List ℕ × List ℕ → Type 0
PartsFit x = (length x.0 ≡ 4 × (is_known x.0 ≡ true)) × (length x.1 < 2 ^ 32)

pub extension_reader : IsReader (List ℕ × List ℕ) extension_at (λ x. x.0 ++ (u32_bytes (length x.1) ++ x.1)) PartsFit
unfolding extension_at
extension_reader = both_reader (checked_reader is_known Required name_reader) content_reader
