-- A name, up to the first zero byte, and its padding; and the number of bytes to strip before it.
use Rattle.std.proofs.Common.{drop-cons, ◌≡◌, ◌≢◌, ℕ, suc, ◌+◌, ◌-◌, ◌%◌, ◌<◌, ◌≤◌, Bool, true, false, cond, ltb, eqb, List, [], ◌∷◌, ◌++◌, length, get_or, take, drop, replicate, position, Option, Some, None, Ok, Err, refl, sym, ap, subst, ◌∙◌, append_assoc, arith}
use Rattle.std.specs.List.{AllByRecursion, position_or_len}
use Rattle.std.specs.Str.{bytes_eq}
use Rattle.std.proofs.lemmas.Bool.{ltb-false, le-ltb, lt-ltb, eqb-true, eqb-false, ne_eqb}
use Rattle.std.proofs.lemmas.Slice.Eq.{bytes_eq-Decides}
use Rattle.std.proofs.lemmas.List.{take_at, drop_at, take-append-drop, length-append, length-take-le, get_or-take, get_or_default, length-replicate}
use Rattle.std.proofs.lemmas.List.Elements.{recursion_from_All}
use Rattle.std.proofs.lemmas.List.Quantifiers.{position-Some}
use Rattle.git_index.specs.declared.fault.Fault.TheVariants.{Truncated, BadPadding}
use Rattle.git_index.specs.Numbers.{too_many}
use Rattle.git_index.specs.RawEntry.{padding_len, padded_bytes, stripped_bytes, name_bytes, StripFits, HasNoZero}
use Rattle.git_index.specs.Reading.{is_nul, named, padded_at, ended, ended_at, stripped_at, name_at}
use Rattle.git_index.proofs.Fields.{IsBytes, IsBytes-drop, bind_ok, guard_ok, guard_yes, ok_is, Takes, IsReader, both_reader}
use Rattle.git_index.proofs.Widths.{width_reader}

-- what a path of n bytes that was read says
record IsNamed (bytes : List ℕ) (before n : ℕ) (path rest : List ℕ) : Type 0 where
  room : padding_len (before + n) ≤ length (drop n bytes)
  zeros : take (padding_len (before + n)) (drop n bytes) ≡ replicate (padding_len (before + n)) 0
  front : take n bytes ≡ path
  back : drop (padding_len (before + n)) (drop n bytes) ≡ rest

named_ok : (bytes : List ℕ) (before : ℕ) (o : Option ℕ) (path rest : List ℕ) → named bytes before o ≡ Ok (path, rest) → (n : ℕ) × (o ≡ Some n) × IsNamed bytes before n path rest
named_ok bytes before None path rest e = absurd cc
named_ok bytes before (Some n) path rest e =
    let pad = padding_len (before + n) in
    let r = drop n bytes in
    let b = guard_ok (ltb (length r) pad) Truncated (cond (bytes_eq (take pad r) (replicate pad 0)) (Ok (take n bytes, drop pad r)) (Err BadPadding)) (path, rest) e in
    let c = guard_yes (bytes_eq (take pad r) (replicate pad 0)) BadPadding (Ok (take n bytes, drop pad r)) (path, rest) b.1 in
    let same = ok_is (take n bytes, drop pad r) (path, rest) c.1 in (
      n,
      refl,
      record {
        room = ltb-false _ _ b.0;
        zeros = (bytes_eq-Decides (take pad r) (replicate pad 0)).0 c.0;
        front = ap (λ (p : List ℕ × List ℕ). p.0) same;
        back = ap (λ (p : List ℕ × List ℕ). p.1) same;
      },
    )

padded_takes : (before : ℕ) (bytes path rest : List ℕ) → IsBytes bytes → padded_at before bytes ≡ Ok (path, rest) → Takes bytes (padded_bytes before path) rest × HasNoZero path
unfolding padded_at padded_bytes
padded_takes before bytes path rest fits e =
    let f = named_ok bytes before (position is_nul bytes) path rest e in
    let n = f.0 in
    let m = f.2 in
    let s = position-Some is_nul bytes n 0 f.1 in
    let pad = padding_len (before + n) in
    let len : length (take n bytes) ≡ n = length-take-le n bytes (omega (arith, s.0)) in
    let no-zero : HasNoZero (take n bytes) = λ k d lt eq.
    let kn : k < n = omega (arith, len) in
    let in-all : k < length bytes = omega (arith, s.0) in
    eqb-false (get_or bytes k 0) 0 (s.2 k kn) (get_or_default bytes k 0 d in-all ∙ (sym (get_or-take n bytes k d kn) ∙ eq)) in
    let parts : bytes ≡ (take n bytes ++ replicate pad 0) ++ drop pad (drop n bytes) =
    sym (take-append-drop n bytes) ∙ ap (λ (x : List ℕ). take n bytes ++ x) (sym (take-append-drop pad (drop n bytes)) ∙ ap (λ (x : List ℕ). x ++ drop pad (drop n bytes)) m.zeros)
    ∙ sym (append_assoc (take n bytes) (replicate pad 0) (drop pad (drop n bytes))) in
    let P : List ℕ → List ℕ → Type 0 = λ p r. Takes bytes (p ++ replicate (padding_len (before + length p)) 0) r × HasNoZero p in
    let whole : P (take n bytes) (drop pad (drop n bytes)) = (record { parts = rw len parts; rest_fits = IsBytes-drop pad (drop n bytes) (IsBytes-drop n bytes fits) }, no-zero) in
    subst (λ (p : List ℕ). P p rest) m.front (subst (λ (r : List ℕ). P (take n bytes) r) m.back whole)

find_nul : (path more : List ℕ) → AllByRecursion (λ b. b ≢ 0) path → position_or_len is_nul (path ++ 0 ∷ more) ≡ length path
find_nul [] more h = refl
find_nul (b ∷ path) more h = rw (ne_eqb b 0 h.0) (omega (arith, find_nul path more h.1))

padded_again : (before : ℕ) (path rest : List ℕ) → HasNoZero path → padded_at before (padded_bytes before path ++ rest) ≡ Ok (path, rest)
unfolding padded_at padded_bytes
padded_again before path rest fits =
    let n = length path in
    let pad = padding_len (before + n) in
    let zeros : List ℕ = replicate pad 0 in
    let regrouped : (path ++ zeros) ++ rest ≡ path ++ (zeros ++ rest) = append_assoc path zeros rest in
    let one : pad ≡ suc (7 - (before + n) % 8) = omega arith in
    let head : zeros ++ rest ≡ 0 ∷ (replicate (7 - (before + n) % 8) 0 ++ rest) = rw one refl in
    let rest2 : List ℕ = replicate (7 - (before + n) % 8) 0 ++ rest in
    let len : position_or_len is_nul (path ++ 0 ∷ rest2) ≡ n = find_nul path rest2 (recursion_from_All (λ b. b ≢ 0) path fits) in
    let here : ltb n (length (path ++ 0 ∷ rest2)) ≡ true = lt-ltb _ _ (omega (arith, length-append path (0 ∷ rest2))) in
    let found2 : position is_nul (path ++ 0 ∷ rest2) ≡ Some n = rw (len, here) refl in
    let found : position is_nul (path ++ (zeros ++ rest)) ≡ Some n = ap (λ (x : List ℕ). position is_nul (path ++ x)) head ∙ found2 in
    let zeros-len : length zeros ≡ pad = length-replicate pad 0 in
    let room : ltb (length (zeros ++ rest)) pad ≡ false = le-ltb _ _ (omega (arith, length-append zeros rest, zeros-len)) in
    let same : bytes_eq zeros zeros ≡ true = (bytes_eq-Decides zeros zeros).1 refl in
    ap (λ (x : List ℕ). named x before (position is_nul x)) regrouped
    ∙ rw (found, drop_at path (zeros ++ rest) n refl, room, take_at zeros rest pad zeros-len, same, take_at path (zeros ++ rest) n refl, drop_at zeros rest pad zeros-len) refl

pub padded_reader : (before : ℕ) → IsReader (List ℕ) (padded_at before) (padded_bytes before) HasNoZero
padded_reader before = record { takes = padded_takes before; again = padded_again before }

-- ---- a name that one zero byte ends

ended_ok : (bytes : List ℕ) (o : Option ℕ) (name rest : List ℕ) → ended bytes o ≡ Ok (name, rest) → (n : ℕ) × (o ≡ Some n) × (take n bytes ≡ name) × (drop (n + 1) bytes ≡ rest)
ended_ok bytes None name rest e = absurd cc
ended_ok bytes (Some n) name rest e =
    let same = ok_is (take n bytes, drop (n + 1) bytes) (name, rest) e in
    (n, refl, ap (λ (p : List ℕ × List ℕ). p.0) same, ap (λ (p : List ℕ × List ℕ). p.1) same)

ended_takes : (bytes name rest : List ℕ) → IsBytes bytes → ended_at bytes ≡ Ok (name, rest) → Takes bytes (name ++ 0 ∷ []) rest × HasNoZero name
unfolding ended_at
ended_takes bytes name rest fits e =
    let f = ended_ok bytes (position is_nul bytes) name rest e in
    let n = f.0 in
    let s = position-Some is_nul bytes n 0 f.1 in
    let len : length (take n bytes) ≡ n = length-take-le n bytes (omega (arith, s.0)) in
    let no-zero : HasNoZero (take n bytes) = λ k d lt eq.
    let kn : k < n = omega (arith, len) in
    let in-all : k < length bytes = omega (arith, s.0) in
    eqb-false (get_or bytes k 0) 0 (s.2 k kn) (get_or_default bytes k 0 d in-all ∙ (sym (get_or-take n bytes k d kn) ∙ eq)) in
    let zero : get_or bytes n 0 ≡ 0 = eqb-true (get_or bytes n 0) 0 s.1 in
    let next : suc n ≡ n + 1 = omega arith in
    let back : drop n bytes ≡ 0 ∷ drop (n + 1) bytes = drop-cons bytes n 0 s.0 ∙ ap (λ (b : ℕ). b ∷ drop (suc n) bytes) zero ∙ ap (λ (k : ℕ). 0 ∷ drop k bytes) next in
    let parts : bytes ≡ (take n bytes ++ 0 ∷ []) ++ drop (n + 1) bytes =
    sym (take-append-drop n bytes) ∙ ap (λ (x : List ℕ). take n bytes ++ x) back ∙ sym (append_assoc (take n bytes) (0 ∷ []) (drop (n + 1) bytes)) in
    let P : List ℕ → List ℕ → Type 0 = λ p r. Takes bytes (p ++ 0 ∷ []) r × HasNoZero p in
    let whole : P (take n bytes) (drop (n + 1) bytes) = (record { parts = parts; rest_fits = IsBytes-drop (n + 1) bytes fits }, no-zero) in
    subst (λ (p : List ℕ). P p rest) f.2 (subst (λ (r : List ℕ). P (take n bytes) r) f.3 whole)

ended_again : (name rest : List ℕ) → HasNoZero name → ended_at ((name ++ 0 ∷ []) ++ rest) ≡ Ok (name, rest)
unfolding ended_at
ended_again name rest fits =
    let n = length name in
    let regrouped : (name ++ 0 ∷ []) ++ rest ≡ name ++ 0 ∷ rest = append_assoc name (0 ∷ []) rest in
    let len : position_or_len is_nul (name ++ 0 ∷ rest) ≡ n = find_nul name rest (recursion_from_All (λ b. b ≢ 0) name fits) in
    let here : ltb n (length (name ++ 0 ∷ rest)) ≡ true = lt-ltb _ _ (omega (arith, length-append name (0 ∷ rest))) in
    let found : position is_nul (name ++ 0 ∷ rest) ≡ Some n = rw (len, here) refl in
    let one : length (name ++ 0 ∷ []) ≡ n + 1 = omega (arith, length-append name (0 ∷ [])) in
    let back : drop (n + 1) (name ++ 0 ∷ rest) ≡ rest = ap (drop (n + 1)) (sym regrouped) ∙ drop_at (name ++ 0 ∷ []) rest (n + 1) one in
    ap (λ (x : List ℕ). ended x (position is_nul x)) regrouped ∙ rw (found, take_at name (0 ∷ rest) n refl, back) refl

pub ended_reader : IsReader (List ℕ) ended_at (λ n. n ++ 0 ∷ []) HasNoZero
ended_reader = record { takes = ended_takes; again = ended_again }

-- ---- names of each version

abbrev pub NameFits : ℕ → ℕ × List ℕ → Type 0
NameFits version x = StripFits version x.0 × HasNoZero x.1

stripped_reader : IsReader (ℕ × List ℕ) stripped_at (λ x. stripped_bytes x.0 x.1) (λ x. (x.0 < too_many) × HasNoZero x.1)
unfolding stripped_at stripped_bytes
stripped_reader = both_reader width_reader ended_reader

abbrev bare : List ℕ × List ℕ → (ℕ × List ℕ) × List ℕ
bare name = ((0, name.0), name.1)

name_takes : (version before : ℕ) (four : Bool) → eqb version 4 ≡ four → (bytes : List ℕ) (x : ℕ × List ℕ) (rest : List ℕ) → IsBytes bytes → name_at version before bytes ≡ Ok (x, rest) → Takes bytes (name_bytes version before x.0 x.1) rest × NameFits version x
unfolding name_at
name_takes version before true is bytes x rest fits e =
    let t = stripped_reader.takes bytes x rest fits (rw is at e) in
    (rw is t.0, ((t.1.0, λ ne. absurd (ne (eqb-true version 4 is))), t.1.1))
name_takes version before false is bytes x rest fits e =
    let p = bind_ok (padded_at before bytes) (λ name. Ok (bare name)) (x, rest) (rw is at e) in
    let t = (padded_reader before).takes bytes p.0.0 p.0.1 fits p.1 in
    let made : (ℕ × List ℕ) × List ℕ = bare p.0 in
    let whole : Takes bytes (name_bytes version before made.0.0 made.0.1) made.1 × NameFits version made.0 = (rw is t.0, ((omega arith, λ _. refl), t.1)) in
    subst (λ (y : (ℕ × List ℕ) × List ℕ). Takes bytes (name_bytes version before y.0.0 y.0.1) y.1 × NameFits version y.0) (ok_is made (x, rest) p.2) whole

name_again : (version before : ℕ) (four : Bool) → eqb version 4 ≡ four → (x : ℕ × List ℕ) (rest : List ℕ) → NameFits version x → name_at version before (name_bytes version before x.0 x.1 ++ rest) ≡ Ok (x, rest)
unfolding name_at
name_again version before true is x rest fits = rw is (stripped_reader.again x rest (fits.0.0, fits.1))
name_again version before false is x rest fits =
    let none : x.0 ≡ 0 = fits.0.1 (eqb-false version 4 is) in
    rw (is, (padded_reader before).again x.1 rest fits.1) (ap (λ (n : ℕ). Ok ((n, x.1), rest)) (sym none))

pub name_reader : (version before : ℕ) → IsReader (ℕ × List ℕ) (name_at version before) (λ x. name_bytes version before x.0 x.1) (NameFits version)
name_reader version before = record { takes = name_takes version before (eqb version 4) refl; again = name_again version before (eqb version 4) refl }
