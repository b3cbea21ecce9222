-- `is_match` is a test of `Matches`.
use Rattle.std.proofs.Common.{◌≡◌, ◌≢◌, ◌↔◌, inl, inr, ℕ, ◌==◌, ◌&&◌, ◌||◌, not, Bool, true, false, List, [], ◌∷◌, ◌++◌, refl, ap, ◌∙◌}
use Rattle.std.proofs.lemmas.Bool.{and_parts, and_from, or_cases, eqb-true, eq-eqb, eqb-false, ne_eqb, not-true}
use Rattle.std.specs.List.{AllByRecursion}
use Rattle.git_patterns.specs.Sets.{is_in_set}
use Rattle.git_patterns.specs.Wildmatch.{Part, One, Any, Set, Name, Folders, Everything, Matches, is_match, is_empty, after_byte, after_run, after_slash, no_slash, any_byte}

or_left : (a b : Bool) → a ≡ true → (a || b) ≡ true
or_left a b e = rw e refl

or_right : (a b : Bool) → b ≡ true → (a || b) ≡ true
or_right true b e = refl
or_right false b e = e

-- bytes that pass
abbrev AllPass : (ℕ → Bool) → List ℕ → Type 0
AllPass test text = AllByRecursion (λ b. test b ≡ true) text

abbrev FrontThat : (List ℕ → Type 0) → (List ℕ → Bool) → List ℕ → Type 0
FrontThat P p path = (text : List ℕ) × (rest : List ℕ) × (path ≡ text ++ rest) × P text × (p rest ≡ true)

byte_sound : (test : ℕ → Bool) (p : List ℕ → Bool) (path : List ℕ) → after_byte test p path ≡ true → FrontThat (λ text. (b : ℕ) × (text ≡ b ∷ []) × (test b ≡ true)) p path
byte_sound test p [] e = absurd cc
byte_sound test p (b ∷ rest) e = let h = and_parts (test b) (p rest) e in (b ∷ [], rest, refl, (b, refl, h.0), h.1)

run_more : (test : ℕ → Bool) (p : List ℕ → Bool) (b : ℕ) (rest : List ℕ) → test b ≡ true → FrontThat (AllPass test) p rest → FrontThat (AllPass test) p (b ∷ rest)
run_more test p b rest e f = (b ∷ f.0, f.1, ap (λ (t : List ℕ). b ∷ t) f.2, (e, f.3), f.4)

run_sound : (test : ℕ → Bool) (p : List ℕ → Bool) (path : List ℕ) → after_run test p path ≡ true → FrontThat (AllPass test) p path
run_sound test p [] e = ([], [], refl, tt, e)
run_sound test p (b ∷ rest) e = elim (or_cases (p (b ∷ rest)) (test b && after_run test p rest) e) [
  | inl h ↦ ([], b ∷ rest, refl, tt, h)
  | inr h ↦ let k = and_parts (test b) (after_run test p rest) h in run_more test p b rest k.0 (run_sound test p rest k.1)
]

run_complete : (test : ℕ → Bool) (p : List ℕ → Bool) (text rest : List ℕ) → AllPass test text → p rest ≡ true → after_run test p (text ++ rest) ≡ true
run_complete test p [] [] a e = e
run_complete test p [] (b ∷ rest) a e = or_left _ _ e
run_complete test p (b ∷ text) rest a e = or_right (p (b ∷ (text ++ rest))) _ (and_from _ _ a.0 (run_complete test p text rest a.1 e))

abbrev EndsInSlash : List ℕ → Type 0
EndsInSlash text = (front : List ℕ) × (text ≡ front ++ 47 ∷ [])

slash_more : (p : List ℕ → Bool) (b : ℕ) (rest : List ℕ) → FrontThat EndsInSlash p rest → FrontThat EndsInSlash p (b ∷ rest)
slash_more p b rest f = (b ∷ f.0, f.1, ap (λ (t : List ℕ). b ∷ t) f.2, (b ∷ f.3.0, ap (λ (t : List ℕ). b ∷ t) f.3.1), f.4)

slash_sound : (p : List ℕ → Bool) (path : List ℕ) → after_slash p path ≡ true → FrontThat EndsInSlash p path
slash_sound p [] e = absurd cc
slash_sound p (b ∷ rest) e = elim (or_cases (b == 47 && p rest) (after_slash p rest) e) [
  | inl h ↦ let k = and_parts (b == 47) (p rest) h in (b ∷ [], rest, refl, ([], ap (λ (x : ℕ). x ∷ []) (eqb-true b 47 k.0)), k.1)
  | inr h ↦ slash_more p b rest (slash_sound p rest h)
]

slash_complete : (p : List ℕ → Bool) (front rest : List ℕ) → p rest ≡ true → after_slash p ((front ++ 47 ∷ []) ++ rest) ≡ true
slash_complete p [] rest e = or_left _ _ e
slash_complete p (b ∷ front) rest e = or_right (b == 47 && p ((front ++ 47 ∷ []) ++ rest)) _ (slash_complete p front rest e)

no_slash_is : (b : ℕ) → no_slash b ≡ true → b ≢ 47
no_slash_is b e = eqb-false b 47 (not-true (b == 47) e)

is_no_slash : (b : ℕ) → b ≢ 47 → no_slash b ≡ true
is_no_slash b e = ap not (ne_eqb b 47 e)

name_is : (text : List ℕ) → AllPass no_slash text → AllByRecursion (λ b. b ≢ 47) text
name_is [] a = tt
name_is (b ∷ text) a = (no_slash_is b a.0, name_is text a.1)

is_name : (text : List ℕ) → AllByRecursion (λ b. b ≢ 47) text → AllPass no_slash text
is_name [] a = tt
is_name (b ∷ text) a = (is_no_slash b a.0, is_name text a.1)

all_any : (text : List ℕ) → AllPass any_byte text
all_any [] = tt
all_any (b ∷ text) = (refl, all_any text)

pub sound : (pieces : List Part) (path : List ℕ) → is_match pieces path ≡ true → Matches pieces path
sound [] [] e = refl
sound [] (b ∷ path) e = absurd cc
sound (One c ∷ pieces) path e =
    let f = byte_sound (λ b. b == c) (is_match pieces) path e in
    (f.0, f.1, f.2, f.3.1 ∙ ap (λ (x : ℕ). x ∷ []) (eqb-true f.3.0 c f.3.2), sound pieces f.1 f.4)
sound (Any ∷ pieces) path e =
    let f = byte_sound no_slash (is_match pieces) path e in
    (f.0, f.1, f.2, (f.3.0, f.3.1, no_slash_is f.3.0 f.3.2), sound pieces f.1 f.4)
sound (Set slashes negated items ∷ pieces) path e =
    let f = byte_sound (is_in_set slashes negated items) (is_match pieces) path e in
    (f.0, f.1, f.2, f.3, sound pieces f.1 f.4)
sound (Name ∷ pieces) path e =
    let f = run_sound no_slash (is_match pieces) path e in
    (f.0, f.1, f.2, name_is f.0 f.3, sound pieces f.1 f.4)
sound (Folders ∷ pieces) path e = elim (or_cases (is_match pieces path) (after_slash (is_match pieces) path) e) [
  | inl h ↦ ([], path, refl, inl refl, sound pieces path h)
  | inr h ↦ let f = slash_sound (is_match pieces) path h in (f.0, f.1, f.2, inr f.3, sound pieces f.1 f.4)
]
sound (Everything ∷ pieces) path e =
    let f = run_sound any_byte (is_match pieces) path e in
    (f.0, f.1, f.2, tt, sound pieces f.1 f.4)

pub complete : (pieces : List Part) (path : List ℕ) → Matches pieces path → is_match pieces path ≡ true
complete [] path m = ap is_empty m
complete (One c ∷ pieces) path m =
    ap (after_byte (λ b. b == c) (is_match pieces)) (m.2 ∙ ap (λ (t : List ℕ). t ++ m.1) m.3) ∙ and_from (c == c) (is_match pieces m.1) (eq-eqb c c refl) (complete pieces m.1 m.4)
complete (Any ∷ pieces) path m =
    ap (after_byte no_slash (is_match pieces)) (m.2 ∙ ap (λ (t : List ℕ). t ++ m.1) m.3.1) ∙ and_from (no_slash m.3.0) (is_match pieces m.1) (is_no_slash m.3.0 m.3.2) (complete pieces m.1 m.4)
complete (Set slashes negated items ∷ pieces) path m =
    ap (after_byte (is_in_set slashes negated items) (is_match pieces)) (m.2 ∙ ap (λ (t : List ℕ). t ++ m.1) m.3.1) ∙ and_from (is_in_set slashes negated items m.3.0) (is_match pieces m.1) m.3.2 (complete pieces m.1 m.4)
complete (Name ∷ pieces) path m =
    ap (after_run no_slash (is_match pieces)) m.2 ∙ run_complete no_slash (is_match pieces) m.0 m.1 (is_name m.0 m.3) (complete pieces m.1 m.4)
complete (Folders ∷ pieces) path m = elim m.3 [
  | inl h ↦ or_left (is_match pieces path) _ (ap (is_match pieces) (m.2 ∙ ap (λ (t : List ℕ). t ++ m.1) h) ∙ complete pieces m.1 m.4)
  | inr h ↦ or_right (is_match pieces path) _ (ap (after_slash (is_match pieces)) (m.2 ∙ ap (λ (t : List ℕ). t ++ m.1) h.1) ∙ slash_complete (is_match pieces) h.0 m.1 (complete pieces m.1 m.4))
]
complete (Everything ∷ pieces) path m =
    ap (after_run any_byte (is_match pieces)) m.2 ∙ run_complete any_byte (is_match pieces) m.0 m.1 (all_any m.0) (complete pieces m.1 m.4)

pub is_match_Matches : (pieces : List Part) (path : List ℕ) → (is_match pieces path ≡ true) ↔ Matches pieces path
is_match_Matches pieces path = (sound pieces path, complete pieces path)
