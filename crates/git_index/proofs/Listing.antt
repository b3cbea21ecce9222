-- The entries and the extensions of a file, one after the other.
use Rattle.std.proofs.Common.{◌≡◌, ◌≢◌, ℕ, ◌+◌, ◌<◌, ◌≤◌, List, [], ◌∷◌, ◌++◌, length, Result, Ok, Err, refl, sym, ap, ◌∙◌, append_assoc, arith}
use Rattle.std.specs.List.{flat_map, AllByRecursion}
use Rattle.std.proofs.lemmas.Grind.{flat_map-append}
use Rattle.std.proofs.lemmas.List.{append-nil, length-append}
use Rattle.std.proofs.lemmas.List.Concat.{flat_map-cons}
use Rattle.status_index.specs.declared.id.HashKind.{HashKind}
use Rattle.git_index.specs.declared.fault.Fault.{Fault}
use Rattle.git_index.specs.Numbers.{u32_bytes}
use Rattle.git_index.specs.RawEntry.{RawEntry, raw_bytes, RawFits}
use Rattle.git_index.specs.Reading.{raw_at, extension_name_at, extension_at}
use Rattle.git_index.specs.File.{Extension, extension_bytes, ExtensionFits, AreExtensions}
use Rattle.git_index.specs.Refusals.{Spells, NoExtensionAt}
use Rattle.git_index.proofs.Fields.{IsBytes}
use Rattle.git_index.proofs.Whole.{raw_reader}
use Rattle.git_index.proofs.Header.{extension_reader}

fit_push : {X : Type 0} (P : X → Type 0) (xs : List X) (y : X) → AllByRecursion P xs → P y → AllByRecursion P (xs ++ y ∷ [])
fit_push P [] y h p = (p, tt)
fit_push P (x ∷ xs) y h p = (h.0, fit_push P xs y h.1 p)

flat_push : {X : Type 0} (f : X → List ℕ) (xs : List X) (y : X) → flat_map f (xs ++ y ∷ []) ≡ flat_map f xs ++ f y
flat_push f xs y = flat_map-append f xs (y ∷ []) ∙ ap (λ (t : List ℕ). flat_map f xs ++ t) (flat_map-cons f y [] ∙ append-nil (f y))

-- ---- entries

-- the entries so far, and what is left
pub record Front (kind : HashKind) (version at : ℕ) (bytes : List ℕ) (es : List RawEntry) (rest : List ℕ) : Type 0 where
  pub spells : Spells kind version at bytes es rest
  pub rest_fits : IsBytes rest

pub front_more : (kind : HashKind) (version at : ℕ) (bytes : List ℕ) (es : List RawEntry) (rest : List ℕ) (x : RawEntry) (after : List ℕ) → Front kind version at bytes es rest → raw_at kind version rest ≡ Ok (x, after)
    → Front kind version (at + 1) bytes (es ++ x ∷ []) after
front_more kind version at bytes es rest x after f e =
    let t = (raw_reader kind version).takes rest x after f.rest_fits e in
    let enc = raw_bytes kind version in
    record {
      spells = record {
        many = omega (arith, length-append es (x ∷ []), f.spells.many);
        fit = fit_push (RawFits kind version) es x f.spells.fit t.1;
        parts = f.spells.parts ∙ ap (λ (r : List ℕ). flat_map enc es ++ r) t.0.parts ∙ sym (append_assoc (flat_map enc es) (enc x) after) ∙ ap (λ (t : List ℕ). t ++ after) (sym (flat_push enc es x));
      };
      rest_fits = t.0.rest_fits;
    }

abbrev pub Got : Type 0
Got = RawEntry × List ℕ

abbrev pub got : Got → Result Got Fault
got x = Ok x

pub got_never : (x : Got) (f : Fault) → got x ≡ Err f → ⊥
got_never x f e = cc

got_is : (x y : Got) → got x ≡ got y → x ≡ y
got_is x y e = cc

-- what more entries there are in the longer of two lists
pub record More (kind : HashKind) (version : ℕ) (es es2 : List RawEntry) (rest rest2 : List ℕ) : Type 0 where
  pub more : List RawEntry
  pub whole : es2 ≡ es ++ more
  pub fit : AllByRecursion (RawFits kind version) more
  pub left : rest ≡ flat_map (raw_bytes kind version) more ++ rest2

pub reads_first : (kind : HashKind) (version : ℕ) (x : RawEntry) (es : List RawEntry) (rest : List ℕ) → RawFits kind version x → raw_at kind version (flat_map (raw_bytes kind version) (x ∷ es) ++ rest) ≡ Ok (x, flat_map (raw_bytes kind version) es ++ rest)
reads_first kind version x es rest fits =
    let enc = raw_bytes kind version in
    let regrouped : flat_map enc (x ∷ es) ++ rest ≡ enc x ++ (flat_map enc es ++ rest) = ap (λ (t : List ℕ). t ++ rest) (flat_map-cons enc x es) ∙ append_assoc (enc x) (flat_map enc es) rest in
    ap (raw_at kind version) regrouped ∙ (raw_reader kind version).again x (flat_map enc es ++ rest) fits

pub more_of : (kind : HashKind) (version : ℕ) (es es2 : List RawEntry) (rest rest2 : List ℕ) → AllByRecursion (RawFits kind version) es → AllByRecursion (RawFits kind version) es2
    → flat_map (raw_bytes kind version) es ++ rest ≡ flat_map (raw_bytes kind version) es2 ++ rest2 → length es ≤ length es2 → More kind version es es2 rest rest2
more_of kind version [] es2 rest rest2 f g e le = record { more = es2; whole = refl; fit = g; left = e }
more_of kind version (x ∷ es) [] rest rest2 f g e le = absurd (omega arith)
more_of kind version (x ∷ es) (y ∷ es2) rest rest2 f g e le =
    let enc = raw_bytes kind version in
    let same = got_is (x, flat_map enc es ++ rest) (y, flat_map enc es2 ++ rest2)
    (sym (reads_first kind version x es rest f.0) ∙ (ap (raw_at kind version) e ∙ reads_first kind version y es2 rest2 g.0)) in
    let head : x ≡ y = ap (λ (p : Got). p.0) same in
    let tail : flat_map enc es ++ rest ≡ flat_map enc es2 ++ rest2 = ap (λ (p : Got). p.1) same in
    let m = more_of kind version es es2 rest rest2 f.1 g.1 tail (omega arith) in
    record { more = m.more; whole = ap (λ (z : RawEntry). z ∷ es2) (sym head) ∙ ap (λ (t : List RawEntry). x ∷ t) m.whole; fit = m.fit; left = m.left }

-- ---- extensions

abbrev extension : List ℕ × List ℕ → Extension
extension x = record { name = x.0; content = x.1 }

abbrev parts_of : Extension → List ℕ × List ℕ
parts_of x = (x.name, x.content)

pub record Skipped (bytes rest : List ℕ) : Type 0 where
  pub before : List ℕ
  pub extensions : AreExtensions before
  pub parts : bytes ≡ before ++ rest
  pub rest_fits : IsBytes rest

pub skipped_more : (bytes rest name content after : List ℕ) → Skipped bytes rest → extension_at rest ≡ Ok ((name, content), after) → Skipped bytes after × (length after < length rest)
unfolding extension_bytes
skipped_more bytes rest name content after s e =
    let t = extension_reader.takes rest (name, content) after s.rest_fits e in
    let x = extension (name, content) in
    let xs = s.extensions.each in (
      record {
        before = s.before ++ extension_bytes x;
        extensions = record {
          each = xs ++ x ∷ [];
          fit = fit_push ExtensionFits xs x s.extensions.fit (record { name = t.1.0.0; known = t.1.0.1; content = t.1.1 });
          parts = ap (λ (b : List ℕ). b ++ extension_bytes x) s.extensions.parts ∙ sym (flat_push extension_bytes xs x);
        };
        parts = s.parts ∙ ap (λ (r : List ℕ). s.before ++ r) t.0.parts ∙ sym (append_assoc s.before (extension_bytes x) after);
        rest_fits = t.0.rest_fits;
      },
      omega (arith, ap length t.0.parts, length-append (extension_bytes x) after, length-append name (u32_bytes (length content) ++ content), t.1.0.0),
    )

first_extension : (x : Extension) (xs : List Extension) (rest : List ℕ) → ExtensionFits x → extension_at (flat_map extension_bytes (x ∷ xs) ++ rest) ≡ Ok ((x.name, x.content), flat_map extension_bytes xs ++ rest)
unfolding extension_bytes
first_extension x xs rest fits =
    let regrouped : flat_map extension_bytes (x ∷ xs) ++ rest ≡ extension_bytes x ++ (flat_map extension_bytes xs ++ rest) = ap (λ (t : List ℕ). t ++ rest) (flat_map-cons extension_bytes x xs) ∙ append_assoc (extension_bytes x) (flat_map extension_bytes xs) rest in
    ap extension_at regrouped ∙ extension_reader.again (parts_of x) (flat_map extension_bytes xs ++ rest) ((fits.name, fits.known), fits.content)

abbrev GotParts : Type 0
GotParts = (List ℕ × List ℕ) × List ℕ

abbrev got_parts : GotParts → Result GotParts Fault
got_parts x = Ok x

parts_are : (x y : GotParts) → got_parts x ≡ got_parts y → x ≡ y
parts_are x y e = cc

never_both : (x : GotParts) (fault : Fault) → got_parts x ≡ Err fault → ⊥
never_both x fault e = cc

empty_fails : (x : GotParts) → extension_at [] ≡ Ok x → ⊥
unfolding extension_at extension_name_at
empty_fails x e = cc

not_empty : (x : Extension) (xs : List Extension) (rest : List ℕ) → ExtensionFits x → flat_map extension_bytes (x ∷ xs) ++ rest ≡ [] → ⊥
not_empty x xs rest fits e = empty_fails ((x.name, x.content), flat_map extension_bytes xs ++ rest) (ap extension_at (sym e) ∙ first_extension x xs rest fits)

refused_never : (xs : List Extension) (rest : List ℕ) (fault : Fault) → AllByRecursion ExtensionFits xs → rest ≡ flat_map extension_bytes xs → rest ≢ [] → extension_at rest ≡ Err fault → ⊥
refused_never [] rest fault f e ne r = ne e
refused_never (x ∷ xs) rest fault f e ne r =
    never_both ((x.name, x.content), flat_map extension_bytes xs ++ []) fault
    (sym (first_extension x xs [] f.0) ∙ (ap extension_at (append-nil (flat_map extension_bytes (x ∷ xs)) ∙ sym e) ∙ r))

-- the bytes after extensions, within extensions
rest_are : (xs ys : List Extension) (rest : List ℕ) → AllByRecursion ExtensionFits xs → AllByRecursion ExtensionFits ys → flat_map extension_bytes xs ++ rest ≡ flat_map extension_bytes ys ++ [] → AreExtensions rest
rest_are [] ys rest f g e = record { each = ys; fit = g; parts = e ∙ append-nil (flat_map extension_bytes ys) }
rest_are (x ∷ xs) [] rest f g e = absurd (not_empty x xs rest f.0 e)
rest_are (x ∷ xs) (y ∷ ys) rest f g e =
    let same = parts_are ((x.name, x.content), flat_map extension_bytes xs ++ rest) ((y.name, y.content), flat_map extension_bytes ys ++ [])
    (sym (first_extension x xs rest f.0) ∙ (ap extension_at e ∙ first_extension y ys [] g.0)) in
    rest_are xs ys rest f.1 g.1 (ap (λ (p : GotParts). p.1) same)

pub none_refused : (bytes rest : List ℕ) (fault : Fault) → AreExtensions bytes → NoExtensionAt bytes rest fault → ⊥
none_refused bytes rest fault a r =
    let b = r.extensions in
    let e : flat_map extension_bytes b.each ++ rest ≡ flat_map extension_bytes a.each ++ [] =
    ap (λ (t : List ℕ). t ++ rest) (sym b.parts) ∙ (sym r.parts ∙ (a.parts ∙ sym (append-nil (flat_map extension_bytes a.each)))) in
    let left = rest_are b.each a.each rest b.fit a.fit e in
    refused_never left.each rest fault left.fit left.parts r.more r.refused
