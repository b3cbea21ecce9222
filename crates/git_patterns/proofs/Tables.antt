-- The table of a pattern's tests.
use Rattle.std.proofs.Common.{◌≡◌, ◌∙◌, ◌<◌, ◌≤◌, ◌+◌, ◌-◌, ℕ, zero, suc, Bool, true, false, List, [], ◌∷◌, ◌++◌, length, take, drop, get_or, set, refl, sym, ap, arith, length-append, append-nil, add-one}
use Rattle.std.proofs.Math.ListN.{get_or-append, replicate}
use Rattle.std.proofs.Math.Seq.{get_or-append_seam}
use Rattle.std.proofs.lemmas.Grind.{take-set_at}
use Rattle.std.proofs.lemmas.List.{drop_all, drop-drop, get_or-drop, take_all}
use Rattle.std.specs.List.{slice_index_or}
use Rattle.git_patterns.proofs.Backwards.{last_of}
use Rattle.git_patterns.specs.Tables.{carried, carried_first, carried_on, tests, value_of}
use Rattle.git_patterns.specs.Wildmatch.{Part, One, Any, Set, Name, Folders, Everything, after_piece, is_empty}

pub length_tests : (p : List ℕ → Bool) (path : List ℕ) → length (tests p path) ≡ length path + 1
length_tests p [] = refl
length_tests p (b ∷ rest) = let h = length_tests p rest in length-append (tests p rest) (p (b ∷ rest) ∷ []) ∙ omega (arith, h)

-- The value for the suffix of a length.
test_at : (p : List ℕ → Bool) (path : List ℕ) (n at : ℕ) (d : Bool) → n + at ≡ length path → get_or (tests p path) n d ≡ p (drop at path)
test_at p [] zero zero d e = refl
test_at p [] zero (suc at) d e = absurd (omega (arith, e))
test_at p [] (suc n) at d e = absurd (omega (arith, e))
test_at p (b ∷ rest) n zero d e =
    let h : n ≡ length (tests p rest) = omega (arith, e, length_tests p rest) in
    ap (λ (k : ℕ). get_or (tests p (b ∷ rest)) k d) h ∙ get_or-append_seam (tests p rest) (p (b ∷ rest)) [] d
test_at p (b ∷ rest) n (suc at) d e =
    let less : n < length (tests p rest) = omega (arith, e, length_tests p rest) in
    get_or-append (tests p rest) (p (b ∷ rest) ∷ []) d n less ∙ test_at p rest n at d (omega (arith, e))

-- The value for the whole path.
pub last_test : (p : List ℕ → Bool) (path : List ℕ) (values : List Bool) (v : Bool) → values ≡ tests p path → v ≡ get_or values (length path) v → v ≡ p path
last_test p path values v e f = f ∙ (ap (λ (xs : List Bool). get_or xs (length path) v) e ∙ test_at p path (length path) 0 v (omega arith))

carried_end : (part : Part) (p : List ℕ → Bool) → carried_first part (p []) ≡ carried part p []
carried_end (One c) p = refl
carried_end Any p = refl
carried_end (Set slashes negated items) p = refl
carried_end Name p = refl
carried_end Folders p = refl
carried_end Everything p = refl

carried_more : (part : Part) (p : List ℕ → Bool) (b : ℕ) (rest : List ℕ) → carried_on part b (p (b ∷ rest)) (p rest) (carried part p rest) ≡ carried part p (b ∷ rest)
carried_more (One c) p b rest = refl
carried_more Any p b rest = refl
carried_more (Set slashes negated items) p b rest = refl
carried_more Name p b rest = refl
carried_more Folders p b rest = refl
carried_more Everything p b rest = refl

value_is : (part : Part) (p : List ℕ → Bool) (text : List ℕ) → value_of part (p text) (carried part p text) ≡ after_piece part p text
value_is (One c) p text = refl
value_is Any p text = refl
value_is (Set slashes negated items) p text = refl
value_is Name p text = refl
value_is Folders p text = refl
value_is Everything p text = refl

-- ---- the empty suffix

module _ (p : List ℕ → Bool) (path : List ℕ) where
  none_left : drop (length path) path ≡ []
  none_left = drop_all (length path) path (omega arith)

  first_test : (before : List Bool) (d : Bool) → before ≡ tests p path → get_or before 0 d ≡ p []
  first_test before d e = ap (λ (xs : List Bool). get_or xs 0 d) e ∙ (test_at p path 0 (length path) d (omega arith) ∙ ap p none_left)

  pub start : (xs : List Bool) (n : ℕ) (v : Bool) → n ≡ 1 → 0 < length xs → v ≡ p [] → take n (set xs 0 v) ≡ tests p (drop (length path) path)
  start xs n v one some g = take-set_at xs 0 n v (omega (arith, one)) some ∙ (ap (λ (x : Bool). x ∷ []) g ∙ sym (ap (tests p) none_left))

  pub start_carry : (part : Part) (before : List Bool) (d carry : Bool) → before ≡ tests p path → carry ≡ carried_first part (get_or before 0 d)
      → carry ≡ carried part p (drop (length path) path)
  start_carry part before d carry known e = e ∙ (ap (carried_first part) (first_test before d known) ∙ (carried_end part p ∙ sym (ap (carried part p) none_left)))

  pub start_value : (part : Part) (before : List Bool) (d carry v : Bool) → before ≡ tests p path → carry ≡ carried_first part (get_or before 0 d)
      → v ≡ value_of part (get_or before 0 d) carry → v ≡ after_piece part p []
  start_value part before d carry v known e f =
      f ∙ (ap (λ (x : Bool). value_of part x carry) (first_test before d known)
      ∙ (ap (value_of part (p [])) (e ∙ (ap (carried_first part) (first_test before d known) ∙ carried_end part p)) ∙ value_is part p []))

-- ---- a suffix more

pub same_at : (n : ℕ) (xs ys : List Bool) (d : Bool) → drop n xs ≡ drop n ys → get_or xs n d ≡ get_or ys n d
same_at n xs ys d e =
    let zero_more : n ≡ n + 0 = omega arith in
    ap (λ (k : ℕ). get_or xs k d) zero_more
    ∙ (sym (get_or-drop n xs 0 d) ∙ (ap (λ (zs : List Bool). get_or zs 0 d) e ∙ (get_or-drop n ys 0 d ∙ sym (ap (λ (k : ℕ). get_or ys k d) zero_more))))

pub same_after : (n m : ℕ) (xs ys : List Bool) → m ≡ n + 1 → drop n xs ≡ drop n ys → drop m xs ≡ drop m ys
same_after n m xs ys e same =
    ap (λ (k : ℕ). drop k xs) e ∙ (sym (drop-drop 1 n xs) ∙ (ap (λ (zs : List Bool). drop 1 zs) same ∙ (drop-drop 1 n ys ∙ sym (ap (λ (k : ℕ). drop k ys) e))))

pub more : (p : List ℕ → Bool) (path : List ℕ) (at : ℕ) (values : List Bool) (n m : ℕ) (v : Bool) → take n values ≡ tests p (drop at path) → v ≡ p (drop (at - 1) path)
    → 0 < at → at ≤ length path → m ≡ n + 1 → n < length values → take m (set values n v) ≡ tests p (drop (at - 1) path)
more p path at values n m v so_far e some inside next room =
    let split = last_of path at 0 some inside in
    take-set_at values n m v next room
    ∙ (ap (λ (xs : List Bool). xs ++ v ∷ []) so_far
    ∙ (ap (λ (x : Bool). tests p (drop at path) ++ x ∷ []) (e ∙ ap p split) ∙ sym (ap (tests p) split)))

module _ (part : Part) (p : List ℕ → Bool) (path : List ℕ) (at : ℕ) (some : 0 < at) (inside : at ≤ length path) (before : List Bool) (d : Bool) (known : before ≡ tests p path) where
  after_is : (after : Bool) → after ≡ get_or before (length path - at) d → after ≡ p (drop at path)
  after_is after e = e ∙ (ap (λ (xs : List Bool). get_or xs (length path - at) d) known ∙ test_at p path (length path - at) at d (omega (arith, inside)))

  here_is : (here : Bool) → here ≡ get_or before (length path - at + 1) d → here ≡ p (drop (at - 1) path)
  here_is here e =
      e ∙ (ap (λ (xs : List Bool). get_or xs (length path - at + 1) d) known ∙ test_at p path (length path - at + 1) (at - 1) d (omega (arith, some, inside)))

  carry_by : (here after carry : Bool) → here ≡ p (drop (at - 1) path) → after ≡ p (drop at path) → carry ≡ carried part p (drop at path)
      → carried_on part (slice_index_or path (at - 1) 0) here after carry ≡ carried part p (drop (at - 1) path)
  carry_by here after carry e f g =
      let byte = slice_index_or path (at - 1) 0 in let split = last_of path at 0 some inside in
      ap (λ (x : Bool). carried_on part byte x after carry) (e ∙ ap p split)
      ∙ (ap (λ (x : Bool). carried_on part byte (p (byte ∷ drop at path)) x carry) f
      ∙ (ap (λ (x : Bool). carried_on part byte (p (byte ∷ drop at path)) (p (drop at path)) x) g
      ∙ (carried_more part p byte (drop at path) ∙ sym (ap (carried part p) split))))

  pub carry_more : (here after old carry : Bool) → here ≡ get_or before (length path - at + 1) d → after ≡ get_or before (length path - at) d
      → old ≡ carried part p (drop at path) → carry ≡ carried_on part (slice_index_or path (at - 1) 0) here after old → carry ≡ carried part p (drop (at - 1) path)
  carry_more here after old carry e f g h = h ∙ carry_by here after old (here_is here e) (after_is after f) g

  pub value_more : (here carry v : Bool) → here ≡ get_or before (length path - at + 1) d → carry ≡ carried part p (drop (at - 1) path)
      → v ≡ value_of part here carry → v ≡ after_piece part p (drop (at - 1) path)
  value_more here carry v e f g =
      g ∙ (ap (λ (x : Bool). value_of part x carry) (here_is here e) ∙ (ap (value_of part (p (drop (at - 1) path))) f ∙ value_is part p (drop (at - 1) path)))

-- The table has all suffixes.
pub finish : (p : List ℕ → Bool) (path : List ℕ) (at : ℕ) (values : List Bool) → at ≤ 0 → length values ≡ length path + 1
    → take (length path - at + 1) values ≡ tests p (drop at path) → values ≡ tests p path
finish p path zero values none long e = sym (take_all (length path - 0 + 1) values (omega (arith, long))) ∙ e
finish p path (suc at) values none long e = absurd (omega (arith, none))

-- ---- no pieces, and a piece more

one_more : (n : ℕ) → false ∷ replicate n false ≡ replicate n false ++ false ∷ []
one_more zero = refl
one_more (suc n) = ap (λ (xs : List Bool). false ∷ xs) (one_more n)

empty_tests : (path : List ℕ) → true ∷ replicate (length path) false ≡ tests is_empty path
empty_tests [] = refl
empty_tests (b ∷ rest) = ap (λ (xs : List Bool). true ∷ xs) (one_more (length rest)) ∙ ap (λ (xs : List Bool). xs ++ false ∷ []) (empty_tests rest)

pub empty_table : (path : List ℕ) (values : List Bool) → values ≡ replicate (length path + 1) false → set values 0 true ≡ tests is_empty path
empty_table path values e =
    ap (λ (xs : List Bool). set xs 0 true) (e ∙ ap (λ (n : ℕ). replicate n false) (add-one (length path))) ∙ empty_tests path

pub parted : {A : Type 0} (xs : List A) (x : A) → 1 ≤ length xs → x ≡ get_or xs 0 x → xs ≡ x ∷ take (length xs - 1) (drop 1 xs)
parted [] x some e = absurd (omega (arith, some))
parted (y ∷ ys) x some e = ap (λ z. z ∷ ys) (sym e) ∙ ap (λ zs. x ∷ zs) (sym (take_all (suc (length ys) - 1) ys (omega arith)))

-- A vector that was changed as a slice has what the slice has.
pub written : (n : ℕ) (new old : List Bool) → length new ≡ n → length old ≡ n → take n (new ++ drop (length new) old) ≡ new
written n new old e f =
    ap (λ (xs : List Bool). take n (new ++ xs)) (drop_all (length new) old (omega (arith, e, f)))
    ∙ (ap (λ (xs : List Bool). take n xs) (append-nil new) ∙ take_all n new (omega (arith, e)))
