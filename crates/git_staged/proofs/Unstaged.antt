-- An index that is compared with its own files has no staged change.
use Rattle.std.proofs.Common.{◌≡◌, refl, sym, ap, subst, ◌∙◌, ℕ, suc, ◌/◌, ◌<◌, ◌==◌, ◌&&◌, ◌||◌, Bool, true, false, not, cond, List, [], ◌∷◌, ◌++◌, Option, Some, None, length, take, drop, map, slice_index_or, All, arith, drop-cons, if◌then◌else◌}
use Rattle.std.specs.List.{filter, flat_map, list_any}
use Rattle.std.specs.Ordering.{nat_cmp, ordering_then, is_eq}
use Rattle.std.specs.Cmp.Lexicographic.{slice_cmp}
use Rattle.std.specs.List.Sorted.{IsPermutation}
use Rattle.std.specs.Str.{bytes_eq}
use Rattle.std.specs.declared.cmp.Ordering.{Ordering}
use Rattle.std.specs.declared.cmp.Ordering.TheVariants.{Less, Equal, Greater}
use Rattle.std.proofs.Math.Bool.{or-true}
use Rattle.std.proofs.lemmas.Bool.{eq-eqb, eqb-true}
use Rattle.std.proofs.lemmas.Bool.Decides.{nat_tests}
use Rattle.std.proofs.lemmas.Cmp.{nat_list_cmp_total, tied_itself}
use Rattle.std.proofs.lemmas.List.{length-take, get_or_default, get_or-take, map-append, take-append-drop}
use Rattle.std.proofs.lemmas.List.Concat.{flat_map-cons}
use Rattle.std.proofs.lemmas.List.Elements.{All-nil, All-cons, All-head, All-tail, filter-append}
use Rattle.std.proofs.lemmas.List.Folds.{list_any-append}
use Rattle.std.proofs.lemmas.List.Sorted.{IsPermutation-refl}
use Rattle.std.proofs.lemmas.Slice.Eq.{bytes_eq-Decides}
use Rattle.status_index.specs.declared.entry.Flags.{Flags}
use Rattle.status_index.specs.BlobId.{id_bytes}
use Rattle.status_index.specs.Entries.{IndexEntry, IsIndex, entry_cmp, stage_of}
use Rattle.status_index.specs.Mode.{mode_bits}
use Rattle.status_index.specs.Stretch.{is_at}
use Rattle.git_staged.specs.declared.letters.Letter.{Letter}
use Rattle.git_staged.specs.declared.letters.Letter.TheVariants.{Deleted, Modified, TypeChanged}
use Rattle.git_staged.specs.Folders.{copies, with_flags}
use Rattle.git_staged.specs.Letters.{and_change, changes, deletions, has_same_type, is_intended, letter_by, letter_of, letter_of_file}
use Rattle.git_staged.specs.Staged.{AreStaged, is_selected}

-- Nothing comes of a list if nothing comes of any element.
none_of : (f : IndexEntry → List (List ℕ × Letter)) (es : List IndexEntry) → All (λ e. f e ≡ []) es → flat_map f es ≡ []
none_of f [] h = refl
none_of f (e ∷ es) h =
    let first : f e ≡ [] = All-head (λ (x : IndexEntry). f x ≡ []) e es h in
    let rest : flat_map f es ≡ [] = none_of f es (All-tail (λ (x : IndexEntry). f x ≡ []) e es h) in
    flat_map-cons f e es ∙ (ap (λ (l : List (List ℕ × Letter)). l ++ flat_map f es) first ∙ rest)

none_passes : (test : IndexEntry → Bool) (es : List IndexEntry) → All (λ e. test e ≡ false) es → filter test es ≡ []
none_passes test [] h = refl
none_passes test (e ∷ es) h =
    let first = All-head (λ (x : IndexEntry). test x ≡ false) e es h in
    let rest = none_passes test es (All-tail (λ (x : IndexEntry). test x ≡ false) e es h) in
    rw (first, rest)

-- The first that passes comes first.
first_passes : (test : IndexEntry → Bool) (e : IndexEntry) (es : List IndexEntry) → test e ≡ true → filter test (e ∷ es) ≡ e ∷ filter test es
first_passes test e es h = ap (λ (b : Bool). cond b (e ∷ filter test es) (filter test es)) h

at_itself : (e : IndexEntry) → is_at e.path e ≡ true
at_itself e = ap is_eq (tied_itself nat_list_cmp_total e.path)

parts : (es : List IndexEntry) (k : ℕ) (d : IndexEntry) → k < length es → es ≡ take k es ++ slice_index_or es k d ∷ drop (suc k) es
parts es k d inside = sym (take-append-drop k es) ∙ ap (λ (l : List IndexEntry). take k es ++ l) (drop-cons es k d inside)

module _ (flags : Flags) where
  copies-append : (xs ys : List IndexEntry) → copies flags (xs ++ ys) ≡ copies flags xs ++ copies flags ys
  copies-append xs ys =
      let staged : IndexEntry → Bool = λ e. not (is_intended e) in
      ap (map (with_flags flags)) (filter-append staged xs ys) ∙ map-append (with_flags flags) (filter staged xs) (filter staged ys)

  copies-cons : (e : IndexEntry) (es : List IndexEntry) → is_intended e ≡ false → copies flags (e ∷ es) ≡ with_flags flags e ∷ copies flags es
  copies-cons e es staged = ap (map (with_flags flags)) (first_passes (λ (x : IndexEntry). not (is_intended x)) e es (ap not staged))

  -- What holds of the copy of each staged entry holds of all copies.
  all_with : (P : IndexEntry → Type 0) (e : IndexEntry) (more : List IndexEntry) (intended : Bool) → (intended ≡ false → P (with_flags flags e)) → All P (map (with_flags flags) more) → All P (map (with_flags flags) (cond (not intended) (e ∷ more) more))
  all_with P e more true here rest = rest
  all_with P e more false here rest = All-cons P (with_flags flags e) (map (with_flags flags) more) (here refl) rest

  all_copies : (P : IndexEntry → Type 0) (es : List IndexEntry) → All (λ e. is_intended e ≡ false → P (with_flags flags e)) es → All P (copies flags es)
  all_copies P [] h = All-nil P
  all_copies P (e ∷ es) h =
      let holds : IndexEntry → Type 0 = λ x. is_intended x ≡ false → P (with_flags flags x) in
      all_with P e (filter (λ x. not (is_intended x)) es) (is_intended e) (All-head holds e es h) (all_copies P es (All-tail holds e es h))

  -- The first copy at the path of a staged entry is its own, if no entry before it has this path.
  first_copy : (es before after : List IndexEntry) (e : IndexEntry) → es ≡ before ++ e ∷ after → All (λ x. is_at e.path x ≡ false) before → is_intended e ≡ false → filter (is_at e.path) (copies flags es) ≡ with_flags flags e ∷ filter (is_at e.path) (copies flags after)
  first_copy es before after e split apart staged =
      let p : List ℕ = e.path in
      let none : filter (is_at p) (copies flags before) ≡ [] = none_passes (is_at p) (copies flags before) (all_copies (λ (x : IndexEntry). is_at p x ≡ false) before (λ k d inside ignored. apart k d inside)) in
      let copied : copies flags es ≡ copies flags before ++ with_flags flags e ∷ copies flags after =
      ap (copies flags) split ∙ (copies-append before (e ∷ after) ∙ ap (λ (l : List IndexEntry). copies flags before ++ l) (copies-cons e after staged)) in
      ap (filter (is_at p)) copied
      ∙ (filter-append (is_at p) (copies flags before) (with_flags flags e ∷ copies flags after)
      ∙ (ap (λ (l : List IndexEntry). l ++ filter (is_at p) (with_flags flags e ∷ copies flags after)) none
      ∙ first_passes (is_at p) (with_flags flags e) (copies flags after) (at_itself e)))

  -- A copy is as the entry itself.
  as_itself : (a b c : Bool) → a ≡ true → b ≡ true → c ≡ true → (if not a then Some TypeChanged else (if b && c then None else Some Modified)) ≡ None
  as_itself a b c p q r = rw (p, q, r)

  letter_by_copy : (e : IndexEntry) (more : List IndexEntry) → letter_by (with_flags flags e ∷ more) e ≡ None
  letter_by_copy e more =
      let n : ℕ = mode_bits e.mode in
      as_itself (has_same_type e.mode e.mode) (n == n) (bytes_eq (id_bytes e.id) (id_bytes e.id)) (eq-eqb (n / 0x1000) (n / 0x1000) refl) (eq-eqb n n refl) ((bytes_eq-Decides (id_bytes e.id) (id_bytes e.id)).1 refl)

-- Only an entry that is staged, and no side of a conflict, may have a letter.
letter_if : (plain intended : Bool) (letter : Option Letter) → (plain ≡ true → intended ≡ false → letter ≡ None) → (if not plain || intended then None else letter) ≡ None
letter_if true true letter h = refl
letter_if true false letter h = h refl refl
letter_if false intended letter h = refl

-- The entries before one of stage 0 have other paths.
apart_at : (o : Ordering) (n m : ℕ) → m ≡ 0 → ordering_then o (nat_cmp n m) ≡ Less → is_eq o ≡ false
apart_at Less n m zero_stage less = refl
apart_at Equal n m zero_stage less = absurd (grind (arith, nat_tests))
apart_at Greater n m zero_stage less = refl

module _ (flags : Flags) (es : List IndexEntry) (h : IsIndex es) where
  apart_before : (k : ℕ) (d : IndexEntry) → k < length es → stage_of (slice_index_or es k d) ≡ 0 → All (λ x. is_at (slice_index_or es k d).path x ≡ false) (take k es)
  apart_before k d inside plain j x before =
      let e : IndexEntry = slice_index_or es k d in
      let lower : j < k = omega (arith, length-take k es) in
      let same : slice_index_or es k x ≡ e = get_or_default es k x d inside in
      let less : entry_cmp (slice_index_or es j x) e ≡ Less = ap (entry_cmp (slice_index_or es j x)) (sym same) ∙ h.ascending j k x lower inside in
      let apart : is_at e.path (slice_index_or es j x) ≡ false = apart_at (slice_cmp nat_cmp (slice_index_or es j x).path e.path) (stage_of (slice_index_or es j x)) (stage_of e) plain less in
      ap (is_at e.path) (get_or-take k es j x lower) ∙ apart

  no_letter : (k : ℕ) (d : IndexEntry) → k < length es → letter_of (copies flags es) (slice_index_or es k d) ≡ None
  no_letter k d inside =
      let e : IndexEntry = slice_index_or es k d in
      let by : List IndexEntry → Option Letter = λ files. letter_by files e in
      letter_if (stage_of e == 0) (is_intended e) (by (filter (is_at e.path) (copies flags es))) (λ plain staged.
      let first : filter (is_at e.path) (copies flags es) ≡ with_flags flags e ∷ filter (is_at e.path) (copies flags (drop (suc k) es)) =
      first_copy flags es (take k es) (drop (suc k) es) e (parts es k d inside) (apart_before k d inside (eqb-true (stage_of e) 0 plain)) staged in
      ap by first ∙ letter_by_copy flags e (filter (is_at e.path) (copies flags (drop (suc k) es))))

  pub no_changes : changes (copies flags es) es ≡ []
  no_changes =
      none_of (λ e. and_change [] e.path (letter_of (copies flags es) e)) es (λ k d inside. ap (and_change [] (slice_index_or es k d).path) (no_letter k d inside))

-- A list has a staged entry at the path of one of its own.
has_staged_at : (es before after : List IndexEntry) (e : IndexEntry) → es ≡ before ++ e ∷ after → is_intended e ≡ false → list_any (λ x. not (is_intended x)) (filter (is_at e.path) es) ≡ true
has_staged_at es before after e split staged =
    let p : List ℕ = e.path in
    let test : IndexEntry → Bool = λ x. not (is_intended x) in
    let listed : filter (is_at p) es ≡ filter (is_at p) before ++ e ∷ filter (is_at p) after =
    ap (filter (is_at p)) split ∙ (filter-append (is_at p) before (e ∷ after) ∙ ap (λ (l : List IndexEntry). filter (is_at p) before ++ l) (first_passes (is_at p) e after (at_itself e))) in
    ap (list_any test) listed
    ∙ (list_any-append test (filter (is_at p) before) (e ∷ filter (is_at p) after)
    ∙ (ap (λ (b : Bool). list_any test (filter (is_at p) before) || (not b || list_any test (filter (is_at p) after))) staged
    ∙ or-true (list_any test (filter (is_at p) before))))

pub no_deletions : (flags : Flags) (es : List IndexEntry) → deletions es (copies flags es) ≡ []
no_deletions flags es =
    let change : IndexEntry → List (List ℕ × Letter) = λ file. and_change [] file.path (letter_of_file es file.path) in
    none_of change (copies flags es) (all_copies flags (λ (x : IndexEntry). change x ≡ []) es (λ k d inside staged.
    let e : IndexEntry = slice_index_or es k d in
    ap (λ (b : Bool). and_change [] e.path (if not b then Some Deleted else None)) (has_staged_at es (take k es) (drop (suc k) es) e (parts es k d inside) staged)))

-- So nothing is staged.
pub none_staged : (flags : Flags) (included : List ℕ → Bool → Bool) (es : List IndexEntry) → IsIndex es → AreStaged included (copies flags es) es []
none_staged flags included es h =
    let none : changes (copies flags es) es ++ deletions es (copies flags es) ≡ [] = ap (λ (l : List (List ℕ × Letter)). l ++ deletions es (copies flags es)) (no_changes flags es h) ∙ no_deletions flags es in
    record {
      all = subst (λ (l : List (List ℕ × Letter)). IsPermutation (filter (is_selected included (copies flags es) es) l) []) (sym none) (IsPermutation-refl []);
      order = λ k d from within. absurd (omega arith);
    }
