-- The entry of a path, in an index with another entry of a path, and in an index whose entries are changed in place.
use Rattle.std.proofs.Common.{◌≡◌, refl, sym, ap, ◌∙◌, ℕ, zero, suc, ◌<◌, Bool, true, false, cond, List, [], ◌∷◌, ◌++◌, map, length, filter, find, Option, Some, None, option_map, IfSome, All, AllPairs, option_to_list, slice_index_or, arith}
use Rattle.std.specs.Ordering.{nat_cmp, is_eq, is_lt, ordering_reverse}
use Rattle.std.specs.Option.{option_or}
use Rattle.std.specs.declared.cmp.Ordering.{Ordering}
use Rattle.std.specs.declared.cmp.Ordering.TheVariants.{Less, Equal, Greater}
use Rattle.std.specs.Cmp.Lexicographic.{slice_cmp}
use Rattle.std.specs.Str.{bytes_eq}
use Rattle.std.proofs.lemmas.Cmp.{nat_list_cmp_total, tied_itself}
use Rattle.std.proofs.lemmas.List.{get_or-map, length-map}
use Rattle.std.proofs.lemmas.List.Elements.{All-head, All-tail, All-weaker, All-append, All-filter, All-cons, All-nil, All-map, filter_passes}
use Rattle.std.proofs.lemmas.List.Folds.{find-append}
use Rattle.std.proofs.lemmas.List.Kept.{AllPairs-filter}
use Rattle.std.proofs.lemmas.Map.Text.{is_eq-slice_cmp}
use Rattle.std.proofs.lemmas.Slice.Eq.{bytes_eq-Decides}
use Rattle.status_index.specs.Entries.{IndexEntry}
use Rattle.status_base.specs.Nodes.{is_bad_path}
use Rattle.status_call.proofs.Stretch.{AllPairs-append}
use Rattle.status_index.specs.Staging.{with_entry}
use Rattle.status_world.specs.StampedWorld.{entry_of_path}

abbrev pub path_cmp : List ℕ → List ℕ → Ordering
path_cmp = slice_cmp nat_cmp

-- Whether two paths are equal.
abbrev pub is_path : List ℕ → List ℕ → Bool
is_path q p = is_eq (path_cmp q p)

pub is_path-itself : (p : List ℕ) → is_path p p ≡ true
is_path-itself p = ap is_eq (tied_itself nat_list_cmp_total p)

pub path_of : (q p : List ℕ) → is_path q p ≡ true → q ≡ p
path_of q p h = (bytes_eq-Decides q p).0 (sym (is_eq-slice_cmp q p) ∙ h)

reversed_test : (o : Ordering) → is_eq (ordering_reverse o) ≡ is_eq o
reversed_test Less = refl
reversed_test Equal = refl
reversed_test Greater = refl

is_path-turned : (q p : List ℕ) → is_path q p ≡ is_path p q
is_path-turned q p = ap is_eq (nat_list_cmp_total.antisymm q p) ∙ reversed_test (path_cmp p q)

-- The test of a lookup, by the order of paths.
test_is : (e : IndexEntry) (q : List ℕ) → bytes_eq e.path q ≡ is_path q e.path
test_is e q = sym (is_eq-slice_cmp e.path q) ∙ is_path-turned e.path q

is_less : (o : Ordering) → is_lt o ≡ true → o ≡ Less
is_less Less h = refl
is_less Equal h = cc
is_less Greater h = cc

-- ---- one entry

abbrev nothing : {X : Type 0} → Option X
nothing = None

none_either : {X : Type 0} (b : Bool) → nothing {X = X} ≡ cond b None None
none_either true = refl
none_either false = refl

module _ {X : Type 0} (test keep : X → Bool) (b : Bool) where
  filter_step : (k t : Bool) (x : X) (rest : List X) (found : Option X) → test x ≡ t → (t ≡ true → k ≡ b) → find test rest ≡ cond b found None
      → find test (cond k (x ∷ rest) rest) ≡ cond b (cond t (Some x) found) None
  filter_step true true x rest found e h is =
      ap (λ u. cond u (Some x) (find test rest)) e ∙ ap (λ u. cond u (Some x) None) (h refl)
  filter_step false true x rest found e h is =
      is ∙ ap (λ u. cond u found None) (sym (h refl)) ∙ ap (λ u. cond u (Some x) None) (h refl)
  filter_step true false x rest found e h is = ap (λ u. cond u (Some x) (find test rest)) e ∙ is
  filter_step false false x rest found e h is = is

  -- A lookup after a filter that keeps all elements that pass the lookup's test, or none of them.
  find-filter : ((x : X) → test x ≡ true → keep x ≡ b) → (xs : List X) → find test (filter keep xs) ≡ cond b (find test xs) None
  find-filter h [] = none_either b
  find-filter h (x ∷ xs) = filter_step (keep x) (test x) x (filter keep xs) (find test xs) refl (h x) (find-filter h xs)

or_none : {X : Type 0} (o : Option X) → option_or o None ≡ o
or_none None = refl
or_none (Some x) = refl

-- An entry that passes the test has the path.
sought : (e : IndexEntry) (q : List ℕ) → bytes_eq e.path q ≡ true → e.path ≡ q
sought e q h = (bytes_eq-Decides e.path q).0 h

module _ (es : List IndexEntry) (p : List ℕ) where
  abbrev below : List IndexEntry
  below = filter (λ e. is_lt (path_cmp e.path p)) es

  abbrev above : List IndexEntry
  above = filter (λ e. is_lt (path_cmp p e.path)) es

  at_below : (q : List ℕ) → entry_of_path q below ≡ cond (is_lt (path_cmp q p)) (entry_of_path q es) None
  at_below q = find-filter (λ e. bytes_eq e.path q) (λ e. is_lt (path_cmp e.path p)) (is_lt (path_cmp q p)) (λ e h. ap (λ r. is_lt (path_cmp r p)) (sought e q h)) es

  at_above : (q : List ℕ) → entry_of_path q above ≡ cond (is_lt (path_cmp p q)) (entry_of_path q es) None
  at_above q = find-filter (λ e. bytes_eq e.path q) (λ e. is_lt (path_cmp p e.path)) (is_lt (path_cmp p q)) (λ e h. ap (λ r. is_lt (path_cmp p r)) (sought e q h)) es

at_new : (new : Option IndexEntry) (p q : List ℕ) → IfSome new (λ e. e.path ≡ p) → entry_of_path q (option_to_list new) ≡ cond (is_path q p) new None
at_new None p q h = none_either (is_path q p)
at_new (Some e) p q h = ap (λ b. cond b (Some e) None) (test_is e q ∙ ap (is_path q) h)

by_order_of : (o : Ordering) (new found : Option IndexEntry)
    → option_or (option_or (cond (is_lt o) found None) (cond (is_eq o) new None)) (cond (is_lt (ordering_reverse o)) found None) ≡ cond (is_eq o) new found
by_order_of Less None None = refl
by_order_of Less None (Some e) = refl
by_order_of Less (Some x) None = refl
by_order_of Less (Some x) (Some e) = refl
by_order_of Equal new found = or_none new
by_order_of Greater new found = refl

-- The entry of a path, in an index in which one path has another entry, or none.
pub entry_of_path-with : (es : List IndexEntry) (p : List ℕ) (new : Option IndexEntry) → IfSome new (λ e. e.path ≡ p)
    → (q : List ℕ) → entry_of_path q (with_entry es p new) ≡ cond (is_path q p) new (entry_of_path q es)
entry_of_path-with es p new named q =
    let test : IndexEntry → Bool = λ e. bytes_eq e.path q in
    let front : entry_of_path q (below es p ++ option_to_list new) ≡ option_or (cond (is_lt (path_cmp q p)) (entry_of_path q es) None) (cond (is_path q p) new None) =
    find-append test (below es p) (option_to_list new)
    ∙ ap (λ o. option_or o (entry_of_path q (option_to_list new))) (at_below es p q)
    ∙ ap (option_or (cond (is_lt (path_cmp q p)) (entry_of_path q es) None)) (at_new new p q named) in
    find-append test (below es p ++ option_to_list new) (above es p)
    ∙ ap (λ o. option_or o (entry_of_path q (above es p))) front
    ∙ ap (option_or (option_or (cond (is_lt (path_cmp q p)) (entry_of_path q es) None) (cond (is_path q p) new None))) (at_above es p q ∙ ap (λ o. cond (is_lt o) (entry_of_path q es) None) (nat_list_cmp_total.antisymm p q))
    ∙ by_order_of (path_cmp q p) new (entry_of_path q es)

-- ---- facts of all entries

All-option : (P : IndexEntry → Type 0) (new : Option IndexEntry) → IfSome new P → All P (option_to_list new)
All-option P None h = All-nil P
All-option P (Some e) h = All-cons P e [] h (All-nil P)

pub All-with : (P : IndexEntry → Type 0) (es : List IndexEntry) (p : List ℕ) (new : Option IndexEntry) → All P es → IfSome new P → All P (with_entry es p new)
All-with P es p new all here =
    All-append P (below es p ++ option_to_list new) (above es p)
    (All-append P (below es p) (option_to_list new) (All-filter (λ e. is_lt (path_cmp e.path p)) P es all) (All-option P new here))
    (All-filter (λ e. is_lt (path_cmp p e.path)) P es all)

-- The paths ascend strictly.
abbrev pub Precedes : IndexEntry → IndexEntry → Type 0
Precedes a b = path_cmp a.path b.path ≡ Less

abbrev pub AreAscending : List IndexEntry → Type 0
AreAscending es = AllPairs Precedes es

pairs-append : (xs ys : List IndexEntry) → AreAscending xs → AreAscending ys → All (λ a. All (Precedes a) ys) xs → AreAscending (xs ++ ys)
pairs-append xs ys first second across = AllPairs-append Precedes xs ys first second (λ i j d l m. across i d l j d m)

one_ascends : (new : Option IndexEntry) → AreAscending (option_to_list new)
one_ascends None i j d l m = absurd (omega arith)
one_ascends (Some e) i j d l m = absurd (omega arith)

module _ (es : List IndexEntry) (p : List ℕ) where
  all_below : All (λ e. path_cmp e.path p ≡ Less) (below es p)
  all_below = All-weaker (λ e. is_lt (path_cmp e.path p) ≡ true) (λ e. path_cmp e.path p ≡ Less) (λ e h. is_less (path_cmp e.path p) h) (below es p) (filter_passes (λ e. is_lt (path_cmp e.path p)) es)

  all_above : All (λ e. path_cmp p e.path ≡ Less) (above es p)
  all_above = All-weaker (λ e. is_lt (path_cmp p e.path) ≡ true) (λ e. path_cmp p e.path ≡ Less) (λ e h. is_less (path_cmp p e.path) h) (above es p) (filter_passes (λ e. is_lt (path_cmp p e.path)) es)

pub ascending-with : (es : List IndexEntry) (p : List ℕ) (new : Option IndexEntry) → AreAscending es → IfSome new (λ e. e.path ≡ p) → AreAscending (with_entry es p new)
ascending-with es p new ascends named =
    let low : AreAscending (below es p) = AllPairs-filter Precedes (λ e. is_lt (path_cmp e.path p)) es ascends in
    let high : AreAscending (above es p) = AllPairs-filter Precedes (λ e. is_lt (path_cmp p e.path)) es ascends in
    let front : AreAscending (below es p ++ option_to_list new) =
    pairs-append (below es p) (option_to_list new) low (one_ascends new)
    (All-weaker (λ e. path_cmp e.path p ≡ Less) (λ a. All (Precedes a) (option_to_list new)) (λ a l. All-option (Precedes a) new (to_new a l new named)) (below es p) (all_below es p)) in
    pairs-append (below es p ++ option_to_list new) (above es p) front high
    (All-append (λ a. All (Precedes a) (above es p)) (below es p) (option_to_list new)
    (All-weaker (λ e. path_cmp e.path p ≡ Less) (λ a. All (Precedes a) (above es p)) far (below es p) (all_below es p))
    (All-option (λ a. All (Precedes a) (above es p)) new (under new named)))
  where
    under : (o : Option IndexEntry) → IfSome o (λ e. e.path ≡ p) → IfSome o (λ a. All (Precedes a) (above es p))
    under None h = tt
    under (Some a) h = All-weaker (λ e. path_cmp p e.path ≡ Less) (Precedes a) (λ e l. ap (λ r. path_cmp r e.path) h ∙ l) (above es p) (all_above es p)

    to_new : (a : IndexEntry) → path_cmp a.path p ≡ Less → (o : Option IndexEntry) → IfSome o (λ e. e.path ≡ p) → IfSome o (Precedes a)
    to_new a l None h = tt
    to_new a l (Some e) h = ap (path_cmp a.path) h ∙ l

    far : (a : IndexEntry) → path_cmp a.path p ≡ Less → All (Precedes a) (above es p)
    far a l = All-weaker (λ e. path_cmp p e.path ≡ Less) (Precedes a) (λ e m. nat_list_cmp_total.trans a.path p e.path l m) (above es p) (all_above es p)

-- ---- entries changed in place

-- A change that keeps each entry's path.
abbrev pub KeepsPaths : (IndexEntry → IndexEntry) → Type 0
KeepsPaths f = (e : IndexEntry) → (f e).path ≡ e.path

either_mapped : (f : IndexEntry → IndexEntry) (b : Bool) (e : IndexEntry) (new old : Option IndexEntry) → new ≡ option_map f old → cond b (Some (f e)) new ≡ option_map f (cond b (Some e) old)
either_mapped f true e new old h = refl
either_mapped f false e new old h = h

pub entry_of_path-map : (f : IndexEntry → IndexEntry) → KeepsPaths f → (p : List ℕ) (es : List IndexEntry) → entry_of_path p (map f es) ≡ option_map f (entry_of_path p es)
entry_of_path-map f kept p [] = refl
entry_of_path-map f kept p (e ∷ es) =
    ap (λ r. cond (bytes_eq r p) (Some (f e)) (entry_of_path p (map f es))) (kept e)
    ∙ either_mapped f (bytes_eq e.path p) e (entry_of_path p (map f es)) (entry_of_path p es) (entry_of_path-map f kept p es)

pub ascending-map : (f : IndexEntry → IndexEntry) → KeepsPaths f → (es : List IndexEntry) → AreAscending es → AreAscending (map f es)
ascending-map f kept es ascends i j d l m =
    let within : j < length es = omega (arith, length-map es f) in
    rw (get_or-map f es i d d (omega arith), get_or-map f es j d d within, kept (slice_index_or es i d), kept (slice_index_or es j d)) (ascends i j d l within)

pub normal-map : (f : IndexEntry → IndexEntry) → KeepsPaths f → (es : List IndexEntry) → All (λ e. is_bad_path e.path ≡ false) es → All (λ e. is_bad_path e.path ≡ false) (map f es)
normal-map f kept es normal =
    All-map (λ e. is_bad_path e.path ≡ false) f es
    (All-weaker (λ e. is_bad_path e.path ≡ false) (λ e. is_bad_path (f e).path ≡ false) (λ e h. ap is_bad_path (kept e) ∙ h) es normal)

-- ---- lookups

either_some : (P : IndexEntry → Type 0) (b : Bool) (e : IndexEntry) (o : Option IndexEntry) → (b ≡ true → P e) → IfSome o P → IfSome (cond b (Some e) o) P
either_some P true e o h k = h refl
either_some P false e o h k = k

pub found_path : (p : List ℕ) (es : List IndexEntry) → IfSome (entry_of_path p es) (λ e. e.path ≡ p)
found_path p [] = tt
found_path p (e ∷ es) = either_some (λ x. x.path ≡ p) (bytes_eq e.path p) e (entry_of_path p es) (λ t. sought e p t) (found_path p es)

pub found_holds : (P : IndexEntry → Type 0) (p : List ℕ) (es : List IndexEntry) → All P es → IfSome (entry_of_path p es) P
found_holds P p [] all = tt
found_holds P p (e ∷ es) all = either_some P (bytes_eq e.path p) e (entry_of_path p es) (λ t. All-head P e es all) (found_holds P p es (All-tail P e es all))

pub ascends_tail : (e : IndexEntry) (es : List IndexEntry) → AreAscending (e ∷ es) → AreAscending es
ascends_tail e es ascends i j d l m = ascends (suc i) (suc j) d (omega arith) (omega arith)

pub ascends_head : (e : IndexEntry) (es : List IndexEntry) → AreAscending (e ∷ es) → All (Precedes e) es
ascends_head e es ascends k d l = ascends zero (suc k) d (omega arith) (omega arith)

-- No later entry has the path of an earlier one.
pub none_later : (e : IndexEntry) (es : List IndexEntry) → All (Precedes e) es → entry_of_path e.path es ≡ None
none_later e [] all = refl
none_later e (x ∷ es) all =
    let apart : bytes_eq x.path e.path ≡ false = test_is x e.path ∙ ap is_eq (All-head (Precedes e) x es all) in
    ap (λ b. cond b (Some x) (entry_of_path e.path es)) apart ∙ none_later e es (All-tail (Precedes e) x es all)

-- Each entry is the one of its path.
pub each_found : (es : List IndexEntry) → AreAscending es → All (λ e. entry_of_path e.path es ≡ Some e) es
each_found [] ascends k d l = absurd (omega arith)
each_found (x ∷ es) ascends zero d l = ap (λ b. cond b (Some x) (entry_of_path x.path es)) (test_is x x.path ∙ is_path-itself x.path)
each_found (x ∷ es) ascends (suc k) d l =
    let within : k < length es = omega arith in
    let e : IndexEntry = slice_index_or es k d in
    let apart : bytes_eq x.path e.path ≡ false = sym (is_eq-slice_cmp x.path e.path) ∙ ap is_eq (ascends_head x es ascends k d within) in
    ap (λ b. cond b (Some x) (entry_of_path e.path es)) apart ∙ each_found es (ascends_tail x es ascends) k d within
