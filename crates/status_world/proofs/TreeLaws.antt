-- Lookups in a map with another value at a path, and the link check of a path in a tree without planted faults.
use Rattle.std.proofs.Common.{◌≡◌, refl, sym, ap, subst, ◌∙◌, ℕ, ◌+◌, ◌<◌, Bool, true, false, cond, ◌||◌, List, [], ◌∷◌, ◌++◌, length, take, drop, Option, Some, None, is_some, Result, Ok, Err, IsTrue, Contains, slice_index, nat_eq, arith, append_assoc, if◌then◌else◌}
use Rattle.std.specs.Prelude.{⊤, ◌==◌}
use Rattle.std.specs.List.{list_any}
use Rattle.std.specs.Ordering.{nat_cmp, eq_by_cmp}
use Rattle.std.specs.Cmp.Lexicographic.{slice_cmp}
use Rattle.std.specs.FinMap as paths
use Rattle.std.proofs.lemmas.Bool.{eqb-false, or_parts}
use Rattle.std.proofs.lemmas.Bool.Decides.{Decides-eqb}
use Rattle.std.proofs.lemmas.Cmp.{nat_list_cmp_total}
use Rattle.std.proofs.lemmas.List.{get_or_at, length-append, take_at}
use Rattle.std.proofs.lemmas.List.Elements.{All-contains}
use Rattle.std.proofs.lemmas.Slice.Eq.{starts_is}
use Rattle.status_index.specs.Absence.{is_absence}
use Rattle.status_index.specs.declared.fault.Fault.{Fault}
use Rattle.status_index.specs.declared.fault.Fault.TheVariants as faults
use Rattle.status_index.specs.declared.stat.Metadata.{Metadata}
use Rattle.status_index.specs.declared.stat.NodeKind.{NodeKind}
use Rattle.status_index.specs.declared.stat.NodeKind.TheVariants.{File, Link, Directory, Other}
use Rattle.status_base.specs.LinkCheck.{LinkCheck, accepted, empty_path, not_normal, through_link, faulty, barrier_of_kind, barrier_of, decided, leftmost_barrier, link_check}
use Rattle.status_base.specs.MemoryTree.{Tree, Placed, PathMap, Planted, planted_or_none, or_planted, lstat_of_node, lstat_in, has_below, has_file_above, absence, bare_directory}
use Rattle.status_base.specs.Nodes.{is_bad_path, put_fault}
use Rattle.status_base.specs.Paths.{is_slash, directories, lies_above, abnormal_component}
use Rattle.status_base.proofs.LinkLemmas.{directories_contain, link_check_normal}
use Rattle.status_base.proofs.LooksLemmas.{all_above}
use Rattle.status_base.proofs.Placed.{looked_below}
use Rattle.status_world.specs.PlainWorld.{with_value}
use Rattle.status_world.proofs.EntryLists.{is_path, path_of}

-- The result of a lookup in a map with another value at a path.
pub get-with : {A : Type 0} (m : PathMap A) (p : List ℕ) (v : Option A) (q : List ℕ) → paths.get (with_value m p v) q ≡ cond (is_path q p) v (paths.get m q)
get-with m p (Some v) q = paths.get-insert nat_list_cmp_total m p v q
get-with m p None q = paths.get-remove nat_list_cmp_total m p q

-- ---- paths

-- A path above another one is one of its directories.
pub contains_above : (q d : List ℕ) → lies_above d q ≡ true → Contains (directories q) d
contains_above q d above =
    let rest : List ℕ = drop (length (d ++ 47 ∷ [])) q in
    let begins : q ≡ d ++ 47 ∷ rest = (starts_is {E = nat_eq} Decides-eqb q (d ++ 47 ∷ []) true (sym above)).0 refl ∙ append_assoc d (47 ∷ []) rest in
    let longer : length q ≡ length d + length (47 ∷ rest) = ap length begins ∙ length-append d (47 ∷ rest) in
    let byte : slice_index q (length d) ≡ 47 = ap (λ (v : List ℕ). slice_index v (length d)) begins ∙ get_or_at d 47 rest 0 (length d) refl in
    let front : take (length d) q ≡ d = ap (take (length d)) begins ∙ take_at d (47 ∷ rest) (length d) refl in
    let P : List ℕ → Type 0 = λ v. Contains (directories q) v in
    subst P front (directories_contain q (length d) (omega arith) ((Decides-eqb (slice_index q (length d)) 47).1 byte))

pub above_shorter : (d q : List ℕ) → lies_above d q ≡ true → length d < length q
above_shorter d q above =
    let rest : List ℕ = drop (length (d ++ 47 ∷ [])) q in
    let begins : q ≡ d ++ 47 ∷ rest = (starts_is {E = nat_eq} Decides-eqb q (d ++ 47 ∷ []) true (sym above)).0 refl ∙ append_assoc d (47 ∷ []) rest in
    omega (arith, ap length begins, length-append d (47 ∷ rest))

-- The part of a path before a slash is above the path.
pub front_above : (path : List ℕ) (k : ℕ) → k < length path → IsTrue (is_slash (slice_index path k)) → lies_above (take k path) path ≡ true
front_above path k within slash =
    All-contains (λ (d : List ℕ). lies_above d path ≡ true) (directories path) (take k path) (all_above path (length path) (omega arith)) (directories_contain path k within slash)

is_none_of : {A : Type 0} (o : Option A) → is_some o ≡ false → o ≡ None
is_none_of None h = refl
is_none_of (Some x) h = cc

-- A path that isn't bad isn't empty, and has no component that is empty, `.` or `..`.
pub good_path : (path : List ℕ) → is_bad_path path ≡ false → (0 < length path) × (abnormal_component path ≡ None)
good_path path h =
    let parts = or_parts (length path == 0) (is_some (abnormal_component path)) h in
    let full = eqb-false (length path) 0 parts.0 in
    (omega (arith, full), is_none_of (abnormal_component path) parts.1)

-- If a node can be put, nothing above is in the way.
pub free_above : (tree : Tree) (path : List ℕ) (kind : NodeKind) → put_fault tree path kind ≡ None → has_file_above tree path ≡ false
free_above tree path kind free = (looked_below tree path kind free).1

-- ---- has_below

any_of_key : (p : List ℕ → Bool) (q : List ℕ) (ks : List (List ℕ)) → p q ≡ true → list_any (eq_by_cmp (slice_cmp nat_cmp) q) ks ≡ true → list_any p ks ≡ true
any_of_key p q [] here h = h
any_of_key p q (k ∷ ks) here h =
    elim (is_path q k) as (λ b. is_path q k ≡ b → (b || list_any (eq_by_cmp (slice_cmp nat_cmp) q) ks) ≡ true → (p k || list_any p ks) ≡ true) [
      | true ↦ λ t _. ap (λ b. b || list_any p ks) (ap p (sym (path_of q k t)) ∙ here)
      | false ↦ λ t l. or_later (p k) (list_any p ks) (any_of_key p q ks here l)
    ] refl h
  where
    or_later : (a b : Bool) → b ≡ true → (a || b) ≡ true
    or_later true b e = refl
    or_later false b e = e

-- A node is below each path above its own.
pub below_found : (tree : Tree) (d p : List ℕ) → IsTrue (is_some (paths.get tree.nodes p)) → lies_above d p ≡ true → has_below tree d ≡ true
below_found tree d p there above =
    any_of_key (lies_above d) p (paths.keys tree.nodes) above (sym (paths.contains_key-keys tree.nodes p) ∙ there)

-- ---- lstat, if no fault is planted

pub lstat_plain : (tree : Tree) (path : List ℕ) → tree.planted ≡ paths.empty → lstat_in tree path ≡ lstat_of_node tree path (paths.get tree.nodes path)
lstat_plain tree path unplanted =
    let none : paths.get tree.planted path ≡ None = ap (λ m. paths.get m path) unplanted ∙ paths.get-empty (slice_cmp nat_cmp) path in
    ap (λ (o : Option Planted). or_planted (planted_or_none o).lstat (lstat_of_node tree path (paths.get tree.nodes path))) none

pub lstat_node : (tree : Tree) (path : List ℕ) (n : Placed) → tree.planted ≡ paths.empty → paths.get tree.nodes path ≡ Some n → lstat_in tree path ≡ Ok n.metadata
lstat_node tree path n unplanted there = lstat_plain tree path unplanted ∙ ap (lstat_of_node tree path) there

pub lstat_none : (tree : Tree) (path : List ℕ) → tree.planted ≡ paths.empty → paths.get tree.nodes path ≡ None
    → lstat_in tree path ≡ (if has_below tree path then Ok bare_directory else Err (absence tree path))
lstat_none tree path unplanted there = lstat_plain tree path unplanted ∙ ap (lstat_of_node tree path) there

-- Both faults mean that nothing is there.
pub absence_by : (b : Bool) → is_absence (if b then faults.NotADirectory else faults.NotFound) ≡ true
absence_by true = refl
absence_by false = refl

-- A result that is a node, or a fault that means that nothing is there.
abbrev pub IsMildAnswer : Result Metadata Fault → Type 0
IsMildAnswer (Ok n) = ⊤
IsMildAnswer (Err f) = is_absence f ≡ true

mild_by : (b : Bool) (f : Fault) → is_absence f ≡ true → IsMildAnswer (if b then Ok bare_directory else Err f)
mild_by true f h = tt
mild_by false f h = h

pub lstat_mild : (tree : Tree) (path : List ℕ) → tree.planted ≡ paths.empty → IsMildAnswer (lstat_in tree path)
lstat_mild tree path unplanted =
    subst IsMildAnswer (sym (lstat_plain tree path unplanted)) (by_node (paths.get tree.nodes path))
  where
    by_node : (o : Option Placed) → IsMildAnswer (lstat_of_node tree path o)
    by_node (Some n) = tt
    by_node None = mild_by (has_below tree path) (absence tree path) (absence_by (has_file_above tree path))

-- ---- the check of a path

-- A check that accepts, finds a link, or returns a fault that means that nothing is there.
abbrev pub IsMild : LinkCheck → Type 0
IsMild accepted = ⊤
IsMild empty_path = ⊥
IsMild (not_normal component) = ⊥
IsMild (through_link directory) = ⊤
IsMild (faulty f) = is_absence f ≡ true

mild_kind : (d : List ℕ) (n : Metadata) (k : NodeKind) (rest : LinkCheck) → IsMild rest → IsMild (decided d (barrier_of_kind k) rest)
mild_kind d n Link rest h = tt
mild_kind d n File rest h = h
mild_kind d n Directory rest h = h
mild_kind d n Other rest h = h

mild_step : (d : List ℕ) (r : Result Metadata Fault) (rest : LinkCheck) → IsMildAnswer r → IsMild rest → IsMild (decided d (barrier_of r) rest)
mild_step d (Ok n) rest a h = mild_kind d n n.kind rest h
mild_step d (Err f) rest a h = a

mild_barrier : (lstat : List ℕ → Result Metadata Fault) → ((d : List ℕ) → IsMildAnswer (lstat d)) → (ds : List (List ℕ)) → IsMild (leftmost_barrier lstat ds)
mild_barrier lstat mild [] = tt
mild_barrier lstat mild (d ∷ ds) = mild_step d (lstat d) (leftmost_barrier lstat ds) (mild d) (mild_barrier lstat mild ds)

-- A check of a path that isn't bad has no other fault.
pub mild_check : (tree : Tree) (path : List ℕ) → tree.planted ≡ paths.empty → is_bad_path path ≡ false → IsMild (link_check (lstat_in tree) path)
mild_check tree path unplanted good =
    let parts = good_path path good in
    subst IsMild (sym (link_check_normal (lstat_in tree) path parts.0 parts.1)) (mild_barrier (lstat_in tree) (λ d. lstat_mild tree d unplanted) (directories path))
