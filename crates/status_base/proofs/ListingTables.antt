-- Maps whose keys are bytes as maps from paths, the stats of names and paths, and a path that is split at its last slash.
use Rattle.std.proofs.Common.{◌≡◌, ◌≢◌, ℕ, ◌+◌, ◌-◌, ◌<◌, ◌≤◌, Bool, true, false, not, cond, ◌||◌, ◌==◌, List, [], ◌∷◌, ◌++◌, length, map, Option, Some, None, is_some, IfSome, slice_index, refl, sym, ap, subst, ◌∙◌, arith}
use Rattle.std.specs.Ordering.{nat_cmp, is_eq, eq_by_cmp}
use Rattle.std.specs.declared.cmp.Ordering.{Ordering}
use Rattle.std.specs.declared.cmp.Ordering.TheVariants.{Less}
use Rattle.std.specs.Cmp.Lexicographic.{slice_cmp}
use Rattle.std.specs.Global.{Vec}
use Rattle.std.specs.Cmp.{Equal-is, alike_right}
use Rattle.std.specs.List.{AllByRecursion, suffix_len}
use Rattle.std.specs.List.Sorted.{IsStrictlySortedBy}
use Rattle.std.specs.Map.{lookup, KeepsOthers, IsKeyTest, AreApart}
use Rattle.std.specs.BTreeMap.{is_at}
use Rattle.std.specs.Str.{bytes_eq}
use Rattle.std.specs.FinMap as paths
use Rattle.std.proofs.lemmas.Cmp.{nat_list_cmp_total, tied_itself}
use Rattle.std.proofs.lemmas.Bool.{not_from_true}
use Rattle.std.proofs.lemmas.Bool.Decides.{same_from_decides, Decides-eqb}
use Rattle.std.proofs.lemmas.List.Sums.{suffix_len_is}
use Rattle.std.proofs.lemmas.Slice.Eq.{bytes_eq-Decides}
use Rattle.status_base.specs.Paths.{is_slash}
use Rattle.status_base.specs.ListedNodes.{Listing, MayList, directory_of, file_name_of, later_or, stat_in_listing, stat_named}
use Rattle.status_base.specs.ListingTable.{Names, Table, stat_of_name, stat_in_table, is_empty, needs_none, IsPutUnless, HasListedOnce, AreNamesOf, AreNamesSeen, HasListedNames, HasListedSeen, IsStatListed}
use Rattle.status_base.specs.MemoryTree.{PathMap}
use Rattle.status_base.specs.PathTables.{keyed, map_of}
use Rattle.status_base.specs.declared.fscache.Stat.{Stat}

-- how a path compares to the keys
abbrev pub to_key : List ℕ → Vec ℕ → Ordering
to_key q k = slice_cmp nat_cmp q k.items

abbrev pub key_cmp : Vec ℕ → Vec ℕ → Ordering
key_cmp x y = slice_cmp nat_cmp x.items y.items

abbrev pub tied : List ℕ → List ℕ → Bool
tied = eq_by_cmp (slice_cmp nat_cmp)

tied_self : (q : List ℕ) → tied q q ≡ true
tied_self q = ap is_eq (tied_itself nat_list_cmp_total q)

same_path : (q k : List ℕ) → tied q k ≡ true → q ≡ k
same_path q k t = paths.slice_cmp-IsAntisymmetric paths.nat_cmp-IsAntisymmetric q k ((Equal-is _).0 t)

find-keyed : {V : Type 0} (es : List (Vec ℕ × V)) (q : List ℕ) → paths.find (slice_cmp nat_cmp) q (keyed es) ≡ lookup (is_at (to_key q)) es
find-keyed [] q = refl
find-keyed (e ∷ es) q =
    elim (is_at (to_key q) e.0) as (λ b. cond b (Some e.1) (paths.find (slice_cmp nat_cmp) q (keyed es)) ≡ cond b (Some e.1) (lookup (is_at (to_key q)) es)) [
      | true ↦ refl
      | false ↦ find-keyed es q
    ]

get-map : {V : Type 0} (es : List (Vec ℕ × V)) (q : List ℕ) → paths.get (map_of es) q ≡ lookup (is_at (to_key q)) es
get-map es q = paths.get-from_entries nat_list_cmp_total (keyed es) q ∙ find-keyed es q

is_key_test : (q : List ℕ) → IsKeyTest (eq_by_cmp key_cmp) (is_at (to_key q))
is_key_test q x y h = ap is_eq (nat_list_cmp_total.congr q x.items y.items ((Equal-is _).0 h))

apart : (k q : List ℕ) → tied q k ≡ false → AreApart (is_at (to_key k)) (is_at (to_key q))
apart k q t x h = ap is_eq (sym (alike_right nat_list_cmp_total k x.items q ((Equal-is _).0 h))) ∙ t

-- the result of a look-up after a change at one path
pub lookup-updated : {V : Type 0} (old new : List (Vec ℕ × V)) (k : List ℕ) (w : Option V)
    → lookup (is_at (to_key k)) new ≡ w → KeepsOthers (eq_by_cmp key_cmp) (is_at (to_key k)) old new
    → (q : List ℕ) → lookup (is_at (to_key q)) new ≡ cond (tied q k) w (lookup (is_at (to_key q)) old)
unfolding KeepsOthers
lookup-updated old new k w here others q =
    elim (tied q k) as (λ b. tied q k ≡ b → lookup (is_at (to_key q)) new ≡ cond b w (lookup (is_at (to_key q)) old)) [
      | true ↦ λ t. subst (λ x. lookup (is_at (to_key x)) new ≡ w) (sym (same_path q k t)) here
      | false ↦ λ t. others (is_at (to_key q)) (is_key_test q) (apart k q t)
    ] refl

-- the map after an entry was put
pub map-insert : {V : Type 0} (old new : List (Vec ℕ × V)) (m : PathMap V) (k path : List ℕ) (v : V) → map_of old ≡ m → k ≡ path
    → lookup (is_at (to_key k)) new ≡ Some v → KeepsOthers (eq_by_cmp key_cmp) (is_at (to_key k)) old new
    → map_of new ≡ paths.insert m path v
map-insert {V} old new m k path v was at here others =
    paths.same_map nat_list_cmp_total (paths.slice_cmp-IsAntisymmetric paths.nat_cmp-IsAntisymmetric) (map_of new) (paths.insert (map_of old) k v)
    (λ q. get-map new q ∙ lookup-updated old new k (Some v) here others q ∙ ap (cond (tied q k) (Some v)) (sym (get-map old q)) ∙ sym (paths.get-insert nat_list_cmp_total (map_of old) k v q))
    ∙ ap (λ (n : PathMap V). paths.insert n k v) was
    ∙ ap (λ (q : List ℕ). paths.insert m q v) at

-- the map after an entry was removed
pub map-remove : {V : Type 0} (old new : List (Vec ℕ × V)) (m : PathMap V) (k path : List ℕ) → map_of old ≡ m → k ≡ path
    → lookup (is_at (to_key k)) new ≡ None → KeepsOthers (eq_by_cmp key_cmp) (is_at (to_key k)) old new
    → map_of new ≡ paths.remove m path
map-remove {V} old new m k path was at here others =
    paths.same_map nat_list_cmp_total (paths.slice_cmp-IsAntisymmetric paths.nat_cmp-IsAntisymmetric) (map_of new) (paths.remove (map_of old) k)
    (λ q. get-map new q ∙ lookup-updated old new k None here others q ∙ ap (cond (tied q k) None) (sym (get-map old q)) ∙ sym (paths.get-remove nat_list_cmp_total (map_of old) k q))
    ∙ ap (λ (n : PathMap V). paths.remove n k) was
    ∙ ap (λ (q : List ℕ). paths.remove m q) at

-- the result of a look-up of a path
pub map-get : {V : Type 0} (es : List (Vec ℕ × V)) (m : PathMap V) (k : List ℕ) → map_of es ≡ m → lookup (is_at (to_key k)) es ≡ paths.get m k
map-get {V} es m k is = sym (get-map es k) ∙ ap (λ (n : PathMap V). paths.get n k) is

not_above : {V : Type 0} (k : Vec ℕ) (es : List (Vec ℕ × V)) → AllByRecursion (λ y. key_cmp k y ≡ Less) (map (λ e. e.0) es) → lookup (is_at (to_key k.items)) es ≡ None
not_above k [] h = refl
not_above k (e ∷ es) h = ap (λ r. cond (is_eq r) (Some e.1) (lookup (is_at (to_key k.items)) es)) h.0 ∙ not_above k es h.1

-- a map has as many paths as it has entries
len_entries : {V : Type 0} (es : List (Vec ℕ × V)) → IsStrictlySortedBy key_cmp (map (λ e. e.0) es) → paths.len (map_of es) ≡ length es
unfolding IsStrictlySortedBy
len_entries {V} [] h = paths.len-empty (slice_cmp nat_cmp) V
len_entries {V} (e ∷ es) h =
    let n : ℕ = paths.len (map_of es) in
    let more : paths.len (map_of (e ∷ es)) ≡ n + 1 = paths.len-insert nat_list_cmp_total (map_of es) e.0.items e.1 ∙ ap (λ (o : Option V). cond (is_some o) n (n + 1)) (get-map es e.0.items ∙ not_above e.0 es h.0) in
    let rest : n ≡ length es = len_entries es h.1 in
    omega (arith, more, rest)

pub map-len : {V : Type 0} (es : List (Vec ℕ × V)) (m : PathMap V) → map_of es ≡ m → IsStrictlySortedBy key_cmp (map (λ e. e.0) es) → length es ≡ paths.len m
map-len {V} es m is ordered = sym (len_entries es ordered) ∙ ap (λ (n : PathMap V). paths.len n) is

-- ---- names

same_test : (a b : List ℕ) → bytes_eq a b ≡ tied b a
same_test a b =
    same_from_decides (bytes_eq a b) (tied b a) (bytes_eq-Decides a b) ((λ t. sym (same_path b a t)), (λ e. subst (λ (x : List ℕ). tied x a ≡ true) e (tied_self a)))

-- of equal names the last one counts
stat_named-last : (name : List ℕ) (es : List (List ℕ × Stat)) (e : List ℕ × Stat) → stat_named name (es ++ e ∷ []) ≡ cond (bytes_eq e.0 name) (Some e.1) (stat_named name es)
stat_named-last name [] e = refl
stat_named-last name (x ∷ xs) e =
    ap (λ (o : Option Stat). later_or o (cond (bytes_eq x.0 name) (Some x.1) None)) (stat_named-last name xs e)
    ∙ elim (bytes_eq e.0 name) as (λ b. later_or (cond b (Some e.1) (stat_named name xs)) (cond (bytes_eq x.0 name) (Some x.1) None) ≡ cond b (Some e.1) (later_or (stat_named name xs) (cond (bytes_eq x.0 name) (Some x.1) None))) [
      | true ↦ refl
      | false ↦ refl
    ]

pub each_same : {X : Type 0} (xs : List X) → map (λ x. x) xs ≡ xs
each_same [] = refl
each_same (x ∷ xs) = ap (λ ys. x ∷ ys) (each_same xs)

-- names without entries
pub no_names : AreNamesOf (Some []) paths.empty
no_names [] = refl
no_names (b ∷ name) = paths.get-empty (slice_cmp nat_cmp) (b ∷ name)

pub unlisted : AreNamesOf None paths.empty
unlisted [] = refl
unlisted (b ∷ name) = paths.get-empty (slice_cmp nat_cmp) (b ∷ name)

-- names with one more entry
pub one_more : (es : List (List ℕ × Stat)) (old : Names) (name : List ℕ) (stat : Stat) → AreNamesOf (Some es) old → AreNamesOf (Some (es ++ (name, stat) ∷ [])) (paths.insert old name stat)
one_more es old name stat h [] = refl
one_more es old name stat h (b ∷ q) =
    paths.get-insert nat_list_cmp_total old name stat (b ∷ q)
    ∙ ap (λ t. cond t (Some stat) (paths.get old (b ∷ q))) (sym (same_test name (b ∷ q)))
    ∙ ap (cond (bytes_eq name (b ∷ q)) (Some stat)) (h (b ∷ q))
    ∙ sym (stat_named-last (b ∷ q) es (name, stat))

empty_is : (name : List ℕ) → (length name == 0) ≡ is_empty name
empty_is [] = refl
empty_is (b ∷ name) =
    same_from_decides (length (b ∷ name) == 0) false (Decides-eqb (length (b ∷ name)) 0) ((λ t. let no : false ≡ true = t in cc), (λ e. absurd (omega (arith, e))))

-- a name that isn't empty is looked up
pub named_some : (m : Names) (name : List ℕ) → (length name == 0) ≡ false → paths.get m name ≡ stat_of_name name (Some m)
named_some m [] h = let no : true ≡ false = sym (empty_is []) ∙ h in cc
named_some m (b ∷ name) h = refl

named_empty : (names : Option Names) (name : List ℕ) → is_empty name ≡ true → None ≡ stat_of_name name names
named_empty names [] h = refl
named_empty names (b ∷ name) h = let no : false ≡ true = h in cc

-- an empty name isn't looked up
pub named_none : (names : Option Names) (name : List ℕ) → (length name == 0) ≡ true → None ≡ stat_of_name name names
named_none names name h = named_empty names name (sym (empty_is name) ∙ h)

-- ---- a path's last slash

ends_at : (path : List ℕ) (n : ℕ) → n ≤ length path → ((k : ℕ) → n ≤ k → k < length path → is_slash (slice_index path k) ≢ true) → (0 < n → is_slash (slice_index path (n - 1)) ≡ true)
    → length path - suffix_len (λ x. not (is_slash x)) path ≡ n
ends_at path n within none here =
    let len : suffix_len (λ x. not (is_slash x)) path ≡ length path - n = suffix_len_is (λ x. not (is_slash x)) path n 0 within (λ k low high. not_so (is_slash (slice_index path k)) (none k low high)) (λ some. not_from_true (is_slash (slice_index path (n - 1))) (here some)) in
    omega (arith, len)
  where
    not_so : (b : Bool) → b ≢ true → not b ≡ true
    not_so true h = absurd (h refl)
    not_so false h = refl

abbrev pub NoSlash : List ℕ → ℕ → Type 0
NoSlash path n = (k : ℕ) → n ≤ k → k < length path → is_slash (slice_index path k) ≢ true

pub split_at : (path : List ℕ) (at : ℕ) → at < length path → NoSlash path (at + 1) → is_slash (slice_index path at) ≡ true → length path - suffix_len (λ x. not (is_slash x)) path ≡ at + 1
split_at path at within none here =
    ends_at path (at + 1) (omega arith) none (λ _. subst (λ (k : ℕ). is_slash (slice_index path k) ≡ true) (omega arith) here)

pub split_none : (path : List ℕ) → NoSlash path 0 → length path - suffix_len (λ x. not (is_slash x)) path ≡ 0
split_none path none = ends_at path 0 (omega arith) none (λ some. absurd (omega (arith, some)))

-- ---- tables

pub empty-HasListedNames : (listing : List ℕ → Listing) → HasListedNames listing paths.empty
empty-HasListedNames listing directory = subst (λ (o : Option Names). IfSome o (AreNamesOf (listing directory))) (sym (paths.get-empty (slice_cmp nat_cmp) directory)) tt

pub put_here : (m : Table) (k : List ℕ) (names : Names) → paths.get (paths.insert m k names) k ≡ Some names
put_here m k names = paths.get-insert nat_list_cmp_total m k names k ∙ ap (λ b. cond b (Some names) (paths.get m k)) (tied_self k)

-- a look-up that lists
pub grown_listed : (path directory name : List ℕ) (old new : Table) (names : Names) → directory ≡ directory_of path → name ≡ file_name_of path
    → (length name == 0) ≡ false → paths.get old directory ≡ None → new ≡ paths.insert old directory names → HasListedOnce path old new
grown_listed path directory name old new names at is some none put =
    let no_name : is_empty (file_name_of path) ≡ false = ap is_empty (sym is) ∙ sym (empty_is name) ∙ some in
    let not_kept : is_some (paths.get old (directory_of path)) ≡ false = ap is_some (ap (paths.get old) (sym at) ∙ none) in
    let both : needs_none old path ≡ false = ap (λ (a : Bool). a || is_some (paths.get old (directory_of path))) no_name ∙ not_kept in
    subst (λ (b : Bool). IsPutUnless b (directory_of path) old new) (sym both) (names, put ∙ ap (λ (d : List ℕ). paths.insert old d names) at)

-- the stat that a table has for a path after the directory was listed
pub known_put : (path directory name : List ℕ) (old new : Table) (names : Names) → directory ≡ directory_of path → name ≡ file_name_of path
    → new ≡ paths.insert old directory names → stat_of_name name (Some names) ≡ stat_in_table new path
known_put path directory name old new names at is put =
    ap (stat_of_name name) (sym (put_here old directory names) ∙ ap (λ (m : Table). paths.get m directory) (sym put))
    ∙ (λ i. stat_of_name (is i) (paths.get new (at i)))

-- a table of listings with one more
pub put-HasListedNames : (listing : List ℕ → Listing) (m : Table) (k : List ℕ) (names : Names) → HasListedNames listing m → AreNamesOf (listing k) names → HasListedNames listing (paths.insert m k names)
put-HasListedNames listing m k names of are q =
    let Is : Option Names → Type 0 = λ o. IfSome o (AreNamesOf (listing q)) in
    subst Is (sym (paths.get-insert nat_list_cmp_total m k names q))
    (elim (tied q k) as (λ b. tied q k ≡ b → Is (cond b (Some names) (paths.get m q))) [
      | true ↦ λ t. subst (λ (x : List ℕ). AreNamesOf (listing x) names) (sym (same_path q k t)) are
      | false ↦ λ t. of q
    ] refl)

-- ---- tables of listings that may be returned

pub empty-HasListedSeen : (may : MayList) → HasListedSeen may paths.empty
empty-HasListedSeen may directory = subst (λ (o : Option Names). IfSome o (AreNamesSeen may directory)) (sym (paths.get-empty (slice_cmp nat_cmp) directory)) tt

-- such a table with one more listing
pub put-HasListedSeen : (may : MayList) (m : Table) (k : List ℕ) (names : Names) → HasListedSeen may m → AreNamesSeen may k names → HasListedSeen may (paths.insert m k names)
put-HasListedSeen may m k names of are q =
    let Is : Option Names → Type 0 = λ o. IfSome o (AreNamesSeen may q) in
    subst Is (sym (paths.get-insert nat_list_cmp_total m k names q))
    (elim (tied q k) as (λ b. tied q k ≡ b → Is (cond b (Some names) (paths.get m q))) [
      | true ↦ λ t. subst (λ (x : List ℕ). AreNamesSeen may x names) (sym (same_path q k t)) are
      | false ↦ λ t. of q
    ] refl)

-- the stat that names have for a path
pub named_seen : (may : MayList) (path name : List ℕ) (o : Option Names) → name ≡ file_name_of path → IfSome o (AreNamesSeen may (directory_of path)) → IfSome (stat_of_name name o) (IsStatListed may path)
named_seen may path [] o at h = tt
named_seen may path (b ∷ name) None at h = tt
named_seen may path (b ∷ name) (Some names) at h = stat_seen (paths.get names (b ∷ name)) refl
  where
    stat_seen : (s : Option Stat) → s ≡ paths.get names (b ∷ name) → IfSome s (IsStatListed may path)
    stat_seen None is = tt
    stat_seen (Some x) is = record {
      listing = h.listing;
      allowed = h.allowed;
      has = ap (stat_in_listing h.listing) (sym at) ∙ sym (h.names_of (b ∷ name)) ∙ sym is;
    }

-- the stat that such a table has for a path
pub seen_in_table : (may : MayList) (table : Table) (path : List ℕ) (stat : Option Stat) → HasListedSeen may table → stat ≡ stat_in_table table path → IfSome stat (IsStatListed may path)
seen_in_table may table path stat seen is =
    subst (λ (s : Option Stat). IfSome s (IsStatListed may path)) (sym is) (named_seen may path (file_name_of path) (paths.get table (directory_of path)) refl (seen (directory_of path)))
