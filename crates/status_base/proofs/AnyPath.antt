-- Whether some path passes a test, by a map's entries, and by a search in their order.
use Rattle.std.proofs.Common.{◌≡◌, ℕ, Bool, true, false, cond, ◌&&◌, ◌||◌, List, [], ◌∷◌, ◌++◌, map, nat_eq, refl, sym, ap, subst, ◌∙◌, eqb-true}
use Rattle.std.specs.List.{list_any, starts_with, AllByRecursion}
use Rattle.std.specs.List.Sorted.{IsStrictlySortedBy}
use Rattle.std.specs.Ordering.{nat_cmp, is_le, ordering_then, ordering_reverse}
use Rattle.std.specs.declared.cmp.Ordering.{Ordering}
use Rattle.std.specs.declared.cmp.Ordering.TheVariants.{Less, Equal, Greater}
use Rattle.std.specs.declared.ops.Bound.TheVariants.{Included, Unbounded}
use Rattle.std.specs.BTreeMap.Range.{entries_between}
use Rattle.std.specs.Cmp.Lexicographic.{slice_cmp}
use Rattle.std.specs.Cmp.{nat_cmp_total}
use Rattle.std.specs.Global.{Vec}
use Rattle.std.specs.Map.{keys_of}
use Rattle.std.specs.FinMap as paths
use Rattle.std.specs.FinMap.Entries.{by_order}
use Rattle.std.proofs.lemmas.Cmp.{nat_list_cmp_total, tied_itself}
use Rattle.std.proofs.lemmas.Bool.{true≢false, and_parts, and_from, eq-eqb}
use Rattle.std.proofs.lemmas.Map.Keys.{sorted_head, sorted_tail}
use Rattle.status_base.specs.MemoryTree.{Placed, Tree, has_below}
use Rattle.status_base.specs.Nodes.{placed_of, placed_entries, placed_nodes, tree_of}
use Rattle.status_base.specs.declared.worktree.node.Node.{Node}
use Rattle.status_base.proofs.ListingTables.{key_cmp}
use Rattle.status_base.proofs.Placed.{Nodes, Faults}
use Rattle.status_base.proofs.PlantedReads.{entries-empty}

or_twice : (b c d : Bool) → b ≡ c → (c || d) ≡ (b || (c || d))
or_twice true true d e = refl
or_twice false false d e = refl
or_twice true false d e = absurd (true≢false e)
or_twice false true d e = absurd (true≢false (sym e))

or_turned : (b c d : Bool) → (b || (c || d)) ≡ (c || (b || d))
or_turned true true d = refl
or_turned true false d = refl
or_turned false true d = refl
or_turned false false d = refl

abbrev path_cmp : List ℕ → List ℕ → Ordering
path_cmp = slice_cmp nat_cmp

same_path : paths.IsAntisymmetric path_cmp
same_path = paths.slice_cmp-IsAntisymmetric paths.nat_cmp-IsAntisymmetric

any-put : (p : List ℕ → Bool) (k : List ℕ) (v : Placed) (es : List (List ℕ × Placed)) → list_any p (map (λ e. e.0) (paths.put path_cmp k v es)) ≡ (p k || list_any p (map (λ e. e.0) es))
any-put p k v [] = refl
any-put p k v (e ∷ es) =
    elim (path_cmp k e.0) as (λ r. path_cmp k e.0 ≡ r → list_any p (map (λ x. x.0) (by_order r ((k, v) ∷ e ∷ es) ((e.0, v) ∷ es) (e ∷ paths.put path_cmp k v es))) ≡ (p k || (p e.0 || list_any p (map (λ x. x.0) es)))) [
      | Less ↦ λ t. refl
      | Equal ↦ λ t. or_twice (p k) (p e.0) _ (ap p (same_path k e.0 t))
      | Greater ↦ λ t. ap (λ b. p e.0 || b) (any-put p k v es) ∙ or_turned (p e.0) (p k) _
    ] refl

-- a test of a map's keys, by the entries that it was made of
any-from_entries : (p : List ℕ → Bool) (es : List (List ℕ × Placed)) → list_any p (paths.keys (paths.from_entries {R = path_cmp} es)) ≡ list_any p (map (λ e. e.0) es)
any-from_entries p [] = ap (λ l. list_any p (map (λ e. e.0) l)) (entries-empty path_cmp Placed)
any-from_entries p (e ∷ es) =
    ap (λ l. list_any p (map (λ x. x.0) l)) (paths.entries-insert nat_list_cmp_total (paths.from_entries es) e.0 e.1)
    ∙ any-put p e.0 e.1 _ ∙ ap (λ b. p e.0 || b) (any-from_entries p es)

any-placed : (p : List ℕ → Bool) (es : Nodes) → list_any p (map (λ e. e.0) (placed_entries es)) ≡ list_any (λ e. p e.0.items) es
any-placed p [] = refl
any-placed p (e ∷ es) = ap (λ b. p e.0.items || b) (any-placed p es)

-- a test of a tree's paths, by the map's entries
any_key : (p : List ℕ → Bool) (es : Nodes) → list_any p (paths.keys (placed_nodes es)) ≡ list_any (λ e. p e.0.items) es
any_key p es = any-from_entries p (placed_entries es) ∙ any-placed p es

-- ---- paths that begin with a front are next to each other in the order

abbrev has_front : List ℕ → List ℕ → Bool
has_front front path = starts_with nat_eq path front

Equal_itself : (a c : ℕ) → nat_eq a c ≡ true → nat_cmp a c ≡ Equal
Equal_itself a c h = subst (λ x. nat_cmp a x ≡ Equal) (eqb-true a c h) (tied_itself nat_cmp_total a)

-- a front isn't after a path that begins with it, in the order
front_le : (f k : List ℕ) → has_front f k ≡ true → is_le (path_cmp f k) ≡ true
front_le [] [] h = refl
front_le [] (c ∷ k) h = refl
front_le (a ∷ f) [] h = absurd (true≢false (sym h))
front_le (a ∷ f) (c ∷ k) h =
    let parts = and_parts (nat_eq a c) (has_front f k) h in
    ap (λ r. is_le (ordering_then r (path_cmp f k))) (Equal_itself a c parts.0) ∙ front_le f k parts.1

less≢greater : Less ≡ Greater → ⊥
less≢greater e = true≢false (ap is_le e)

-- a path between a front and a path that begins with it begins with it too
front_between : (f e k : List ℕ) → is_le (path_cmp f e) ≡ true → path_cmp e k ≡ Less → has_front f k ≡ true → has_front f e ≡ true
front_between [] e k le lt h = refl
front_between (a ∷ f) [] k le lt h = absurd (true≢false (sym le))
front_between (a ∷ f) (b ∷ e) [] le lt h = absurd (true≢false (sym h))
front_between (a ∷ f) (b ∷ e) (c ∷ k) le lt h =
    let parts = and_parts (nat_eq a c) (has_front f k) h in
    let turned : nat_cmp b c ≡ ordering_reverse (nat_cmp a b) = subst (λ x. nat_cmp b x ≡ ordering_reverse (nat_cmp a b)) (eqb-true a c parts.0) (nat_cmp_total.antisymm b a) in
    elim (nat_cmp a b) as (λ r. nat_cmp a b ≡ r → nat_cmp b c ≡ ordering_reverse r → is_le (ordering_then r (path_cmp f e)) ≡ true → (nat_eq a b && has_front f e) ≡ true) [
      | Less ↦ λ t u l. absurd (less≢greater (sym lt ∙ ap (λ r. ordering_then r (path_cmp e k)) u))
      | Equal ↦ λ t u l. and_from (nat_eq a b) (has_front f e) (eq-eqb a b (paths.nat_cmp-IsAntisymmetric a b t)) (front_between f e k l (sym (ap (λ r. ordering_then r (path_cmp e k)) u) ∙ lt) parts.1)
      | Greater ↦ λ t u l. absurd (true≢false (sym l))
    ] refl turned le

-- ---- the first path from a front on decides whether some path begins with it

-- whether the first of some entries begins with a front
abbrev pub first_has_front : List ℕ → Nodes → Bool
first_has_front front [] = false
first_has_front front (e ∷ es) = has_front front e.0.items

abbrev has_front_at : List ℕ → Vec ℕ × Node → Bool
has_front_at front e = has_front front e.0.items

-- if a path from the front on doesn't begin with it, none after that path does
none_after : (front e : List ℕ) (es : Nodes) → is_le (path_cmp front e) ≡ true → has_front front e ≡ false
    → AllByRecursion (λ (y : Vec ℕ). path_cmp e y.items ≡ Less) (keys_of es) → list_any (has_front_at front) es ≡ false
none_after front e [] le lacks all = refl
none_after front e (f ∷ es) le lacks all =
    elim (has_front front f.0.items) as (λ b. has_front front f.0.items ≡ b → (b || list_any (has_front_at front) es) ≡ false) [
      | true ↦ λ t. absurd (true≢false (sym (front_between front e f.0.items le all.0 t) ∙ lacks))
      | false ↦ λ t. none_after front e es le lacks all.1
    ] refl

or_itself : (b c : Bool) → (b ≡ false → c ≡ false) → (b || c) ≡ b
or_itself true c h = refl
or_itself false c h = h refl

no_front_above : (front e : List ℕ) → is_le (path_cmp front e) ≡ false → has_front front e ≡ false
no_front_above front e h =
    elim (has_front front e) as (λ b. has_front front e ≡ b → b ≡ false) [
      | true ↦ λ t. absurd (true≢false (sym (front_le front e t) ∙ h))
      | false ↦ λ t. refl
    ] refl

-- the search: the entries from the front on, of a map in order
any-by_first : (front : Vec ℕ) (es : Nodes) → IsStrictlySortedBy key_cmp (keys_of es)
    → list_any (has_front_at front.items) es ≡ first_has_front front.items (entries_between key_cmp (Included front) Unbounded es)
any-by_first front [] ordered = refl
any-by_first front (e ∷ es) ordered =
    elim (is_le (key_cmp front e.0)) as (λ b. is_le (key_cmp front e.0) ≡ b → (has_front_at front.items e || list_any (has_front_at front.items) es) ≡ first_has_front front.items (cond (b && true) (e ∷ entries_between key_cmp (Included front) Unbounded es) (entries_between key_cmp (Included front) Unbounded es))) [
      | true ↦ λ t. or_itself _ _ (λ lacks. none_after front.items e.0.items es t lacks (sorted_head key_cmp e.0 (keys_of es) ordered))
      | false ↦ λ t. ap (λ b. b || list_any (has_front_at front.items) es) (no_front_above front.items e.0.items t) ∙ any-by_first front es (sorted_tail key_cmp e.0 (keys_of es) ordered)
    ] refl

-- whether a node is below a path, by the first path from `path/` on
pub below-by_first : (front : Vec ℕ) (es found : Nodes) (faults : Faults) (tree : Tree) (path : List ℕ) → tree_of es faults ≡ tree → front.items ≡ path ++ 47 ∷ []
    → IsStrictlySortedBy key_cmp (keys_of es) → found ≡ entries_between key_cmp (Included front) Unbounded es
    → first_has_front front.items found ≡ has_below tree path
below-by_first front es found faults tree path is at ordered between =
    ap (first_has_front front.items) between ∙ sym (any-by_first front es ordered) ∙ sym (any_key (has_front front.items) es)
    ∙ ap (λ (f : List ℕ). list_any (has_front f) (paths.keys (placed_nodes es))) at ∙ ap (λ (t : Tree). has_below t path) is

-- ---- the entries of a tree's nodes are those of a map in order

first_put : (e : Vec ℕ × Node) (es : Nodes) → AllByRecursion (λ (y : Vec ℕ). key_cmp e.0 y ≡ Less) (keys_of es)
    → paths.put path_cmp e.0.items (placed_of e.1) (placed_entries es) ≡ placed_entries (e ∷ es)
first_put e [] all = refl
first_put e (f ∷ es) all = rw all.0 refl

pub entries_placed : (es : Nodes) → IsStrictlySortedBy key_cmp (keys_of es) → paths.entries (placed_nodes es) ≡ placed_entries es
entries_placed [] ordered = entries-empty path_cmp Placed
entries_placed (e ∷ es) ordered =
    paths.entries-insert nat_list_cmp_total (placed_nodes es) e.0.items (placed_of e.1)
    ∙ ap (paths.put path_cmp e.0.items (placed_of e.1)) (entries_placed es (sorted_tail key_cmp e.0 (keys_of es) ordered))
    ∙ first_put e es (sorted_head key_cmp e.0 (keys_of es) ordered)
