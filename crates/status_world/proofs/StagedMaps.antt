-- The map of staged files by path, as a map by lists of bytes; and a value that is put there and undone.
use Rattle.std.proofs.Common.{◌≡◌, ℕ, Bool, true, false, cond, List, [], ◌∷◌, Option, Some, is_some, IsSome, refl, sym, ap, subst, ◌∙◌}
use Rattle.std.specs.Option.{option_map}
use Rattle.std.specs.Ordering.{nat_cmp, is_eq, eq_by_cmp}
use Rattle.std.specs.declared.cmp.Ordering.{Ordering}
use Rattle.std.specs.Cmp.Lexicographic.{slice_cmp}
use Rattle.std.specs.Global.{Vec}
use Rattle.std.specs.Cmp.{Equal-is, alike_right}
use Rattle.std.specs.Map.{lookup, KeepsOthers, IsKeyTest, AreApart}
use Rattle.std.specs.BTreeMap.{is_at}
use Rattle.std.specs.FinMap as paths
use Rattle.std.proofs.lemmas.Cmp.{nat_list_cmp_total}
use Rattle.status_base.specs.MemoryTree.{PathMap}
use Rattle.status_world.specs.PlainWorld.{Plain, with_value}
use Rattle.status_world.specs.StagedPaths.{plain_staged, staged_entries, staged_of}
use Rattle.status_world.specs.declared.world.staging.Staged.{Staged}
use Rattle.status_world.proofs.EntryLists.{is_path, is_path-itself, path_of}
use Rattle.status_world.proofs.TreeLaws.{get-with}

abbrev pub Files : Type 0
Files = List (Vec ℕ × Staged)

-- The order of a path and a key.
abbrev pub to_key : List ℕ → Vec ℕ → Ordering
to_key q k = slice_cmp nat_cmp q k.items

abbrev pub key_cmp : Vec ℕ → Vec ℕ → Ordering
key_cmp x y = slice_cmp nat_cmp x.items y.items

find-staged : (es : Files) (q : List ℕ) → paths.find (slice_cmp nat_cmp) q (staged_entries es) ≡ option_map plain_staged (lookup (is_at (to_key q)) es)
find-staged [] q = refl
find-staged (e ∷ es) q =
    elim (is_at (to_key q) e.0) as (λ b. cond b (Some (plain_staged e.1)) (paths.find (slice_cmp nat_cmp) q (staged_entries es)) ≡ option_map plain_staged (cond b (Some e.1) (lookup (is_at (to_key q)) es))) [
      | true ↦ refl
      | false ↦ find-staged es q
    ]

-- The staged value at a path is the one that a lookup finds.
get-staged : (es : Files) (q : List ℕ) → paths.get (staged_of es) q ≡ option_map plain_staged (lookup (is_at (to_key q)) es)
get-staged es q = paths.get-from_entries nat_list_cmp_total (staged_entries es) q ∙ find-staged es q

is_key_test : (q : List ℕ) → IsKeyTest (eq_by_cmp key_cmp) (is_at (to_key q))
is_key_test q x y h = ap is_eq (nat_list_cmp_total.congr q x.items y.items ((Equal-is _).0 h))

apart : (k q : List ℕ) → is_path q k ≡ false → AreApart (is_at (to_key k)) (is_at (to_key q))
apart k q t x h = ap is_eq (sym (alike_right nat_list_cmp_total k x.items q ((Equal-is _).0 h))) ∙ t

-- The result of a lookup after a change at one path.
lookup-updated : (old new : Files) (k : List ℕ) (w : Option Staged)
    → lookup (is_at (to_key k)) new ≡ w → KeepsOthers (eq_by_cmp key_cmp) (is_at (to_key k)) old new
    → (q : List ℕ) → lookup (is_at (to_key q)) new ≡ cond (is_path q k) w (lookup (is_at (to_key q)) old)
unfolding KeepsOthers
lookup-updated old new k w here others q =
    elim (is_path q k) as (λ b. is_path q k ≡ b → lookup (is_at (to_key q)) new ≡ cond b w (lookup (is_at (to_key q)) old)) [
      | true ↦ λ t. subst (λ x. lookup (is_at (to_key x)) new ≡ w) (sym (path_of q k t)) here
      | false ↦ λ t. others (is_at (to_key q)) (is_key_test q) (apart k q t)
    ] refl

plain_cond : (b : Bool) (w o : Option Staged) → option_map plain_staged (cond b w o) ≡ cond b (option_map plain_staged w) (option_map plain_staged o)
plain_cond true w o = refl
plain_cond false w o = refl

get-updated : (old new : Files) (k : List ℕ) (w : Option Staged)
    → lookup (is_at (to_key k)) new ≡ w → KeepsOthers (eq_by_cmp key_cmp) (is_at (to_key k)) old new
    → (q : List ℕ) → paths.get (staged_of new) q ≡ cond (is_path q k) (option_map plain_staged w) (paths.get (staged_of old) q)
get-updated old new k w here others q =
    get-staged new q ∙ ap (option_map plain_staged) (lookup-updated old new k w here others q) ∙ plain_cond (is_path q k) w _
    ∙ ap (cond (is_path q k) (option_map plain_staged w)) (sym (get-staged old q))

one_map : (m n : PathMap Plain) → ((q : List ℕ) → paths.get m q ≡ paths.get n q) → m ≡ n
one_map = paths.same_map nat_list_cmp_total (paths.slice_cmp-IsAntisymmetric paths.nat_cmp-IsAntisymmetric)

-- The staged values after a change at one path.
pub staged-updated : (old new : Files) (m : PathMap Plain) (k path : List ℕ) (w : Option Staged) → staged_of old ≡ m → k ≡ path
    → lookup (is_at (to_key k)) new ≡ w → KeepsOthers (eq_by_cmp key_cmp) (is_at (to_key k)) old new
    → staged_of new ≡ with_value m path (option_map plain_staged w)
staged-updated old new m k path w was at here others =
    one_map (staged_of new) (with_value (staged_of old) k (option_map plain_staged w))
    (λ q. get-updated old new k w here others q ∙ sym (get-with (staged_of old) k (option_map plain_staged w) q))
    ∙ ap (λ (n : PathMap Plain). with_value n k (option_map plain_staged w)) was
    ∙ ap (λ (q : List ℕ). with_value m q (option_map plain_staged w)) at

-- The result of a lookup of a path.
pub staged-get : (es : Files) (m : PathMap Plain) (k path : List ℕ) → staged_of es ≡ m → k ≡ path
    → option_map plain_staged (lookup (is_at (to_key k)) es) ≡ paths.get m path
staged-get es m k path is at = sym (get-staged es k) ∙ ap (λ (n : PathMap Plain). paths.get n k) is ∙ ap (paths.get m) at

back_at : (m : PathMap Plain) (k : List ℕ) (p : Plain) (o : Option Plain) → o ≡ paths.get m k
    → (q : List ℕ) → cond (is_path q k) o (cond (is_path q k) (Some p) (paths.get m q)) ≡ paths.get m q
back_at m k p o was q =
    elim (is_path q k) as (λ b. is_path q k ≡ b → cond b o (cond b (Some p) (paths.get m q)) ≡ paths.get m q) [
      | true ↦ λ t. was ∙ ap (paths.get m) (sym (path_of q k t))
      | false ↦ λ t. refl
    ] refl

-- If a replaced value is put back, the map is unchanged.
put_back : (m : PathMap Plain) (k : List ℕ) (p : Plain) (o : Option Plain) → o ≡ paths.get m k → with_value (paths.insert m k p) k o ≡ m
put_back m k p o was =
    one_map (with_value (paths.insert m k p) k o) m
    (λ q. get-with (paths.insert m k p) k o q ∙ ap (cond (is_path q k) o) (paths.get-insert nat_list_cmp_total m k p q) ∙ back_at m k p o was q)

-- A value that was put is there.
put_here : (m : PathMap Plain) (k : List ℕ) (p : Plain) → paths.get (paths.insert m k p) k ≡ Some p
put_here m k p =
    paths.get-insert nat_list_cmp_total m k p k ∙ ap (λ b. cond b (Some p) (paths.get m k)) (is_path-itself k)

-- The staged values are unchanged after a put is undone.
pub undone : (old put back : PathMap Plain) (k : List ℕ) (p : Plain) (o : Option Plain) → o ≡ paths.get old k → put ≡ paths.insert old k p
    → (IsSome (paths.get put k) → back ≡ with_value put k o) → back ≡ old
undone old put back k p o was is returned =
    returned (ap is_some (ap (λ (m : PathMap Plain). paths.get m k) is ∙ put_here old k p))
    ∙ ap (λ (m : PathMap Plain). with_value m k o) is
    ∙ put_back old k p o was
