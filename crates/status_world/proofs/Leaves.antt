-- Trees in which nothing is below a node.
use Rattle.std.proofs.Common.{◌≡◌, refl, sym, ap, subst, ◌∙◌, ℕ, Bool, true, false, not, cond, ◌&&◌, List, take, Option, Some, None, is_some, IsTrue, IfSome, Contains, arith}
use Rattle.std.specs.List.{list_any}
use Rattle.std.specs.FinMap as paths
use Rattle.std.proofs.lemmas.Bool.{cond-true, cond-false, false_from_ne_true}
use Rattle.std.proofs.lemmas.List.Folds.{list_any_at}
use Rattle.status_index.specs.declared.stat.NodeKind.{NodeKind}
use Rattle.status_index.specs.declared.stat.NodeKind.TheVariants.{File, Link, Directory, Other}
use Rattle.status_base.specs.LinkCheck.{accepted, barrier_of, link_check}
use Rattle.status_base.specs.MemoryTree.{Tree, Placed, PathMap, is_no_directory, is_no_directory_kind, has_below, has_file_above, lstat_in}
use Rattle.status_base.specs.Nodes.{is_bad_path}
use Rattle.status_base.specs.Paths.{directories, lies_above}
use Rattle.status_base.proofs.LinkLemmas.{link_check_clear}
use Rattle.status_world.specs.PlainWorld.{with_value}
use Rattle.status_world.specs.StampedWorld.{is_stored_kind}
use Rattle.status_world.proofs.EntryLists.{is_path, path_of}
use Rattle.status_world.proofs.TreeLaws.{get-with, contains_above, front_above, good_path, below_found, lstat_none, above_shorter}

abbrev pub AreLeaves : PathMap Placed → Type 0
AreLeaves m = (p d : List ℕ) → IsTrue (is_some (paths.get m p)) → IsTrue (lies_above d p) → paths.get m d ≡ None

-- The link check accepts the path of a node.
pub present_check : (tree : Tree) (path : List ℕ) → tree.planted ≡ paths.empty → AreLeaves tree.nodes → is_bad_path path ≡ false
    → IsTrue (is_some (paths.get tree.nodes path)) → link_check (lstat_in tree) path ≡ accepted
present_check tree path unplanted leaves good there =
    let parts = good_path path good in
    link_check_clear (lstat_in tree) path parts.0 parts.1 (λ k within slash.
    let above : lies_above (take k path) path ≡ true = front_above path k within slash in
    let none : paths.get tree.nodes (take k path) ≡ None = leaves path (take k path) there above in
    ap barrier_of (lstat_none tree (take k path) unplanted none ∙ cond-true (has_below tree (take k path)) _ _ (below_found tree (take k path) path there above)))

-- ---- changes that keep nodes without anything below them

-- No path gets a node that had none.
pub leaves_fewer : (old new : PathMap Placed) → AreLeaves old
    → ((q : List ℕ) → IsTrue (is_some (paths.get new q)) → IsTrue (is_some (paths.get old q)))
    → ((q : List ℕ) → paths.get old q ≡ None → paths.get new q ≡ None) → AreLeaves new
leaves_fewer old new leaves was gone p d there above = gone d (leaves p d (was p there) above)

stays_none : {A : Type 0} (b : Bool) (v o : Option A) → (b ≡ true → v ≡ None) → o ≡ None → cond b v o ≡ None
stays_none true v o h e = h refl
stays_none false v o h e = e

was_some : {A : Type 0} (b : Bool) (v o : Option A) → (b ≡ true → IsTrue (is_some v) → IsTrue (is_some o)) → IsTrue (is_some (cond b v o)) → IsTrue (is_some o)
was_some true v o h t = h refl t
was_some false v o h t = t

-- Another value at a path that had one.
pub leaves_changed : (m : PathMap Placed) (p : List ℕ) (v : Option Placed) → (IsTrue (is_some v) → IsTrue (is_some (paths.get m p))) → AreLeaves m → AreLeaves (with_value m p v)
leaves_changed m p v had leaves =
    leaves_fewer m (with_value m p v) leaves
    (λ q t. was_some (is_path q p) v (paths.get m q)
    (λ same here. subst (λ r. IsTrue (is_some (paths.get m r))) (sym (path_of q p same)) (had here))
    (ap is_some (sym (get-with m p v q)) ∙ t))
    (λ q e. get-with m p v q ∙ stays_none (is_path q p) v (paths.get m q) (λ same. none_then v (λ t. had_none (ap (paths.get m) (sym (path_of q p same)) ∙ e) (had t))) e)
  where
    none_then : (o : Option Placed) → (IsTrue (is_some o) → ⊥) → o ≡ None
    none_then None h = refl
    none_then (Some n) h = absurd (h refl)

    had_none : {o : Option Placed} → o ≡ None → IsTrue (is_some o) → ⊥
    had_none e t = cc

no_directory_or_none : (o : Option Placed) → IfSome o (λ n. IsTrue (is_stored_kind n.metadata.kind)) → is_no_directory o ≡ false → o ≡ None
no_directory_or_none None h e = refl
no_directory_or_none (Some n) h e = absurd (by_kind n.metadata.kind h e)
  where
    by_kind : (k : NodeKind) → IsTrue (is_stored_kind k) → is_no_directory_kind k ≡ false → ⊥
    by_kind File s f = cc
    by_kind Link s f = cc
    by_kind Directory s f = cc
    by_kind Other s f = cc

none_passes : (p : List ℕ → Bool) (xs : List (List ℕ)) (x : List ℕ) → list_any p xs ≡ false → Contains xs x → p x ≡ false
none_passes p xs x h c =
    false_from_ne_true (p x) (λ t. let any : list_any p xs ≡ true = list_any_at p xs c.0 x c.1 (ap p c.2 ∙ t) in cc)

not_both : (a b : Bool) → (not a && b) ≡ false → b ≡ true → a ≡ true
not_both true b h t = refl
not_both false b h t = cc

-- A path above another one is different from it.
not_itself : (p : List ℕ) → lies_above p p ≡ true → ⊥
not_itself p above = let short = above_shorter p p above in absurd (omega arith)

module _ (tree : Tree) (p : List ℕ) (n : Placed) (stored : (q : List ℕ) → IfSome (paths.get tree.nodes q) (λ m. IsTrue (is_stored_kind m.metadata.kind)))
    (free : has_file_above tree p ≡ false) (clear : (not (is_some (paths.get tree.nodes p)) && has_below tree p) ≡ false) (leaves : AreLeaves tree.nodes) where
  abbrev new_at : List ℕ → Option Placed
  new_at q = cond (is_path q p) (Some n) (paths.get tree.nodes q)

  -- No node is above the path.
  none_above : (d : List ℕ) → lies_above d p ≡ true → new_at d ≡ None
  none_above d above =
      let none : paths.get tree.nodes d ≡ None =
      no_directory_or_none (paths.get tree.nodes d) (stored d) (none_passes (λ r. is_no_directory (paths.get tree.nodes r)) (directories p) d free (contains_above p d above)) in
      let apart : is_path d p ≡ false = false_from_ne_true (is_path d p) (λ t. not_itself p (ap (λ r. lies_above r p) (sym (path_of d p t)) ∙ above)) in
      cond-false (is_path d p) (Some n) (paths.get tree.nodes d) apart ∙ none

  -- No node is below the path, so the path is above no node.
  none_below : (q d : List ℕ) → IsTrue (is_some (paths.get tree.nodes q)) → lies_above d q ≡ true → new_at d ≡ None
  none_below q d there above =
      let none : paths.get tree.nodes d ≡ None = leaves q d there above in
      let apart : is_path d p ≡ false = false_from_ne_true (is_path d p) (λ t.
      let same : d ≡ p = path_of d p t in
      let here : lies_above p q ≡ true = ap (λ r. lies_above r q) (sym same) ∙ above in
      let put : is_some (paths.get tree.nodes p) ≡ true = not_both (is_some (paths.get tree.nodes p)) (has_below tree p) clear (below_found tree p q there here) in
      let missing : is_some (paths.get tree.nodes p) ≡ false = ap (λ r. is_some (paths.get tree.nodes r)) (sym same) ∙ ap is_some none in
      cc) in
      cond-false (is_path d p) (Some n) (paths.get tree.nodes d) apart ∙ none

  by_new : (q d : List ℕ) (b : Bool) → is_path q p ≡ b → IsTrue (is_some (cond b (Some n) (paths.get tree.nodes q))) → lies_above d q ≡ true → new_at d ≡ None
  by_new q d true same there above = none_above d (ap (lies_above d) (sym (path_of q p same)) ∙ above)
  by_new q d false apart there above = none_below q d there above

  -- A node at a path for which nothing is in the way.
  pub leaves_put : AreLeaves (with_value tree.nodes p (Some n))
  leaves_put q d there above =
      get-with tree.nodes p (Some n) d ∙ by_new q d (is_path q p) refl (ap is_some (sym (get-with tree.nodes p (Some n) q)) ∙ there) above
