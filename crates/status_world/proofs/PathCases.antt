-- Facts of each path after a change at one path, and after a run.
use Rattle.std.proofs.Common.{◌≡◌, refl, sym, ap, subst, ◌∙◌, ℕ, true, false, cond, List, map, Option, Some, None, option_map, Result, Ok, Err, IfSome}
use Rattle.std.specs.FinMap as paths
use Rattle.status_index.specs.Entries.{IndexEntry}
use Rattle.status_base.specs.MemoryTree.{PathMap}
use Rattle.status_base.specs.Nodes.{is_bad_path}
use Rattle.status_compare.specs.declared.error.Error.{Error}
use Rattle.status_call.specs.declared.index_as_worktree.apply.ApplyChange.{ApplyChange}
use Rattle.status_call.specs.declared.index_as_worktree.apply.ApplyChange.TheVariants.{NewStat, SetSizeToZero}
use Rattle.status_call.specs.IndexChanges.{change_of, updated_entry}
use Rattle.status_compare.specs.declared.compare.Comparer.{Comparer}
use Rattle.status_world.specs.PlainWorld.{with_value}
use Rattle.status_world.specs.Reports.{RunStatus}
use Rattle.status_world.specs.Sound.{IsFormed}
use Rattle.status_index.specs.Staging.{with_entry}
use Rattle.status_world.specs.StampedWorld.{StampedWorld, node_at, entry_of_path, stored_verdict, verdict_in}
use Rattle.status_world.proofs.EntryLists.{is_path, path_of, entry_of_path-with, entry_of_path-map, KeepsPaths, found_path, found_holds}
use Rattle.status_world.proofs.EntryVerdicts.{IsStagedEntry, staged_entry, verdict_by, verdict_is}
use Rattle.status_world.proofs.TreeLaws.{get-with}

-- Another value at a path of a map.
pub each_with : {A : Type 0} (m : PathMap A) (p : List ℕ) (v : Option A) (P : List ℕ → Option A → Type 0) → P p v → ((q : List ℕ) → P q (paths.get m q))
    → (q : List ℕ) → P q (paths.get (with_value m p v) q)
each_with m p v P here others q =
    subst (P q) (sym (get-with m p v q))
    (elim (is_path q p) as (λ b. is_path q p ≡ b → P q (cond b v (paths.get m q))) [
      | true ↦ λ same. subst (λ r. P r v) (sym (path_of q p same)) here
      | false ↦ λ apart. others q
    ] refl)

-- Another entry of a path, and another value of a map at it.
pub each_staged : {A : Type 0} (es : List IndexEntry) (m : PathMap A) (p : List ℕ) (new : Option IndexEntry) (v : Option A) (P : List ℕ → Option IndexEntry → Option A → Type 0)
    → IfSome new (λ e. e.path ≡ p) → P p new v → ((q : List ℕ) → P q (entry_of_path q es) (paths.get m q))
    → (q : List ℕ) → P q (entry_of_path q (with_entry es p new)) (paths.get (with_value m p v) q)
each_staged es m p new v P named here others q =
    subst (λ o. P q o (paths.get (with_value m p v) q)) (sym (entry_of_path-with es p new named q))
    (subst (P q (cond (is_path q p) new (entry_of_path q es))) (sym (get-with m p v q))
    (elim (is_path q p) as (λ b. is_path q p ≡ b → P q (cond b new (entry_of_path q es)) (cond b v (paths.get m q))) [
      | true ↦ λ same. subst (λ r. P r new v) (sym (path_of q p same)) here
      | false ↦ λ apart. others q
    ] refl))

-- ---- a run

updated_path : (o : Option ApplyChange) (e : IndexEntry) → (updated_entry o e).path ≡ e.path
updated_path (Some (NewStat at stat)) e = refl
updated_path (Some (SetSizeToZero at)) e = refl
updated_path None e = refl

-- The entry that a verdict stores has the same path.
pub stored_path : (e : IndexEntry) (v : Result (Option RunStatus) Error) → (stored_verdict e v).path ≡ e.path
stored_path e (Ok (Some s)) = updated_path (change_of 0 s) e
stored_path e (Ok None) = refl
stored_path e (Err x) = refl

abbrev pub stored_in : StampedWorld → Comparer → IndexEntry → IndexEntry
stored_in w c e = stored_verdict e (verdict_in w c e)

pub stored_paths : (w : StampedWorld) (c : Comparer) → KeepsPaths (stored_in w c)
stored_paths w c e = stored_path e (verdict_in w c e)

-- The entry that a run stores, by the node at its path.
abbrev pub stored_by : StampedWorld → Comparer → IndexEntry → IndexEntry
stored_by w c e = stored_verdict e (verdict_by w c e (node_at w e.path))

-- The entries of a formed world after a run.
pub each_run : (w : StampedWorld) (c : Comparer) (P : List ℕ → Option IndexEntry → Type 0) → IsFormed w
    → ((q : List ℕ) → entry_of_path q w.entries ≡ None → P q None) → ((e : IndexEntry) → IsStagedEntry w e → P e.path (Some (stored_by w c e)))
    → (q : List ℕ) → P q (entry_of_path q (map (stored_in w c) w.entries))
each_run w c P formed none some q =
    subst (P q) (sym (entry_of_path-map (stored_in w c) (stored_paths w c) q w.entries)) (by_entry (entry_of_path q w.entries) refl)
  where
    by_entry : (o : Option IndexEntry) → entry_of_path q w.entries ≡ o → P q (option_map (stored_in w c) o)
    by_entry None there = none q there
    by_entry (Some e) there =
        let same : e.path ≡ q = subst (λ o. IfSome o (λ (x : IndexEntry). x.path ≡ q)) there (found_path q w.entries) in
        let good : is_bad_path e.path ≡ false = subst (λ o. IfSome o (λ (x : IndexEntry). is_bad_path x.path ≡ false)) there (found_holds (λ x. is_bad_path x.path ≡ false) q w.entries formed.normal) in
        let staged : IsStagedEntry w e = staged_entry w formed e (ap (λ r. entry_of_path r w.entries) same ∙ there) good in
        subst (λ r. P r (Some (stored_in w c e))) same
        (subst (λ v. P e.path (Some (stored_verdict e v))) (sym (verdict_is w c formed e staged)) (some e staged))
