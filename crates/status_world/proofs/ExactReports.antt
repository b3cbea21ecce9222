-- A run over a formed world has no fault, and its report is exact if the index can be trusted.
use Rattle.std.proofs.Common.{◌≡◌, ◌↔◌, refl, sym, ap, subst, ◌∙◌, ℕ, false, List, Option, Some, None, option_map, IsSomeAnd, IfSome}
use Rattle.std.specs.FinMap as paths
use Rattle.std.proofs.lemmas.List.Elements.{All-weaker}
use Rattle.status_index.specs.Entries.{IndexEntry}
use Rattle.status_base.specs.MemoryTree.{Placed}
use Rattle.status_base.specs.Nodes.{is_bad_path}
use Rattle.status_call.specs.Records.{first_fault, fault_by}
use Rattle.status_compare.specs.declared.compare.Comparer.{Comparer}
use Rattle.status_world.specs.History.{IsIn, IsExact}
use Rattle.status_world.specs.PlainWorld.{Plain, PlainWorld, Differs, DiffersFrom}
use Rattle.status_world.specs.Reports.{changed_paths}
use Rattle.status_world.specs.Sound.{IsFormed, IsFormedAt, IsSound, IsSoundAt}
use Rattle.status_world.specs.StampedWorld.{StampedWorld, node_at, entry_of_path, plain_of, query_of, verdict_in, report_of}
use Rattle.status_world.proofs.ChangedPaths.{changed_at}
use Rattle.status_world.proofs.EntryLists.{found_path, found_holds}
use Rattle.status_world.proofs.EntryVerdicts.{IsStagedEntry, staged_entry, each_entry, verdict_by, verdict_is, no_first_fault}
use Rattle.status_world.proofs.Pairs.{HasOwnIds, IsChangeVerdict, pair_answered, pair_change}
use Rattle.status_world.proofs.Shown.{Shows}
use Rattle.status_world.proofs.Verdicts.{IsNodeOfEntry}

-- A staged entry meets the node at its path.
pub met_at : (w : StampedWorld) → IsFormed w → (e : IndexEntry) (n : Placed) (staged : IsStagedEntry w e) → node_at w e.path ≡ Some n → IsNodeOfEntry w e n staged.was
met_at w f e n staged there =
    let at : IsFormedAt w (Some n) (Some e) (Some staged.was) =
    subst (λ o. IsFormedAt w o (Some e) (Some staged.was)) there
    (subst (λ o. IsFormedAt w (node_at w e.path) o (Some staged.was)) staged.here
    (subst (λ o. IsFormedAt w (node_at w e.path) (entry_of_path e.path w.entries) o) staged.staged (f.at e.path))) in
    record { node = at.0; entry = at.1; there = there; unplanted = f.unplanted }

-- ---- no fault

module _ (w : StampedWorld) (c : Comparer) (f : IsFormed w) where
  faultless_by : (e : IndexEntry) (staged : IsStagedEntry w e) (n : Option Placed) → node_at w e.path ≡ n → fault_by (verdict_by w c e n) ≡ None
  faultless_by e staged None there = refl
  faultless_by e staged (Some n) there =
      let verdict = pair_answered w c e n staged.was (met_at w f e n staged there) in
      ap fault_by verdict.1

  faultless : (e : IndexEntry) → IsStagedEntry w e → fault_by (verdict_in w c e) ≡ None
  faultless e staged = ap fault_by (verdict_is w c f e staged) ∙ faultless_by e staged (node_at w e.path) refl

  -- A run over a formed world has no fault.
  pub run_faultless : first_fault (query_of w c) w.entries ≡ None
  run_faultless = no_first_fault w c (All-weaker (IsStagedEntry w) (λ e. fault_by (verdict_in w c e) ≡ None) faultless w.entries (each_entry w f))

-- ---- exact

iff_at : {A B C : Type 0} → A ↔ B → B ↔ C → A ↔ C
iff_at f g = (λ a. g.0 (f.0 a), λ c. f.1 (g.1 c))

-- For each staged path with a node: if the staged bytes have the id of the node's bytes, or of no bytes, they are equal to these.
abbrev pub AllHaveOwnIds : StampedWorld → Type 0
AllHaveOwnIds w = (q : List ℕ) (n : Placed) (s : Plain) → node_at w q ≡ Some n → paths.get w.staged q ≡ Some s → HasOwnIds w n s

-- If a path has no entry, nothing was staged there.
none_staged : (w : StampedWorld) (n : Option Placed) (s : Option Plain) → IsFormedAt w n None s → s ≡ None
none_staged w n None h = refl
none_staged w n (Some s) h = absurd h

module _ (w : StampedWorld) (c : Comparer) (f : IsFormed w) (sound : IsSound w) (own : AllHaveOwnIds w) where
  -- An entry's verdict is a change exactly if its path differs.
  abbrev IsExactFor : IndexEntry → Type 0
  IsExactFor e = IsChangeVerdict (verdict_in w c e) ↔ DiffersFrom w.executable_bit (option_map plain_of (node_at w e.path)) (paths.get w.staged e.path)

  exact_by : (e : IndexEntry) (staged : IsStagedEntry w e) (n : Option Placed) → node_at w e.path ≡ n
      → IsChangeVerdict (verdict_by w c e n) ↔ Differs w.executable_bit (option_map plain_of n) staged.was
  exact_by e staged None there = (λ _. tt, λ _. refl)
  exact_by e staged (Some n) there =
      let at : IsSoundAt w (Some n) (Some e) (Some staged.was) =
      subst (λ o. IsSoundAt w o (Some e) (Some staged.was)) there
      (subst (λ o. IsSoundAt w (node_at w e.path) o (Some staged.was)) staged.here
      (subst (λ o. IsSoundAt w (node_at w e.path) (entry_of_path e.path w.entries) o) staged.staged (sound e.path))) in
      pair_change w c e n staged.was (met_at w f e n staged there) (own e.path n staged.was there staged.staged) at.0 at.1

  entry_exact : (e : IndexEntry) → IsStagedEntry w e → IsExactFor e
  entry_exact e staged =
      subst (λ v. IsChangeVerdict v ↔ DiffersFrom w.executable_bit (option_map plain_of (node_at w e.path)) (paths.get w.staged e.path)) (sym (verdict_is w c f e staged))
      (subst (λ o. IsChangeVerdict (verdict_by w c e (node_at w e.path)) ↔ DiffersFrom w.executable_bit (option_map plain_of (node_at w e.path)) o) (sym staged.staged)
      (exact_by e staged (node_at w e.path) refl))

  abbrev IsExactAt : List ℕ → Option IndexEntry → Type 0
  IsExactAt q o = IsSomeAnd o (λ e. IsChangeVerdict (verdict_in w c e)) ↔ DiffersFrom w.executable_bit (option_map plain_of (node_at w q)) (paths.get w.staged q)

  by_entry : (q : List ℕ) (o : Option IndexEntry) → entry_of_path q w.entries ≡ o → IsExactAt q o
  by_entry q None there =
      let none : paths.get w.staged q ≡ None = none_staged w (node_at w q) (paths.get w.staged q) (subst (λ o. IsFormedAt w (node_at w q) o (paths.get w.staged q)) there (f.at q)) in
      subst (λ s. ⊥ ↔ DiffersFrom w.executable_bit (option_map plain_of (node_at w q)) s) (sym none) (λ h. h, λ h. h)
  by_entry q (Some e) there =
      let same : e.path ≡ q = subst (λ o. IfSome o (λ (x : IndexEntry). x.path ≡ q)) there (found_path q w.entries) in
      let good : is_bad_path e.path ≡ false = subst (λ o. IfSome o (λ (x : IndexEntry). is_bad_path x.path ≡ false)) there (found_holds (λ x. is_bad_path x.path ≡ false) q w.entries f.normal) in
      let staged : IsStagedEntry w e = staged_entry w f e (ap (λ r. entry_of_path r w.entries) same ∙ there) good in
      subst (λ r. IsExactAt r (Some e)) same (entry_exact e staged)

  -- The report has a change of exactly the staged paths that differ in the plain world of this world.
  pub report_shown : (p : PlainWorld) → Shows w p → IsExact w.executable_bit (report_of w c) p
  report_shown p shows q =
      let found = iff_at (changed_at w c f.ascending q) (by_entry q (entry_of_path q w.entries) refl) in
      subst (λ o. IsIn q (changed_paths (report_of w c)) ↔ DiffersFrom w.executable_bit o (paths.get p.staged q)) (sym (shows.files q))
      (subst (λ m. IsIn q (changed_paths (report_of w c)) ↔ DiffersFrom w.executable_bit (option_map plain_of (node_at w q)) (paths.get m q)) (sym shows.staged) found)
