-- The verdicts of the entries of a formed world in a run.
use Rattle.std.proofs.Common.{◌≡◌, ◌⊎◌, inl, inr, refl, ap, subst, ◌∙◌, ℕ, ◌==◌, Bool, true, false, not, ◌&&◌, ◌||◌, List, [], ◌∷◌, Option, Some, None, is_some, Result, Ok, Err, IsTrue, IfSome, All, slice_get, filter_map, if◌then◌else◌}
use Rattle.std.specs.Prelude.{nat_lt}
use Rattle.std.specs.List.{list_any, cons_option}
use Rattle.std.specs.FinMap as paths
use Rattle.std.proofs.lemmas.Bool.{cond-true, cond-false, or_from}
use Rattle.std.proofs.lemmas.List.Elements.{All-head, All-tail, All-weaker, All-cons, All-nil}
use Rattle.std.proofs.lemmas.List.Folds.{list_any_none}
use Rattle.status_index.specs.declared.entry.Flags.{Flags}
use Rattle.status_index.specs.declared.entry.TheConstants.Flags.{ASSUME_VALID, FSMONITOR_VALID, SKIP_WORKTREE, UPTODATE, INTENT_TO_ADD}
use Rattle.status_index.specs.declared.id.ObjectId.{ObjectId}
use Rattle.status_index.specs.declared.fault.Fault.{Fault}
use Rattle.status_index.specs.declared.stat.Metadata.{Metadata}
use Rattle.status_index.specs.declared.stat.NodeKind.{NodeKind}
use Rattle.status_index.specs.declared.stat.NodeKind.TheVariants.{File, Link, Directory, Other}
use Rattle.status_index.specs.Absence.{is_absence}
use Rattle.status_index.specs.Entries.{IndexEntry, stage_of}
use Rattle.status_index.specs.FlagBits.{has_bits, bits_of_stage, stage_of_bits}
use Rattle.status_index.specs.Mode.{is_submodule, new_mode}
use Rattle.status_index.specs.NodeStat.{stat_of}
use Rattle.status_base.specs.LinkCheck.{LinkCheck, accepted, empty_path, not_normal, through_link, faulty, link_check}
use Rattle.status_base.specs.MemoryTree.{Placed, lstat_in, has_below, has_file_above, absence, bare_directory}
use Rattle.status_base.specs.Nodes.{is_bad_path}
use Rattle.status_compare.specs.declared.error.Error.{Error}
use Rattle.status_call.specs.declared.index_as_worktree.types.Change.TheVariants as changes
use Rattle.status_call.specs.Considered.{has_flag, is_flagged, is_skipped, is_over, takes_over, same_path}
use Rattle.status_call.specs.Query.{Query}
use Rattle.status_call.specs.Records.{first_fault, fault_by}
use Rattle.status_call.specs.Status as status
use Rattle.status_call.specs.Status.{Found, nothing, directory, present, found_by, found_kind, found, answer, changed, case_of_found, case_of_stat, case_of, status_of}
use Rattle.status_compare.specs.declared.compare.Comparer.{Comparer}
use Rattle.status_world.specs.PlainWorld.{Plain}
use Rattle.status_world.specs.Reports.{RunStatus}
use Rattle.status_world.specs.Sound.{IsFormed, IsFormedAt, IsFormedEntry, IsFormedNode}
use Rattle.status_world.specs.StampedWorld.{StampedWorld, node_at, entry_of_path, query_of, verdict_in, is_stored_kind}
use Rattle.status_world.proofs.EntryLists.{each_found}
use Rattle.status_world.proofs.Leaves.{present_check}
use Rattle.status_world.proofs.TreeLaws.{IsMild, mild_check, lstat_node, lstat_none, absence_by}

-- ---- the entries of a formed world

pub record IsStagedEntry (w : StampedWorld) (e : IndexEntry) : Type 0 where
  pub was : Plain
  pub staged : paths.get w.staged e.path ≡ Some was
  pub here : entry_of_path e.path w.entries ≡ Some e
  pub formed : IsFormedEntry w e was
  pub good : is_bad_path e.path ≡ false

entry_of_at : (w : StampedWorld) (n : Option Placed) (e : IndexEntry) (s : Option Plain) → IsFormedAt w n (Some e) s → (x : Plain) × (s ≡ Some x) × IsFormedEntry w e x
entry_of_at w n e None h = absurd h
entry_of_at w None e (Some s) h = (s, refl, h)
entry_of_at w (Some n) e (Some s) h = (s, refl, h.1)

pub node_of_at : (w : StampedWorld) (n : Option Placed) (e : Option IndexEntry) (s : Option Plain) → IsFormedAt w n e s → IfSome n (IsFormedNode w.clock)
node_of_at w n None None h = h
node_of_at w n (Some e) None h = absurd h
node_of_at w n None (Some s) h = absurd h
node_of_at w None (Some e) (Some s) h = tt
node_of_at w (Some n) (Some e) (Some s) h = h.0

pub staged_entry : (w : StampedWorld) → IsFormed w → (e : IndexEntry) → entry_of_path e.path w.entries ≡ Some e → is_bad_path e.path ≡ false → IsStagedEntry w e
staged_entry w formed e here good =
    let at : IsFormedAt w (node_at w e.path) (Some e) (paths.get w.staged e.path) = subst (λ o. IsFormedAt w (node_at w e.path) o (paths.get w.staged e.path)) here (formed.at e.path) in
    let parts = entry_of_at w (node_at w e.path) e (paths.get w.staged e.path) at in
    record { was = parts.0; staged = parts.1; here = here; formed = parts.2; good = good }

pub each_entry : (w : StampedWorld) → IsFormed w → All (IsStagedEntry w) w.entries
each_entry w formed k d l = staged_entry w formed _ (each_found w.entries formed.ascending k d l) (formed.normal k d l)

-- The node at a path is formed: a file or link.
pub formed_node : (w : StampedWorld) → IsFormed w → (p : List ℕ) (n : Placed) → node_at w p ≡ Some n → IsFormedNode w.clock n
formed_node w formed p n there =
    subst (λ o. IfSome o (IsFormedNode w.clock)) there (node_of_at w (node_at w p) (entry_of_path p w.entries) (paths.get w.staged p) (formed.at p))

-- ---- no entry has a flag or another stage

abbrev has_any : ℕ → Bool
has_any bits = list_any (λ (f : Flags). has_bits bits f.0) (UPTODATE ∷ SKIP_WORKTREE ∷ ASSUME_VALID ∷ FSMONITOR_VALID ∷ [])

not_flagged : (e : IndexEntry) → e.flags.0 ≡ bits_of_stage 0 → is_flagged e ≡ false
not_flagged e h = ap has_any h

not_intended : (e : IndexEntry) → e.flags.0 ≡ bits_of_stage 0 → has_flag e INTENT_TO_ADD ≡ false
not_intended e h = ap (λ bits. has_bits bits INTENT_TO_ADD.0) h

stage_zero : (e : IndexEntry) → e.flags.0 ≡ bits_of_stage 0 → stage_of e ≡ 0
stage_zero e h = ap stage_of_bits h

third_false : (a b c d : Bool) → c ≡ false → (a && b && c && d) ≡ false
third_false true true c d h = ap (λ x. x && d) h
third_false true false c d h = refl
third_false false b c d h = refl

module _ (w : StampedWorld) (c : Comparer) where
  abbrev q : Query (Option ObjectId) (Unit {0})
  q = query_of w c

  not_over : (e : IndexEntry) → All (IsStagedEntry w) w.entries → is_over q w.entries e ≡ false
  not_over e all =
      list_any_none (λ d. takes_over q d e) w.entries
      (All-weaker (IsStagedEntry w) (λ d. takes_over q d e ≡ false) (λ d h.
      third_false (not (is_skipped q d)) (same_path d e) (nat_lt 0 (stage_of d)) (nat_lt (stage_of d) (stage_of e)) (ap (nat_lt 0) (stage_zero d h.formed.flags)))
      w.entries all)

  -- The verdict is the status.
  status_verdict : (e : IndexEntry) → All (IsStagedEntry w) w.entries → e.flags.0 ≡ bits_of_stage 0 → verdict_in w c e ≡ status_of q e
  status_verdict e all plain =
      cond-false (is_skipped q e || is_over q w.entries e) _ _ (or_from (is_skipped q e) (is_over q w.entries e) (or_from (is_flagged e) false (not_flagged e plain) refl) (not_over e all))
      ∙ cond-true (stage_of e == 0) _ _ (ap (λ n. n == 0) (stage_zero e plain))

  -- The verdict, by the node at the path.
  abbrev pub verdict_by : IndexEntry → Option Placed → Result (Option RunStatus) Error
  verdict_by e (Some n) = answer e.path (case_of_stat q e n.metadata (stat_of n.metadata))
  verdict_by e None = changed changes.Removed

  found_present : (n : Metadata) (k : NodeKind) → IsTrue (is_stored_kind k) → found_kind n k ≡ present n
  found_present n File h = refl
  found_present n Link h = refl
  found_present n Directory h = cc
  found_present n Other h = cc

  status_present : IsFormed w → (e : IndexEntry) (n : Placed) → IsStagedEntry w e → node_at w e.path ≡ Some n → status_of q e ≡ verdict_by e (Some n)
  status_present formed e n staged there =
      let check : link_check (lstat_in w.tree) e.path ≡ accepted = present_check w.tree e.path formed.unplanted formed.leaves staged.good (ap is_some there) in
      let looked = lstat_node w.tree e.path n formed.unplanted there in
      let here : found q e ≡ present n.metadata =
      ap (λ k. found_by k (lstat_in w.tree e.path)) check ∙ ap (found_by accepted) looked ∙ found_present n.metadata n.metadata.kind (formed_node w formed e.path n there).kind in
      ap (λ f. answer e.path (case_of_found q e f)) here
      ∙ ap (λ b. answer e.path (if b then status.added else case_of_stat q e n.metadata (stat_of n.metadata))) (not_intended e staged.formed.flags)

  -- A fault that is an absence has the status of nothing found.
  found_fault : (f : Fault) → is_absence f ≡ true → status.found_fault f ≡ nothing
  found_fault f h = ap (λ b. if b then nothing else status.refused f) h

  found_lacking : (b : Bool) (f : Fault) → is_absence f ≡ true → (status.found_node (if b then Ok bare_directory else Err f) ≡ nothing) ⊎ (status.found_node (if b then Ok bare_directory else Err f) ≡ directory)
  found_lacking true f h = inr refl
  found_lacking false f h = inl (found_fault f h)

  found_absent : (k : LinkCheck) (b : Bool) (f : Fault) → IsMild k → is_absence f ≡ true
      → (found_by k (if b then Ok bare_directory else Err f) ≡ nothing) ⊎ (found_by k (if b then Ok bare_directory else Err f) ≡ directory)
  found_absent accepted b f mild h = found_lacking b f h
  found_absent empty_path b f mild h = absurd mild
  found_absent (not_normal component) b f mild h = absurd mild
  found_absent (through_link d) b f mild h = inl refl
  found_absent (faulty g) b f mild h = inl (found_fault g mild)

  -- No staged node is a submodule.
  no_submodule : (x : Bool) (k : NodeKind) (executable : Bool) → IsTrue (is_stored_kind k) → is_submodule (new_mode x k executable) ≡ false
  no_submodule x File true h = by_bit x
    where
      by_bit : (b : Bool) → is_submodule (new_mode b File true) ≡ false
      by_bit true = refl
      by_bit false = refl
  no_submodule x File false h = refl
  no_submodule x Link executable h = refl
  no_submodule x Directory executable h = cc
  no_submodule x Other executable h = refl

  status_removed : IsFormed w → (e : IndexEntry) → IsStagedEntry w e → node_at w e.path ≡ None → status_of q e ≡ verdict_by e None
  status_removed formed e staged there =
      let looked = lstat_none w.tree e.path formed.unplanted there in
      let plain : is_submodule e.mode ≡ false = ap is_submodule staged.formed.mode ∙ no_submodule w.executable_bit staged.was.kind staged.was.executable staged.formed.kind in
      let seen = found_absent (link_check (lstat_in w.tree) e.path) (has_below w.tree e.path) (absence w.tree e.path) (mild_check w.tree e.path formed.unplanted staged.good) (absence_by (has_file_above w.tree e.path)) in
      let same : found q e ≡ found_by (link_check (lstat_in w.tree) e.path) (if has_below w.tree e.path then Ok bare_directory else Err (absence w.tree e.path)) = ap (found_by (link_check (lstat_in w.tree) e.path)) looked in
      elim seen [
        | inl h ↦ ap (λ f. answer e.path (case_of_found q e f)) (same ∙ h)
        | inr h ↦ ap (λ f. answer e.path (case_of_found q e f)) (same ∙ h)
            ∙ ap (λ b. answer e.path (if b then status.in_submodule (q.submodule e) else status.gone)) plain
      ]

  -- The verdict of an entry is the one by the node at its path.
  pub verdict_is : IsFormed w → (e : IndexEntry) → IsStagedEntry w e → verdict_in w c e ≡ verdict_by e (node_at w e.path)
  verdict_is formed e staged =
      status_verdict e (each_entry w formed) staged.formed.flags
      ∙ elim (node_at w e.path) as (λ o. node_at w e.path ≡ o → status_of q e ≡ verdict_by e o) [
        | Some n ↦ λ there. status_present formed e n staged there
        | None ↦ λ there. status_removed formed e staged there
      ] refl

-- ---- the first fault

none_of_any : {X Y : Type 0} (h : X → Option Y) (xs : List X) → All (λ x. h x ≡ None) xs → filter_map h xs ≡ []
none_of_any h [] all = refl
none_of_any h (x ∷ xs) all =
    ap (λ o. cons_option o (filter_map h xs)) (All-head (λ x. h x ≡ None) x xs all) ∙ none_of_any h xs (All-tail (λ x. h x ≡ None) x xs all)

all_of_none : {X Y : Type 0} (h : X → Option Y) (xs : List X) → slice_get (filter_map h xs) 0 ≡ None → All (λ x. h x ≡ None) xs
all_of_none h [] none = All-nil (λ x. h x ≡ None)
all_of_none {X} {Y} h (x ∷ xs) none =
    elim (h x) as (λ o. h x ≡ o → slice_get (cons_option o (filter_map h xs)) 0 ≡ None → All (λ y. h y ≡ None) (x ∷ xs)) [
      | None ↦ λ here rest. All-cons (λ y. h y ≡ None) x xs here (all_of_none h xs rest)
      | Some y ↦ λ here rest. cc
    ] refl none

-- If no verdict is a fault, there is no first fault, and conversely.
pub no_first_fault : (w : StampedWorld) (c : Comparer) → All (λ e. fault_by (verdict_in w c e) ≡ None) w.entries → first_fault (query_of w c) w.entries ≡ None
no_first_fault w c all = ap (λ (es : List Error). slice_get es 0) (none_of_any (λ e. fault_by (verdict_in w c e)) w.entries all)

pub none_faulty : (w : StampedWorld) (c : Comparer) → first_fault (query_of w c) w.entries ≡ None → All (λ e. fault_by (verdict_in w c e) ≡ None) w.entries
none_faulty w c none = all_of_none (λ e. fault_by (verdict_in w c e)) w.entries none
