-- The status table holds, its rows cover all entries, and no entry is in two.
use Rattle.std.proofs.Common.{◌≡◌, ◌⊎◌, ◌∙◌, inl, inr, refl, sym, ap, ℕ, Bool, true, false, ◌&&◌, List, Option, Some, None, is_some, Result, Ok, Err, IsTrue, IsFalse, if◌then◌else◌}
use Rattle.status_index.specs.declared.fault.Fault.{Fault}
use Rattle.status_index.specs.declared.stat.Metadata.{Metadata}
use Rattle.status_index.specs.declared.stat.NodeKind.{NodeKind}
use Rattle.status_index.specs.declared.stat.NodeKind.TheVariants as kinds
use Rattle.status_index.specs.declared.mode.Mode.{Mode}
use Rattle.status_index.specs.declared.mode.Change.{Change as ModeChange}
use Rattle.status_index.specs.declared.stat.Stat.{Stat}
use Rattle.status_index.specs.declared.entry.TheConstants.Flags.{INTENT_TO_ADD}
use Rattle.status_index.specs.Entries.{IndexEntry}
use Rattle.status_index.specs.Absence.{is_absence}
use Rattle.status_index.specs.Mode.{is_submodule, mode_change}
use Rattle.status_index.specs.NodeStat.{stat_of}
use Rattle.status_base.specs.LinkCheck.{LinkCheck, accepted}
use Rattle.status_compare.specs.declared.error.Error.{Error}
use Rattle.status_call.specs.declared.index_as_worktree.types.Change.TheVariants as changes
use Rattle.status_call.specs.declared.index_as_worktree.types.EntryStatus.{EntryStatus}
use Rattle.status_call.specs.Considered.{has_flag}
use Rattle.status_call.specs.Query.{Query}
use Rattle.status_call.specs.Status as status
use Rattle.status_call.specs.Status.{Case, Found, found_fault, found_kind, found_node, found_by, found, answer, changed, case_of, case_of_found, case_of_stat, case_of_change, case_of_content, status_of}
use Rattle.status_call.specs.StatusTable.{check_of, node_of, IsGone, by_link, on_the_way, at_the_path, by_directory, IsUnreachable, unnamed, oddly_named, barred, unreadable, IsInSubmodule, IsPresent, IsAdded, IsUnstamped, IsStamped, IsRetyped, SameType, trusted, racy, IsUnchanged, IsCompared, comparison, HasChange, SubmoduleRow, StatusTable}

abbrev found_if : Fault → Bool → Found
found_if f b = if b then status.nothing else status.refused f

found_absent : (f : Fault) → IsTrue (is_absence f) → found_fault f ≡ status.nothing
found_absent f h = ap (found_if f) h

found_other : (f : Fault) → IsFalse (is_absence f) → found_fault f ≡ status.refused f
found_other f h = ap (found_if f) h

found_no_directory : (n : Metadata) → (n.kind ≡ kinds.File) ⊎ ((n.kind ≡ kinds.Link) ⊎ (n.kind ≡ kinds.Other)) → found_kind n n.kind ≡ status.present n
found_no_directory n (inl h) = ap (found_kind n) h
found_no_directory n (inr (inl h)) = ap (found_kind n) h
found_no_directory n (inr (inr h)) = ap (found_kind n) h

module _ {T U : Type 0} (q : Query T U) (e : IndexEntry) where
  -- The case by the result of the check, by the node, and by whether a test holds.
  abbrev at_check : LinkCheck → Case T U
  at_check v = case_of_found q e (found_by v (node_of q e))

  abbrev at_node : Result Metadata Fault → Case T U
  at_node v = case_of_found q e (found_node v)

  abbrev at_directory : Bool → Case T U
  at_directory b = if b then status.in_submodule (q.submodule e) else status.gone

  abbrev at_intent : Metadata → Bool → Case T U
  at_intent n b = if b then status.added else case_of_stat q e n (stat_of n)

  case_accepted : check_of q e ≡ accepted → case_of q e ≡ at_node (node_of q e)
  case_accepted h = ap at_check h

  case_at : (v : Result Metadata Fault) → check_of q e ≡ accepted → node_of q e ≡ v → case_of q e ≡ at_node v
  case_at v h reported = case_accepted h ∙ ap at_node reported

  case_directory : (n : Metadata) → check_of q e ≡ accepted → node_of q e ≡ Ok n → n.kind ≡ kinds.Directory → (b : Bool) → is_submodule e.mode ≡ b → case_of q e ≡ at_directory b
  case_directory n h reported kind b mode = case_at (Ok n) h reported ∙ (ap (λ (k : NodeKind). case_of_found q e (found_kind n k)) kind ∙ ap at_directory mode)

  pub case_gone : IsGone q e → case_of q e ≡ status.gone
  case_gone (by_link p h) = ap at_check h
  case_gone (on_the_way f h absent) = ap at_check h ∙ ap (case_of_found q e) (found_absent f absent)
  case_gone (at_the_path f h reported absent) = case_at (Err f) h reported ∙ ap (case_of_found q e) (found_absent f absent)
  case_gone (by_directory n h reported kind mode) = case_directory n h reported kind false mode

  pub case_refused : (f : Fault) → IsUnreachable q e f → case_of q e ≡ status.fails f
  case_refused f (unnamed h name) = ap at_check h ∙ ap (λ (g : Fault). status.fails g) (sym name)
  case_refused f (oddly_named component h name) = ap at_check h ∙ ap (λ (g : Fault). status.fails g) (sym name)
  case_refused f (barred h other) = ap at_check h ∙ ap (case_of_found q e) (found_other f other)
  case_refused f (unreadable h reported other) = case_at (Err f) h reported ∙ ap (case_of_found q e) (found_other f other)

  pub case_in_submodule : IsInSubmodule q e → case_of q e ≡ status.in_submodule (q.submodule e)
  case_in_submodule r = case_directory r.node r.clear r.answered r.directory true r.submodule

  case_present : (n : Metadata) → IsPresent q e n → (b : Bool) → has_flag e INTENT_TO_ADD ≡ b → case_of q e ≡ at_intent n b
  case_present n p b flag = case_at (Ok n) p.clear p.answered ∙ (ap (case_of_found q e) (found_no_directory n p.no_directory) ∙ ap (at_intent n) flag)

  pub case_added : IsAdded q e → case_of q e ≡ status.added
  case_added r = case_present r.node r.present true r.intended

  pub case_unstamped : IsUnstamped q e → case_of q e ≡ status.unstamped
  case_unstamped r = case_present r.node r.present false r.not_intended ∙ ap (case_of_stat q e r.node) r.unknown

  abbrev pub change_of : Metadata → Option ModeChange
  change_of n = mode_change q.symlink q.executable_bit e.mode n

  case_stamped : (n : Metadata) (s : Stat) → IsStamped q e n s → case_of q e ≡ case_of_change q e n s (change_of n)
  case_stamped n s p = case_present n p.present false p.not_intended ∙ ap (case_of_stat q e n) p.known

  pub case_retyped : (mode : Mode) → IsRetyped q e mode → case_of q e ≡ status.retyped mode
  case_retyped mode r = case_stamped r.node r.stat r.stamped ∙ ap (case_of_change q e r.node r.stat) r.other_type

  case_same : (n : Metadata) (s : Stat) (x : Bool) → IsStamped q e n s → SameType q e n x → case_of q e ≡ case_of_content q e n s x (trusted q e s) (racy q e s)
  case_same n s true p same = case_stamped n s p ∙ ap (case_of_change q e n s) same
  case_same n s false p same = case_stamped n s p ∙ ap (case_of_change q e n s) same

  pub case_unchanged : IsUnchanged q e → case_of q e ≡ status.unchanged
  case_unchanged r =
      case_same r.node r.stat false r.stamped r.same
      ∙ (ap (λ (b : Bool). case_of_content q e r.node r.stat false b (racy q e r.stat)) r.trusted_stat
      ∙ ap (λ (b : Bool). case_of_content q e r.node r.stat false true b) r.not_racy)

  content_compared : (n : Metadata) (s : Stat) (x t r : Bool) → IsTrue x ⊎ (IsFalse t ⊎ IsTrue r) → case_of_content q e n s x t r ≡ status.compared x t r s (comparison q e n)
  content_compared n s true t r h = refl
  content_compared n s false false r h = refl
  content_compared n s false true true h = refl
  content_compared n s false true false (inl h) = cc
  content_compared n s false true false (inr (inl h)) = cc
  content_compared n s false true false (inr (inr h)) = cc

  pub case_compared : (n : Metadata) (s : Stat) (x : Bool) → IsCompared q e n s x → (a : Result (Option T) Error) → comparison q e n ≡ a
      → case_of q e ≡ status.compared x (trusted q e s) (racy q e s) s a
  case_compared n s x p a h =
      case_same n s x p.stamped p.same_type
      ∙ (content_compared n s x (trusted q e s) (racy q e s) p.unsettled
      ∙ ap (λ (b : Result (Option T) Error). status.compared x (trusted q e s) (racy q e s) s b) h)

  -- The result of a case.
  abbrev answered : Case T U → Result (Option (EntryStatus T U)) Error
  answered c = answer e.path c

  answer_modified : (s : Stat) (x t r : Bool) (c : Option T) → HasChange q e x c → answered (status.compared x t r s (Ok c)) ≡ changed (changes.Modification x c (is_some c && t && r))
  answer_modified s true t r (Some c) h = refl
  answer_modified s false t r (Some c) h = refl
  answer_modified s true t r None h = refl
  answer_modified s false t r None (inl h) = cc
  answer_modified s false t r None (inr h) = cc

  submodule_row : IsInSubmodule q e → SubmoduleRow q e
  submodule_row r = record {
    same = λ h. ap answered (case_in_submodule r) ∙ ap (λ (a : Result (Option U) (List ℕ)). answered (status.in_submodule a)) h;
    other = λ u h. ap answered (case_in_submodule r) ∙ ap (λ (a : Result (Option U) (List ℕ)). answered (status.in_submodule a)) h;
    fault = λ text h. ap answered (case_in_submodule r) ∙ ap (λ (a : Result (Option U) (List ℕ)). answered (status.in_submodule a)) h;
  }

  pub status_table : StatusTable q e
  status_table = record {
    gone_row = λ r. ap answered (case_gone r);
    refused_row = λ f r. ap answered (case_refused f r);
    submodule_row = submodule_row;
    added_row = λ r. ap answered (case_added r);
    unstamped_row = λ r. ap answered (case_unstamped r);
    retyped_row = λ mode r. ap answered (case_retyped mode r);
    unchanged_row = λ r. ap answered (case_unchanged r);
    failed_row = λ n s x err p h. ap answered (case_compared n s x p (Err err) h);
    modified_row = λ n s x c p h some. ap answered (case_compared n s x p (Ok c) h) ∙ answer_modified s x (trusted q e s) (racy q e s) c some;
    update_row = λ n s p h. ap answered (case_compared n s false p (Ok None) h);
  }
