-- The rows of the status table cover all entries, and no entry is in two. Modifications and reads follow from that.
use Rattle.std.proofs.Common.{◌≡◌, ◌∙◌, inl, inr, refl, sym, ap, Bool, true, false, Option, Some, None, Result, Ok, Err}
use Rattle.status_index.specs.declared.fault.Fault.{Fault}
use Rattle.status_index.specs.declared.fault.Fault.TheVariants as faults
use Rattle.status_index.specs.declared.stat.Metadata.{Metadata}
use Rattle.status_index.specs.declared.stat.NodeKind.{NodeKind}
use Rattle.status_index.specs.declared.stat.NodeKind.TheVariants as kinds
use Rattle.status_index.specs.declared.mode.Change.{Change as ModeChange}
use Rattle.status_index.specs.declared.mode.Change.TheVariants.{TypeChange, ExecutableBit}
use Rattle.status_index.specs.declared.stat.Stat.{Stat}
use Rattle.status_index.specs.declared.entry.TheConstants.Flags.{INTENT_TO_ADD}
use Rattle.status_index.specs.Entries.{IndexEntry}
use Rattle.status_index.specs.Absence.{is_absence}
use Rattle.status_index.specs.Mode.{is_submodule}
use Rattle.status_index.specs.NodeStat.{stat_of}
use Rattle.status_base.specs.LinkCheck.{LinkCheck, accepted, empty_path, not_normal, through_link, faulty}
use Rattle.status_compare.specs.declared.error.Error.{Error}
use Rattle.status_call.specs.Considered.{has_flag}
use Rattle.status_call.specs.Query.{Query}
use Rattle.status_call.specs.Status as status
use Rattle.status_call.specs.Status.{Case, changed, case_of, status_of}
use Rattle.status_call.specs.StatusTable.{Row, gone, refused, in_submodule, added, unstamped, retyped, unchanged, failed, modified, to_update, check_of, node_of, by_link, on_the_way, at_the_path, by_directory, unnamed, oddly_named, barred, unreadable, IsPresent, IsStamped, SameType, trusted, racy, IsCompared, comparison, HasChange, IsTableRow}
use Rattle.status_call.proofs.LawTable.{change_of, case_gone, case_refused, case_in_submodule, case_added, case_unstamped, case_retyped, case_unchanged, case_compared}

-- The row of a case.
abbrev row_of_case : {T U : Type 0} → Case T U → Row
row_of_case status.gone = gone
row_of_case (status.fails f) = refused
row_of_case (status.in_submodule a) = in_submodule
row_of_case status.added = added
row_of_case status.unstamped = unstamped
row_of_case (status.retyped mode) = retyped
row_of_case status.unchanged = unchanged
row_of_case (status.compared x t r s (Err err)) = failed
row_of_case (status.compared x t r s (Ok (Some c))) = modified
row_of_case (status.compared true t r s (Ok None)) = modified
row_of_case (status.compared false t r s (Ok None)) = to_update

module _ {T U : Type 0} (q : Query T U) (e : IndexEntry) where
  abbrev Covered : Type 0
  Covered = (r : Row) × IsTableRow q e r

  cover_compared : (n : Metadata) (s : Stat) (x : Bool) → IsCompared q e n s x → (a : Result (Option T) Error) → comparison q e n ≡ a → Covered
  cover_compared n s x p (Err err) h = (failed, (n, (s, (x, (err, (p, h))))))
  cover_compared n s x p (Ok (Some c)) h = (modified, (n, (s, (x, (Some c, (p, h, inr refl))))))
  cover_compared n s true p (Ok None) h = (modified, (n, (s, (true, (None, (p, h, inl refl))))))
  cover_compared n s false p (Ok None) h = (to_update, (n, (s, (p, h))))

  cover_content : (n : Metadata) (s : Stat) (x t r : Bool) → IsStamped q e n s → SameType q e n x → trusted q e s ≡ t → racy q e s ≡ r → Covered
  cover_content n s true t r p same ht hr = cover_compared n s true (record { stamped = p; same_type = same; unsettled = inl refl }) (comparison q e n) refl
  cover_content n s false false r p same ht hr = cover_compared n s false (record { stamped = p; same_type = same; unsettled = inr (inl ht) }) (comparison q e n) refl
  cover_content n s false true true p same ht hr = cover_compared n s false (record { stamped = p; same_type = same; unsettled = inr (inr hr) }) (comparison q e n) refl
  cover_content n s false true false p same ht hr = (unchanged, record { node = n; stat = s; stamped = p; same = same; trusted_stat = ht; not_racy = hr })

  cover_change : (n : Metadata) (s : Stat) → IsStamped q e n s → (m : Option ModeChange) → change_of q e n ≡ m → Covered
  cover_change n s p (Some (TypeChange mode)) h = (retyped, (mode, record { node = n; stat = s; stamped = p; other_type = h }))
  cover_change n s p (Some ExecutableBit) h = cover_content n s true (trusted q e s) (racy q e s) p h refl refl
  cover_change n s p None h = cover_content n s false (trusted q e s) (racy q e s) p h refl refl

  cover_stat : (n : Metadata) → IsPresent q e n → has_flag e INTENT_TO_ADD ≡ false → (s : Option Stat) → stat_of n ≡ s → Covered
  cover_stat n p flag None h = (unstamped, record { node = n; present = p; not_intended = flag; unknown = h })
  cover_stat n p flag (Some s) h = cover_change n s (record { present = p; not_intended = flag; known = h }) (change_of q e n) refl

  cover_present : (n : Metadata) → IsPresent q e n → (b : Bool) → has_flag e INTENT_TO_ADD ≡ b → Covered
  cover_present n p true flag = (added, record { node = n; present = p; intended = flag })
  cover_present n p false flag = cover_stat n p flag (stat_of n) refl

  cover_directory : (n : Metadata) → check_of q e ≡ accepted → node_of q e ≡ Ok n → n.kind ≡ kinds.Directory → (b : Bool) → is_submodule e.mode ≡ b → Covered
  cover_directory n clear reported kind true mode = (in_submodule, record { node = n; clear = clear; answered = reported; directory = kind; submodule = mode })
  cover_directory n clear reported kind false mode = (gone, by_directory n clear reported kind mode)

  cover_kind : (n : Metadata) → check_of q e ≡ accepted → node_of q e ≡ Ok n → (k : NodeKind) → n.kind ≡ k → Covered
  cover_kind n clear reported kinds.Directory h = cover_directory n clear reported h (is_submodule e.mode) refl
  cover_kind n clear reported kinds.File h = cover_present n (record { clear = clear; answered = reported; no_directory = inl h }) (has_flag e INTENT_TO_ADD) refl
  cover_kind n clear reported kinds.Link h = cover_present n (record { clear = clear; answered = reported; no_directory = inr (inl h) }) (has_flag e INTENT_TO_ADD) refl
  cover_kind n clear reported kinds.Other h = cover_present n (record { clear = clear; answered = reported; no_directory = inr (inr h) }) (has_flag e INTENT_TO_ADD) refl

  cover_fault : (f : Fault) → check_of q e ≡ accepted → node_of q e ≡ Err f → (b : Bool) → is_absence f ≡ b → Covered
  cover_fault f clear reported true h = (gone, at_the_path f clear reported h)
  cover_fault f clear reported false h = (refused, (f, unreadable clear reported h))

  cover_node : check_of q e ≡ accepted → (v : Result Metadata Fault) → node_of q e ≡ v → Covered
  cover_node clear (Ok n) reported = cover_kind n clear reported n.kind refl
  cover_node clear (Err f) reported = cover_fault f clear reported (is_absence f) refl

  cover_way : (f : Fault) → check_of q e ≡ faulty f → (b : Bool) → is_absence f ≡ b → Covered
  cover_way f check true h = (gone, on_the_way f check h)
  cover_way f check false h = (refused, (f, barred check h))

  cover_check : (v : LinkCheck) → check_of q e ≡ v → Covered
  cover_check accepted h = cover_node h (node_of q e) refl
  cover_check empty_path h = (refused, (faults.NotNormal, unnamed h refl))
  cover_check (not_normal component) h = (refused, (faults.NotNormal, oddly_named component h refl))
  cover_check (through_link p) h = (gone, by_link p h)
  cover_check (faulty f) h = cover_way f h (is_absence f) refl

  -- An entry is in a row.
  pub row_of : (r : Row) × IsTableRow q e r
  row_of = cover_check (check_of q e) refl

  row_modified : (s : Stat) (x t r : Bool) (c : Option T) → HasChange q e x c → row_of_case {T = T} {U = U} (status.compared x t r s (Ok c)) ≡ modified
  row_modified s true t r (Some c) h = refl
  row_modified s false t r (Some c) h = refl
  row_modified s true t r None h = refl
  row_modified s false t r None (inl h) = cc
  row_modified s false t r None (inr h) = cc

  in_row : (r : Row) → IsTableRow q e r → row_of_case (case_of q e) ≡ r
  in_row gone h = ap row_of_case (case_gone q e h)
  in_row refused h = ap row_of_case (case_refused q e h.0 h.1)
  in_row in_submodule h = ap row_of_case (case_in_submodule q e h)
  in_row added h = ap row_of_case (case_added q e h)
  in_row unstamped h = ap row_of_case (case_unstamped q e h)
  in_row retyped h = ap row_of_case (case_retyped q e h.0 h.1)
  in_row unchanged h = ap row_of_case (case_unchanged q e h)
  in_row failed (n, (s, (x, (err, (p, h))))) = ap row_of_case (case_compared q e n s x p (Err err) h)
  in_row modified (n, (s, (x, (c, (p, h, change))))) = ap row_of_case (case_compared q e n s x p (Ok c) h) ∙ row_modified s x (trusted q e s) (racy q e s) c change
  in_row to_update (n, (s, (p, h))) = ap row_of_case (case_compared q e n s false p (Ok None) h)

  -- It is in no other row.
  pub one_row : (a b : Row) → IsTableRow q e a → IsTableRow q e b → a ≡ b
  one_row a b h k = sym (in_row a h) ∙ in_row b k
