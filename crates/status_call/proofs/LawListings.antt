-- Listings change nothing of a status.
use Rattle.std.proofs.Common.{◌≡◌, refl, sym, ap, subst, ◌∙◌, ℕ, Bool, true, false, not, ◌||◌, ◌==◌, List, Option, Some, None, IfSome, option_map, slice_get, Result, Ok, Err, if◌then◌else◌}
use Rattle.status_index.specs.Entries.{IndexEntry, stage_of}
use Rattle.std.specs.List.{flat_map, filter_map, enumerate_from}
use Rattle.status_index.specs.Absence.{is_absence}
use Rattle.status_index.specs.Mode.{mode_change, mode_change_at, new_mode, other_type, other_executable}
use Rattle.status_index.specs.declared.entry.TheConstants.Flags.{INTENT_TO_ADD}
use Rattle.status_index.specs.declared.mode.Change.TheVariants.{TypeChange, ExecutableBit}
use Rattle.status_index.specs.NodeStat.{stat_of}
use Rattle.status_index.specs.Stat.{is_racy}
use Rattle.status_index.specs.declared.fault.Fault.{Fault}
use Rattle.status_index.specs.declared.stat.Metadata.{Metadata}
use Rattle.status_index.specs.declared.stat.NodeKind.{NodeKind}
use Rattle.status_index.specs.declared.stat.NodeKind.TheVariants as kinds
use Rattle.status_index.specs.declared.mode.Change.{Change as ModeChange}
use Rattle.status_index.specs.declared.mode.Mode.{Mode}
use Rattle.status_index.specs.declared.mode.Mode.TheVariants as modes
use Rattle.status_index.specs.declared.stat.Stat.{Stat}
use Rattle.status_base.specs.LinkCheck.{LinkCheck, accepted, empty_path, not_normal, through_link, faulty, link_check}
use Rattle.status_base.specs.ListedNodes.{Listing, known_node, listed, listed_node}
use Rattle.status_base.specs.declared.fscache.Stat.{Stat as ListedStat}
use Rattle.status_compare.specs.declared.error.Error.{Error}
use Rattle.status_call.specs.declared.index_as_worktree.types.EntryStatus.{EntryStatus}
use Rattle.status_call.specs.Considered.{has_flag, is_skipped, is_over, stages_from}
use Rattle.status_call.specs.ListedStatus.{AreLive, FindsSame, IsSameNode, ListingsLaw, with_listings, without_listings}
use Rattle.status_call.specs.Query.{Query}
use Rattle.status_call.specs.Records.{conflict_status, record_by, fault_by, verdict, records_of, first_fault}
use Rattle.status_call.specs.Status.{nothing, refused, present, Case, added, answer, case_of_content, case_of_change, case_of_stat, case_of_found, cached_or, found_by, found_kind, found_node, is_trusted, status_of}

-- If executability doesn't count, an executable file is like another.
module _ (symlink : Bool) where
  unasked : (b : Bool) → other_executable symlink false b ≡ None
  unasked true = refl
  unasked false = refl

  same_mode : (kind : NodeKind) (x y : Bool) → new_mode false kind x ≡ new_mode false kind y
  same_mode kinds.Directory x y = refl
  same_mode kinds.Link x y = refl
  same_mode kinds.Other x y = refl
  same_mode kinds.File true true = refl
  same_mode kinds.File true false = refl
  same_mode kinds.File false true = refl
  same_mode kinds.File false false = refl

  module _ (n : Metadata) (x : Bool) where
    abbrev other : Metadata
    other = record n { executable = x }

    same_type : other_type symlink false other ≡ other_type symlink false n
    same_type = ap (λ (m : Mode). Some (TypeChange m)) (same_mode n.kind x n.executable)

    same_executable : (a b : Bool) → other_executable symlink false a ≡ other_executable symlink false b
    same_executable a b = unasked a ∙ sym (unasked b)

    same_change_at : (mode : Mode) (kind : NodeKind) → mode_change_at symlink false other mode kind ≡ mode_change_at symlink false n mode kind
    same_change_at modes.File kinds.File = same_executable x n.executable
    same_change_at modes.File kinds.Link = same_type
    same_change_at modes.File kinds.Directory = same_type
    same_change_at modes.File kinds.Other = same_type
    same_change_at modes.FileExecutable kinds.File = same_executable (not x) (not n.executable)
    same_change_at modes.FileExecutable kinds.Link = same_type
    same_change_at modes.FileExecutable kinds.Directory = same_type
    same_change_at modes.FileExecutable kinds.Other = same_type
    same_change_at modes.Symlink kinds.Link = refl
    same_change_at modes.Symlink kinds.File = ap (λ (c : Option ModeChange). if symlink then c else None) same_type
    same_change_at modes.Symlink kinds.Directory = same_type
    same_change_at modes.Symlink kinds.Other = same_type
    same_change_at modes.Commit kinds.Directory = refl
    same_change_at modes.Commit kinds.File = same_type
    same_change_at modes.Commit kinds.Link = same_type
    same_change_at modes.Commit kinds.Other = same_type
    same_change_at modes.Dir kinds.Directory = refl
    same_change_at modes.Dir kinds.File = same_type
    same_change_at modes.Dir kinds.Link = same_type
    same_change_at modes.Dir kinds.Other = same_type

    same_change : (mode : Mode) → mode_change symlink false mode other ≡ mode_change symlink false mode n
    same_change mode = same_change_at mode n.kind

-- Two queries whose listings know different things of paths.
module _ {T U : Type 0} (q : Query T U) (uncounted : q.executable_bit ≡ false) (here there : IndexEntry → Option Metadata) (e : IndexEntry) where
  abbrev one : Query T U
  one = record q { cached = here }

  abbrev two : Query T U
  two = record q { cached = there }

  module _ (n : Metadata) (x : Bool) where
    abbrev shown : Metadata
    shown = record n { executable = x }

    same_content : (s : Stat) (b trusted racy : Bool) → case_of_content one e n s b trusted racy ≡ case_of_content two e shown s b trusted racy
    same_content s true trusted racy = refl
    same_content s false false racy = refl
    same_content s false true true = refl
    same_content s false true false = refl

    same_retype : (s : Stat) (change : Option ModeChange) → case_of_change one e n s change ≡ case_of_change two e shown s change
    same_retype s (Some (TypeChange mode)) = refl
    same_retype s (Some ExecutableBit) = same_content s true (is_trusted q e s) (is_racy q.stat_options q.timestamp s)
    same_retype s None = same_content s false (is_trusted q e s) (is_racy q.stat_options q.timestamp s)

    uncounted_change : mode_change q.symlink q.executable_bit e.mode shown ≡ mode_change q.symlink q.executable_bit e.mode n
    uncounted_change =
        let P : Bool → Type 0 = λ b. mode_change q.symlink b e.mode shown ≡ mode_change q.symlink b e.mode n in
        subst P (sym uncounted) (same_change q.symlink n x e.mode)

    same_stat : (stat : Option Stat) → case_of_stat one e n stat ≡ case_of_stat two e shown stat
    same_stat None = refl
    same_stat (Some s) =
        same_retype s (mode_change q.symlink q.executable_bit e.mode n)
        ∙ ap (case_of_change two e shown s) (sym uncounted_change)

    same_present : case_of_found one e (present n) ≡ case_of_found two e (present shown)
    same_present = ap (λ (c : Case T U). if has_flag e INTENT_TO_ADD then added else c) (same_stat (stat_of n))

    same_kind : (kind : NodeKind) → case_of_found one e (found_kind n kind) ≡ case_of_found two e (found_kind shown kind)
    same_kind kinds.Directory = refl
    same_kind kinds.File = same_present
    same_kind kinds.Link = same_present
    same_kind kinds.Other = same_present

  -- Both queries have the same case for a result of `lstat`.
  same_node : (r : Result Metadata Fault) → case_of_found one e (found_node r) ≡ case_of_found two e (found_node r)
  same_node (Ok n) = same_kind n n.executable n.kind
  same_node (Err f) = same_fault (is_absence f) f
    where
      same_fault : (absent : Bool) (f : Fault) → case_of_found one e (if absent then nothing else refused f) ≡ case_of_found two e (if absent then nothing else refused f)
      same_fault true f = refl
      same_fault false f = refl

  as_shown : (known live : Metadata) → IsSameNode known live → known.dev ≡ 0 → known.ino ≡ 0 → known.uid ≡ 0 → known.gid ≡ 0 → record known { executable = live.executable } ≡ live
  as_shown known live h dev ino uid gid i = record {
    kind = h.kind i;
    len = h.len i;
    executable = live.executable;
    mtime = h.mtime i;
    ctime = h.ctime i;
    dev = (dev ∙ sym h.dev) i;
    ino = (ino ∙ sym h.ino) i;
    uid = (uid ∙ sym h.uid) i;
    gid = (gid ∙ sym h.gid) i;
  }

  same_known : (stat : ListedStat) (r : Result Metadata Fault) → FindsSame (listed_node stat) r → case_of_found one e (found_node (Ok (listed_node stat))) ≡ case_of_found two e (found_node r)
  same_known stat (Ok live) h =
      same_kind (listed_node stat) live.executable (listed_node stat).kind
      ∙ ap (λ (n : Metadata). case_of_found two e (found_node (Ok n))) (as_shown (listed_node stat) live h refl refl refl refl)
  same_known stat (Err f) h = absurd h

  same_cached : (known : Option ListedStat) (r : Result Metadata Fault) → IfSome known (λ stat. FindsSame (listed_node stat) r)
      → case_of_found one e (found_node (cached_or (option_map listed_node known) r)) ≡ case_of_found two e (found_node r)
  same_cached (Some stat) r h = same_known stat r h
  same_cached None r h = same_node r

  same_found : (check : LinkCheck) (known : Option ListedStat) (r : Result Metadata Fault)
      → (check ≡ accepted → IfSome known (λ stat. FindsSame (listed_node stat) r))
      → case_of_found one e (found_by check (cached_or (option_map listed_node known) r)) ≡ case_of_found two e (found_by check r)
  same_found accepted known r h = same_cached known r (h refl)
  same_found (through_link p) known r h = refl
  same_found (faulty f) known r h = same_node (Err f)
  same_found (not_normal c) known r h = refl
  same_found empty_path known r h = refl

module _ {T U : Type 0} (q : Query T U) (listing : List ℕ → Listing) (live : (e : IndexEntry) → AreLive listing (q.lstat e)) (uncounted : q.executable_bit ≡ false) where
  abbrev with_them : Query T U
  with_them = with_listings q listing

  abbrev without : Query T U
  without = without_listings q

  same_status : (e : IndexEntry) → status_of with_them e ≡ status_of without e
  same_status e =
      ap (answer e.path)
      (same_found q uncounted (λ e. known_node true listing e.path) (λ _. None) e (link_check (q.lstat e) e.path) (listed listing e.path) (q.lstat e e.path) (live e e.path))

  same_verdict : (es : List IndexEntry) (e : IndexEntry) → verdict with_them es e ≡ verdict without es e
  same_verdict es e =
      ap (λ (s : Result (Option (EntryStatus T U)) Error).
      if is_skipped q e || is_over q es e then Ok None
      else (if stage_of e == 0 then s else Ok (conflict_status (stages_from es e)))) (same_status e)

  pub same_records : (start : ℕ) (es : List IndexEntry) → records_of with_them start es ≡ records_of without start es
  same_records start es i = flat_map (λ p. record_by p.0 (same_verdict es p.1 i)) (enumerate_from start es)

  pub same_first : (es : List IndexEntry) → first_fault with_them es ≡ first_fault without es
  same_first es i = slice_get (filter_map (λ e. fault_by (same_verdict es e i)) es) 0

pub listings_law : {T U : Type 0} (q : Query T U) → ListingsLaw q
listings_law q listing live uncounted = record { records = same_records q listing live uncounted; fault = same_first q listing live uncounted }
