-- One path and one folder of a search, by results that may be returned.
use Rattle.std.proofs.Common.{◌≡◌, ◌≢◌, ℕ, Bool, false, List, ◌++◌, Option, None, Result, Ok, Err, IfOk, refl, sym, ◌∙◌, ap, subst}
use Rattle.std.specs.Option.{option_map}
use Rattle.std.proofs.lemmas.Grind.{merely}
use Rattle.status_index.specs.declared.fault.Fault.{Fault}
use Rattle.status_index.specs.declared.fault.Fault.TheVariants as faults
use Rattle.status_index.specs.declared.stat.Metadata.{Metadata}
use Rattle.status_index.specs.declared.stat.NodeKind.TheVariants.{File as FileNode}
use Rattle.status_base.specs.declared.stack.error.StackError.{StackError}
use Rattle.status_base.specs.CheckAnswers.{IsCheckError}
use Rattle.status_base.specs.LinkCheck.{LinkCheck, link_check}
use Rattle.status_base.specs.Looked.{IsLookedAt}
use Rattle.status_base.specs.Openings.{MayOpen}
use Rattle.status_base.specs.Sights.{Stats, MayStat, IsCheckSeen, IsOpen}
use Rattle.status_base.proofs.SightLemmas.{answer_here, link_check_with_answer, with_answer, with_answer_allowed}
use Rattle.git_attributes.specs.Files.{File}
use Rattle.git_attributes.specs.WorktreeFiles.{Search, nothing, out_of_memory, at_fault, checked_search, node_search, file_path, file_of}
use Rattle.git_attributes.specs.FolderSteps.{IsFolderAdded, IsPathSeen, IsReadSeen, IsRefusalOf, found_search, read_search}
use Rattle.git_attributes.specs.declared.worktree_files.Found.{Found}
use Rattle.git_attributes.specs.declared.worktree_files.Found.TheVariants.{File as FoundFile, NoFile, NoFolder}

found_in_memory : (it : Found) → found_search it ≢ out_of_memory
found_in_memory (FoundFile bytes) = λ memory. cc
found_in_memory NoFile = λ memory. cc
found_in_memory NoFolder = λ memory. cc

-- a file that `lstat` found at a path whose directories were checked
pub file_looked : (may : MayStat) (listed : Bool) (path : List ℕ) (node : Metadata) → IsOpen may path → may path (Ok node) → node.kind ≡ FileNode → IsLookedAt may listed path node FileNode
file_looked may listed path node above here is = merely (record { met = record { above = above; here = λ _. here }; is = is })

-- a fault at a path
pub read_fault : {V E : Type 0} (may_stat : Result Metadata Fault → Type 0) (may_open : MayOpen) (f : Fault) (items : V → List ℕ) (result : Result (Option V) E) → may_stat (Err f) → may_open (Err faults.Memory)
    → IfOk result (λ read. (read ≡ None) × (at_fault f ≡ nothing)) → IfOk result (λ read. IsReadSeen may_stat may_open (option_map items read))
read_fault {V} {E} may_stat may_open f items (Err e) here may_fail none = tt
read_fault {V} {E} may_stat may_open f items (Ok read) here may_fail none = record {
  node = Err f;
  node_allowed = here;
  opened = Err faults.Memory;
  opened_allowed = may_fail;
  same = none.1 ∙ sym (ap (λ (v : Option V). read_search (option_map items v)) none.0);
}

module _ (may_stat : MayStat) (may_open : List ℕ → MayOpen) where
  -- the link check accepts a path, and its file is read
  pub path_read : {A : Type 0} (path : List ℕ) (value : A) (read : Option (List ℕ)) (it : Found) → IsCheckSeen may_stat path (Ok value) → IsReadSeen (may_stat path) (may_open path) read
      → found_search it ≡ read_search read → it ≢ NoFolder → IsPathSeen may_stat may_open path it
  path_read {A} path value read it check seen same there =
      let lstat : Stats = with_answer path seen.node check.lstat in
      record {
        lstat = lstat;
        allowed = with_answer_allowed may_stat path seen.node check.lstat seen.node_allowed check.allowed;
        opened = seen.opened;
        opened_allowed = seen.opened_allowed;
        search = ap (λ (v : LinkCheck). checked_search v (node_search (lstat path) seen.opened)) (link_check_with_answer path seen.node check.lstat ∙ check.checked)
            ∙ ap (λ (v : Result Metadata Fault). node_search v seen.opened) (answer_here path seen.node check.lstat)
            ∙ seen.same ∙ sym same;
        refused = λ gone. absurd (there gone);
      }

  -- the link check refuses it
  pub path_barred : {A : Type 0} (path : List ℕ) (e : StackError) (it : Found) → may_open path (Err faults.Memory) → IsCheckSeen {A = A} may_stat path (Err e)
      → ((check : LinkCheck) → IsCheckError check e → IsRefusalOf check it) → IsPathSeen may_stat may_open path it
  path_barred {A} path e it may_fail check refusal =
      let refused = refusal (link_check check.lstat path) check.checked in
      record {
        lstat = check.lstat;
        allowed = check.allowed;
        opened = Err faults.Memory;
        opened_allowed = may_fail;
        search = refused.search (node_search (check.lstat path) (Err faults.Memory));
        refused = λ gone. refused.refused;
      }

  pub barred_seen : {A E : Type 0} (path : List ℕ) (e : StackError) (result : Result Found E) → may_open path (Err faults.Memory) → IsCheckSeen {A = A} may_stat path (Err e)
      → ((check : LinkCheck) → IsCheckError check e → IfOk result (IsRefusalOf check)) → IfOk result (IsPathSeen may_stat may_open path)
  barred_seen {A} {E} path e (Err other) may_fail check refusal = tt
  barred_seen {A} {E} path e (Ok it) may_fail check refusal = path_barred {A = A} path e it may_fail check refusal

  -- the file that was found is added
  pub folder_added : (folder path : List ℕ) (it : Found) (goes_on : Bool) (old new : List File) → path ≡ file_path folder → IsPathSeen may_stat may_open path it → (goes_on ≡ false → it ≡ NoFolder)
      → new ≡ old ++ file_of folder (found_search it) → IsFolderAdded may_stat may_open folder goes_on old new
  folder_added folder path it goes_on old new is at_path barred added =
      let P : List ℕ → Type 0 = λ v. IsPathSeen may_stat may_open v it in
      let seen : IsPathSeen may_stat may_open (file_path folder) it = subst P is at_path in
      record {
        view = record { folder = folder; lstat = seen.lstat; opened = seen.opened };
        of_folder = refl;
        allowed = record { stats = seen.allowed; opened = seen.opened_allowed; in_memory = λ memory. found_in_memory it (sym seen.search ∙ memory) };
        added = added ∙ ap (λ (v : Search). old ++ file_of folder v) (sym seen.search);
        refused = λ gone. seen.refused (barred gone);
      }
