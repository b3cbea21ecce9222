-- The attribute files of a worktree whose results are known.
use Rattle.std.proofs.Common.{◌≡◌, ◌≢◌, ◌⊎◌, ℕ, Bool, true, false, List, [], ◌∷◌, ◌++◌, map, Option, Some, None, Result, Ok, Err, nat_lt, ◌&&◌, refl, sym, ◌∙◌, ap, subst, inl, inr, if◌then◌else◌}
use Rattle.std.specs.List.{All}
use Rattle.std.proofs.lemmas.List.Elements.{All-head, All-tail}
use Rattle.status_index.specs.Answer.{IsAnswer}
use Rattle.status_index.specs.Content.{Content}
use Rattle.status_index.specs.declared.fault.Fault.{Fault}
use Rattle.status_index.specs.declared.fault.Fault.TheVariants as faults
use Rattle.status_index.specs.declared.stat.Metadata.{Metadata}
use Rattle.status_base.specs.LinkCheck.{LinkCheck, Barrier, accepted, empty_path, not_normal, through_link, faulty, decided, barrier_of, leftmost_barrier, check_of_normal, link_check}
use Rattle.status_base.specs.Openings.{IsKnownOpening}
use Rattle.status_base.specs.Paths.{abnormal_component, directories}
use Rattle.status_base.specs.Sights.{Stats}
use Rattle.git_attributes.specs.Files.{File}
use Rattle.git_attributes.specs.WorktreeFiles.{FolderView, Search, found, nothing, out_of_memory, at_end, opened_search, is_directory, is_file, file_limit, node_search, checked_search, search_by, file_path, file_of, files_by, known_view, IsAllowed, KnownFilesLaw}

abbrev Openings : Type 0
Openings = List ℕ → Result Content Fault

decided_known : (d : List ℕ) (b : Option Barrier) (one other : LinkCheck) → (one ≡ other) ⊎ (one ≡ faulty faults.Memory) → (decided d b one ≡ decided d b other) ⊎ (decided d b one ≡ faulty faults.Memory)
decided_known d (Some b) one other same = inl refl
decided_known d None one other same = same

module _ (known seen : Stats) (allowed : (path : List ℕ) → IsAnswer (known path) (seen path)) where
  leftmost_by : (d : List ℕ) (ds : List (List ℕ)) → IsAnswer (known d) (seen d) → (leftmost_barrier seen ds ≡ leftmost_barrier known ds) ⊎ (leftmost_barrier seen ds ≡ faulty faults.Memory)
      → (leftmost_barrier seen (d ∷ ds) ≡ leftmost_barrier known (d ∷ ds)) ⊎ (leftmost_barrier seen (d ∷ ds) ≡ faulty faults.Memory)
  leftmost_by d ds (inl same) rest =
      let P : Result Metadata Fault → Type 0 = λ v. (decided d (barrier_of v) (leftmost_barrier seen ds) ≡ leftmost_barrier known (d ∷ ds)) ⊎ (decided d (barrier_of v) (leftmost_barrier seen ds) ≡ faulty faults.Memory) in
      subst P (sym same) (decided_known d (barrier_of (known d)) (leftmost_barrier seen ds) (leftmost_barrier known ds) rest)
  leftmost_by d ds (inr memory) rest = inr (ap (λ (v : Result Metadata Fault). decided d (barrier_of v) (leftmost_barrier seen ds)) memory)

  leftmost_known : (ds : List (List ℕ)) → (leftmost_barrier seen ds ≡ leftmost_barrier known ds) ⊎ (leftmost_barrier seen ds ≡ faulty faults.Memory)
  leftmost_known [] = inl refl
  leftmost_known (d ∷ ds) = leftmost_by d ds (allowed d) (leftmost_known ds)

  normal_known : (path : List ℕ) (abnormal : Option (List ℕ)) → (check_of_normal seen path abnormal ≡ check_of_normal known path abnormal) ⊎ (check_of_normal seen path abnormal ≡ faulty faults.Memory)
  normal_known path (Some component) = inl refl
  normal_known path None = leftmost_known (directories path)

  check_known : (path : List ℕ) → (link_check seen path ≡ link_check known path) ⊎ (link_check seen path ≡ faulty faults.Memory)
  check_known [] = inl refl
  check_known (b ∷ path) = normal_known (b ∷ path) (abnormal_component (b ∷ path))

content_known : (known seen : Content) → (seen ≡ known) ⊎ (seen.fault ≡ Some faults.Memory) → at_end seen.bytes seen.fault ≢ out_of_memory → at_end seen.bytes seen.fault ≡ at_end known.bytes known.fault
content_known known seen (inl same) present = ap (λ (v : Content). at_end v.bytes v.fault) same
content_known known seen (inr memory) present = absurd (present (ap (at_end seen.bytes) memory))

opened_known : (known seen : Result Content Fault) → IsKnownOpening known seen → opened_search seen ≢ out_of_memory → opened_search seen ≡ opened_search known
opened_known (Ok known) (Ok seen) (inl same) present = content_known known seen (inl same) present
opened_known (Ok known) (Ok seen) (inr cut) present = content_known known seen (inr cut.0) present
opened_known (Err f) (Ok seen) is present = absurd is
opened_known known (Err f) (inl same) present = sym (ap opened_search same)
opened_known known (Err f) (inr memory) present = absurd (present (ap (λ (v : Fault). opened_search (Err v)) memory))

small_known : (small : Bool) (otherwise : Search) (known seen : Result Content Fault) → IsKnownOpening known seen → (if small then opened_search seen else otherwise) ≢ out_of_memory
    → (if small then opened_search seen else otherwise) ≡ (if small then opened_search known else otherwise)
small_known true otherwise known seen is present = opened_known known seen is present
small_known false otherwise known seen is present = refl

node_same : (node : Result Metadata Fault) (known seen : Result Content Fault) → IsKnownOpening known seen → node_search node seen ≢ out_of_memory → node_search node seen ≡ node_search node known
node_same (Ok node) known seen is present = small_known (is_file node.kind && nat_lt node.len file_limit) (if is_directory node.kind then found [] else nothing) known seen is present
node_same (Err f) known seen is present = refl

node_known : (known seen : Result Metadata Fault) (known_opened seen_opened : Result Content Fault) → IsAnswer known seen → IsKnownOpening known_opened seen_opened → node_search seen seen_opened ≢ out_of_memory → node_search seen seen_opened ≡ node_search known known_opened
node_known known seen known_opened seen_opened (inl same) is present =
    node_same seen known_opened seen_opened is present ∙ ap (λ (v : Result Metadata Fault). node_search v known_opened) same
node_known known seen known_opened seen_opened (inr memory) is present =
    absurd (present (ap (λ (v : Result Metadata Fault). node_search v seen_opened) memory))

checked_known : (check : LinkCheck) (known seen : Search) → (seen ≢ out_of_memory → seen ≡ known) → checked_search check seen ≢ out_of_memory → checked_search check seen ≡ checked_search check known
checked_known accepted known seen same present = same present
checked_known empty_path known seen same present = refl
checked_known (not_normal component) known seen same present = refl
checked_known (through_link prefix) known seen same present = refl
checked_known (faulty f) known seen same present = refl

by_check : (one other : LinkCheck) (known seen : Search) → (one ≡ other) ⊎ (one ≡ faulty faults.Memory) → (seen ≢ out_of_memory → seen ≡ known) → checked_search one seen ≢ out_of_memory → checked_search one seen ≡ checked_search other known
by_check one other known seen (inl same) here present =
    checked_known one known seen here present ∙ ap (λ (v : LinkCheck). checked_search v known) same
by_check one other known seen (inr memory) here present =
    absurd (present (ap (λ (v : LinkCheck). checked_search v seen) memory))

module _ (lstat : Stats) (opened : Openings) where
  abbrev IsKnown : FolderView → Type 0
  IsKnown = IsAllowed (λ path answer. IsAnswer (lstat path) answer) (λ path. IsKnownOpening (opened path))

  search_known : (view : FolderView) → IsKnown view → search_by view ≡ search_by (known_view lstat opened view.folder)
  search_known view is =
      let path : List ℕ = file_path view.folder in
      by_check (link_check view.lstat path) (link_check lstat path) (node_search (lstat path) (opened path)) (node_search (view.lstat path) view.opened)
      (check_known lstat view.lstat is.stats path)
      (node_known (lstat path) (view.lstat path) (opened path) view.opened (is.stats path) is.opened)
      is.in_memory

  views_known : (views : List FolderView) → All IsKnown views → files_by views ≡ files_by (map (known_view lstat opened) (map (λ view. view.folder) views))
  views_known [] is = refl
  views_known (view ∷ views) is =
      ap (λ (v : Search). file_of view.folder v ++ files_by views) (search_known view (All-head IsKnown view views is))
      ∙ ap (λ (v : List File). file_of view.folder (search_by (known_view lstat opened view.folder)) ++ v) (views_known views (All-tail IsKnown view views is))

  pub known_files : (folders : List (List ℕ)) (files : List File) → KnownFilesLaw lstat opened folders files
  known_files folders files seen =
      seen.found ∙ views_known seen.views seen.allowed ∙ ap (λ (v : List (List ℕ)). files_by (map (known_view lstat opened) v)) seen.each
