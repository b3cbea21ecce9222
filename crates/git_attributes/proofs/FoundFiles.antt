-- The files that a search adds, folder by folder.
use Rattle.std.proofs.Common.{◌≡◌, ◌≢◌, ℕ, zero, suc, ◌+◌, ◌<◌, ◌≤◌, ◌-◌, Bool, true, false, List, [], ◌∷◌, ◌++◌, length, take, drop, slice_get, slice_index_or, map, Some, Err, nat_lt, refl, sym, ◌∙◌, ap, subst, arith, append_assoc, if◌then◌else◌}
use Rattle.std.specs.List.{All}
use Rattle.std.proofs.lemmas.Grind.{flat_map-append}
use Rattle.std.proofs.lemmas.List.{append-nil, map-append, take_all}
use Rattle.std.proofs.lemmas.List.Elements.{All-append, All-cons, All-head, All-nil, All-tail}
use Rattle.std.proofs.lemmas.Bool.Decides.{nat_tests}
use Rattle.status_index.specs.Entries.{IndexEntry, index_entries, path_in}
use Rattle.status_index.specs.declared.entry.Entry.{Entry}
use Rattle.status_index.specs.declared.entry.PathStorage.{PathStorage}
use Rattle.status_index.specs.declared.fault.Fault.TheVariants as faults
use Rattle.status_base.specs.LinkCheck.{accepted, link_check}
use Rattle.status_base.specs.Openings.{MayOpen}
use Rattle.status_base.specs.Paths.{is_slash}
use Rattle.status_base.specs.Sights.{MayStat}
use Rattle.git_attributes.specs.Files.{File}
use Rattle.git_attributes.specs.WorktreeFiles.{FolderView, nothing, out_of_memory, path_limit, folders_after, folders_from, last_path, new_folders, up_to_long, file_path, checked_search, node_search, search_by, file_of, files_by, IsAllowed, AreFilesSeen}
use Rattle.git_attributes.specs.FolderSteps.{IsFolderAdded, AreAdded}
use Rattle.git_attributes.specs.SharedLaws.{seen_both}
use Rattle.git_attributes.proofs.FolderBarriers.{name, refused_below, refused_nothing}

-- A folder is below another one, whose path is a front of its own.
abbrev pub IsBelow : List ℕ → List ℕ → Type 0
IsBelow folder other = (rest : List ℕ) × (other ≡ folder ++ rest)

all_if : (P : List ℕ → Type 0) (b : Bool) (fs : List (List ℕ)) → All P fs → All P (if b then fs else [])
all_if P true fs all = all
all_if P false fs all = All-nil P

all_step : (P : List ℕ → Type 0) (b : Bool) (f : List ℕ) (fs : List (List ℕ)) → P f → All P fs → All P ((if b then f ∷ [] else []) ++ fs)
all_step P true f fs here all = All-cons P f fs here all
all_step P false f fs here all = all

-- the folders on the way to a path after a folder are below it
all_below : (folder front path : List ℕ) → IsBelow folder front → All (IsBelow folder) (folders_from front path)
all_below folder front [] below = All-nil (IsBelow folder)
all_below folder front (b ∷ path) below =
    let next : List ℕ = front ++ b ∷ [] in
    let later : IsBelow folder next = (below.0 ++ b ∷ [], ap (λ (v : List ℕ). v ++ b ∷ []) below.1 ∙ append_assoc folder below.0 (b ∷ [])) in
    all_step (IsBelow folder) (is_slash b) next (folders_from next path) later (all_below folder next path later)

all_up_to : (P : List ℕ → Type 0) (fs : List (List ℕ)) → All P fs → All P (up_to_long fs)
all_up_to P [] all = All-nil P
all_up_to P (f ∷ fs) all =
    All-cons P f (if nat_lt (length f) path_limit then up_to_long fs else []) (All-head P f fs all) (all_if P (nat_lt (length f) path_limit) (up_to_long fs) (all_up_to P fs (All-tail P f fs all)))

-- the folders of the first entry, and of the others
pub folders_of_first : (backing held : PathStorage) (before path : List ℕ) (rest : List Entry) (d : Entry) → 1 ≤ length rest → path ≡ path_in held (slice_index_or rest 0 d) → held ≡ backing
    → folders_after before (index_entries backing rest) ≡ up_to_long (new_folders before path) ++ folders_after path (index_entries backing (take (length rest - 1) (drop 1 rest)))
folders_of_first backing held before path [] d some is same = absurd (omega arith)
folders_of_first backing held before path (e ∷ es) d some is same =
    let P : List ℕ → Type 0 = λ v. folders_after before (index_entries backing (e ∷ es)) ≡ up_to_long (new_folders before v) ++ folders_after v (index_entries backing (take (length (e ∷ es) - 1) es)) in
    let all : take (length (e ∷ es) - 1) es ≡ es = take_all (length (e ∷ es) - 1) es (omega arith) in
    let here : path ≡ path_in backing e = is ∙ ap (λ (v : PathStorage). path_in v e) same in
    subst P (sym here) (ap (λ (v : List Entry). up_to_long (new_folders before (path_in backing e)) ++ folders_after (path_in backing e) (index_entries backing v)) (sym all))

-- the path of the last entry
last_path_at : (backing : PathStorage) (before : List ℕ) (es : List Entry) (n : ℕ) (e : Entry) → length es ≡ n + 1 → slice_get es n ≡ Some e → last_path before (index_entries backing es) ≡ path_in backing e
last_path_at backing before [] n e some got = absurd (omega (arith, some))
last_path_at backing before (x ∷ []) zero e some got = let same : x ≡ e = cc in ap (path_in backing) same
last_path_at backing before (x ∷ []) (suc n) e some got = absurd (omega (arith, some))
last_path_at backing before (x ∷ y ∷ es) zero e some got = absurd (omega (arith, some))
last_path_at backing before (x ∷ y ∷ es) (suc n) e some got = last_path_at backing (path_in backing x) (y ∷ es) n e (omega (arith, some)) got

pub last_path_got : (backing held : PathStorage) (before path : List ℕ) (es : List Entry) (e : Entry) → held ≡ backing → path ≡ path_in held e → slice_get es (length es - 1) ≡ Some e → path ≡ last_path before (index_entries backing es)
last_path_got backing held before path [] e same is got = absurd (cc)
last_path_got backing held before path (x ∷ es) e same is got =
    let n : length (x ∷ es) - 1 ≡ length es = omega arith in
    is ∙ ap (λ (v : PathStorage). path_in v e) same ∙ sym (last_path_at backing before (x ∷ es) (length es) e (omega arith) (subst (λ (m : ℕ). slice_get (x ∷ es) m ≡ Some e) n got))

module _ (may_stat : MayStat) (may_open : List ℕ → MayOpen) where
  added_none : (old : List File) → AreAdded may_stat may_open [] old old
  added_none old = record {
    files = [];
    seen = record { views = []; each = refl; allowed = All-nil (IsAllowed may_stat may_open); found = refl };
    added = sym (append-nil old);
  }

  pub added_one : (folder : List ℕ) (goes_on : Bool) (old new : List File) → IsFolderAdded may_stat may_open folder goes_on old new → AreAdded may_stat may_open (folder ∷ []) old new
  added_one folder goes_on old new one =
      let it : List File = file_of one.view.folder (search_by one.view) in
      record {
        files = files_by (one.view ∷ []);
        seen = record {
          views = one.view ∷ [];
          each = ap (λ (v : List ℕ). v ∷ []) one.of_folder;
          allowed = All-cons (IsAllowed may_stat may_open) one.view [] one.allowed (All-nil (IsAllowed may_stat may_open));
          found = refl;
        };
        added = one.added ∙ ap (λ (v : List File). old ++ v) (sym (append-nil it));
      }

  pub added_both : (fs gs : List (List ℕ)) (old mid new : List File) → AreAdded may_stat may_open fs old mid → AreAdded may_stat may_open gs mid new → AreAdded may_stat may_open (fs ++ gs) old new
  added_both fs gs old mid new one other = record {
    files = one.files ++ other.files;
    seen = seen_both may_stat may_open fs gs one.files other.files one.seen other.seen;
    added = other.added ∙ ap (λ (v : List File). v ++ other.files) one.added ∙ append_assoc old one.files other.files;
  }

  -- nothing is added in a folder below one whose file is refused
  barred_one : ((path : List ℕ) → may_open path (Err faults.Memory)) → (view : FolderView) (before folder : List ℕ) → view.folder ≡ before ++ 47 ∷ [] → IsAllowed may_stat may_open view
      → link_check view.lstat (file_path view.folder) ≢ accepted → IsBelow view.folder folder → (old : List File) → AreAdded may_stat may_open (folder ∷ []) old old
  barred_one may_fail view before folder ends allowed refused below old =
      let own : file_path view.folder ≡ before ++ 47 ∷ name = ap file_path ends ∙ append_assoc before (47 ∷ []) name in
      let rest : List ℕ = below.0 ++ name in
      let path : file_path folder ≡ before ++ 47 ∷ rest =
      ap file_path (below.1 ∙ ap (λ (v : List ℕ). v ++ below.0) ends) ∙ append_assoc (before ++ 47 ∷ []) below.0 name ∙ append_assoc before (47 ∷ []) rest in
      let other : FolderView = record { folder = folder; lstat = view.lstat; opened = Err faults.Memory } in
      let one_search = node_search (view.lstat (file_path view.folder)) view.opened in
      let other_search = node_search (view.lstat (file_path folder)) (Err faults.Memory) in
      let none : search_by view ≡ nothing = refused_nothing (link_check view.lstat (file_path view.folder)) one_search refused allowed.in_memory in
      let P : List ℕ → Type 0 = λ v. link_check view.lstat v ≢ accepted in
      let there : search_by other ≡ nothing =
      ap (λ (v : List ℕ). checked_search (link_check view.lstat v) other_search) path
      ∙ refused_below view.lstat before rest (subst P own refused) one_search other_search (sym (ap (λ (v : List ℕ). checked_search (link_check view.lstat v) one_search) own) ∙ none) in
      let added : AreAdded may_stat may_open (folder ∷ []) old (old ++ file_of folder (search_by other)) = added_one folder true old (old ++ file_of folder (search_by other)) (record {
        view = other;
        of_folder = refl;
        allowed = record { stats = allowed.stats; opened = may_fail (file_path folder); in_memory = λ memory. absurd (let differs : nothing ≡ out_of_memory = sym there ∙ memory in (cc)) };
        added = refl;
        refused = λ bad. absurd (cc);
      }) in
      let Q : List File → Type 0 = λ v. AreAdded may_stat may_open (folder ∷ []) old v in
      subst Q (ap (λ v. old ++ file_of folder v) there ∙ append-nil old) added

  added_barred : ((path : List ℕ) → may_open path (Err faults.Memory)) → (view : FolderView) (before : List ℕ) (folders : List (List ℕ)) → view.folder ≡ before ++ 47 ∷ [] → IsAllowed may_stat may_open view
      → link_check view.lstat (file_path view.folder) ≢ accepted → All (IsBelow view.folder) folders → (old : List File) → AreAdded may_stat may_open folders old old
  added_barred may_fail view before [] ends allowed refused below old = added_none old
  added_barred may_fail view before (folder ∷ folders) ends allowed refused below old =
      added_both (folder ∷ []) folders old old old
      (barred_one may_fail view before folder ends allowed refused (All-head (IsBelow view.folder) folder folders below) old)
      (added_barred may_fail view before folders ends allowed refused (All-tail (IsBelow view.folder) folder folders below) old)

  -- Of all folders, those before the rest were searched.
  pub record IsWalked (all rest : List (List ℕ)) (old new : List File) : Type 0 where
    pub done : List (List ℕ)
    pub added : AreAdded may_stat may_open done old new
    pub split : all ≡ done ++ rest

  pub walked_none : (all : List (List ℕ)) (old : List File) → IsWalked all all old old
  walked_none all old = record { done = []; added = added_none old; split = refl }

  pub walked_more : (all some rest : List (List ℕ)) (old mid new : List File) → IsWalked all (some ++ rest) old mid → AreAdded may_stat may_open some mid new → IsWalked all rest old new
  walked_more all some rest old mid new walked more = record {
    done = walked.done ++ some;
    added = added_both walked.done some old mid new walked.added more;
    split = walked.split ∙ sym (append_assoc walked.done some rest);
  }

  pub walked_all : (all : List (List ℕ)) (old new : List File) → IsWalked all [] old new → AreAdded may_stat may_open all old new
  walked_all all old new walked =
      let P : List (List ℕ) → Type 0 = λ v. AreAdded may_stat may_open v old new in
      subst P (sym (walked.split ∙ append-nil walked.done)) walked.added

  -- nothing is searched below a folder whose file is refused
  pub walked_barred : ((path : List ℕ) → may_open path (Err faults.Memory)) → (all : List (List ℕ)) (folder before path : List ℕ) (old mid new : List File)
      → IsWalked all (up_to_long (folder ∷ folders_from folder path)) old mid → folder ≡ before ++ 47 ∷ [] → IsFolderAdded may_stat may_open folder false mid new → AreAdded may_stat may_open all old new
  walked_barred may_fail all folder before path old mid new walked ends one =
      let behind : List (List ℕ) = if nat_lt (length folder) path_limit then up_to_long (folders_from folder path) else [] in
      let P : List ℕ → Type 0 = λ v. link_check one.view.lstat (file_path v) ≢ accepted in
      let Q : List ℕ → Type 0 = λ v. All (IsBelow v) behind in
      let below : All (IsBelow folder) behind = all_if (IsBelow folder) (nat_lt (length folder) path_limit) (up_to_long (folders_from folder path)) (all_up_to (IsBelow folder) (folders_from folder path) (all_below folder folder path ([], sym (append-nil folder)))) in
      let after : IsWalked all behind old new = walked_more all (folder ∷ []) behind old mid new walked (added_one folder false mid new one) in
      let last : AreAdded may_stat may_open behind new new = added_barred may_fail one.view before behind (one.of_folder ∙ ends) one.allowed (subst P (sym one.of_folder) (one.refused refl)) (subst Q (sym one.of_folder) below) new in
      walked_all all old new (walked_more all behind [] old new new (let R : List (List ℕ) → Type 0 = λ v. IsWalked all v old new in subst R (sym (append-nil behind)) after) last)

  -- the folder is so long that nothing is searched below it
  pub walked_long : (all : List (List ℕ)) (folder : List ℕ) (goes_on : Bool) (folders : List (List ℕ)) (old mid new : List File)
      → IsWalked all (up_to_long (folder ∷ folders)) old mid → path_limit ≤ length folder → IsFolderAdded may_stat may_open folder goes_on mid new → AreAdded may_stat may_open all old new
  walked_long all folder goes_on folders old mid new walked long one =
      let no : nat_lt (length folder) path_limit ≡ false = grind (arith, nat_tests) in
      let R : List (List ℕ) → Type 0 = λ v. IsWalked all v old mid in
      let cut : IsWalked all (folder ∷ []) old mid = subst R (ap (λ (b : Bool). folder ∷ (if b then up_to_long folders else [])) no) walked in
      walked_all all old new (walked_more all (folder ∷ []) [] old mid new cut (added_one folder goes_on mid new one))

  -- a folder was searched
  pub walked_one : (all : List (List ℕ)) (folder : List ℕ) (goes_on : Bool) (folders : List (List ℕ)) (old mid new : List File)
      → IsWalked all (up_to_long (folder ∷ folders)) old mid → length folder < path_limit → IsFolderAdded may_stat may_open folder goes_on mid new → IsWalked all (up_to_long folders) old new
  walked_one all folder goes_on folders old mid new walked short one =
      let yes : nat_lt (length folder) path_limit ≡ true = grind (arith, nat_tests) in
      let R : List (List ℕ) → Type 0 = λ v. IsWalked all v old mid in
      let whole : IsWalked all ((folder ∷ []) ++ up_to_long folders) old mid = subst R (ap (λ (b : Bool). folder ∷ (if b then up_to_long folders else [])) yes) walked in
      walked_more all (folder ∷ []) (up_to_long folders) old mid new whole (added_one folder goes_on mid new one)

  -- a search into an empty list has found the files
  pub files_seen : (all : List (List ℕ)) (new : List File) → AreAdded may_stat may_open all [] new → AreFilesSeen may_stat may_open all new
  files_seen all new added =
      let P : List File → Type 0 = λ v. AreFilesSeen may_stat may_open all v in subst P (sym added.added) added.seen
