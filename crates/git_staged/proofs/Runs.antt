-- The entries that make the open folders.
use Rattle.std.proofs.Common.{◌≡◌, ◌≤◌, ◌<◌, ℕ, suc, ◌-◌, ◌==◌, Bool, true, false, cond, List, [], ◌∷◌, ◌++◌, length, take, drop, map, get_or, All, refl, sym, ◌∙◌, ap, subst, arith, append_assoc}
use Rattle.std.specs.List.{AllByRecursion, slice_index}
use Rattle.std.proofs.lemmas.List.{append-nil, map-append, length-append, take_all, length-take, length-take-le, get_or-append_right}
use Rattle.std.proofs.Math.Seq.{take-suc, take-append_seam, drop-append_seam, get_or-append_seam}
use Rattle.std.proofs.lemmas.Bool.{eqb-true}
use Rattle.status_index.specs.declared.id.ObjectId.{ObjectId}
use Rattle.status_index.specs.declared.mode.Mode.{Mode}
use Rattle.status_index.specs.declared.mode.Mode.TheVariants.{Dir, File, FileExecutable, Symlink, Commit}
use Rattle.status_index.specs.Entries.{IndexEntry}
use Rattle.git_staged.specs.Folders.{inside, IsBelow, IsRun}
use Rattle.git_staged.specs.Letters.{is_intended}
use Rattle.git_staged.specs.OpenFolders.{Frame, folder_path, HasName, IsAfterLast, IsStaged, Runs}
use Rattle.git_staged.specs.Trees.{Items, no_items, and_folder, and_entry, and_entries, put, components, is_slash, path_of_item}
use Rattle.git_staged.proofs.Entries.{and_more}
use Rattle.git_staged.proofs.Folders.{each_push}
use Rattle.git_staged.proofs.Puts.{put_inside, put_new}

-- ---- paths without the slash of a sparse index's folder

last_slash : (p : List ℕ) → is_slash (slice_index p (length p - 1)) ≡ true → p ≡ take (length p - 1) p ++ 47 ∷ []
last_slash [] h = absurd (cc)
last_slash (x ∷ xs) h =
    let q : List ℕ = x ∷ xs in
    let n : ℕ = length q - 1 in
    let within : n < length q = omega (arith) in
    let last : slice_index q n ≡ 47 = eqb-true (slice_index q n) 47 h in
    sym (take_all (suc n) q (omega (arith))) ∙ (take-suc q n 0 within ∙ ap (λ (b : ℕ). take n q ++ b ∷ []) last)

with_slash : (rest : List ℕ) → path_of_item Dir (rest ++ 47 ∷ []) ≡ rest
with_slash rest =
    let q : List ℕ = rest ++ 47 ∷ [] in
    let n : length q - 1 ≡ length rest = omega (arith, length-append rest (47 ∷ [])) in
    let yes : is_slash (slice_index q (length q - 1)) ≡ true = ap (λ (k : ℕ). is_slash (slice_index q k)) n ∙ ap is_slash (get_or-append_seam rest 47 [] 0) in
    ap (λ (b : Bool). cond b (take (length q - 1) q) q) yes ∙ (ap (λ (k : ℕ). take k q) n ∙ take-append_seam rest (47 ∷ []))

without_slash : (front rest : List ℕ) → is_slash (slice_index (front ++ rest) (length (front ++ rest) - 1)) ≡ false → path_of_item Dir rest ≡ rest
without_slash front [] h = refl
without_slash front (x ∷ xs) h =
    let r : List ℕ = x ∷ xs in
    let at : length (front ++ r) - 1 - length front ≡ length r - 1 = omega (arith, length-append front r) in
    let far : length front ≤ length (front ++ r) - 1 = omega (arith, length-append front r) in
    let same : slice_index (front ++ r) (length (front ++ r) - 1) ≡ slice_index r (length r - 1) = get_or-append_right front r (length front) (length (front ++ r) - 1) 0 refl far ∙ ap (slice_index r) at in
    ap (λ (b : Bool). cond b (take (length r - 1) r) r) (sym (ap is_slash same) ∙ h)

stripped_dir : (p front rest : List ℕ) (b : Bool) → is_slash (slice_index p (length p - 1)) ≡ b → cond b (take (length p - 1) p) p ≡ front ++ rest
    → (more : List ℕ) × (p ≡ front ++ more) × (path_of_item Dir more ≡ rest)
stripped_dir p front rest true slash h =
    (rest ++ 47 ∷ [], last_slash p slash ∙ (ap (λ (l : List ℕ). l ++ 47 ∷ []) h ∙ append_assoc front rest (47 ∷ [])), with_slash rest)
stripped_dir p front rest false slash h = (rest, h, without_slash front rest (ap (λ (l : List ℕ). is_slash (slice_index l (length l - 1))) (sym h) ∙ slash))

-- If an item is below a folder, then so is its entry, whose item inside of the folder has the rest as its path.
stripped : (mode : Mode) (p front rest : List ℕ) → path_of_item mode p ≡ front ++ rest → (more : List ℕ) × (p ≡ front ++ more) × (path_of_item mode more ≡ rest)
stripped Dir p front rest h = stripped_dir p front rest (is_slash (slice_index p (length p - 1))) refl h
stripped File p front rest h = (rest, h, refl)
stripped FileExecutable p front rest h = (rest, h, refl)
stripped Symlink p front rest h = (rest, h, refl)
stripped Commit p front rest h = (rest, h, refl)

-- ---- one more entry of a folder

pub run_more : (es : List IndexEntry) (path : List ℕ) (first k : ℕ) (t : Items) (e : IndexEntry) → take (suc k) es ≡ take k es ++ e ∷ [] → IsBelow path e
    → IsRun es path first k t → IsRun es path first (suc k) (and_entry t (inside (length path) e))
run_more es path first k t e next below r =
    let one : IndexEntry → IndexEntry = inside (length path) in
    let (x, more, starts, staged) = r.begins in
    record {
      before = r.before;
      run = r.run ++ e ∷ [];
      split = next ∙ (ap (λ (l : List IndexEntry). l ++ e ∷ []) r.split ∙ append_assoc r.before r.run (e ∷ []));
      number = r.number;
      begins = (x, more ++ e ∷ [], ap (λ (l : List IndexEntry). l ++ e ∷ []) starts, staged);
      below = each_push (IsBelow path) r.run e r.below below;
      makes = ap (and_entries no_items) (map-append one r.run (e ∷ [])) ∙ (and_more no_items (map one r.run) (one e) ∙ ap (λ (u : Items). and_entry u (one e)) r.makes);
    }

pub run_begins : (es : List IndexEntry) (path : List ℕ) (k : ℕ) (e : IndexEntry) → take (suc k) es ≡ take k es ++ e ∷ [] → k ≤ length es → is_intended e ≡ false → IsBelow path e
    → IsRun es path k (suc k) (and_entry no_items (inside (length path) e))
run_begins es path k e next within staged below = record {
  before = take k es;
  run = e ∷ [];
  split = next;
  number = length-take-le k es within;
  begins = (e, [], refl, staged);
  below = (below, tt);
  makes = refl;
}

-- ---- one more entry of all open folders

-- An entry that isn't one of `git add -N` is put below its item's path.
staged_put : (t : Items) (e : IndexEntry) (path : List ℕ) (mode : Mode) (id : ObjectId) → is_intended e ≡ false → path_of_item e.mode e.path ≡ path → e.mode ≡ mode → e.id ≡ id
    → and_entry t e ≡ put (components path) mode id t
staged_put t e path mode id staged is same_mode same_id =
    ap (λ (b : Bool). cond b t (put (components (path_of_item e.mode e.path)) e.mode e.id t)) staged
    ∙ (ap (λ (p : List ℕ). put (components p) e.mode e.id t) is
    ∙ (ap (λ (m : Mode). put (components path) m e.id t) same_mode ∙ ap (λ (i : ObjectId). put (components path) mode i t) same_id))

-- So is it inside of a folder that it is below.
inside_put : (es : List IndexEntry) (k : ℕ) (path : List ℕ) (mode : Mode) (id : ObjectId) (s : IsStaged es k path mode id) (t : Items) (front rest : List ℕ) → path ≡ front ++ rest
    → IsBelow front s.entry × (and_entry t (inside (length front) s.entry) ≡ put (components rest) mode id t)
inside_put es k path mode id s t front rest parts =
    let e : IndexEntry = s.entry in
    let (more, at, item) = stripped e.mode e.path front rest (s.path_is ∙ parts) in
    let cut : drop (length front) e.path ≡ more = ap (drop (length front)) at ∙ drop-append_seam front more in
    (λ h. (more, at), staged_put t (inside (length front) e) rest mode id s.staged (ap (path_of_item e.mode) cut ∙ item) s.mode_is s.id_is)

longer : (fs : List Frame) (name rest : List ℕ) → (folder_path fs ++ (name ++ 47 ∷ [])) ++ rest ≡ folder_path fs ++ (name ++ 47 ∷ rest)
longer fs name rest = append_assoc (folder_path fs) (name ++ 47 ∷ []) rest ∙ ap (λ (p : List ℕ). folder_path fs ++ p) (append_assoc name (47 ∷ []) rest)

pub runs_put : (es : List IndexEntry) (k : ℕ) (path : List ℕ) (mode : Mode) (id : ObjectId) → IsStaged es k path mode id → (fs : List Frame) (t : Items) (rest : List ℕ)
    → path ≡ folder_path fs ++ rest → AllByRecursion HasName fs → Runs es k fs t → Runs es (suc k) fs (put (components rest) mode id t)
runs_put es k path mode id s [] t rest parts named made =
    sym (staged_put t s.entry rest mode id s.staged (s.path_is ∙ parts) s.mode_is s.id_is)
    ∙ (ap (λ (u : Items). and_entry u s.entry) made ∙ (sym (and_more no_items (take k es) s.entry) ∙ ap (and_entries no_items) (sym s.next)))
runs_put es k path mode id s (f ∷ fs) t rest parts named made =
    let front : List ℕ = folder_path (f ∷ fs) in
    let here = inside_put es k path mode id s t front rest parts in
    let above = runs_put es k path mode id s fs (and_folder f.before f.name t) (f.name ++ 47 ∷ rest) (parts ∙ longer fs f.name rest) named.1 made.1 in (
      subst (IsRun es front f.first (suc k)) here.1 (run_more es front f.first k t s.entry s.next here.0 made.0),
      subst (Runs es (suc k) fs) (put_inside f rest mode id t named.0) above,
    )

-- An entry of `git add -N` changes nothing.
intended_passed : (t : Items) (e : IndexEntry) → is_intended e ≡ true → and_entry t e ≡ t
intended_passed t e intended = ap (λ (b : Bool). cond b t (put (components (path_of_item e.mode e.path)) e.mode e.id t)) intended

not_staged : (path : List ℕ) (e : IndexEntry) → is_intended e ≡ true → IsBelow path e
not_staged path e intended = λ staged. absurd (cc)

pub runs_pass : (es : List IndexEntry) (k : ℕ) (e : IndexEntry) (fs : List Frame) (t : Items) → take (suc k) es ≡ take k es ++ e ∷ [] → is_intended e ≡ true → Runs es k fs t → Runs es (suc k) fs t
runs_pass es k e [] t next intended made =
    made ∙ (sym (intended_passed (and_entries no_items (take k es)) e intended) ∙ (sym (and_more no_items (take k es) e) ∙ ap (and_entries no_items) (sym next)))
runs_pass es k e (f ∷ fs) t next intended made =
    let path : List ℕ = folder_path (f ∷ fs) in
    let more = run_more es path f.first k t e next (not_staged path e intended) made.0 in
    (subst (IsRun es path f.first (suc k)) (intended_passed t (inside (length path) e) intended) more, runs_pass es k e fs (and_folder f.before f.name t) next intended made.1)

-- A folder is opened with an entry that is to be put into it.
pub runs_open : (es : List IndexEntry) (k : ℕ) (path : List ℕ) (mode : Mode) (id : ObjectId) → IsStaged es k path mode id → k ≤ length es → (fs : List Frame) (t : Items) (rest name more : List ℕ)
    → path ≡ folder_path fs ++ rest → All (λ b. is_slash b ≡ false) name → rest ≡ name ++ 47 ∷ more → IsAfterLast rest [] t → Runs es (suc k) fs (put (components rest) mode id t)
    → Runs es (suc k) (record { first = k; before = t; name = name } ∷ fs) (put (components more) mode id no_items)
runs_open es k path mode id s within fs t rest name more at plain parts left made =
    let front : List ℕ = folder_path fs ++ (name ++ 47 ∷ []) in
    let below : path ≡ front ++ more = at ∙ (ap (λ (r : List ℕ). folder_path fs ++ r) parts ∙ sym (longer fs name more)) in
    let here = inside_put es k path mode id s no_items front more below in (
      subst (IsRun es front k (suc k)) here.1 (run_begins es front k s.entry s.next within s.staged here.0),
      subst (Runs es (suc k) fs) (put_new name more rest mode id t plain parts left) made,
    )

-- The number of the next entry is a number of entries.
pub next_within : (es : List IndexEntry) (k : ℕ) (e : IndexEntry) → take (suc k) es ≡ take k es ++ e ∷ [] → k ≤ length es → suc k ≤ length es
next_within es k e next within =
    omega (arith, ap length next, length-append (take k es) (e ∷ []), length-take-le k es within, length-take (suc k) es)
