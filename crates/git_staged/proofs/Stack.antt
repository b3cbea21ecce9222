-- The open folders after each step.
use Rattle.std.proofs.Common.{◌≡◌, ◌≢◌, ℕ, suc, ◌+◌, ◌<◌, ◌≤◌, true, false, List, [], ◌∷◌, ◌++◌, length, take, drop, Result, Ok, Err, OnOk, All, refl, sym, ◌∙◌, ap, subst, add-one, arith, append_assoc, if◌then◌else◌}
use Rattle.std.specs.Result.{is_ok}
use Rattle.std.specs.declared.alloc.AllocError.{AllocError}
use Rattle.std.proofs.lemmas.List.{same_from_push, length-append}
use Rattle.std.proofs.Math.Seq.{take-append_seam, drop-append_seam}
use Rattle.status_index.specs.declared.id.HashKind.{HashKind}
use Rattle.status_index.specs.declared.id.ObjectId.{ObjectId}
use Rattle.status_index.specs.declared.mode.Mode.{Mode}
use Rattle.status_index.specs.declared.mode.Mode.TheVariants.{Dir}
use Rattle.status_index.specs.BlobId.{id_bytes}
use Rattle.git_staged.specs.declared.builder.TreeBuilder.{TreeBuilder}
use Rattle.git_staged.specs.declared.builder.Mark.{Mark}
use Rattle.git_staged.specs.Trees.{Items, no_items, and_entries, and_leaf, and_folder, is_slash, item_start, item_bytes, tree_object_id, tree_bytes, tree_id_of, components, put}
use Rattle.status_index.specs.Entries.{IndexEntry}
use Rattle.std.proofs.lemmas.List.Elements.{All-push}
use Rattle.git_staged.specs.declared.builder.Folder.{Folder}
use Rattle.git_staged.specs.Letters.{is_intended}
use Rattle.git_staged.specs.Folders.{IsFolder, IsRun}
use Rattle.git_staged.specs.OpenFolders.{Frame, folder_path, open_bytes, marks_of, IsOpen, IsStack, IsStaged, IsAfterLast, HasNoLastFolder, Makes, Reaches, Runs}
use Rattle.git_staged.proofs.Runs.{runs_put, runs_pass, runs_open, next_within}

-- The mark of the innermost folder.
abbrev pub mark_of : HashKind → Frame → List Frame → Mark
mark_of kind f fs = record { first = f.first; path_len = length (folder_path fs); start = length (open_bytes kind (f ∷ fs)) }

-- If a mark is taken, then a folder is open, and the mark is the innermost one's.
pub popped : (kind : HashKind) (fs : List Frame) (rest : List Mark) (m : Mark) → marks_of kind fs ≡ rest ++ m ∷ []
    → (f : Frame) × (gs : List Frame) × (fs ≡ f ∷ gs) × (rest ≡ marks_of kind gs) × (m ≡ mark_of kind f gs)
popped kind [] rest m e = absurd (omega (arith, ap length e, length-append rest (m ∷ [])))
popped kind (f ∷ gs) rest m e = let p = same_from_push (marks_of kind gs) rest (mark_of kind f gs) m e in (f, gs, refl, sym p.0, sym p.1)

pub start_within : (kind : HashKind) (s : TreeBuilder) (fs : List Frame) (t : Items) (rest : List Mark) (m : Mark) → IsStack kind s fs t → s.marks.items ≡ rest ++ m ∷ [] → m.start ≤ length s.bytes.items
start_within kind s fs t rest m h e =
    let p = popped kind fs rest m (sym h.marks ∙ e) in
    let start : m.start ≡ length (open_bytes kind fs) = ap (λ (n : Mark). n.start) p.4 ∙ ap (λ (gs : List Frame). length (open_bytes kind gs)) (sym p.2) in
    omega (arith, start, ap length h.bytes, length-append (open_bytes kind fs) (tree_bytes kind t))

regroup : (a b c d : List ℕ) → ((a ++ b) ++ c) ++ d ≡ a ++ (b ++ (c ++ d))
regroup a b c d = simp append_assoc

-- The innermost folder is closed.
pub closed_folder : (kind : HashKind) (s new : TreeBuilder) (f : Frame) (fs : List Frame) (t : Items) (m : Mark) (id : ObjectId) (body : List ℕ) (r : Result (Unit {0}) AllocError) → IsStack kind s (f ∷ fs) t
    → s.marks.items ≡ new.marks.items ++ m ∷ [] → body ≡ drop m.start s.bytes.items → id ≡ tree_object_id kind body
    → new.bytes.items ≡ (if is_ok r then take m.start s.bytes.items ++ id_bytes id else take m.start s.bytes.items) → new.path.items ≡ take m.path_len s.path.items
    → OnOk r (IsStack kind new fs (and_folder f.before f.name t))
closed_folder kind s new f fs t m id body (Err u) h e d i b p = tt
closed_folder kind s new f fs t m id body (Ok u) h e d i b p =
    let O : List ℕ = open_bytes kind (f ∷ fs) in
    let B : List ℕ = tree_bytes kind t in
    let same = same_from_push (marks_of kind fs) new.marks.items (mark_of kind f fs) m (sym h.marks ∙ e) in
    let start : m.start ≡ length O = ap (λ (n : Mark). n.start) (sym same.1) in
    let len : m.path_len ≡ length (folder_path fs) = ap (λ (n : Mark). n.path_len) (sym same.1) in
    let front : take m.start s.bytes.items ≡ O = ap (λ (n : ℕ). take n s.bytes.items) start ∙ (ap (take (length O)) h.bytes ∙ take-append_seam O B) in
    let back : drop m.start s.bytes.items ≡ B = ap (λ (n : ℕ). drop n s.bytes.items) start ∙ (ap (drop (length O)) h.bytes ∙ drop-append_seam O B) in
    let whole_id : id_bytes id ≡ id_bytes (tree_object_id kind B) = ap id_bytes (i ∙ ap (tree_object_id kind) (d ∙ back)) in
    record {
      bytes = b ∙ (ap (λ (x : List ℕ). x ++ id_bytes id) front ∙ (ap (λ (x : List ℕ). O ++ x) whole_id ∙ regroup (open_bytes kind fs) (tree_bytes kind f.before) (item_start Dir f.name) (id_bytes (tree_object_id kind B))));
      path = p ∙ (ap (λ (n : ℕ). take n s.path.items) len ∙ (ap (take (length (folder_path fs))) h.path ∙ take-append_seam (folder_path fs) (f.name ++ 47 ∷ [])));
      marks = sym same.0;
      named = h.named.1;
    }

-- The folder that is closed is noted.
noted : (kind : HashKind) (es : List IndexEntry) (s : TreeBuilder) (f : Frame) (fs : List Frame) (t : Items) (rest : List Mark) (m : Mark) (number : ℕ) (id : ObjectId) (body : List ℕ) → IsStack kind s (f ∷ fs) t
    → Runs es number (f ∷ fs) t → number ≤ length es → s.marks.items ≡ rest ++ m ∷ [] → body ≡ drop m.start s.bytes.items → id ≡ tree_object_id kind body
    → IsFolder kind es (record { first = m.first; end = number; path_len = length s.path.items; id = id })
noted kind es s f fs t rest m number id body h runs within e d i =
    let O : List ℕ = open_bytes kind (f ∷ fs) in
    let B : List ℕ = tree_bytes kind t in
    let same = same_from_push (marks_of kind fs) rest (mark_of kind f fs) m (sym h.marks ∙ e) in
    let start : m.start ≡ length O = ap (λ (n : Mark). n.start) (sym same.1) in
    let first : f.first ≡ m.first = ap (λ (n : Mark). n.first) same.1 in
    let back : drop m.start s.bytes.items ≡ B = ap (λ (n : ℕ). drop n s.bytes.items) start ∙ (ap (drop (length O)) h.bytes ∙ drop-append_seam O B) in
    record {
      path = folder_path (f ∷ fs);
      len = ap length (sym h.path);
      items = t;
      run = subst (λ (n : ℕ). IsRun es (folder_path (f ∷ fs)) n number t) first runs.0;
      within = within;
      id = i ∙ ap (tree_object_id kind) (d ∙ back);
    }

pub all_noted : (kind : HashKind) (es : List IndexEntry) (s : TreeBuilder) (f : Frame) (fs : List Frame) (t : Items) (rest : List Mark) (m : Mark) (number : ℕ) (id : ObjectId) (body : List ℕ) (after : List Folder) (r : Result (Unit {0}) AllocError)
    → IsStack kind s (f ∷ fs) t → Runs es number (f ∷ fs) t → number ≤ length es → s.marks.items ≡ rest ++ m ∷ [] → body ≡ drop m.start s.bytes.items → id ≡ tree_object_id kind body
    → after ≡ s.folders.items ++ record { first = m.first; end = number; path_len = length s.path.items; id = id } ∷ [] → All (IsFolder kind es) s.folders.items → OnOk r (All (IsFolder kind es) after)
all_noted kind es s f fs t rest m number id body after (Err u) h runs within e d i a all = tt
all_noted kind es s f fs t rest m number id body after (Ok u) h runs within e d i a all =
    subst (All (IsFolder kind es)) (sym a) (All-push (IsFolder kind es) s.folders.items _ all (noted kind es s f fs t rest m number id body h runs within e d i))

pub still_open : (kind : HashKind) (es : List IndexEntry) (number : ℕ) (old new : TreeBuilder) (f : Frame) (fs : List Frame) (t : Items) → IsStack kind new fs (and_folder f.before f.name t)
    → All (IsFolder kind es) new.folders.items → IsOpen kind es number old (f ∷ fs) t → IsOpen kind es number new fs (and_folder f.before f.name t)
still_open kind es number old new f fs t stack folders h = record { stack = stack; runs = h.runs.1; folders = folders; within = h.within }

-- Closing the innermost folder of one builder leaves the other.
abbrev pub Closes : HashKind → List IndexEntry → ℕ → TreeBuilder → TreeBuilder → Type 0
Closes kind es number old new = (f : Frame) (fs : List Frame) (t : Items) → IsOpen kind es number old (f ∷ fs) t → IsOpen kind es number new fs (and_folder f.before f.name t)

-- ---- closing the folders that don't contain a path

pub some_open : (kind : HashKind) (s : TreeBuilder) (path : List ℕ) (fs : List Frame) (t : Items) → IsStack kind s fs t → ((rest : List ℕ) → path ≢ s.path.items ++ rest) → 0 < length s.marks.items
some_open kind s path [] t h outside = absurd (outside path (ap (λ (p : List ℕ). p ++ path) (sym h.path)))
some_open kind s path (f ∷ fs) t h outside = omega (arith, ap length h.marks, length-append (marks_of kind fs) (mark_of kind f fs ∷ []))

pub closed_other : (kind : HashKind) (es : List IndexEntry) (number : ℕ) (old new : TreeBuilder) (path : List ℕ) (fs : List Frame) (t : Items) → IsOpen kind es number old fs t
    → ((rest : List ℕ) → path ≢ old.path.items ++ rest) → Closes kind es number old new → Makes kind es number new (IsAfterLast path)
closed_other kind es number old new path [] t h outside closed = absurd (outside path (ap (λ (p : List ℕ). p ++ path) (sym h.stack.path)))
closed_other kind es number old new path (f ∷ fs) t h outside closed =
    (fs, and_folder f.before f.name t, closed f fs t h, λ rest e. outside rest (e ∙ ap (λ (p : List ℕ). p ++ rest) (sym h.stack.path)))

-- ---- the components of the path are passed

-- The path's rest is to be put into the innermost folder, and not into its last item.
pub record PutsRest (kind : HashKind) (es : List IndexEntry) (number : ℕ) (s : TreeBuilder) (path rest : List ℕ) (mode : Mode) (id : ObjectId) : Type 0 where
  pub frames : List Frame
  pub items : Items
  pub stack : IsStack kind s frames items
  pub folders : All (IsFolder kind es) s.folders.items
  pub within : number ≤ length es
  pub left : IsAfterLast rest [] items
  pub at : path ≡ folder_path frames ++ rest
  pub runs : Runs es (suc number) frames (put (components rest) mode id items)

left_inside : (path rest : List ℕ) (fs : List Frame) (t : Items) → path ≡ folder_path fs ++ rest → IsAfterLast path fs t → IsAfterLast rest [] t
left_inside path rest fs no_items e left = tt
left_inside path rest fs (and_leaf t name mode id) e left = tt
left_inside path rest fs (and_folder t name items) e left = λ more same.
    left more (e ∙ (ap (λ (r : List ℕ). folder_path fs ++ r) same ∙ sym (append_assoc (folder_path fs) (name ++ 47 ∷ []) more)))

pub reached : (kind : HashKind) (es : List IndexEntry) (number : ℕ) (s : TreeBuilder) (path rest : List ℕ) (mode : Mode) (id : ObjectId) → IsStaged es number path mode id → Reaches kind es number s path rest
    → PutsRest kind es number s path rest mode id
reached kind es number s path rest mode id staged (fs, t, h, (left, e)) = record {
  frames = fs;
  items = t;
  stack = h.stack;
  folders = h.folders;
  within = h.within;
  left = left_inside path rest fs t e left;
  at = e;
  runs = runs_put es number path mode id staged fs t rest e h.stack.named h.runs;
}

-- A folder is opened.
pub opened : (kind : HashKind) (es : List IndexEntry) (number : ℕ) (old new : TreeBuilder) (path rest name more : List ℕ) (mode : Mode) (id : ObjectId) → IsStaged es number path mode id
    → PutsRest kind es number old path rest mode id → All (λ b. is_slash b ≡ false) name → rest ≡ name ++ 47 ∷ more
    → ((fs : List Frame) (t : Items) → IsStack kind old fs t → IsStack kind new (record { first = number; before = t; name = name } ∷ fs) no_items) → new.folders.items ≡ old.folders.items
    → PutsRest kind es number new path more mode id
opened kind es number old new path rest name more mode id staged h plain e after same = record {
  frames = record { first = number; before = h.items; name = name } ∷ h.frames;
  items = no_items;
  stack = after h.frames h.items h.stack;
  folders = subst (All (IsFolder kind es)) (sym same) h.folders;
  within = h.within;
  left = tt;
  at = h.at ∙ (ap (λ (r : List ℕ). folder_path h.frames ++ r) e ∙ sym (append_assoc (folder_path h.frames) (name ++ 47 ∷ []) more ∙ ap (λ (p : List ℕ). folder_path h.frames ++ p) (append_assoc name (47 ∷ []) more)));
  runs = runs_open es number path mode id staged h.within h.frames h.items rest name more h.at plain e h.left h.runs;
}

-- Without a slash the rest is the leaf's name.
pub leaf_put : (kind : HashKind) (es : List IndexEntry) (number : ℕ) (old new : TreeBuilder) (path rest : List ℕ) (mode : Mode) (id : ObjectId) (r : Result (Unit {0}) AllocError) → IsStaged es number path mode id
    → PutsRest kind es number old path rest mode id → components rest ≡ rest ∷ [] → new.path.items ≡ old.path.items → new.marks.items ≡ old.marks.items → new.folders.items ≡ old.folders.items
    → OnOk r (new.bytes.items ≡ old.bytes.items ++ item_bytes mode rest id) → OnOk r (Makes kind es (number + 1) new HasNoLastFolder)
leaf_put kind es number old new path rest mode id (Err u) staged h one p m same b = tt
leaf_put kind es number old new path rest mode id (Ok u) staged h one p m same b =
    let placed : put (components rest) mode id h.items ≡ and_leaf h.items rest mode id = ap (λ (cs : List (List ℕ)). put cs mode id h.items) one in
    subst (λ (n : ℕ). Makes kind es n new HasNoLastFolder) (sym (add-one number)) (
      h.frames,
      and_leaf h.items rest mode id,
      record {
        stack = record {
          bytes = b ∙ (ap (λ (x : List ℕ). x ++ item_bytes mode rest id) h.stack.bytes ∙ append_assoc (open_bytes kind h.frames) (tree_bytes kind h.items) (item_bytes mode rest id));
          path = p ∙ h.stack.path;
          marks = m ∙ h.stack.marks;
          named = h.stack.named;
        };
        runs = subst (Runs es (suc number) h.frames) placed h.runs;
        folders = subst (All (IsFolder kind es)) (sym same) h.folders;
        within = next_within es number staged.entry staged.next h.within;
      },
      λ path. tt,
    )

-- An entry of `git add -N` isn't put.
pub passed : (kind : HashKind) (es : List IndexEntry) (number : ℕ) (s : TreeBuilder) (e : IndexEntry) → take (suc number) es ≡ take number es ++ e ∷ [] → is_intended e ≡ true
    → Makes kind es number s HasNoLastFolder → Makes kind es (number + 1) s HasNoLastFolder
passed kind es number s e next intended (fs, t, h, left) = subst (λ (n : ℕ). Makes kind es n s HasNoLastFolder) (sym (add-one number)) (
  fs,
  t,
  record { stack = h.stack; runs = runs_pass es number e fs t next intended h.runs; folders = h.folders; within = next_within es number e next h.within },
  left,
)

-- ---- closing all folders

pub closed_last : (kind : HashKind) (es : List IndexEntry) (number : ℕ) (old new : TreeBuilder) (fs : List Frame) (t : Items) → IsOpen kind es number old fs t → 0 < length old.marks.items
    → Closes kind es number old new → Makes kind es number new (λ gs u. Unit {0})
closed_last kind es number old new [] t h some closed = absurd (omega (arith, ap length h.stack.marks))
closed_last kind es number old new (f ∷ fs) t h some closed = (fs, and_folder f.before f.name t, closed f fs t h, tt)

pub all_closed : (kind : HashKind) (es : List IndexEntry) (number : ℕ) (s : TreeBuilder) (fs : List Frame) (t : Items) → IsOpen kind es number s fs t → length s.marks.items ≡ 0
    → tree_object_id kind s.bytes.items ≡ tree_id_of kind (and_entries no_items (take number es))
all_closed kind es number s [] t h none = ap (tree_object_id kind) h.stack.bytes ∙ ap (tree_id_of kind) h.runs
all_closed kind es number s (f ∷ fs) t h none = absurd (omega (arith, ap length h.stack.marks, length-append (marks_of kind fs) (mark_of kind f fs ∷ [])))
