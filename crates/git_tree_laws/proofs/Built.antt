-- The object of a tree that was made, and its parts.
use Rattle.std.proofs.Common.{◌≡◌, ◌≢◌, ◌≤◌, ℕ, zero, suc, ◌+◌, Bool, true, false, List, [], ◌∷◌, ◌++◌, map, All, inl, inr, ◌⊎◌, refl, sym, ◌∙◌, ap, subst, append_assoc, arith}
use Rattle.std.specs.List.{flat_map, AllByRecursion}
use Rattle.std.proofs.lemmas.List.{append-nil}
use Rattle.std.proofs.lemmas.List.Concat.{flat_map-cons}
use Rattle.std.proofs.lemmas.List.Elements.{All-from_recursion}
use Rattle.status_index.specs.declared.id.HashKind.{HashKind}
use Rattle.status_index.specs.declared.id.ObjectId.{ObjectId}
use Rattle.status_index.specs.declared.mode.Mode.{Mode}
use Rattle.status_index.specs.declared.mode.Mode.TheVariants.{Dir, File, FileExecutable, Symlink, Commit}
use Rattle.status_index.specs.BlobId.{id_bytes, id_kind}
use Rattle.status_index.specs.Entries.{IndexEntry}
use Rattle.git_objects.specs.declared.object.ObjectKind.TheVariants.{Tree}
use Rattle.git_objects.specs.declared.tree.TreeItem.{TreeItem}
use Rattle.git_objects.specs.Contents.{BeginsWith, IsOctal, octal_after}
use Rattle.git_objects.specs.Objects.{object_bytes}
use Rattle.git_objects.specs.Splits.{Lacks}
use Rattle.git_tree_laws.specs.Agreement.{AreWithin, IsId, IsMade, IsOfItem, IsOfParts, IsRead, file_of}
use Rattle.git_staged.specs.TreeFiles.{AreItems, IsItem, ItemOf, Known, Part, is_folder, tree_mode}
use Rattle.git_staged.specs.Trees.{Items, no_items, and_leaf, and_folder, item_bytes, octal_mode, tree_bytes, tree_id_of, tree_object_id}
use Rattle.git_tree_laws.proofs.Leaves.{Fit, leaves, path_in}
use Rattle.git_tree_laws.proofs.Parts.{AreParts, FileInTree, ReadTo, entries_of, item_of, no_folder}
use Rattle.git_tree_laws.proofs.Spelled.{digest_kind, digest_len, heads, mode_read, spelled}

octal_mode_octal : (mode : Mode) → All IsOctal (octal_mode mode)
octal_mode_octal Dir = All-from_recursion IsOctal (octal_mode Dir) ((omega arith, omega arith), ((omega arith, omega arith), ((omega arith, omega arith), ((omega arith, omega arith), ((omega arith, omega arith), tt)))))
octal_mode_octal File = All-from_recursion IsOctal (octal_mode File) ((omega arith, omega arith), ((omega arith, omega arith), ((omega arith, omega arith), ((omega arith, omega arith), ((omega arith, omega arith), ((omega arith, omega arith), tt))))))
octal_mode_octal FileExecutable = All-from_recursion IsOctal (octal_mode FileExecutable) ((omega arith, omega arith), ((omega arith, omega arith), ((omega arith, omega arith), ((omega arith, omega arith), ((omega arith, omega arith), ((omega arith, omega arith), tt))))))
octal_mode_octal Symlink = All-from_recursion IsOctal (octal_mode Symlink) ((omega arith, omega arith), ((omega arith, omega arith), ((omega arith, omega arith), ((omega arith, omega arith), ((omega arith, omega arith), ((omega arith, omega arith), tt))))))
octal_mode_octal Commit = All-from_recursion IsOctal (octal_mode Commit) ((omega arith, omega arith), ((omega arith, omega arith), ((omega arith, omega arith), ((omega arith, omega arith), ((omega arith, omega arith), ((omega arith, omega arith), tt))))))

abbrev an_item : Mode → List ℕ → ObjectId → TreeItem
an_item mode name id = record { mode = octal_after 0 (octal_mode mode); name = record { ref_ptr = (0, 0); now = name }; id = id }

begins : (kind : HashKind) (mode : Mode) (name : List ℕ) (id : ObjectId) (rest : List ℕ) → Lacks 0 name → IsId kind id → BeginsWith kind (item_bytes mode name id ++ rest) (an_item mode name id) rest
begins kind mode name id rest plain is = record {
  digits = octal_mode mode;
  bytes = spelled (octal_mode mode) name (id_bytes id) rest;
  octal = octal_mode_octal mode;
  mode = refl;
  name = plain;
  kind = is.0;
  id_len = is.1;
}

-- The id of a tree is whole.
tree_id_is : (kind : HashKind) (t : Items) → IsId kind (tree_id_of kind t)
tree_id_is kind t = let bytes : List ℕ = object_bytes Tree (tree_bytes kind t) in (digest_kind kind bytes, digest_len kind bytes)

-- Files without flags.
abbrev pub HaveNoFlags : List IndexEntry → Type 0
HaveNoFlags es = AllByRecursion (λ e. e.flags.0 ≡ 0) es

leaf_item : (F : Known) (path name : List ℕ) (mode : Mode) (id : ObjectId) (e : IndexEntry) → mode ≢ Dir → file_of e ≡ (path ++ name, mode, id) → e.flags.0 ≡ 0 → IsItem F path (an_item mode name id) (e ∷ [])
leaf_item F path name mode id e file is flags =
    let read : tree_mode (octal_after 0 (octal_mode mode)) ≡ mode = mode_read mode in
    let here : ItemOf F false (path ++ name) mode id (e ∷ []) =
    (e, refl, record { path_is = ap (λ (f : FileInTree). f.0) is; mode_is = ap (λ (f : FileInTree). f.1) is; id_is = ap (λ (f : FileInTree). f.2) is; flags = flags }) in
    subst (λ (m : Mode). ItemOf F (is_folder m) (path ++ name) m id (e ∷ [])) (sym read) (subst (λ (b : Bool). ItemOf F b (path ++ name) mode id (e ∷ [])) (sym (no_folder mode file)) here)

-- ---- the entries of its parts

-- Entries in two parts, by their files.
record Split (es : List IndexEntry) (xs ys : List FileInTree) : Type 0 where
  pub front : List IndexEntry
  pub back : List IndexEntry
  pub whole : es ≡ front ++ back
  pub front_is : map file_of front ≡ xs
  pub back_is : map file_of back ≡ ys
  pub front_flags : HaveNoFlags front
  pub back_flags : HaveNoFlags back

split_files : (es : List IndexEntry) (xs ys : List FileInTree) → map file_of es ≡ xs ++ ys → HaveNoFlags es → Split es xs ys
split_files es [] ys is flags = record { front = []; back = es; whole = refl; front_is = refl; back_is = is; front_flags = tt; back_flags = flags }
split_files [] (x ∷ xs) ys is flags = absurd (cc)
split_files (e ∷ es) (x ∷ xs) ys is flags =
    let both = heads (file_of e) x (map file_of es) (xs ++ ys) is in
    let s : Split es xs ys = split_files es xs ys both.1 flags.1 in
    record {
      front = e ∷ s.front;
      back = s.back;
      whole = ap (λ (l : List IndexEntry). e ∷ l) s.whole;
      front_is = ap (λ (l : List FileInTree). file_of e ∷ l) s.front_is ∙ ap (λ (f : FileInTree). f ∷ xs) both.0;
      back_is = s.back_is;
      front_flags = (flags.0, s.front_flags);
      back_flags = s.back_flags;
    }

-- At least as many folders as are within each other.
abbrev pub height : Items → ℕ
height no_items = 0
height (and_leaf t name mode id) = height t
height (and_folder t name inner) = height t + suc (height inner)

one_entry : (es : List IndexEntry) (x : FileInTree) → map file_of es ≡ x ∷ [] → HaveNoFlags es → (e : IndexEntry) × (es ≡ e ∷ []) × (file_of e ≡ x) × (e.flags.0 ≡ 0)
one_entry [] x is flags = absurd (cc)
one_entry (e ∷ []) x is flags = (e, refl, cc, flags.0)
one_entry (e ∷ (f ∷ es)) x is flags = absurd (cc)

-- ---- the parts of a tree that was made

-- The content of a folder within.
abbrev pub IsInside : HashKind → Items → List ℕ → Type 0
IsInside kind t content = (inner : Items) × AreWithin inner t × (content ≡ tree_bytes kind inner)

-- The parts of a tree that was made, before other parts.
pub record Built (kind : HashKind) (t : Items) (d : ℕ) (path : List ℕ) (es : List IndexEntry) (rest : List ℕ) (qs : List Part) (after : AreParts (ReadTo d) path qs) : Type 0 where
  pub parts : List Part
  pub items : AreItems kind (tree_bytes kind t ++ rest) (map item_of parts)
  pub each : AreParts (ReadTo d) path parts
  pub entries : es ++ flat_map entries_of qs ≡ flat_map entries_of parts
  pub only : (content : List ℕ) → IsOfParts (ReadTo d) (IsRead d) path parts each content → IsInside kind t content ⊎ IsOfParts (ReadTo d) (IsRead d) path qs after content

-- The object of a tree that was made.
pub made_tree : (kind : HashKind) (t : Items) (n : ℕ) (path : List ℕ) (es : List IndexEntry) → Built kind t n path es [] [] tt
    → (tree : ReadTo (suc n) (tree_id_of kind t) path es) × ((content : List ℕ) → IsRead (suc n) (tree_id_of kind t) path es tree content → IsMade kind t content)
made_tree kind t n path es b =
    let same : id_kind (tree_id_of kind t) ≡ kind = (tree_id_is kind t).0 in (
      inr (record {
        bytes = tree_bytes kind t;
        object = ap (λ (k : HashKind). tree_object_id k (tree_bytes kind t)) same;
        parts = b.parts;
        items = subst (λ (k : HashKind). AreItems k (tree_bytes kind t) (map item_of b.parts)) (sym same) (subst (λ (l : List ℕ). AreItems kind l (map item_of b.parts)) (append-nil (tree_bytes kind t)) b.items);
        each = b.each;
        entries = sym (append-nil es) ∙ b.entries;
      }),
      λ content. elim [ inl own ↦ (t, inl refl, own) | inr x ↦ inside content (b.only content x) ],
    )
  where
    inside : (content : List ℕ) → IsInside kind t content ⊎ ⊥ → IsMade kind t content
    inside content (inl x) = (x.0, inr x.1, x.2)
    inside content (inr never) = absurd never

-- The entries before other parts, with one part between.
entries_between : (es front back : List IndexEntry) (item : TreeItem) (qs parts : List Part) → es ≡ front ++ back → front ++ flat_map entries_of (record { item = item; entries = back } ∷ qs) ≡ flat_map entries_of parts
    → es ++ flat_map entries_of qs ≡ flat_map entries_of parts
entries_between es front back item qs parts whole rest =
    ap (λ (l : List IndexEntry). l ++ flat_map entries_of qs) whole
    ∙ (append_assoc front back (flat_map entries_of qs) ∙ (ap (λ (l : List IndexEntry). front ++ l) (sym (flat_map-cons entries_of (record { item = item; entries = back }) qs)) ∙ rest))

-- Nothing is read of a leaf.
leaf_unread : (d : ℕ) (b : Bool) (path : List ℕ) (mode : Mode) (id : ObjectId) (es : List IndexEntry) (is : ItemOf (ReadTo d) b path mode id es) (content : List ℕ) → b ≡ false
    → IsOfItem (ReadTo d) (IsRead d) b path mode id es is content → ⊥
leaf_unread d true path mode id es is content leaf x = absurd (cc)
leaf_unread d false path mode id es is content leaf x = x

pub build : (kind : HashKind) (t : Items) → Fit kind t → (path : List ℕ) (d : ℕ) → height t ≤ d → (es : List IndexEntry) → map file_of es ≡ leaves path t → HaveNoFlags es
    → (rest : List ℕ) (qs : List Part) → AreItems kind rest (map item_of qs) → (after : AreParts (ReadTo d) path qs) → Built kind t d path es rest qs after
build kind no_items fit path d low [] is flags rest qs items after = record { parts = qs; items = items; each = after; entries = refl; only = λ content x. inr x }
build kind no_items fit path d low (e ∷ es) is flags rest qs items after = absurd (cc)
build kind (and_leaf t name mode id) fit path d low es is flags rest qs items after =
    let s = split_files es (leaves path t) ((path ++ name, mode, id) ∷ []) is flags in
    let (e, one, file, plain) = one_entry s.back (path ++ name, mode, id) s.back_is s.back_flags in
    let item : TreeItem = an_item mode name id in
    let own : IsItem (ReadTo d) path item (e ∷ []) = leaf_item (ReadTo d) path name mode id e fit.2 file plain in
    let b = build kind t fit.0 path d low s.front s.front_is s.front_flags (item_bytes mode name id ++ rest) (record { item = item; entries = e ∷ [] } ∷ qs) (rest, begins kind mode name id rest fit.1 fit.3, items) (own, after) in
    record {
      parts = b.parts;
      items = subst (λ (l : List ℕ). AreItems kind l (map item_of b.parts)) (sym (append_assoc (tree_bytes kind t) (item_bytes mode name id) rest)) b.items;
      each = b.each;
      entries = entries_between es s.front (e ∷ []) item qs b.parts (s.whole ∙ ap (λ (l : List IndexEntry). s.front ++ l) one) b.entries;
      only = λ content x. leaf_only content (e ∷ []) own (b.only content x);
    }
  where
    leaf_only : (content : List ℕ) (f : List IndexEntry) (own : IsItem (ReadTo d) path (an_item mode name id) f)
        → IsInside kind t content ⊎ (IsOfItem (ReadTo d) (IsRead d) (is_folder (tree_mode (octal_after 0 (octal_mode mode)))) (path ++ name) (tree_mode (octal_after 0 (octal_mode mode))) id f own content ⊎ IsOfParts (ReadTo d) (IsRead d) path qs after content)
        → IsInside kind t content ⊎ IsOfParts (ReadTo d) (IsRead d) path qs after content
    leaf_only content f own (inl x) = inl x
    leaf_only content f own (inr (inl x)) =
        absurd (leaf_unread d (is_folder (tree_mode (octal_after 0 (octal_mode mode)))) (path ++ name) (tree_mode (octal_after 0 (octal_mode mode))) id f own content (ap is_folder (mode_read mode) ∙ no_folder mode fit.2) x)
    leaf_only content f own (inr (inr x)) = inr x
build kind (and_folder t name inner) fit path zero low es is flags rest qs items after = absurd (omega (arith, low))
build kind (and_folder t name inner) fit path (suc n) low es is flags rest qs items after =
    let id : ObjectId = tree_id_of kind inner in
    let item : TreeItem = an_item Dir name id in
    let s = split_files es (leaves path t) (leaves (path_in path name) inner) is flags in
    let folder = made_tree kind inner n (path_in path name) s.back (build kind inner fit.2 (path_in path name) n (omega (arith, low)) s.back s.back_is s.back_flags [] [] refl tt) in
    let b = build kind t fit.0 path (suc n) (omega (arith, low)) s.front s.front_is s.front_flags (item_bytes Dir name id ++ rest) (record { item = item; entries = s.back } ∷ qs)
    (rest, begins kind Dir name id rest fit.1 (tree_id_is kind inner), items) (folder.0, after) in
    record {
      parts = b.parts;
      items = subst (λ (l : List ℕ). AreItems kind l (map item_of b.parts)) (sym (append_assoc (tree_bytes kind t) (item_bytes Dir name id) rest)) b.items;
      each = b.each;
      entries = entries_between es s.front s.back item qs b.parts s.whole b.entries;
      only = λ content x. elim (b.only content x) [
        | inl y ↦ inl (y.0, inl y.1, y.2)
        | inr y ↦ elim y [ inl z ↦ inl (inside content (folder.1 content z)) | inr z ↦ inr z ]
      ];
    }
  where
    inside : (content : List ℕ) → IsMade kind inner content → IsInside kind (and_folder t name inner) content
    inside content (i, inl same, e) = (i, inr (inl same), e)
    inside content (i, inr within, e) = (i, inr (inr within), e)
