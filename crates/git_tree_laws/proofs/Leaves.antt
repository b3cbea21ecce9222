-- The files of items, in order.
use Rattle.std.proofs.Common.{◌≡◌, ◌≢◌, ◌≤◌, ◌<◌, ℕ, zero, suc, ◌+◌, Bool, true, false, cond, Option, None, Some, position, List, [], ◌∷◌, ◌++◌, length, take, drop, map, refl, sym, ◌∙◌, ap, subst, arith, append_assoc}
use Rattle.std.specs.List.{AllByRecursion}
use Rattle.std.specs.Str.{bytes_eq}
use Rattle.std.proofs.lemmas.List.{append-nil, length-append}
use Rattle.std.proofs.lemmas.List.Elements.{All-drop, All-take}
use Rattle.std.proofs.lemmas.Slice.Eq.{bytes_eq-Decides}
use Rattle.status_index.specs.declared.id.HashKind.{HashKind}
use Rattle.status_index.specs.declared.id.ObjectId.{ObjectId}
use Rattle.status_index.specs.declared.mode.Mode.{Mode}
use Rattle.status_index.specs.declared.mode.Mode.TheVariants.{Dir, File, FileExecutable, Symlink, Commit}
use Rattle.status_index.specs.declared.entry.TheConstants.Flags.{INTENT_TO_ADD}
use Rattle.status_index.specs.Entries.{IndexEntry}
use Rattle.status_index.specs.FlagBits.{has_bits}
use Rattle.git_objects.specs.Splits.{Lacks, is_byte}
use Rattle.git_tree_laws.specs.Agreement.{IsId, file_of}
use Rattle.git_staged.specs.Trees.{Items, no_items, and_leaf, and_folder, and_entries, and_entry, before_folder, in_folder, put, is_slash, components, path_of_item}
use Rattle.git_staged.proofs.Puts.{first_name, one_component, put_below}
use Rattle.git_tree_laws.proofs.Copies.{below}

-- The path of a folder's files, up to their own names.
abbrev pub path_in : List ℕ → List ℕ → List ℕ
path_in path name = (path ++ name) ++ 47 ∷ []

-- The files of items below a path.
abbrev pub leaves : List ℕ → Items → List (List ℕ × Mode × ObjectId)
leaves path no_items = []
leaves path (and_leaf items name mode id) = leaves path items ++ (path ++ name, mode, id) ∷ []
leaves path (and_folder items name inner) = leaves path items ++ leaves (path_in path name) inner

-- Items whose bytes can be read back.
abbrev pub Fit : HashKind → Items → Type 0
Fit kind no_items = Unit {0}
Fit kind (and_leaf items name mode id) = Fit kind items × Lacks 0 name × (mode ≢ Dir) × IsId kind id
Fit kind (and_folder items name inner) = Fit kind items × Lacks 0 name × Fit kind inner

-- ---- the last folder

last_leaves : (path name : List ℕ) (t : Items) → leaves path (before_folder name t) ++ leaves (path_in path name) (in_folder name t) ≡ leaves path t
last_leaves path name no_items = refl
last_leaves path name (and_leaf t other mode id) = append-nil (leaves path (and_leaf t other mode id))
last_leaves path name (and_folder t other inner) = by_test (bytes_eq other name) (bytes_eq-Decides other name).0
  where
    by_test : (b : Bool) → (b ≡ true → other ≡ name)
        → leaves path (cond b t (and_folder t other inner)) ++ leaves (path_in path name) (cond b inner no_items) ≡ leaves path (and_folder t other inner)
    by_test true same = ap (λ (n : List ℕ). leaves path t ++ leaves (path_in path n) inner) (sym (same refl))
    by_test false same = append-nil (leaves path (and_folder t other inner))

last_fit : (kind : HashKind) (name : List ℕ) (t : Items) → Fit kind t → Fit kind (before_folder name t) × Fit kind (in_folder name t)
last_fit kind name no_items h = (tt, tt)
last_fit kind name (and_leaf t other mode id) h = (h, tt)
last_fit kind name (and_folder t other inner) h = by_test (bytes_eq other name)
  where
    by_test : (b : Bool) → Fit kind (cond b t (and_folder t other inner)) × Fit kind (cond b inner no_items)
    by_test true = (h.0, h.2)
    by_test false = (h, tt)

-- ---- one more file

-- One more file was put below this path.
pub record OneMore (kind : HashKind) (rest : List ℕ) (mode : Mode) (id : ObjectId) (t u : Items) : Type 0 where
  pub fit : Fit kind u
  pub files : (path : List ℕ) → leaves path u ≡ leaves path t ++ (path ++ rest, mode, id) ∷ []

abbrev IsPut : HashKind → Mode → ObjectId → List ℕ → Type 0
IsPut kind mode id rest = Lacks 0 rest → (t : Items) → Fit kind t → OneMore kind rest mode id t (put (components rest) mode id t)

put_by : (kind : HashKind) (mode : Mode) (id : ObjectId) (rest : List ℕ) → mode ≢ Dir → IsId kind id → ((more : List ℕ) → length more < length rest → IsPut kind mode id more) → (at : Option ℕ) → position is_slash rest ≡ at → IsPut kind mode id rest
put_by kind mode id rest file is shorter None first plain t fit =
    subst (OneMore kind rest mode id t) (sym (ap (λ (cs : List (List ℕ)). put cs mode id t) (one_component rest first))) (record { fit = (fit, plain, file, is); files = λ path. refl })
put_by kind mode id rest file is shorter (Some at) first plain t fit =
    let found = first_name rest at first in
    let name : List ℕ = take at rest in
    let more : List ℕ = drop (at + 1) rest in
    let split : rest ≡ name ++ 47 ∷ more = found.1 in
    let last = last_fit kind name t fit in
    let placed : put (components rest) mode id t ≡ and_folder (before_folder name t) name (put (components more) mode id (in_folder name t)) =
    ap (λ (p : List ℕ). put (components p) mode id t) split ∙ put_below name more mode id t found.0 in
    let inner : OneMore kind more mode id (in_folder name t) (put (components more) mode id (in_folder name t)) =
    shorter more (omega (arith, ap length split, length-append name (47 ∷ more))) (All-drop (λ b. is_byte 0 b ≡ false) (at + 1) rest plain) (in_folder name t) last.1 in
    subst (OneMore kind rest mode id t) (sym placed) (record {
      fit = (last.0, All-take (λ b. is_byte 0 b ≡ false) at rest plain, inner.fit);
      files = λ path.
          let whole : path_in path name ++ more ≡ path ++ rest =
          append_assoc (path ++ name) (47 ∷ []) more ∙ (append_assoc path name (47 ∷ more) ∙ ap (λ (l : List ℕ). path ++ l) (sym split)) in
          ap (λ (l : List (List ℕ × Mode × ObjectId)). leaves path (before_folder name t) ++ l) (inner.files (path_in path name))
          ∙ (sym (append_assoc (leaves path (before_folder name t)) (leaves (path_in path name) (in_folder name t)) ((path_in path name ++ more, mode, id) ∷ []))
          ∙ (ap (λ (l : List (List ℕ × Mode × ObjectId)). l ++ (path_in path name ++ more, mode, id) ∷ []) (last_leaves path name t)
          ∙ ap (λ (p : List ℕ). leaves path t ++ (p, mode, id) ∷ []) whole));
    })

pub put_leaves : (n : ℕ) (kind : HashKind) (mode : Mode) (id : ObjectId) (rest : List ℕ) → length rest ≤ n → mode ≢ Dir → IsId kind id → IsPut kind mode id rest
put_leaves zero kind mode id rest len file is = put_by kind mode id rest file is (λ more less. absurd (omega (arith, less, len))) (position is_slash rest) refl
put_leaves (suc n) kind mode id rest len file is =
    put_by kind mode id rest file is (λ more less. put_leaves n kind mode id more (omega (arith, less, len)) file is) (position is_slash rest) refl

-- ---- all entries

file_path : (mode : Mode) (path : List ℕ) → mode ≢ Dir → path_of_item mode path ≡ path
file_path Dir path file = absurd (file refl)
file_path File path file = refl
file_path FileExecutable path file = refl
file_path Symlink path file = refl
file_path Commit path file = refl

-- An entry whose file is put into the tree.
pub record IsPlain (kind : HashKind) (e : IndexEntry) : Type 0 where
  pub path : Lacks 0 e.path
  pub file : e.mode ≢ Dir
  pub id : IsId kind e.id
  pub flags : e.flags.0 ≡ 0

entry_put : (kind : HashKind) (e : IndexEntry) (t : Items) → IsPlain kind e → Fit kind t → OneMore kind e.path e.mode e.id t (and_entry t e)
entry_put kind e t h fit =
    let kept : has_bits e.flags.0 INTENT_TO_ADD.0 ≡ false = ap (λ (n : ℕ). has_bits n INTENT_TO_ADD.0) h.flags in
    let placed : and_entry t e ≡ put (components e.path) e.mode e.id t =
    ap (λ (b : Bool). cond b t (put (components (path_of_item e.mode e.path)) e.mode e.id t)) kept ∙ ap (λ (p : List ℕ). put (components p) e.mode e.id t) (file_path e.mode e.path h.file) in
    subst (OneMore kind e.path e.mode e.id t) (sym placed) (put_leaves (length e.path) kind e.mode e.id e.path (omega arith) h.file h.id h.path t fit)

pub entries_leaves : (kind : HashKind) (es : List IndexEntry) (t : Items) → AllByRecursion (IsPlain kind) es → Fit kind t
    → Fit kind (and_entries t es) × ((path : List ℕ) → leaves path (and_entries t es) ≡ leaves path t ++ map file_of (map (below path) es))
entries_leaves kind [] t h fit = (fit, λ path. sym (append-nil (leaves path t)))
entries_leaves kind (e ∷ es) t h fit =
    let one : OneMore kind e.path e.mode e.id t (and_entry t e) = entry_put kind e t h.0 fit in
    let more = entries_leaves kind es (and_entry t e) h.1 one.fit in (
      more.0,
      λ path.
          more.1 path
          ∙ (ap (λ (l : List (List ℕ × Mode × ObjectId)). l ++ map file_of (map (below path) es)) (one.files path)
          ∙ append_assoc (leaves path t) ((path ++ e.path, e.mode, e.id) ∷ []) (map file_of (map (below path) es))),
    )
