-- Whoever reads a tree finds the same files.
use Rattle.std.proofs.Common.{◌≡◌, ◌≢◌, ℕ, zero, suc, Bool, true, false, List, [], ◌∷◌, ◌++◌, map, inl, inr, ◌⊎◌, refl, sym, ◌∙◌, ap, subst}
use Rattle.std.specs.Str.{bytes_eq}
use Rattle.std.proofs.lemmas.Slice.Eq.{bytes_eq-Decides}
use Rattle.status_index.specs.declared.id.HashKind.{HashKind}
use Rattle.status_index.specs.declared.id.ObjectId.{ObjectId}
use Rattle.status_index.specs.declared.entry.Flags.{Flags}
use Rattle.status_index.specs.declared.mode.Mode.{Mode}
use Rattle.status_index.specs.BlobId.{id_bytes, id_kind}
use Rattle.status_index.specs.Entries.{IndexEntry}
use Rattle.git_objects.specs.declared.tree.TreeItem.{TreeItem}
use Rattle.git_objects.specs.Contents.{BeginsWith, octal_after}
use Rattle.git_tree_laws.specs.Agreement.{HeadIsReadLaw, HeadIsReadableLaw, IsMade, IsOfItem, IsOfParts, IsRead, SameFiles, WrittenIsReadLaw, file_of}
use Rattle.git_staged.specs.Folders.{copies}
use Rattle.git_staged.specs.TreeFiles.{AreItems, HasItems, ItemOf, Part, is_folder, tree_mode}
use Rattle.git_staged.specs.Trees.{and_entries, no_items, tree_object_id}
use Rattle.git_staged.proofs.FolderRuns.{index_written, inside_top}
use Rattle.git_tree_laws.proofs.Copies.{copied_files}
use Rattle.git_tree_laws.proofs.Parts.{AreParts, FileInTree, ReadTo, as_file, files_first, files_of, item_of}
use Rattle.git_tree_laws.proofs.Readable.{head_readable}
use Rattle.git_tree_laws.proofs.Spelled.{no_item, no_space, one_split, same_ids}

-- ---- one item

-- The same first item, and the same bytes after it.
record SameItem (a b : TreeItem) (r s : List ℕ) : Type 0 where
  pub mode : a.mode ≡ b.mode
  pub name : a.name.now ≡ b.name.now
  pub id : a.id ≡ b.id
  pub rest : r ≡ s

two_items : (kind : HashKind) (bytes : List ℕ) (a b : TreeItem) (r s : List ℕ) → BeginsWith kind bytes a r → BeginsWith kind bytes b s → SameItem a b r s
two_items kind bytes a b r s p q =
    let first = one_split 32 p.digits q.digits (a.name.now ++ 0 ∷ (id_bytes a.id ++ r)) (b.name.now ++ 0 ∷ (id_bytes b.id ++ s)) (no_space p.digits p.octal) (no_space q.digits q.octal) (sym p.bytes ∙ q.bytes) in
    let second = one_split 0 a.name.now b.name.now (id_bytes a.id ++ r) (id_bytes b.id ++ s) p.name q.name first.1 in
    let third = same_ids a.id b.id r s (p.kind ∙ sym q.kind) (p.id_len ∙ sym q.id_len) second.1 in
    record { mode = sym p.mode ∙ (ap (octal_after 0) first.0 ∙ q.mode); name = second.0; id = third.0; rest = third.1 }

-- Two contents collide, one of each side.
abbrev Clash : HashKind → (IsOne IsOther : List ℕ → Type 0) → Type 0 → Type 0
Clash kind IsOne IsOther C = (one other : List ℕ) → IsOne one → IsOther other → one ≢ other → tree_object_id kind one ≡ tree_object_id kind other → C

-- Two readings of a tree have the same files.
abbrev Agree : HashKind → ℕ → ℕ → Type 0 → Type 0
Agree kind d n C = (id other : ObjectId) (path way : List ℕ) (es fs : List IndexEntry) → id ≡ other → path ≡ way → id_kind id ≡ kind → (a : ReadTo d id path es) (b : ReadTo n other way fs)
    → Clash kind (IsRead d id path es a) (IsRead n other way fs b) C → SameFiles es fs ⊎ C

item_agrees : (kind : HashKind) (d n : ℕ) (C : Type 0) → Agree kind d n C → (b c : Bool) → b ≡ c → (path way : List ℕ) → path ≡ way → (mode m : Mode) → mode ≡ m → (id other : ObjectId) → id ≡ other → id_kind id ≡ kind
    → (es fs : List IndexEntry) (i : ItemOf (ReadTo d) b path mode id es) (j : ItemOf (ReadTo n) c way m other fs)
    → Clash kind (IsOfItem (ReadTo d) (IsRead d) b path mode id es i) (IsOfItem (ReadTo n) (IsRead n) c way m other fs j) C → SameFiles es fs ⊎ C
item_agrees kind d n C agree true true _ path way there mode m same id other is k es fs i j clash =
    agree id other (path ++ 47 ∷ []) (way ++ 47 ∷ []) es fs is (ap (λ (p : List ℕ). p ++ 47 ∷ []) there) k i j clash
item_agrees kind d n C agree false false _ path way there mode m same id other is k es fs (e, one, f) (x, only, g) clash =
    let file : file_of e ≡ file_of x = as_file (f.path_is ∙ (there ∙ sym g.path_is)) (f.mode_is ∙ (same ∙ sym g.mode_is)) (f.id_is ∙ (is ∙ sym g.id_is)) in
    inl (ap (map file_of) one ∙ (ap (λ (y : FileInTree). y ∷ []) file ∙ sym (ap (map file_of) only)))
item_agrees kind d n C agree true false e path way there mode m same id other is k es fs i j clash = absurd (cc)
item_agrees kind d n C agree false true e path way there mode m same id other is k es fs i j clash = absurd (cc)

-- ---- all items

parts_agree : (kind : HashKind) (d n : ℕ) (C : Type 0) → Agree kind d n C → (path way : List ℕ) → path ≡ way → (bytes : List ℕ) (ps qs : List Part) → AreItems kind bytes (map item_of ps) → AreItems kind bytes (map item_of qs)
    → (a : AreParts (ReadTo d) path ps) (b : AreParts (ReadTo n) way qs)
    → Clash kind (IsOfParts (ReadTo d) (IsRead d) path ps a) (IsOfParts (ReadTo n) (IsRead n) way qs b) C → (files_of ps ≡ files_of qs) ⊎ C
parts_agree kind d n C agree path way there bytes [] [] items others a b clash = inl refl
parts_agree kind d n C agree path way there bytes [] (q ∷ qs) items (s, begins, others) a b clash = absurd (no_item kind q.item s (subst (λ (l : List ℕ). BeginsWith kind l q.item s) items begins))
parts_agree kind d n C agree path way there bytes (p ∷ ps) [] (r, begins, items) others a b clash = absurd (no_item kind p.item r (subst (λ (l : List ℕ). BeginsWith kind l p.item r) others begins))
parts_agree kind d n C agree path way there bytes (p ∷ ps) (q ∷ qs) (r, begins, items) (s, starts, others) a b clash =
    let same = two_items kind bytes p.item q.item r s begins starts in
    let mode : tree_mode p.item.mode ≡ tree_mode q.item.mode = ap tree_mode same.mode in
    let here : path ++ p.item.name.now ≡ way ++ q.item.name.now = ap (λ (l : List ℕ). l ++ p.item.name.now) there ∙ ap (λ (l : List ℕ). way ++ l) same.name in
    elim (item_agrees kind d n C agree (is_folder (tree_mode p.item.mode)) (is_folder (tree_mode q.item.mode)) (ap is_folder mode) (path ++ p.item.name.now) (way ++ q.item.name.now) here (tree_mode p.item.mode) (tree_mode q.item.mode) mode
    p.item.id q.item.id same.id begins.kind p.entries q.entries a.0 b.0 (λ one other x y. clash one other (inl x) (inl y))) [
      | inl one ↦ elim (parts_agree kind d n C agree path way there r ps qs items (subst (λ (l : List ℕ). AreItems kind l (map item_of qs)) (sym same.rest) others) a.1 b.1 (λ c e x y. clash c e (inr x) (inr y))) [
        | inl more ↦ inl (files_first p ps ∙ (ap (λ (l : List FileInTree). l ++ files_of ps) one ∙ (ap (λ (l : List FileInTree). map file_of q.entries ++ l) more ∙ sym (files_first q qs))))
        | inr c ↦ inr c
      ]
      | inr c ↦ inr c
    ]

by_bytes : (kind : HashKind) (d n : ℕ) (C : Type 0) → Agree kind d n C → (id other : ObjectId) (path way : List ℕ) (es fs : List IndexEntry) → id ≡ other → path ≡ way → id_kind id ≡ kind
    → (a : HasItems (ReadTo d) id path es) (b : HasItems (ReadTo n) other way fs)
    → Clash kind (λ c. (c ≡ a.bytes) ⊎ IsOfParts (ReadTo d) (IsRead d) path a.parts a.each c) (λ c. (c ≡ b.bytes) ⊎ IsOfParts (ReadTo n) (IsRead n) way b.parts b.each c) C
    → (t : Bool) → (t ≡ true → a.bytes ≡ b.bytes) → (a.bytes ≡ b.bytes → t ≡ true) → SameFiles es fs ⊎ C
by_bytes kind d n C agree id other path way es fs same there k a b clash true equal whole =
    let items : AreItems kind b.bytes (map item_of a.parts) = subst (λ (l : List ℕ). AreItems kind l (map item_of a.parts)) (equal refl) (subst (λ (h : HashKind). AreItems h a.bytes (map item_of a.parts)) k a.items) in
    let others : AreItems kind b.bytes (map item_of b.parts) = subst (λ (h : HashKind). AreItems h b.bytes (map item_of b.parts)) (ap id_kind (sym same) ∙ k) b.items in
    elim (parts_agree kind d n C agree path way there b.bytes a.parts b.parts items others a.each b.each (λ c e x y. clash c e (inr x) (inr y))) [
      | inl files ↦ inl (ap (map file_of) a.entries ∙ (files ∙ sym (ap (map file_of) b.entries)))
      | inr c ↦ inr c
    ]
by_bytes kind d n C agree id other path way es fs same there k a b clash false equal whole =
    let one : tree_object_id kind a.bytes ≡ id = ap (λ (h : HashKind). tree_object_id h a.bytes) (sym k) ∙ a.object in
    let two : tree_object_id kind b.bytes ≡ other = ap (λ (h : HashKind). tree_object_id h b.bytes) (sym k ∙ ap id_kind same) ∙ b.object in
    inr (clash a.bytes b.bytes (inl refl) (inl refl) (λ e. no_true (whole e)) (one ∙ (same ∙ sym two)))
  where
    no_true : false ≢ true
    no_true e = absurd (cc)

read_agrees : (kind : HashKind) (d n : ℕ) (C : Type 0) → Agree kind d n C
read_agrees kind zero n C id other path way es fs same there k never b clash = absurd never
read_agrees kind (suc d) zero C id other path way es fs same there k a never clash = absurd never
read_agrees kind (suc d) (suc n) C id other path way es fs same there k (inl never) b clash = absurd never
read_agrees kind (suc d) (suc n) C id other path way es fs same there k (inr a) (inl never) clash = absurd never
read_agrees kind (suc d) (suc n) C id other path way es fs same there k (inr a) (inr b) clash =
    let decides = bytes_eq-Decides a.bytes b.bytes in
    by_bytes kind d n C (read_agrees kind d n C) id other path way es fs same there k a b clash (bytes_eq a.bytes b.bytes) decides.0 decides.1

-- ---- the laws

pub head_is_readable : (index : List IndexEntry) (id : ObjectId) (es : List IndexEntry) → HeadIsReadableLaw index id es
head_is_readable index id es files ids (depth, h) = let r = head_readable index (id_kind id) files ids depth id [] es refl h in (r.depth, r.tree)

pub head_is_read : (index : List IndexEntry) (id : ObjectId) (es fs : List IndexEntry) → HeadIsReadLaw index id es fs
head_is_read index id es fs files ids (depth, h) (n, b) =
    let r = head_readable index (id_kind id) files ids depth id [] es refl h in
    read_agrees (id_kind id) r.depth n _ id id [] [] es fs refl refl refl r.tree b (λ one other x y differ same. record { one = one; other = other; is_one = r.only one x; is_other = y; differ = differ; same = same })

pub written_is_read : (index : List IndexEntry) (id : ObjectId) (fs : List IndexEntry) → WrittenIsReadLaw index id fs
written_is_read index id fs files ids makes read =
    let plain : Flags = record { 0 = 0 } in
    let kind : HashKind = id_kind id in
    elim (head_is_read index id (copies plain index) fs files ids (1, inl (index_written kind plain id index refl refl makes)) read) [
      | inl same ↦ inl (sym (copied_files plain index) ∙ same)
      | inr c ↦ inr (record {
        one = c.one;
        other = c.other;
        is_one = subst (λ (l : List IndexEntry). IsMade kind (and_entries no_items l) c.one) (inside_top index) c.is_one;
        is_other = c.is_other;
        differ = c.differ;
        same = c.same;
      })
    ]
