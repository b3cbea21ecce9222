-- A tree that was made of entries can be read.
use Rattle.std.proofs.Common.{◌≡◌, ◌≢◌, ◌≤◌, ℕ, zero, suc, ◌+◌, Bool, true, false, List, [], ◌∷◌, ◌++◌, length, map, All, inl, inr, refl, sym, ◌∙◌, ap, subst, arith}
use Rattle.std.specs.List.{AllByRecursion}
use Rattle.std.proofs.lemmas.List.Elements.{All-drop, All-head, All-tail, All-take}
use Rattle.std.proofs.Math.Seq.{drop-append_seam, take-append_seam}
use Rattle.status_index.specs.declared.entry.Flags.{Flags}
use Rattle.status_index.specs.declared.id.HashKind.{HashKind}
use Rattle.status_index.specs.declared.id.ObjectId.{ObjectId}
use Rattle.status_index.specs.declared.mode.Mode.{Mode}
use Rattle.status_index.specs.declared.mode.Mode.TheVariants.{Dir}
use Rattle.status_index.specs.BlobId.{id_kind}
use Rattle.status_index.specs.Entries.{IndexEntry}
use Rattle.git_objects.specs.Splits.{Lacks, is_byte}
use Rattle.git_tree_laws.specs.Agreement.{AreFiles, ContentOf, HaveIds, IsFound, IsId, IsMade, IsOfItem, IsOfParts, IsRead, file_of}
use Rattle.git_staged.specs.Folders.{copies, inside, with_flags}
use Rattle.git_staged.specs.Staged.{IsWritten}
use Rattle.git_staged.specs.TreeFiles.{AreItems, HasFiles, ItemOf, Known, Part, is_folder, tree_mode}
use Rattle.git_staged.specs.Trees.{Items, no_items, and_entries, tree_id_of}
use Rattle.git_tree_laws.proofs.Built.{HaveNoFlags, build, height, made_tree}
use Rattle.git_tree_laws.proofs.Copies.{all_plain, below, copies_hold, copies_make, placed_back}
use Rattle.git_tree_laws.proofs.Deeper.{deeper, deeper_kept, each_deeper, each_kept, item_deeper, item_kept}
use Rattle.git_tree_laws.proofs.Leaves.{Fit, IsPlain, entries_leaves, leaves}
use Rattle.git_tree_laws.proofs.Parts.{AreParts, ReadTo, item_of}

-- Files that can be read, of contents of which this holds.
pub record Readable (P : List ℕ → Type 0) (id : ObjectId) (path : List ℕ) (es : List IndexEntry) : Type 0 where
  pub depth : ℕ
  pub tree : ReadTo depth id path es
  pub only : (content : List ℕ) → IsRead depth id path es tree content → P content

-- ---- the folders of a tree

-- Files that were found can be read.
abbrev CanRead : HashKind → (F : Known) → ContentOf F → Type 0
CanRead kind F of = (id : ObjectId) (path : List ℕ) (es : List IndexEntry) → id_kind id ≡ kind → (x : F id path es) → Readable (of id path es x) id path es

-- An item whose folder can be read.
record ReadableItem (F : Known) (of : ContentOf F) (b : Bool) (path : List ℕ) (mode : Mode) (id : ObjectId) (es : List IndexEntry) (is : ItemOf F b path mode id es) : Type 0 where
  pub depth : ℕ
  pub item : ItemOf (ReadTo depth) b path mode id es
  pub only : (content : List ℕ) → IsOfItem (ReadTo depth) (IsRead depth) b path mode id es item content → IsOfItem F of b path mode id es is content

item_readable : (kind : HashKind) (F : Known) (of : ContentOf F) → CanRead kind F of → (b : Bool) (path : List ℕ) (mode : Mode) (id : ObjectId) (es : List IndexEntry) → id_kind id ≡ kind
    → (is : ItemOf F b path mode id es) → ReadableItem F of b path mode id es is
item_readable kind F of can true path mode id es same is = let r = can id (path ++ 47 ∷ []) es same is in record { depth = r.depth; item = r.tree; only = r.only }
item_readable kind F of can false path mode id es same is = record { depth = 0; item = is; only = λ content x. x }

record ReadableParts (F : Known) (of : ContentOf F) (path : List ℕ) (ps : List Part) (before : AreParts F path ps) : Type 0 where
  pub depth : ℕ
  pub each : AreParts (ReadTo depth) path ps
  pub only : (content : List ℕ) → IsOfParts (ReadTo depth) (IsRead depth) path ps each content → IsOfParts F of path ps before content

gather : (kind : HashKind) (F : Known) (of : ContentOf F) → CanRead kind F of → (path bytes : List ℕ) (ps : List Part) → AreItems kind bytes (map item_of ps) → (before : AreParts F path ps)
    → ReadableParts F of path ps before
gather kind F of can path bytes [] items before = record { depth = 0; each = tt; only = λ content x. x }
gather kind F of can path bytes (p ∷ ps) (r, begin, items) before =
    let b : Bool = is_folder (tree_mode p.item.mode) in
    let way : List ℕ = path ++ p.item.name.now in
    let mode : Mode = tree_mode p.item.mode in
    let one = item_readable kind F of can b way mode p.item.id p.entries begin.kind before.0 in
    let more = gather kind F of can path r ps items before.1 in
    let d : ℕ = one.depth + more.depth in
    let low : one.depth ≤ d = omega arith in
    let high : more.depth ≤ d = omega arith in
    record {
      depth = d;
      each = (item_deeper (ReadTo one.depth) (ReadTo d) (deeper one.depth d low) b way mode p.item.id p.entries one.item, each_deeper (ReadTo more.depth) (ReadTo d) (deeper more.depth d high) path ps more.each);
      only = λ content. elim [
        | inl x ↦ inl (one.only content (item_kept (ReadTo one.depth) (ReadTo d) (IsRead one.depth) (IsRead d) (deeper one.depth d low) (deeper_kept one.depth d low) b way mode p.item.id p.entries one.item content x))
        | inr x ↦ inr (more.only content (each_kept (ReadTo more.depth) (ReadTo d) (IsRead more.depth) (IsRead d) (deeper more.depth d high) (deeper_kept more.depth d high) path ps more.each content x))
      ];
    }

-- ---- the entries of a folder that was made

abbrev IsFileEntry : IndexEntry → Type 0
IsFileEntry e = Lacks 0 e.path × (e.mode ≢ Dir)

-- Entries of files, by their paths inside of a folder and without flags.
plain_inside : (kind : HashKind) (n : ℕ) (flags : Flags) (es : List IndexEntry) → flags.0 ≡ 0 → AreFiles es → HaveIds kind es → AllByRecursion (λ e. IsPlain kind (with_flags flags e)) (map (inside n) es)
plain_inside kind n flags [] plain files ids = tt
plain_inside kind n flags (e ∷ es) plain files ids =
    let file : Lacks 0 e.path × (e.mode ≢ Dir) = All-head IsFileEntry e es files in
    let first : IsPlain kind (with_flags flags (inside n e)) = record {
      path = All-drop (λ b. is_byte 0 b ≡ false) n e.path file.0;
      file = file.1;
      id = All-head (λ x. IsId kind x.id) e es ids;
      flags = plain;
    } in
    (first, plain_inside kind n flags es plain (All-tail IsFileEntry e es files) (All-tail (λ x. IsId kind x.id) e es ids))

-- What holds of all entries of an index holds of some in a row.
in_run : (P : IndexEntry → Type 0) (index before run after : List IndexEntry) → index ≡ before ++ (run ++ after) → All P index → All P run
in_run P index before run after split all =
    let from : All P (run ++ after) = subst (All P) (drop-append_seam before (run ++ after)) (All-drop P (length before) (before ++ (run ++ after)) (subst (All P) split all)) in
    subst (All P) (take-append_seam run after) (All-take P (length run) (run ++ after) from)

module _ (index : List IndexEntry) (kind : HashKind) (files : AreFiles index) (ids : HaveIds kind index) where
  written_readable : (id : ObjectId) (path : List ℕ) (es : List IndexEntry) → id_kind id ≡ kind → (w : IsWritten index id path es) → Readable (IsMade (id_kind id) (and_entries no_items (map (inside (length path)) w.run))) id path es
  written_readable id path es same w =
      let inner : List IndexEntry = map (inside (length path)) w.run in
      let t : Items = and_entries no_items inner in
      let own : AreFiles w.run = in_run IsFileEntry index w.before w.run w.after w.split files in
      let own_ids : HaveIds kind w.run = in_run (λ e. IsId kind e.id) index w.before w.run w.after w.split ids in
      let plain : AllByRecursion (IsPlain kind) (copies w.flags inner) = copies_hold (IsPlain kind) w.flags inner (plain_inside kind (length path) w.flags w.run w.plain own own_ids) in
      let items : and_entries no_items (copies w.flags inner) ≡ t = copies_make w.flags inner no_items w.plain in
      let made = entries_leaves kind (copies w.flags inner) no_items plain tt in
      let placed : es ≡ map (below path) (copies w.flags inner) = w.entries ∙ placed_back path w.flags w.run w.below in
      let are : map file_of es ≡ leaves path t = ap (map file_of) placed ∙ (sym (made.1 path) ∙ ap (leaves path) items) in
      let flags : HaveNoFlags es = subst HaveNoFlags (sym w.entries) (all_plain w.flags w.run w.plain) in
      let tree = made_tree kind t (height t) path es (build kind t (subst (Fit kind) items made.0) path (height t) (omega arith) es are flags [] [] refl tt) in
      let readable : Readable (IsMade kind t) (tree_id_of kind t) path es = record { depth = suc (height t); tree = tree.0; only = tree.1 } in
      let makes : tree_id_of kind t ≡ id = ap (λ (k : HashKind). tree_id_of k t) (sym same) ∙ w.makes in
      subst (λ (k : HashKind). Readable (IsMade k t) id path es) (sym same) (subst (λ (i : ObjectId). Readable (IsMade kind t) i path es) makes readable)

  pub head_readable : (depth : ℕ) → CanRead kind (HasFiles (IsWritten index) depth) (IsFound index depth)
  head_readable zero id path es same never = absurd never
  head_readable (suc depth) id path es same (inl w) = written_readable id path es same w
  head_readable (suc depth) id path es same (inr h) =
      let F : Known = HasFiles (IsWritten index) depth in
      let items : AreItems kind h.bytes (map item_of h.parts) = subst (λ (k : HashKind). AreItems k h.bytes (map item_of h.parts)) same h.items in
      let g = gather kind F (IsFound index depth) (head_readable depth) path h.bytes h.parts items h.each in
      record {
        depth = suc g.depth;
        tree = inr (record { bytes = h.bytes; object = h.object; parts = h.parts; items = h.items; each = g.each; entries = h.entries });
        only = λ content. elim [ inl x ↦ inl x | inr x ↦ inr (g.only content x) ];
      }
