-- A tree that can be read with some folders within each other can be read with more.
use Rattle.std.proofs.Common.{◌≤◌, ℕ, zero, suc, Bool, true, false, List, [], ◌∷◌, ◌++◌, inl, inr, arith}
use Rattle.status_index.specs.declared.id.ObjectId.{ObjectId}
use Rattle.status_index.specs.declared.mode.Mode.{Mode}
use Rattle.status_index.specs.Entries.{IndexEntry}
use Rattle.git_tree_laws.specs.Agreement.{ContentOf, IsOfItem, IsOfParts, IsRead}
use Rattle.git_staged.specs.TreeFiles.{ItemOf, Known, Part, is_folder, tree_mode}
use Rattle.git_tree_laws.proofs.Parts.{AreParts, ReadTo}

abbrev pub Into : Known → Known → Type 0
Into F G = (id : ObjectId) (path : List ℕ) (es : List IndexEntry) → F id path es → G id path es

-- A content that was found of the second kind was of the first.
abbrev pub Keeps : (F G : Known) → ContentOf F → ContentOf G → Into F G → Type 0
Keeps F G of other h = (id : ObjectId) (path : List ℕ) (es : List IndexEntry) (x : F id path es) (content : List ℕ) → other id path es (h id path es x) content → of id path es x content

abbrev pub item_deeper : (F G : Known) → Into F G → (b : Bool) (path : List ℕ) (mode : Mode) (id : ObjectId) (es : List IndexEntry) → ItemOf F b path mode id es → ItemOf G b path mode id es
item_deeper F G h true path mode id es is = h id (path ++ 47 ∷ []) es is
item_deeper F G h false path mode id es is = is

pub item_kept : (F G : Known) (of : ContentOf F) (other : ContentOf G) (h : Into F G) → Keeps F G of other h → (b : Bool) (path : List ℕ) (mode : Mode) (id : ObjectId) (es : List IndexEntry) (is : ItemOf F b path mode id es)
    (content : List ℕ) → IsOfItem G other b path mode id es (item_deeper F G h b path mode id es is) content → IsOfItem F of b path mode id es is content
item_kept F G of other h kept true path mode id es is content x = kept id (path ++ 47 ∷ []) es is content x
item_kept F G of other h kept false path mode id es is content x = x

abbrev pub each_deeper : (F G : Known) → Into F G → (path : List ℕ) (ps : List Part) → AreParts F path ps → AreParts G path ps
each_deeper F G h path [] each = tt
each_deeper F G h path (p ∷ ps) each =
    (item_deeper F G h (is_folder (tree_mode p.item.mode)) (path ++ p.item.name.now) (tree_mode p.item.mode) p.item.id p.entries each.0, each_deeper F G h path ps each.1)

pub each_kept : (F G : Known) (of : ContentOf F) (other : ContentOf G) (h : Into F G) → Keeps F G of other h → (path : List ℕ) (ps : List Part) (each : AreParts F path ps) (content : List ℕ)
    → IsOfParts G other path ps (each_deeper F G h path ps each) content → IsOfParts F of path ps each content
each_kept F G of other h kept path [] each content x = x
each_kept F G of other h kept path (p ∷ ps) each content (inl x) =
    inl (item_kept F G of other h kept (is_folder (tree_mode p.item.mode)) (path ++ p.item.name.now) (tree_mode p.item.mode) p.item.id p.entries each.0 content x)
each_kept F G of other h kept path (p ∷ ps) each content (inr x) = inr (each_kept F G of other h kept path ps each.1 content x)

abbrev pub deeper : (d n : ℕ) → d ≤ n → Into (ReadTo d) (ReadTo n)
deeper zero n less id path es never = absurd never
deeper (suc d) zero less id path es h = absurd (omega (arith, less))
deeper (suc d) (suc n) less id path es (inl never) = absurd never
deeper (suc d) (suc n) less id path es (inr h) = inr (record {
  bytes = h.bytes;
  object = h.object;
  parts = h.parts;
  items = h.items;
  each = each_deeper (ReadTo d) (ReadTo n) (deeper d n (omega (arith, less))) path h.parts h.each;
  entries = h.entries;
})

pub deeper_kept : (d n : ℕ) (less : d ≤ n) → Keeps (ReadTo d) (ReadTo n) (IsRead d) (IsRead n) (deeper d n less)
deeper_kept zero n less id path es never content x = absurd never
deeper_kept (suc d) zero less id path es h content x = absurd (omega (arith, less))
deeper_kept (suc d) (suc n) less id path es (inl never) content x = absurd never
deeper_kept (suc d) (suc n) less id path es (inr h) content (inl x) = inl x
deeper_kept (suc d) (suc n) less id path es (inr h) content (inr x) =
    inr (each_kept (ReadTo d) (ReadTo n) (IsRead d) (IsRead n) (deeper d n (omega (arith, less))) (deeper_kept d n (omega (arith, less))) path h.parts h.each content x)
