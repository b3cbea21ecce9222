-- The items of a folder, one after the other.
use Rattle.std.proofs.Common.{◌≡◌, ◌≢◌, ℕ, suc, ◌-◌, List, [], ◌∷◌, ◌++◌, map, refl, sym, ◌∙◌, ap, subst, append_assoc, arith, inl, inr}
use Rattle.std.specs.List.{flat_map, AllByRecursion}
use Rattle.std.proofs.lemmas.Grind.{flat_map-append}
use Rattle.std.proofs.lemmas.List.{append-nil, map-append}
use Rattle.std.proofs.lemmas.List.Concat.{flat_map-cons}
use Rattle.status_index.specs.declared.id.HashKind.{HashKind}
use Rattle.status_index.specs.declared.id.ObjectId.{ObjectId}
use Rattle.status_index.specs.BlobId.{id_kind}
use Rattle.status_index.specs.Entries.{IndexEntry}
use Rattle.git_objects.specs.declared.object.ObjectKind.TheVariants.{Tree}
use Rattle.git_objects.specs.declared.tree.TreeItem.{TreeItem}
use Rattle.git_objects.specs.Contents.{BeginsWith}
use Rattle.git_objects.specs.Objects.{id_of_object}
use Rattle.git_staged.specs.TreeFiles.{AreItems, HasFiles, IsItem, Known, Part}

abbrev item_of : Part → TreeItem
item_of p = p.item

abbrev entries_of : Part → List IndexEntry
entries_of p = p.entries

pub each_push : {X : Type 0} (P : X → Type 0) (xs : List X) (y : X) → AllByRecursion P xs → P y → AllByRecursion P (xs ++ y ∷ [])
each_push P [] y h p = (p, tt)
each_push P (x ∷ xs) y h p = (h.0, each_push P xs y h.1 p)

-- Some items of a folder were passed, which have these entries. The bytes that are left have the others.
pub record SoFar (folder : ObjectId → List ℕ → List IndexEntry → Type 0) (hash : HashKind) (bytes path : List ℕ) (es : List IndexEntry) (rest : List ℕ) : Type 0 where
  pub parts : List Part
  pub spelled : (items : List TreeItem) → AreItems hash rest items → AreItems hash bytes (map (λ p. p.item) parts ++ items)
  pub each : AllByRecursion (λ p. IsItem folder path p.item p.entries) parts
  pub entries : es ≡ flat_map (λ p. p.entries) parts

pub start : (folder : ObjectId → List ℕ → List IndexEntry → Type 0) (hash : HashKind) (bytes path : List ℕ) → SoFar folder hash bytes path [] bytes
start folder hash bytes path = record { parts = []; spelled = λ items a. a; each = tt; entries = refl }

pub more : (folder : ObjectId → List ℕ → List IndexEntry → Type 0) (hash : HashKind) (bytes path : List ℕ) (es fs : List IndexEntry) (rest after : List ℕ) (item : TreeItem)
    → SoFar folder hash bytes path es rest → BeginsWith hash rest item after → IsItem folder path item fs → SoFar folder hash bytes path (es ++ fs) after
more folder hash bytes path es fs rest after item s begins is =
    let p : Part = record { item = item; entries = fs } in
    let items_of : List Part → List TreeItem = map item_of in
    record {
      parts = s.parts ++ p ∷ [];
      spelled = λ items a.
          let whole : items_of (s.parts ++ p ∷ []) ++ items ≡ items_of s.parts ++ item ∷ items =
          ap (λ (l : List TreeItem). l ++ items) (map-append item_of s.parts (p ∷ [])) ∙ append_assoc (items_of s.parts) (item ∷ []) items in
          subst (AreItems hash bytes) (sym whole) (s.spelled (item ∷ items) (after, begins, a));
      each = each_push (λ (x : Part). IsItem folder path x.item x.entries) s.parts p s.each is;
      entries = ap (λ (l : List IndexEntry). l ++ fs) s.entries ∙ (ap (λ (l : List IndexEntry). flat_map entries_of s.parts ++ l) (sym (flat_map-cons entries_of p [] ∙ append-nil fs)) ∙ sym (flat_map-append entries_of s.parts (p ∷ [])));
    }

next_depth : (depth : ℕ) → depth ≢ 0 → suc (depth - 1) ≡ depth
next_depth depth some = omega (arith, some)

-- All items were passed.
pub end : (known : Known) (depth : ℕ) (id : ObjectId) (bytes path : List ℕ) (es : List IndexEntry) (rest : List ℕ) → depth ≢ 0 → id_of_object (id_kind id) Tree bytes ≡ id
    → SoFar (HasFiles known (depth - 1)) (id_kind id) bytes path es rest → rest ≡ [] → HasFiles known depth id path es
end known depth id bytes path es rest some object s done =
    let within : HasFiles known (suc (depth - 1)) id path es = inr (record {
      bytes = bytes;
      object = object;
      parts = s.parts;
      items = subst (AreItems (id_kind id) bytes) (append-nil (map item_of s.parts)) (s.spelled [] done);
      each = s.each;
      entries = s.entries;
    }) in
    subst (λ (n : ℕ). HasFiles known n id path es) (next_depth depth some) within

-- The files of a folder are known.
pub known_end : (known : Known) (depth : ℕ) (id : ObjectId) (path : List ℕ) (es : List IndexEntry) → depth ≢ 0 → known id path es → HasFiles known depth id path es
known_end known depth id path es some k =
    let within : HasFiles known (suc (depth - 1)) id path es = inl k in
    subst (λ (n : ℕ). HasFiles known n id path es) (next_depth depth some) within
