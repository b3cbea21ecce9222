-- The file that is written is an index file.
use Rattle.std.proofs.Common.{◌≡◌, ℕ, suc, ◌^◌, ◌<◌, ◌-◌, ◌≤◌, Bool, true, false, List, [], ◌∷◌, ◌++◌, length, map, take, drop, refl, append_assoc, sym, ap, subst, ◌∙◌, arith, inl, inr}
use Rattle.std.specs.List.{flat_map}
use Rattle.status_index.specs.declared.id.HashKind.{HashKind}
use Rattle.std.proofs.lemmas.List.{map-append, append-nil, take_all, take-append-drop}
use Rattle.std.proofs.lemmas.Bool.Decides.{eqb_tells}
use Rattle.std.proofs.lemmas.Grind.{flat_map-append}
use Rattle.status_index.specs.declared.entry.Entry.{Entry}
use Rattle.status_index.specs.declared.entry.PathStorage.{PathStorage}
use Rattle.status_index.specs.Entries.{IndexEntry, entry_at, index_entry, path_in, entry_of_fields}
use Rattle.git_index.specs.RawEntry.{RawEntry, raw_bytes, short_len}
use Rattle.git_index.specs.Paths.{entries_after, path_after, AllFollow, Follows}
use Rattle.git_index.specs.File.{AreExtensions, header_bytes, IsChecksum, IsFileOf, content_bytes, is_version}
use Rattle.git_index.specs.Writing.{raw_after, raw_entries, checksum_bytes, file_bytes, common_len, EntriesFit}

-- The path of the last entry, or this one if there is none.
abbrev pub last_path_of : List ℕ → List IndexEntry → List ℕ
last_path_of before [] = before
last_path_of before (e ∷ es) = last_path_of e.path es

-- The entries before the last one are written as if they were all.
pub raw_more : (version : ℕ) (before : List ℕ) (es : List IndexEntry) (e : IndexEntry) → raw_entries version before (es ++ e ∷ []) ≡ raw_entries version before es ++ raw_after version (last_path_of before es) e ∷ []
raw_more version before [] e = refl
raw_more version before (x ∷ es) e = ap (λ (t : List RawEntry). raw_after version before x ∷ t) (raw_more version x.path es e)

pub last_more : (before : List ℕ) (es : List IndexEntry) (e : IndexEntry) → last_path_of before (es ++ e ∷ []) ≡ e.path
last_more before [] e = refl
last_more before (x ∷ es) e = last_more x.path es e

-- One more entry is written.
pub written_more : (kind : HashKind) (version : ℕ) (b : PathStorage) (xs : List Entry) (n m : ℕ) (e : Entry) (out header last path : List ℕ)
    → m ≡ suc n → take (suc n) xs ≡ take n xs ++ e ∷ []
    → out ≡ header ++ flat_map (raw_bytes kind version) (raw_entries version [] (map (index_entry b) (take n xs)))
    → last ≡ last_path_of [] (map (index_entry b) (take n xs))
    → path ≡ path_in b e
    → (out ++ raw_bytes kind version (raw_after version last (entry_at path e)) ≡ header ++ flat_map (raw_bytes kind version) (raw_entries version [] (map (index_entry b) (take m xs))))
    × (path ≡ last_path_of [] (map (index_entry b) (take m xs)))
written_more kind version b xs n m e out header last path next taken so_far at_last named =
    let f : Entry → IndexEntry = index_entry b in
    let ys : List IndexEntry = map f (take n xs) in
    let before : List RawEntry = raw_entries version [] ys in
    let new : RawEntry = raw_after version (last_path_of [] ys) (f e) in
    let raw : RawEntry → List ℕ = raw_bytes kind version in
    let more : map f (take m xs) ≡ ys ++ f e ∷ [] = ap (λ (k : ℕ). map f (take k xs)) next ∙ ap (map f) taken ∙ map-append f (take n xs) (e ∷ []) in
    let same : raw_after version last (entry_at path e) ≡ new =
    ap (λ (l : List ℕ). raw_after version l (entry_at path e)) at_last ∙ ap (λ (p : List ℕ). raw_after version (last_path_of [] ys) (entry_at p e)) named in
    let one : flat_map raw (before ++ new ∷ []) ≡ flat_map raw before ++ raw new =
    flat_map-append raw before (new ∷ []) ∙ ap (λ (t : List ℕ). flat_map raw before ++ t) (append-nil (raw new)) in
    let all : flat_map raw before ++ raw (raw_after version last (entry_at path e)) ≡ flat_map raw (raw_entries version [] (map f (take m xs))) =
    ap (λ (x : RawEntry). flat_map raw before ++ raw x) same ∙ (sym one ∙ (ap (flat_map raw) (sym (raw_more version [] ys (f e))) ∙ ap (λ (zs : List IndexEntry). flat_map raw (raw_entries version [] zs)) (sym more))) in (
      ap (λ (o : List ℕ). o ++ raw (raw_after version last (entry_at path e))) so_far ∙ (append_assoc header (flat_map raw before) (raw (raw_after version last (entry_at path e))) ∙ ap (λ (t : List ℕ). header ++ t) all),
      named ∙ (sym (last_more [] ys (f e)) ∙ ap (last_path_of []) (sym more)),
    )

-- All entries are written.
pub written_all : (kind : HashKind) (version : ℕ) (b : PathStorage) (xs : List Entry) (n : ℕ) (out header : List ℕ) → length xs ≤ n
    → out ≡ header ++ flat_map (raw_bytes kind version) (raw_entries version [] (map (index_entry b) (take n xs)))
    → out ≡ header ++ flat_map (raw_bytes kind version) (raw_entries version [] (map (index_entry b) xs))
written_all kind version b xs n out header all so_far =
    so_far ∙ ap (λ (zs : List Entry). header ++ flat_map (raw_bytes kind version) (raw_entries version [] (map (index_entry b) zs))) (take_all n xs all)

-- ---- the entries that are read of the written ones

common_within : (xs ys : List ℕ) → common_len xs ys ≤ length xs
common_within [] ys = omega arith
common_within (x ∷ xs) [] = omega arith
common_within (x ∷ xs) (y ∷ ys) = elim (eqb_tells x y) [
  | inl h ↦ rw h.0 (omega (arith, common_within xs ys))
  | inr h ↦ rw h.0 (omega arith)
]

common_same : (xs ys : List ℕ) → take (common_len xs ys) xs ≡ take (common_len xs ys) ys
common_same [] ys = refl
common_same (x ∷ xs) [] = refl
common_same (x ∷ xs) (y ∷ ys) = elim (eqb_tells x y) [
  | inl h ↦ rw h.0 (ap (λ (z : ℕ). z ∷ take (common_len xs ys) xs) h.1 ∙ ap (λ (zs : List ℕ). y ∷ zs) (common_same xs ys))
  | inr h ↦ rw h.0 refl
]

-- The path of a written entry is the entry's.
path_back : (version : ℕ) (before : List ℕ) (e : IndexEntry) → path_after version before (raw_after version before e) ≡ e.path
path_back version before e = elim (eqb_tells version 4) [
  | inl h ↦
      let shared : ℕ = common_len before e.path in
      let kept : length before - (length before - shared) ≡ shared = omega (arith, common_within before e.path) in
      rw h.0 (ap (λ (n : ℕ). take n before ++ drop shared e.path) kept ∙ (ap (λ (t : List ℕ). t ++ drop shared e.path) (common_same before e.path) ∙ take-append-drop shared e.path))
  | inr h ↦ rw h.0 refl
]

pub entries_back : (version : ℕ) (before : List ℕ) (es : List IndexEntry) → entries_after version before (raw_entries version before es) ≡ es
entries_back version before [] = refl
entries_back version before (e ∷ es) =
    let r : RawEntry = raw_after version before e in
    ap (λ (p : List ℕ). entry_of_fields p r.stat r.id (record { 0 = r.flags }) r.mode ∷ entries_after version p (raw_entries version e.path es)) (path_back version before e)
    ∙ ap (λ (zs : List IndexEntry). e ∷ zs) (entries_back version e.path es)

follows : (version : ℕ) (before : List ℕ) (e : IndexEntry) → Follows version before (raw_after version before e)
follows version before e = record {
  strip = λ four. rw four (omega arith);
  stated = ap (λ (p : List ℕ). short_len (length p)) (sym (path_back version before e));
}

pub all_follow : (version : ℕ) (before : List ℕ) (es : List IndexEntry) → AllFollow version before (raw_entries version before es)
all_follow version before [] = tt
all_follow version before (e ∷ es) = (follows version before e, subst (λ (p : List ℕ). AllFollow version p (raw_entries version e.path es)) (sym (path_back version before e)) (all_follow version e.path es))

pub length_raw : (version : ℕ) (before : List ℕ) (es : List IndexEntry) → length (raw_entries version before es) ≡ length es
length_raw version before [] = refl
length_raw version before (e ∷ es) = ap (λ (n : ℕ). suc n) (length_raw version e.path es)

is_checksum : (kind : HashKind) (has : Bool) (content : List ℕ) → IsChecksum kind content (checksum_bytes kind has content)
is_checksum kind true content = inl refl
is_checksum kind false content = inr refl

pub written_file : (kind : HashKind) (version : ℕ) (es : List IndexEntry) (extensions : List ℕ) (has : Bool) (bytes : List ℕ) → length es < 2 ^ 32 → bytes ≡ file_bytes kind version es extensions has
    → is_version version ≡ true → EntriesFit kind version es → AreExtensions extensions → IsFileOf kind bytes version es extensions
written_file kind version es extensions has bytes small e known fit optional =
    let raw : List RawEntry = raw_entries version [] es in
    let content : List ℕ = content_bytes kind version raw extensions in
    record {
      raw = raw;
      content = content;
      sum = checksum_bytes kind has content;
      parts = record { known = known; count = omega (arith, small, length_raw version [] es); fit = fit; optional = optional; whole = refl };
      follow = all_follow version [] es;
      entries = sym (entries_back version [] es);
      checked = is_checksum kind has content;
      whole = e;
    }

-- The entries, the extensions and the checksum are the file.
pub file_is : (kind : HashKind) (version count : ℕ) (es : List IndexEntry) (extensions : List ℕ) (has : Bool) (entries content bytes sum : List ℕ) → count ≡ length es
    → entries ≡ header_bytes version count ++ flat_map (raw_bytes kind version) (raw_entries version [] es)
    → content ≡ entries ++ extensions → bytes ≡ content ++ sum → sum ≡ checksum_bytes kind has content → bytes ≡ file_bytes kind version es extensions has
file_is kind version count es extensions has entries content bytes sum many e c b s =
    let raw : List RawEntry = raw_entries version [] es in
    let F : List ℕ = flat_map (raw_bytes kind version) raw in
    let whole : content ≡ content_bytes kind version raw extensions =
    c ∙ (ap (λ (t : List ℕ). t ++ extensions) e ∙ (append_assoc (header_bytes version count) F extensions ∙ ap (λ (n : ℕ). header_bytes version n ++ (F ++ extensions)) (many ∙ sym (length_raw version [] es)))) in
    b ∙ (ap (λ (t : List ℕ). content ++ t) s ∙ ap (λ (t : List ℕ). t ++ checksum_bytes kind has t) whole)
