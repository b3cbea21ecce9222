-- The entries of a file that was read can be written.
use Rattle.std.proofs.Common.{◌≡◌, ◌≢◌, ℕ, zero, suc, ◌-◌, ◌≤◌, List, [], ◌∷◌, ◌++◌, length, take, replicate, refl, sym, ap, subst, arith, inl, inr}
use Rattle.std.specs.List.{AllByRecursion}
use Rattle.std.proofs.lemmas.Bool.Decides.{eqb_tells}
use Rattle.std.proofs.lemmas.List.Elements.{All-nil, All-take, All-drop, All-append}
use Rattle.status_index.specs.declared.id.HashKind.{HashKind}
use Rattle.status_index.specs.Entries.{IndexEntry}
use Rattle.git_index.specs.RawEntry.{RawEntry, RawFits, HasNoZero, StripFits, id_len}
use Rattle.git_index.specs.Paths.{path_after, entry_after, entries_after, AllFollow, Follows}
use Rattle.git_index.specs.File.{IsContent, IsFileOf}
use Rattle.git_index.specs.Writing.{raw_after, raw_entries, common_len, EntriesFit}
use Rattle.git_index.specs.WholeFile.{IsWholeFile}
use Rattle.git_index.specs.declared.index_file.IndexFile.{IndexFile}
use Rattle.status_index.specs.States.{index_of}

-- Two paths share at least the bytes that one was made of.
shared_at_least : (xs ys : List ℕ) (k : ℕ) → k ≤ length xs → k ≤ common_len xs (take k xs ++ ys)
shared_at_least xs ys zero within = omega arith
shared_at_least [] ys (suc k) within = absurd (omega (arith, within))
shared_at_least (x ∷ xs) ys (suc k) within = elim (eqb_tells x x) [
  | inl h ↦ rw h.0 (omega (arith, shared_at_least xs ys k (omega (arith, within))))
  | inr h ↦ absurd (h.1 refl)
]

path_has_no_zero : (version : ℕ) (before : List ℕ) (r : RawEntry) → HasNoZero before → HasNoZero r.name → HasNoZero (path_after version before r)
path_has_no_zero version before r b n = elim (eqb_tells version 4) [
  | inl h ↦ rw h.0 (All-append (λ z. z ≢ 0) (take (length before - r.strip) before) r.name (All-take (λ z. z ≢ 0) (length before - r.strip) before b) n)
  | inr h ↦ rw h.0 n
]

strip_back : (version : ℕ) (before : List ℕ) (r : RawEntry) → StripFits version r.strip → Follows version before r → StripFits version (raw_after version before (entry_after version before r)).strip
strip_back version before r fits follows = elim (eqb_tells version 4) [
  | inl h ↦
      let k : ℕ = length before - r.strip in
      let most : k ≤ common_len before (take k before ++ r.name) = shared_at_least before r.name k (omega arith) in
      rw h.0 (omega (arith, most, fits.0, follows.strip h.1), λ other. absurd (other h.1))
  | inr h ↦ rw h.0 (omega arith, λ other. refl)
]

name_back : (version : ℕ) (before : List ℕ) (r : RawEntry) → HasNoZero (path_after version before r) → HasNoZero (raw_after version before (entry_after version before r)).name
name_back version before r h = All-drop (λ z. z ≢ 0) _ (path_after version before r) h

one_fits : (kind : HashKind) (version : ℕ) (before : List ℕ) (r : RawEntry) → HasNoZero before → RawFits kind version r → Follows version before r → RawFits kind version (raw_after version before (entry_after version before r))
one_fits kind version before r b fits follows = record {
  stat = fits.stat;
  id_kind = fits.id_kind;
  id_len = fits.id_len;
  flags = fits.flags;
  stated = omega arith;
  strip = strip_back version before r fits.strip follows;
  name = name_back version before r (path_has_no_zero version before r b fits.name);
}

all_fit : (kind : HashKind) (version : ℕ) (before : List ℕ) (rs : List RawEntry) → HasNoZero before → AllByRecursion (RawFits kind version) rs → AllFollow version before rs → AllByRecursion (RawFits kind version) (raw_entries version before (entries_after version before rs))
all_fit kind version before [] b fits follows = tt
all_fit kind version before (r ∷ rs) b fits follows =
    (one_fits kind version before r b fits.0 follows.0, all_fit kind version (path_after version before r) rs (path_has_no_zero version before r b fits.0.name) fits.1 follows.1)

pub entries_fit : (kind : HashKind) (bytes : List ℕ) (version : ℕ) (es : List IndexEntry) (extensions : List ℕ) → IsFileOf kind bytes version es extensions → EntriesFit kind version es
entries_fit kind bytes version es extensions f =
    subst (EntriesFit kind version) (sym f.entries) (all_fit kind version [] f.raw (All-nil (λ z. z ≢ 0)) f.parts.fit f.follow)

length_entries : (version : ℕ) (before : List ℕ) (rs : List RawEntry) → length (entries_after version before rs) ≡ length rs
length_entries version before [] = refl
length_entries version before (r ∷ rs) = ap (λ (n : ℕ). suc n) (length_entries version (path_after version before r) rs)

-- A file that was read can be written.
pub whole_file : (bytes : List ℕ) (f : IndexFile) → IsFileOf f.kind bytes f.version (index_of f.state) f.extensions.now → IsWholeFile f
whole_file bytes f file = record {
  known = file.parts.known;
  count = omega (arith, file.parts.count, length_entries f.version [] file.raw, ap length file.entries);
  fit = entries_fit f.kind bytes f.version (index_of f.state) f.extensions.now file;
  optional = file.parts.optional;
}

-- the content that was read can be written, whatever its checksum
pub whole_content : (f : IndexFile) (rs : List RawEntry) (content : List ℕ) → IsContent f.kind f.version rs f.extensions.now content → AllFollow f.version [] rs → index_of f.state ≡ entries_after f.version [] rs → IsWholeFile f
whole_content f rs content parts follow entries = whole_file (content ++ replicate (id_len f.kind) 0) f (record {
  raw = rs;
  content = content;
  sum = replicate (id_len f.kind) 0;
  parts = parts;
  follow = follow;
  entries = entries;
  checked = inr refl;
  whole = refl;
})
