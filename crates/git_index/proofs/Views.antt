-- The entries of a file with one more.
use Rattle.std.proofs.Common.{◌≡◌, ◌≢◌, ℕ, ◌-◌, ◌≤◌, ◌<◌, List, [], ◌∷◌, ◌++◌, length, take, refl, sym, ap, subst, ◌∙◌, append_assoc}
use Rattle.std.proofs.lemmas.Bool.{ne_eqb, eq-eqb}
use Rattle.std.proofs.lemmas.List.{append-nil}
use Rattle.status_index.specs.Entries.{IndexEntry, IsIndex}
use Rattle.git_index.specs.declared.fault.IndexFileError.{IndexFileError}
use Rattle.git_index.specs.declared.fault.IndexFileError.TheVariants as errors
use Rattle.git_index.specs.RawEntry.{RawEntry, short_len}
use Rattle.git_index.specs.Paths.{path_after, entry_after, entries_after, last_path, Follows, AllFollow}
use Rattle.git_index.specs.Refusals.{AreValid, ComesAt, StripsTooMuch, IsEntriesRefusal}
use Rattle.git_index.specs.Views.{IsViewOf, IsNextRefusal, named_entry}

pub follow_push : (version : ℕ) (before : List ℕ) (rs : List RawEntry) (r : RawEntry) → AllFollow version before rs → Follows version (last_path version before rs) r → AllFollow version before (rs ++ r ∷ [])
follow_push version before [] r h f = (f, tt)
follow_push version before (x ∷ rs) r h f = (h.0, follow_push version (path_after version before x) rs r h.1 f)

pub entries_push : (version : ℕ) (before : List ℕ) (rs : List RawEntry) (r : RawEntry) → entries_after version before (rs ++ r ∷ []) ≡ entries_after version before rs ++ entry_after version (last_path version before rs) r ∷ []
entries_push version before [] r = refl
entries_push version before (x ∷ rs) r = ap (λ (t : List IndexEntry). entry_after version before x ∷ t) (entries_push version (path_after version before x) rs r)

pub last_push : (version : ℕ) (before : List ℕ) (rs : List RawEntry) (r : RawEntry) → last_path version before (rs ++ r ∷ []) ≡ path_after version (last_path version before rs) r
last_push version before [] r = refl
last_push version before (x ∷ rs) r = last_push version (path_after version before x) rs r

-- The path of the next entry, which doesn't depend on the one before except in version 4.
pub path_of_named : (version : ℕ) (before : List ℕ) (r : RawEntry) → version ≢ 4 → path_after version before r ≡ r.name
path_of_named version before r ne = rw (ne_eqb version 4 ne) refl

-- The path of the next entry in version 4.
pub path_of_prefixed : (version : ℕ) (before last own : List ℕ) (r : RawEntry) → version ≡ 4 → last ≡ before → own ≡ take (length last - r.strip) last ++ r.name → own ≡ path_after version before r
path_of_prefixed version before last own r four same e = e ∙ ap (λ (p : List ℕ). take (length p - r.strip) p ++ r.name) same ∙ rw (eq-eqb version 4 four) refl

pub view_push : (version : ℕ) (rs : List RawEntry) (r : RawEntry) (es new : List IndexEntry) (last path own : List ℕ) → IsViewOf version rs es last → own ≡ path_after version (last_path version [] rs) r
    → (version ≡ 4 → r.strip ≤ length (last_path version [] rs)) → r.stated ≡ short_len (length own) → new ≡ es ++ named_entry r own ∷ [] → (version ≡ 4 → path ≡ own) → IsViewOf version (rs ++ r ∷ []) new path
view_push version rs r es new last path own v is strip stated pushed kept = record {
  follow = follow_push version [] rs r v.follow (record { strip = strip; stated = stated ∙ ap (λ (p : List ℕ). short_len (length p)) is });
  entries = pushed ∙ ap (λ (p : List ℕ). es ++ named_entry r p ∷ []) is ∙ ap (λ (t : List IndexEntry). t ++ entry_after version (last_path version [] rs) r ∷ []) v.entries ∙ sym (entries_push version [] rs r);
  last = λ four. kept four ∙ is ∙ sym (last_push version [] rs r);
}

valid_before : (version : ℕ) (rs : List RawEntry) (es : List IndexEntry) (last : List ℕ) → IsViewOf version rs es last → IsIndex es → AreValid version rs
valid_before version rs es last v index = record { follow = v.follow; valid = subst IsIndex v.entries index }

comes_last : (version : ℕ) (rs : List RawEntry) (r : RawEntry) (at : ℕ) → AreValid version rs → length rs ≡ at → ComesAt version (rs ++ r ∷ []) at r
comes_last version rs r at valid many = record { before = rs; after = []; many = many; parts = refl; valid = valid }

pub strips_too_much : (version : ℕ) (rs : List RawEntry) (r : RawEntry) (es : List IndexEntry) (last : List ℕ) (at : ℕ) → IsViewOf version rs es last → IsIndex es → length rs ≡ at → version ≡ 4 → length last < r.strip → StripsTooMuch version (rs ++ r ∷ []) at
unfolding comes_last
strips_too_much version rs r es last at v index many four much =
    record { entry = r; comes = comes_last version rs r at (valid_before version rs es last v index) many; too_much = subst (λ (p : List ℕ). length p < r.strip) (v.last four) much }

-- Why the next entry can't be in the index is why the entries aren't one.
pub next_refused : (version : ℕ) (rs : List RawEntry) (r : RawEntry) (es : List IndexEntry) (last own : List ℕ) (at : ℕ) (e : IndexFileError) → IsViewOf version rs es last → IsIndex es → length rs ≡ at → own ≡ path_after version (last_path version [] rs) r
    → (version ≡ 4 → r.strip ≤ length (last_path version [] rs)) → IsNextRefusal es r own at e → IsEntriesRefusal version (rs ++ r ∷ []) e
unfolding comes_last
next_refused version rs r es last own at (errors.NameLength n) v index many is strip h = record {
  entry = r;
  comes = comes_last version rs r n (valid_before version rs es last v index) (many ∙ sym h.0);
  strip = strip;
  other = subst (λ (p : List ℕ). r.stated ≢ short_len (length p)) is h.1;
}
next_refused version rs r es last own at (errors.Index e) v index many is strip h = record {
  first = rs ++ r ∷ [];
  after = [];
  parts = sym (append-nil (rs ++ r ∷ []));
  follow = follow_push version [] rs r v.follow (record { strip = strip; stated = h.0 ∙ ap (λ (p : List ℕ). short_len (length p)) is });
  refusal = rw (entries_push version [] rs r, ← v.entries, ← is) h.1;
  not_memory = h.2;
}
next_refused version rs r es last own at errors.Memory v index many is strip h = tt
next_refused version rs r es last own at (errors.Header f) v index many is strip h = absurd h
next_refused version rs r es last own at errors.Checksum v index many is strip h = absurd h
next_refused version rs r es last own at (errors.Entry n f) v index many is strip h = absurd h
next_refused version rs r es last own at (errors.Extension n) v index many is strip h = absurd h
next_refused version rs r es last own at (errors.Required n) v index many is strip h = absurd h
next_refused version rs r es last own at (errors.Strip n) v index many is strip h = absurd h

-- ---- more entries after a refusal

comes_more : (version : ℕ) (rs : List RawEntry) (at : ℕ) (r x : RawEntry) → ComesAt version rs at r → ComesAt version (rs ++ x ∷ []) at r
comes_more version rs at r x c = record {
  before = c.before;
  after = c.after ++ x ∷ [];
  many = c.many;
  parts = ap (λ (t : List RawEntry). t ++ x ∷ []) c.parts ∙ append_assoc c.before (r ∷ c.after) (x ∷ []);
  valid = c.valid;
}

pub refusal_more : (version : ℕ) (rs : List RawEntry) (x : RawEntry) (e : IndexFileError) → IsEntriesRefusal version rs e → IsEntriesRefusal version (rs ++ x ∷ []) e
unfolding comes_more
refusal_more version rs x (errors.Strip at) h = record { entry = h.entry; comes = comes_more version rs at h.entry x h.comes; too_much = h.too_much }
refusal_more version rs x (errors.NameLength at) h = record { entry = h.entry; comes = comes_more version rs at h.entry x h.comes; strip = h.strip; other = h.other }
refusal_more version rs x (errors.Index e) h = record {
  first = h.first;
  after = h.after ++ x ∷ [];
  parts = ap (λ (t : List RawEntry). t ++ x ∷ []) h.parts ∙ append_assoc h.first h.after (x ∷ []);
  follow = h.follow;
  refusal = h.refusal;
  not_memory = h.not_memory;
}
refusal_more version rs x errors.Memory h = tt
refusal_more version rs x (errors.Header f) h = absurd h
refusal_more version rs x errors.Checksum h = absurd h
refusal_more version rs x (errors.Entry n f) h = absurd h
refusal_more version rs x (errors.Extension n) h = absurd h
refusal_more version rs x (errors.Required n) h = absurd h
