-- A file has one list of entries, and bytes that are refused are no file.
use Rattle.std.proofs.Common.{◌≡◌, ◌≢◌, ℕ, ◌-◌, ◌^◌, ◌<◌, ◌≤◌, Bool, true, false, eqb, ◌||◌, List, [], ◌∷◌, ◌++◌, length, Result, Ok, Err, IfOk, IfErr, refl, sym, ap, subst, ◌∙◌, arith, inl, inr, ◌⊎◌}
use Rattle.std.specs.Prelude.{MatchResult}
use Rattle.std.specs.List.{flat_map, AllByRecursion}
use Rattle.std.proofs.lemmas.Bool.{eqb-true}
use Rattle.std.proofs.lemmas.List.{append-nil, length-append, length-replicate, take_at, drop_at, take-append-drop}
use Rattle.sha1.specs.Sha1.{sha1, digest_bytes}
use Rattle.sha2.proofs.Facts256.{length-sha256}
use Rattle.status_index.specs.declared.id.HashKind.{HashKind}
use Rattle.status_index.specs.declared.id.HashKind.TheVariants.{Sha1, Sha256}
use Rattle.status_index.specs.BlobId.{id_bytes, digest_id}
use Rattle.status_index.specs.Entries.{IndexEntry, IsIndex}
use Rattle.status_index.proofs.Refusals.{IsRefusal-more, Memory-from_index}
use Rattle.git_index.specs.declared.fault.Fault.{Fault}
use Rattle.git_index.specs.declared.fault.Fault.TheVariants as faults
use Rattle.git_index.specs.declared.fault.IndexFileError.{IndexFileError}
use Rattle.git_index.specs.declared.index_file.IndexFile.{IndexFile}
use Rattle.status_index.specs.States.{index_of}
use Rattle.git_index.specs.declared.fault.IndexFileError.TheVariants as errors
use Rattle.git_index.specs.Numbers.{u32_bytes}
use Rattle.git_index.specs.RawEntry.{RawEntry, RawFits, id_len, raw_bytes}
use Rattle.git_index.specs.Paths.{entries_after, entry_after, path_after, last_path, Follows, AllFollow}
use Rattle.git_index.specs.Reading.{signature, u32_at, header_at, raw_at}
use Rattle.git_index.specs.File.{AreExtensions, header_bytes, is_version, IsChecksum, IsContent, IsFileOf, IsIndexFile}
use Rattle.git_index.specs.WholeFile.{IsUncheckedFile}
use Rattle.status_index.specs.declared.stat.Moment.{Moment}
use Rattle.git_index.specs.Refusals.{Applies, EndsWithChecksum, Spells, content_of, sum_of, HasHeader, HasEntries, NoExtensionAt, IsEntriesRefusal, NoIndexIn, IsFileRefusal}
use Rattle.git_index.proofs.Fields.{IsBytes}
use Rattle.git_index.proofs.Header.{HeaderFits, header_reader}
use Rattle.git_index.proofs.Listing.{got_never, reads_first, More, more_of, none_refused}

-- ---- the checksum

length-sha1 : (m : List ℕ) → length (sha1 m) ≡ 20
unfolding sha1 digest_bytes
length-sha1 m = refl

pub digest_len : (kind : HashKind) (m : List ℕ) → length (id_bytes (digest_id kind m)) ≡ id_len kind
digest_len Sha1 m = length-sha1 m
digest_len Sha256 m = length-sha256 m

sum_len : (kind : HashKind) (content sum : List ℕ) → IsChecksum kind content sum → length sum ≡ id_len kind
sum_len kind content sum (inl h) = ap length h ∙ digest_len kind content
sum_len kind content sum (inr h) = ap length h ∙ length-replicate (id_len kind) 0

-- ---- the header

header_spelled : (version count : ℕ) → header_bytes version count ≡ u32_bytes signature ++ (u32_bytes version ++ u32_bytes count)
unfolding header_bytes u32_bytes
header_spelled version count = refl

either_small : (v : ℕ) (a b c : Bool) → (a ≡ true → v ≡ 2) → (b ≡ true → v ≡ 3) → (c ≡ true → v ≡ 4) → (a || (b || c)) ≡ true → v < 2 ^ 32
either_small v true b c p q r e = omega (arith, p refl)
either_small v false true c p q r e = omega (arith, q refl)
either_small v false false c p q r e = omega (arith, r e)

version_small : (v : ℕ) → is_version v ≡ true → v < 2 ^ 32
version_small v e = either_small v (eqb v 2) (eqb v 3) (eqb v 4) (eqb-true v 2) (eqb-true v 3) (eqb-true v 4) e

reads_header : (version count : ℕ) (rest : List ℕ) → is_version version ≡ true → count < 2 ^ 32 → header_at (header_bytes version count ++ rest) ≡ Ok ((signature, (version, count)), rest)
reads_header version count rest known lt =
    let fits : HeaderFits (signature, (version, count)) = ((omega arith, refl), ((version_small version known, known), lt)) in
    ap (λ (t : List ℕ). header_at (t ++ rest)) (header_spelled version count) ∙ header_reader.again (signature, (version, count)) rest fits

-- The values that a header states.
pub record Header (bytes : List ℕ) (version count : ℕ) (rest : List ℕ) : Type 0 where
  pub parts : bytes ≡ header_bytes version count ++ rest
  pub rest_fits : IsBytes rest
  pub known : is_version version ≡ true
  pub small : count < 2 ^ 32

pub header_of : (bytes : List ℕ) (version count : ℕ) (rest : List ℕ) → IsBytes bytes → HasHeader bytes version count rest → Header bytes version count rest
header_of bytes version count rest fits h =
    let t = header_reader.takes bytes (h.signature, (version, count)) rest fits h.reads in
    let is : h.signature ≡ signature = eqb-true h.signature signature t.1.0.1 in
    record {
      parts = t.0.parts ∙ ap (λ (n : ℕ). (u32_bytes n ++ (u32_bytes version ++ u32_bytes count)) ++ rest) is ∙ ap (λ (t : List ℕ). t ++ rest) (sym (header_spelled version count));
      rest_fits = t.0.rest_fits;
      known = t.1.1.0.1;
      small = t.1.1.1;
    }

abbrev Head : Type 0
Head = (ℕ × (ℕ × ℕ)) × List ℕ

abbrev head : Head → Result Head Fault
head x = Ok x

head_is : (x y : Head) → head x ≡ head y → x ≡ y
head_is x y e = cc

head_fails : (x : Head) (f : Fault) → head x ≡ Err f → ⊥
head_fails x f e = cc

-- ---- the parts of a content

abbrev after_header : HashKind → ℕ → List RawEntry → List ℕ → List ℕ
after_header kind version rs extensions = flat_map (raw_bytes kind version) rs ++ extensions

content_reads : (kind : HashKind) (version : ℕ) (rs : List RawEntry) (extensions content : List ℕ) → IsContent kind version rs extensions content → header_at content ≡ Ok ((signature, (version, length rs)), after_header kind version rs extensions)
content_reads kind version rs extensions content c = ap header_at c.whole ∙ reads_header version (length rs) (after_header kind version rs extensions) c.known c.count

-- A header that is read from a content is that content's.
record SameHeader (kind : HashKind) (version : ℕ) (rs : List RawEntry) (extensions : List ℕ) (v count : ℕ) (rest : List ℕ) : Type 0 where
  version_is : v ≡ version
  count_is : count ≡ length rs
  rest_is : rest ≡ after_header kind version rs extensions

same_header : (kind : HashKind) (version : ℕ) (rs : List RawEntry) (extensions content : List ℕ) (v count : ℕ) (rest : List ℕ) → IsContent kind version rs extensions content → HasHeader content v count rest → SameHeader kind version rs extensions v count rest
same_header kind version rs extensions content v count rest c h =
    let e = head_is ((h.signature, (v, count)), rest) ((signature, (version, length rs)), after_header kind version rs extensions) (sym h.reads ∙ content_reads kind version rs extensions content c) in
    record { version_is = ap (λ (x : Head). x.0.1.0) e; count_is = ap (λ (x : Head). x.0.1.1) e; rest_is = ap (λ (x : Head). x.1) e }

-- The entries at the front of a content are the first of its entries.
front_of : (kind : HashKind) (version : ℕ) (rs : List RawEntry) (extensions content : List ℕ) (v count : ℕ) (rest : List ℕ) → IsContent kind version rs extensions content → HasHeader content v count rest
    → (few : ℕ) (first : List RawEntry) (after : List ℕ) → few ≤ count → Spells kind v few rest first after → More kind v first rs after extensions
front_of kind version rs extensions content v count rest c h few first after le s =
    let p = same_header kind version rs extensions content v count rest c h in
    let fit : AllByRecursion (RawFits kind v) rs = subst (λ (n : ℕ). AllByRecursion (RawFits kind n) rs) (sym p.version_is) c.fit in
    let same : after_header kind version rs extensions ≡ after_header kind v rs extensions = ap (λ (n : ℕ). after_header kind n rs extensions) (sym p.version_is) in
    more_of kind v first rs after extensions s.fit fit (sym s.parts ∙ p.rest_is ∙ same) (omega (arith, s.many, p.count_is))

nothing_more : (first more rs : List RawEntry) → rs ≡ first ++ more → length rs ≤ length first → more ≡ []
nothing_more first [] rs e le = refl
nothing_more first (x ∷ more) rs e le = absurd (omega (arith, ap length e, length-append first (x ∷ more)))

-- All entries, and then the extensions.
record Ends (rs first : List RawEntry) (after extensions : List ℕ) : Type 0 where
  same : first ≡ rs
  rest : after ≡ extensions

all_of : (kind : HashKind) (version : ℕ) (rs : List RawEntry) (extensions content : List ℕ) (v count : ℕ) (rest : List ℕ) → IsContent kind version rs extensions content → HasHeader content v count rest
    → (first : List RawEntry) (after : List ℕ) → Spells kind v count rest first after → Ends rs first after extensions
all_of kind version rs extensions content v count rest c h first after s =
    let p = same_header kind version rs extensions content v count rest c h in
    let m = front_of kind version rs extensions content v count rest c h count first after (omega arith) s in
    let none = nothing_more first m.more rs m.whole (omega (arith, s.many, p.count_is)) in
    record {
      same = sym (m.whole ∙ (ap (λ (t : List RawEntry). first ++ t) none ∙ append-nil first));
      rest = m.left ∙ ap (λ (t : List RawEntry). flat_map (raw_bytes kind v) t ++ extensions) none;
    }

-- A content has one version and one list of entries.
record Same (version v : ℕ) (rs xs : List RawEntry) : Type 0 where
  version_is : v ≡ version
  entries_are : xs ≡ rs

one_content : (kind : HashKind) (version : ℕ) (rs : List RawEntry) (extensions content : List ℕ) (v : ℕ) (xs : List RawEntry) (others : List ℕ) → IsContent kind version rs extensions content → IsContent kind v xs others content → Same version v rs xs
one_content kind version rs extensions content v xs others c d =
    let h : HasHeader content v (length xs) (after_header kind v xs others) = record { signature = signature; reads = content_reads kind v xs others content d } in
    let s : Spells kind v (length xs) (after_header kind v xs others) xs others = record { many = refl; fit = d.fit; parts = refl } in
    record {
      version_is = (same_header kind version rs extensions content v (length xs) (after_header kind v xs others) c h).version_is;
      entries_are = (all_of kind version rs extensions content v (length xs) (after_header kind v xs others) c h xs others s).same;
    }

-- ---- entries that follow each other are an index or not

abbrev fits_at : HashKind → ℕ → List RawEntry → RawEntry → List RawEntry → Type 0
fits_at kind version before r after = AllByRecursion (RawFits kind version) (before ++ r ∷ after)

fit_of : (kind : HashKind) (version : ℕ) (before : List RawEntry) (r : RawEntry) (after : List RawEntry) → fits_at kind version before r after → RawFits kind version r
fit_of kind version [] r after f = f.0
fit_of kind version (x ∷ before) r after f = fit_of kind version before r after f.1

follows_at : (version : ℕ) (path : List ℕ) (before : List RawEntry) (r : RawEntry) (after : List RawEntry) → AllFollow version path (before ++ r ∷ after) → Follows version (last_path version path before) r
follows_at version path [] r after f = f.0
follows_at version path (x ∷ before) r after f = follows_at version (path_after version path x) before r after f.1

entries_front : (version : ℕ) (path : List ℕ) (first more : List RawEntry) → (rest : List IndexEntry) × (entries_after version path (first ++ more) ≡ entries_after version path first ++ rest)
entries_front version path [] more = (entries_after version path more, refl)
entries_front version path (x ∷ first) more =
    let t = entries_front version (path_after version path x) first more in
    (t.0, ap (λ (es : List IndexEntry). entry_after version path x ∷ es) t.1)

four_by : (version : ℕ) (b : Bool) → eqb version 4 ≡ b → (version ≡ 4) ⊎ (version ≢ 4)
four_by version true e = inl (eqb-true version 4 e)
four_by version false e = inr (λ four. let t : eqb version 4 ≡ true = rw four refl in absurd cc)

four_or_not : (version : ℕ) → (version ≡ 4) ⊎ (version ≢ 4)
four_or_not version = four_by version (eqb version 4) refl

pub entries_not_refused : (kind : HashKind) (version : ℕ) (rs : List RawEntry) (e : IndexFileError) → AllByRecursion (RawFits kind version) rs → AllFollow version [] rs → IsIndex (entries_after version [] rs) → IsEntriesRefusal version rs e → e ≡ errors.Memory
entries_not_refused kind version rs (errors.Strip at) fit follow valid r =
    let c = r.comes in
    let f = follows_at version [] c.before r.entry c.after (subst (AllFollow version []) c.parts follow) in
    let g = fit_of kind version c.before r.entry c.after (subst (AllByRecursion (RawFits kind version)) c.parts fit) in
    absurd (elim (four_or_not version) [
      | inl four ↦ omega (arith, r.too_much, f.strip four)
      | inr ne ↦ omega (arith, r.too_much, g.strip.1 ne)
    ])
entries_not_refused kind version rs (errors.NameLength at) fit follow valid r =
    let c = r.comes in
    let f = follows_at version [] c.before r.entry c.after (subst (AllFollow version []) c.parts follow) in
    absurd (r.other f.stated)
entries_not_refused kind version rs (errors.Index e) fit follow valid r =
    let t = entries_front version [] r.first r.after in
    let whole : entries_after version [] rs ≡ entries_after version [] r.first ++ t.0 = ap (entries_after version []) r.parts ∙ t.1 in
    absurd (r.not_memory (Memory-from_index (entries_after version [] r.first ++ t.0) e (subst IsIndex whole valid) (IsRefusal-more (entries_after version [] r.first) t.0 e r.refusal)))
entries_not_refused kind version rs errors.Memory fit follow valid r = refl
entries_not_refused kind version rs (errors.Header f) fit follow valid r = absurd r
entries_not_refused kind version rs errors.Checksum fit follow valid r = absurd r
entries_not_refused kind version rs (errors.Entry n f) fit follow valid r = absurd r
entries_not_refused kind version rs (errors.Extension n) fit follow valid r = absurd r
entries_not_refused kind version rs (errors.Required n) fit follow valid r = absurd r

-- ---- the parts of a file

record Parts (kind : HashKind) (bytes inner end : List ℕ) : Type 0 where
  content : content_of kind bytes ≡ inner
  sum : sum_of kind bytes ≡ end

parts_of : (kind : HashKind) (bytes : List ℕ) (version : ℕ) (es : List IndexEntry) (extensions : List ℕ) (f : IsFileOf kind bytes version es extensions) → Parts kind bytes f.content f.sum
parts_of kind bytes version es extensions f =
    let len = sum_len kind f.content f.sum f.checked in
    let at : length bytes - id_len kind ≡ length f.content = omega (arith, ap length f.whole, length-append f.content f.sum) in
    record {
      content = rw (at, f.whole) (take_at f.content f.sum (length f.content) refl);
      sum = rw (at, f.whole) (drop_at f.content f.sum (length f.content) refl);
    }

reads_more : (kind : HashKind) (version : ℕ) (more : List RawEntry) (rest after : List ℕ) (fault : Fault) → AllByRecursion (RawFits kind version) more → after ≡ flat_map (raw_bytes kind version) more ++ rest → 0 < length more → raw_at kind version after ≡ Err fault → ⊥
reads_more kind version [] rest after fault fit e lt r = absurd (omega arith)
reads_more kind version (x ∷ more) rest after fault fit e lt r =
    let got = reads_first kind version x more rest fit.0 in
    got_never (x, flat_map (raw_bytes kind version) more ++ rest) fault (sym got ∙ (ap (raw_at kind version) (sym e) ∙ r))

-- Extensions that aren't read are no end of a content.
no_extensions : (kind : HashKind) (version : ℕ) (rs : List RawEntry) (extensions content : List ℕ) (after rest : List ℕ) (fault : Fault) → IsContent kind version rs extensions content → (h : HasEntries kind content after) → NoExtensionAt after rest fault → ⊥
no_extensions kind version rs extensions content after rest fault c h r =
    let a = all_of kind version rs extensions content h.version h.count h.rest c h.header h.entries after h.spells in
    none_refused after rest fault (subst AreExtensions (sym a.rest) c.optional) r

no_index : (kind : HashKind) (bytes : List ℕ) (version : ℕ) (es : List IndexEntry) (extensions : List ℕ) (e : IndexFileError) → IsFileOf kind bytes version es extensions → IsIndex es → NoIndexIn kind (content_of kind bytes) e → e ≡ errors.Memory
no_index kind bytes version es extensions e f valid r =
    let p = parts_of kind bytes version es extensions f in
    let parts : IsContent kind r.version r.raw r.extensions f.content = subst (IsContent kind r.version r.raw r.extensions) p.content r.parts in
    let s = one_content kind version f.raw extensions f.content r.version r.raw r.extensions f.parts parts in
    let refusal : IsEntriesRefusal version f.raw e = subst (λ (v : ℕ). IsEntriesRefusal v f.raw e) s.version_is (subst (λ (xs : List RawEntry). IsEntriesRefusal r.version xs e) s.entries_are r.refusal) in
    entries_not_refused kind version f.raw e f.parts.fit f.follow (subst IsIndex f.entries valid) refusal

applies_not : (kind : HashKind) (bytes : List ℕ) (es : List IndexEntry) (e : IndexFileError) → IsIndexFile kind bytes es → IsIndex es → Applies kind bytes e → e ≡ errors.Memory
applies_not kind bytes es (errors.Header fault) g valid r =
    let f = g.file in
    let p = parts_of kind bytes g.version es g.extensions f in
    absurd (head_fails _ fault (sym (content_reads kind g.version f.raw g.extensions f.content f.parts) ∙ (ap header_at (sym p.content) ∙ r)))
applies_not kind bytes es errors.Checksum g valid r =
    let p = parts_of kind bytes g.version es g.extensions g.file in
    absurd (r (rw (p.content, p.sum) g.file.checked))
applies_not kind bytes es (errors.Entry at fault) g valid r =
    let f = g.file in
    let p = parts_of kind bytes g.version es g.extensions f in
    let n = r.none in
    let h : HasHeader f.content r.version r.count r.rest = subst (λ (t : List ℕ). HasHeader t r.version r.count r.rest) p.content r.header in
    let q = same_header kind g.version f.raw g.extensions f.content r.version r.count r.rest f.parts h in
    let m = front_of kind g.version f.raw g.extensions f.content r.version r.count r.rest f.parts h at n.before n.rest (omega (arith, r.within)) n.spells in
    let some : 0 < length m.more = omega (arith, r.within, q.count_is, n.spells.many, ap length m.whole, length-append n.before m.more) in
    absurd (reads_more kind r.version m.more g.extensions n.rest fault m.fit m.left some n.refused)
applies_not kind bytes es (errors.Extension at) g valid r =
    let f = g.file in
    let p = parts_of kind bytes g.version es g.extensions f in
    absurd (no_extensions kind g.version f.raw g.extensions (content_of kind bytes) r.after r.rest faults.Truncated (subst (IsContent kind g.version f.raw g.extensions) (sym p.content) f.parts) r.entries r.refusal)
applies_not kind bytes es (errors.Required name) g valid r =
    let f = g.file in
    let p = parts_of kind bytes g.version es g.extensions f in
    absurd (no_extensions kind g.version f.raw g.extensions (content_of kind bytes) r.after r.rest faults.Required (subst (IsContent kind g.version f.raw g.extensions) (sym p.content) f.parts) r.entries r.refusal)
applies_not kind bytes es (errors.Strip at) g valid r = no_index kind bytes g.version es g.extensions (errors.Strip at) g.file valid r
applies_not kind bytes es (errors.NameLength at) g valid r = no_index kind bytes g.version es g.extensions (errors.NameLength at) g.file valid r
applies_not kind bytes es (errors.Index e) g valid r = no_index kind bytes g.version es g.extensions (errors.Index e) g.file valid r
applies_not kind bytes es errors.Memory g valid r = refl

pub not_refused : (kind : HashKind) (bytes : List ℕ) (es : List IndexEntry) (e : IndexFileError) → IsIndexFile kind bytes es → IsIndex es → IsFileRefusal kind bytes e → e ≡ errors.Memory
not_refused kind bytes es e g valid r = applies_not kind bytes es e g valid r.applies

-- ---- what is read is a file

pub is_content : (kind : HashKind) (content : List ℕ) (version count : ℕ) (rest : List ℕ) (rs : List RawEntry) (after : List ℕ) → IsBytes content → HasHeader content version count rest → Spells kind version count rest rs after → AreExtensions after → IsContent kind version rs after content
is_content kind content version count rest rs after fits h s optional =
    let p = header_of content version count rest fits h in
    record {
      known = p.known;
      count = omega (arith, s.many, p.small);
      fit = s.fit;
      optional = optional;
      whole = p.parts ∙ (ap (λ (t : List ℕ). header_bytes version count ++ t) s.parts ∙ ap (λ (n : ℕ). header_bytes version n ++ (flat_map (raw_bytes kind version) rs ++ after)) (sym s.many));
    }

pub is_file : (kind : HashKind) (bytes : List ℕ) (version : ℕ) (rs : List RawEntry) (es : List IndexEntry) (after : List ℕ) → IsContent kind version rs after (content_of kind bytes) → AllFollow version [] rs → es ≡ entries_after version [] rs
    → IsChecksum kind (content_of kind bytes) (sum_of kind bytes) → IsFileOf kind bytes version es after
is_file kind bytes version rs es after c follow entries checked = record {
  raw = rs;
  content = content_of kind bytes;
  sum = sum_of kind bytes;
  parts = c;
  follow = follow;
  entries = entries;
  checked = checked;
  whole = sym (take-append-drop (length bytes - id_len kind) bytes);
}

-- A file has one list of entries.
pub one_file : (kind : HashKind) (bytes : List ℕ) (version : ℕ) (es : List IndexEntry) (extensions : List ℕ) (other : List IndexEntry) → IsFileOf kind bytes version es extensions → IsIndexFile kind bytes other → es ≡ other
one_file kind bytes version es extensions other f g =
    let p = parts_of kind bytes version es extensions f in
    let q = parts_of kind bytes g.version other g.extensions g.file in
    let d : IsContent kind g.version g.file.raw g.extensions f.content = subst (IsContent kind g.version g.file.raw g.extensions) (sym q.content ∙ p.content) g.file.parts in
    let s = one_content kind version f.raw extensions f.content g.version g.file.raw g.extensions f.parts d in
    f.entries ∙ ap (λ (v : ℕ). entries_after v [] f.raw) (sym s.version_is) ∙ ap (entries_after g.version []) (sym s.entries_are) ∙ sym g.file.entries

pub too_short : (kind : HashKind) (bytes : List ℕ) → length bytes < id_len kind → header_at (content_of kind bytes) ≡ Err faults.Truncated
unfolding header_at u32_at
too_short kind bytes lt =
    let none : length bytes - id_len kind ≡ 0 = omega arith in
    rw none refl

-- of a valid index, what is read has its entries, and it is refused only if memory runs out
pub only_of : (kind : HashKind) (bytes : List ℕ) (timestamp : Moment) (result : Result IndexFile IndexFileError) → IfOk result (IsUncheckedFile kind bytes timestamp) → EndsWithChecksum kind bytes → IfErr result (IsFileRefusal kind bytes)
    → (es : List IndexEntry) → IsIndexFile kind bytes es → IsIndex es → MatchResult result (λ r. index_of r.state ≡ es) (λ e. e ≡ errors.Memory)
only_of kind bytes timestamp (Ok r) read summed refused es f valid = one_file kind bytes r.version (index_of r.state) r.extensions.now es (read.found summed) f
only_of kind bytes timestamp (Err e) read summed refused es f valid = not_refused kind bytes es e f valid refused
