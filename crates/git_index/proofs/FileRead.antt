-- The parts of a file that were read, and the error of one that isn't read.
use Rattle.std.proofs.Common.{◌≡◌, ◌≢◌, ℕ, ◌<◌, ◌≤◌, cond, ltb, List, length, take, drop, Result, Ok, Err, refl, sym, ap, subst, arith, inl, inr, ◌⊎◌}
use Rattle.std.specs.List.{flat_map, AllByRecursion}
use Rattle.std.proofs.lemmas.Bool.{ltb-false}
use Rattle.std.proofs.lemmas.List.{length-append}
use Rattle.status_index.specs.declared.id.HashKind.{HashKind}
use Rattle.git_index.specs.declared.fault.Fault.{Fault}
use Rattle.git_index.specs.declared.fault.Fault.TheVariants.{Truncated, Required}
use Rattle.git_index.specs.declared.fault.IndexFileError.{IndexFileError}
use Rattle.git_index.specs.declared.fault.IndexFileError.TheVariants as errors
use Rattle.git_index.specs.RawEntry.{RawEntry, raw_bytes}
use Rattle.git_index.specs.Reading.{◌>>=◌, checked, u32_at, extension_name_at, content_at, extension_at}
use Rattle.git_index.specs.File.{header_bytes, is_known, IsContent, IsChecksum}
use Rattle.git_index.specs.Refusals.{IsHeaderRefusal, Spells, NoExtensionAt, HasHeader, HasEntries, IsEntriesRefusal, Applies, IsHeaded, Passes, IsFileRefusal, sum_of, content_of}
use Rattle.git_index.specs.Counting.{IsEntriesError, IsExtensionError}
use Rattle.git_index.proofs.Fields.{IsBytes}
use Rattle.git_index.proofs.Flags.{chosen}
use Rattle.git_index.proofs.OneFile.{header_of}

-- ---- faults of an extension

abbrev failed : {A : Type 0} → Fault → Result A Fault
failed f = Err f

fault_is : {A : Type 0} (a b : Fault) → failed {A = A} a ≡ failed b → a ≡ b
fault_is a b e = cc

bind_err : {A B : Type 0} (r : Result A Fault) (f : A → Result B Fault) (fault : Fault) → (r >>= f) ≡ Err fault → (r ≡ Err fault) ⊎ ((x : A) × (r ≡ Ok x) × (f x ≡ Err fault))
bind_err (Ok x) f fault e = inr (x, refl, e)
bind_err (Err d) f fault e = inl (ap (λ (x : Fault). failed x) (fault_is d fault e))

ok_never : {A : Type 0} (x : A) (fault : Fault) → Ok x ≡ failed {A = A} fault → ⊥
ok_never x fault e = cc

u32_fault : (bytes : List ℕ) (fault : Fault) → u32_at bytes ≡ Err fault → fault ≡ Truncated
unfolding u32_at
u32_fault bytes fault e =
    elim (chosen (ltb (length bytes) 4) (Err Truncated) (Ok (Rattle.std.specs.Int.from_be_bytes Rattle.std.specs.Int.w32 (take 4 bytes), drop 4 bytes)) (Err fault) e) [
      | inl h ↦ sym (fault_is Truncated fault h.1)
      | inr h ↦ absurd (ok_never _ fault h.1)
    ]

content_fault : (bytes : List ℕ) (fault : Fault) → content_at bytes ≡ Err fault → fault ≡ Truncated
unfolding content_at
content_fault bytes fault e =
    let k : ℕ × List ℕ → Result (List ℕ × List ℕ) Fault = λ len. cond (ltb (length len.1) len.0) (Err Truncated) (Ok (take len.0 len.1, drop len.0 len.1)) in
    elim (bind_err (u32_at bytes) k fault e) [
      | inl h ↦ u32_fault bytes fault h
      | inr h ↦ elim (chosen (ltb (length h.0.1) h.0.0) (Err Truncated) (Ok (take h.0.0 h.0.1, drop h.0.0 h.0.1)) (Err fault) h.2) [
        | inl g ↦ sym (fault_is Truncated fault g.1)
        | inr g ↦ absurd (ok_never _ fault g.1)
      ]
    ]

abbrev EitherFault : List ℕ → Fault → Type 0
EitherFault bytes fault = (fault ≡ Truncated) ⊎ ((fault ≡ Required) × (4 ≤ length bytes))

name_fault : (bytes : List ℕ) (fault : Fault) → checked is_known Required extension_name_at bytes ≡ Err fault → EitherFault bytes fault
unfolding extension_name_at
name_fault bytes fault e =
    let name : Result (List ℕ × List ℕ) Fault = cond (ltb (length bytes) 4) (Err Truncated) (Ok (take 4 bytes, drop 4 bytes)) in
    let k : List ℕ × List ℕ → Result (List ℕ × List ℕ) Fault = λ x. cond (is_known x.0) (Ok x) (Err Required) in
    elim (bind_err name k fault e) [
      | inl h ↦ elim (chosen (ltb (length bytes) 4) (Err Truncated) (Ok (take 4 bytes, drop 4 bytes)) (Err fault) h) [
        | inl g ↦ inl (sym (fault_is Truncated fault g.1))
        | inr g ↦ absurd (ok_never _ fault g.1)
      ]
      | inr h ↦ elim (chosen (ltb (length bytes) 4) (Err Truncated) (Ok (take 4 bytes, drop 4 bytes)) (Ok h.0) h.1) [
        | inl g ↦ absurd (ok_never h.0 Truncated (sym g.1))
        | inr g ↦ elim (chosen (is_known h.0.0) (Ok h.0) (Err Required) (Err fault) h.2) [
          | inl m ↦ absurd (ok_never h.0 fault m.1)
          | inr m ↦ inr (sym (fault_is Required fault m.1), ltb-false (length bytes) 4 g.0)
        ]
      ]
    ]

extension_fault : (bytes : List ℕ) (fault : Fault) → extension_at bytes ≡ Err fault → EitherFault bytes fault
unfolding extension_at
extension_fault bytes fault e =
    let k : List ℕ × List ℕ → Result ((List ℕ × List ℕ) × List ℕ) Fault = λ a. content_at a.1 >>= λ b. Ok ((a.0, b.0), b.1) in
    elim (bind_err (checked is_known Required extension_name_at bytes) k fault e) [
      | inl h ↦ name_fault bytes fault h
      | inr h ↦ elim (bind_err (content_at h.0.1) (λ b. Ok ((h.0.0, b.0), b.1)) fault h.2) [
        | inl g ↦ inl (content_fault h.0.1 fault g)
        | inr g ↦ absurd (ok_never _ fault g.2)
      ]
    ]

-- ---- errors of a file

pub entries_error : (kind : HashKind) (bytes : List ℕ) (version count : ℕ) (rest : List ℕ) (e : IndexFileError) → HasHeader (content_of kind bytes) version count rest → IsEntriesError kind version count rest e → Applies kind bytes e
entries_error kind bytes version count rest (errors.Entry at fault) h r = record { version = version; count = count; rest = rest; header = h; within = r.0; none = r.1 }
entries_error kind bytes version count rest errors.Memory h r = tt
entries_error kind bytes version count rest (errors.Header f) h r = absurd r
entries_error kind bytes version count rest errors.Checksum h r = absurd r
entries_error kind bytes version count rest (errors.Extension n) h r = absurd r
entries_error kind bytes version count rest (errors.Required n) h r = absurd r
entries_error kind bytes version count rest (errors.Strip n) h r = absurd r
entries_error kind bytes version count rest (errors.NameLength n) h r = absurd r
entries_error kind bytes version count rest (errors.Index x) h r = absurd r

truncated : (rest : List ℕ) (fault : Fault) → EitherFault rest fault → ((fault ≢ Required) ⊎ (length rest < 4)) → fault ≡ Truncated
truncated rest fault (inl h) other = h
truncated rest fault (inr h) (inl ne) = absurd (ne h.0)
truncated rest fault (inr h) (inr short) = absurd (omega (arith, h.1, short))

pub extension_error : (kind : HashKind) (bytes : List ℕ) (version count : ℕ) (first : List ℕ) (rs : List RawEntry) (after rest : List ℕ) (fault : Fault) (e : IndexFileError) → HasHeader (content_of kind bytes) version count first → Spells kind version count first rs after
    → NoExtensionAt after rest fault → IsExtensionError (content_of kind bytes) rest fault e → Applies kind bytes e
extension_error kind bytes version count first rs after rest fault (errors.Required name) h s r x =
    let entries : HasEntries kind (content_of kind bytes) after = record { version = version; count = count; rest = first; entries = rs; header = h; spells = s } in
    record { after = after; rest = rest; entries = entries; refusal = subst (NoExtensionAt after rest) x.0 r; named = x.1 }
extension_error kind bytes version count first rs after rest fault (errors.Extension at) h s r x =
    let entries : HasEntries kind (content_of kind bytes) after = record { version = version; count = count; rest = first; entries = rs; header = h; spells = s } in
    let cut : fault ≡ Truncated = truncated rest fault (extension_fault rest fault r.refused) x.0 in
    record { after = after; rest = rest; entries = entries; refusal = subst (NoExtensionAt after rest) cut r; place = x.1 }
extension_error kind bytes version count first rs after rest fault (errors.Header f) h s r x = absurd x
extension_error kind bytes version count first rs after rest fault errors.Checksum h s r x = absurd x
extension_error kind bytes version count first rs after rest fault (errors.Entry n f) h s r x = absurd x
extension_error kind bytes version count first rs after rest fault (errors.Strip n) h s r x = absurd x
extension_error kind bytes version count first rs after rest fault (errors.NameLength n) h s r x = absurd x
extension_error kind bytes version count first rs after rest fault (errors.Index n) h s r x = absurd x
extension_error kind bytes version count first rs after rest fault errors.Memory h s r x = absurd x

-- What isn't read of a content is no longer than it.
pub rest_within : (kind : HashKind) (content : List ℕ) (version count : ℕ) (first : List ℕ) (rs : List RawEntry) (after rest : List ℕ) (fault : Fault) → IsBytes content → HasHeader content version count first → Spells kind version count first rs after
    → NoExtensionAt after rest fault → length rest ≤ length content
rest_within kind content version count first rs after rest fault fits h s r =
    let p = header_of content version count first fits h in
    omega (
      arith,
      ap length p.parts,
      length-append (header_bytes version count) first,
      ap length s.parts,
      length-append (flat_map (raw_bytes kind version) rs) after,
      ap length r.parts,
      length-append r.before rest,
    )

pub entries_refused : (kind : HashKind) (bytes : List ℕ) (version : ℕ) (rs : List RawEntry) (extensions : List ℕ) (e : IndexFileError) → IsContent kind version rs extensions (content_of kind bytes) → IsEntriesRefusal version rs e → Applies kind bytes e
entries_refused kind bytes version rs extensions (errors.Strip at) c r = record { version = version; raw = rs; extensions = extensions; parts = c; refusal = r }
entries_refused kind bytes version rs extensions (errors.NameLength at) c r = record { version = version; raw = rs; extensions = extensions; parts = c; refusal = r }
entries_refused kind bytes version rs extensions (errors.Index x) c r = record { version = version; raw = rs; extensions = extensions; parts = c; refusal = r }
entries_refused kind bytes version rs extensions errors.Memory c r = tt
entries_refused kind bytes version rs extensions (errors.Header f) c r = absurd r
entries_refused kind bytes version rs extensions errors.Checksum c r = absurd r
entries_refused kind bytes version rs extensions (errors.Entry n f) c r = absurd r
entries_refused kind bytes version rs extensions (errors.Extension n) c r = absurd r
entries_refused kind bytes version rs extensions (errors.Required n) c r = absurd r

passed : (kind : HashKind) (bytes : List ℕ) (e : IndexFileError) → IsHeaded (content_of kind bytes) → IsChecksum kind (content_of kind bytes) (sum_of kind bytes) → Passes kind bytes e
passed kind bytes (errors.Header f) h s = tt
passed kind bytes errors.Checksum h s = h
passed kind bytes errors.Memory h s = tt
passed kind bytes (errors.Entry at f) h s = s
passed kind bytes (errors.Extension at) h s = s
passed kind bytes (errors.Required name) h s = s
passed kind bytes (errors.Strip at) h s = s
passed kind bytes (errors.NameLength at) h s = s
passed kind bytes (errors.Index x) h s = s

-- An error of a content that has a header and its checksum.
pub refusal : (kind : HashKind) (bytes : List ℕ) (version count : ℕ) (rest : List ℕ) (e : IndexFileError) → HasHeader (content_of kind bytes) version count rest → IsChecksum kind (content_of kind bytes) (sum_of kind bytes)
    → Applies kind bytes e → IsFileRefusal kind bytes e
refusal kind bytes version count rest e h s a = record { applies = a; passes = passed kind bytes e (record { version = version; count = count; rest = rest; header = h }) s }

-- a header that isn't read is refused, whatever the checksum
pub header_refusal : (kind : HashKind) (bytes : List ℕ) (e : IndexFileError) → IsHeaderRefusal kind bytes e → IsFileRefusal kind bytes e
header_refusal kind bytes (errors.Header f) r = record { applies = r; passes = tt }
header_refusal kind bytes errors.Checksum r = absurd r
header_refusal kind bytes (errors.Entry at f) r = absurd r
header_refusal kind bytes (errors.Extension at) r = absurd r
header_refusal kind bytes (errors.Required name) r = absurd r
header_refusal kind bytes (errors.Strip at) r = absurd r
header_refusal kind bytes (errors.NameLength at) r = absurd r
header_refusal kind bytes (errors.Index x) r = absurd r
header_refusal kind bytes errors.Memory r = absurd r
