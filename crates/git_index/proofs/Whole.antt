-- An entry that is read is the entry that was written, and what was written is read again.
use Rattle.std.proofs.Common.{◌≡◌, ℕ, ◌+◌, cond, List, ◌++◌, Result, Ok, refl, ap, subst, ◌∙◌, append_assoc}
use Rattle.status_index.specs.declared.stat.Stat.{Stat}
use Rattle.status_index.specs.declared.mode.Mode.{Mode}
use Rattle.status_index.specs.declared.id.ObjectId.{ObjectId}
use Rattle.status_index.specs.declared.id.HashKind.{HashKind}
use Rattle.status_index.specs.BlobId.{id_bytes}
use Rattle.git_index.specs.declared.fault.Fault.{Fault}
use Rattle.git_index.specs.RawEntry.{RawEntry, RawFits, fixed_bytes, id_len, is_extended, flags_bytes, name_bytes, before_name, raw_bytes}
use Rattle.git_index.specs.Reading.{◌>>=◌, fixed_at, id_at, flags_at, name_at, raw_at}
use Rattle.git_index.proofs.Fields.{IsBytes, bind_ok, ok_is, Takes, Takes-then, IsReader}
use Rattle.git_index.proofs.EntryFields.{fixed_reader, id_reader}
use Rattle.git_index.proofs.Flags.{flags_reader}
use Rattle.git_index.proofs.Names.{name_reader}

abbrev Fixed : Type 0
Fixed = (Stat × Mode) × List ℕ

abbrev Words : Type 0
Words = (ℕ × ℕ × ℕ) × List ℕ

abbrev Name : Type 0
Name = (ℕ × List ℕ) × List ℕ

abbrev made : Fixed → ObjectId × List ℕ → Words → Name → RawEntry × List ℕ
made fixed id flags name = (record { stat = fixed.0.0; mode = fixed.0.1; id = id.0; flags = flags.0.0; stated = flags.0.1; strip = name.0.0; name = name.0.1 }, name.1)

raw_takes : (kind : HashKind) (version : ℕ) (bytes : List ℕ) (x : RawEntry) (rest : List ℕ) → IsBytes bytes → raw_at kind version bytes ≡ Ok (x, rest) → Takes bytes (raw_bytes kind version x) rest × RawFits kind version x
unfolding raw_at raw_bytes
raw_takes kind version bytes x rest fits e =
    let d : Fixed → ObjectId × List ℕ → Words → Name → Result (RawEntry × List ℕ) Fault = λ fixed id flags name. Ok (made fixed id flags name) in
    let c : Fixed → ObjectId × List ℕ → Words → Result (RawEntry × List ℕ) Fault = λ fixed id flags. name_at version (40 + id_len kind + flags.0.2) flags.1 >>= d fixed id flags in
    let b : Fixed → ObjectId × List ℕ → Result (RawEntry × List ℕ) Fault = λ fixed id. flags_at version id.1 >>= c fixed id in
    let a : Fixed → Result (RawEntry × List ℕ) Fault = λ fixed. id_at kind fixed.1 >>= b fixed in
    let p0 = bind_ok (fixed_at bytes) a (x, rest) e in
    let p1 = bind_ok (id_at kind p0.0.1) (b p0.0) (x, rest) p0.2 in
    let p2 = bind_ok (flags_at version p1.0.1) (c p0.0 p1.0) (x, rest) p1.2 in
    let before = 40 + id_len kind + p2.0.0.2 in
    let p3 = bind_ok (name_at version before p2.0.1) (d p0.0 p1.0 p2.0) (x, rest) p2.2 in
    let flags = p2.0.0.0 in
    let stated = p2.0.0.1 in
    let strip = p3.0.0.0 in
    let name = p3.0.0.1 in
    let t0 = fixed_reader.takes bytes p0.0.0 p0.0.1 fits p0.1 in
    let t1 = (id_reader kind).takes p0.0.1 p1.0.0 p1.0.1 t0.0.rest_fits p1.1 in
    let t2 = (flags_reader version).takes p1.0.1 p2.0.0 p2.0.1 t1.0.rest_fits p2.1 in
    let t3 = (name_reader version before).takes p2.0.1 p3.0.0 p3.0.1 t2.0.rest_fits p3.1 in
    let same : before ≡ before_name kind flags = ap (λ (n : ℕ). 40 + id_len kind + n) t2.1.2 in
    let spelled = name_bytes version (before_name kind flags) strip name in
    let u3 : Takes p2.0.1 spelled p3.0.1 = subst (λ (n : ℕ). Takes p2.0.1 (name_bytes version n strip name) p3.0.1) same t3.0 in
    let v2 = Takes-then p1.0.1 (flags_bytes flags stated) p2.0.1 spelled p3.0.1 t2.0 u3 in
    let v1 = Takes-then p0.0.1 (id_bytes p1.0.0) p1.0.1 (flags_bytes flags stated ++ spelled) p3.0.1 t1.0 v2 in
    let v0 = Takes-then bytes (fixed_bytes p0.0.0.0 p0.0.0.1) p0.0.1 (id_bytes p1.0.0 ++ (flags_bytes flags stated ++ spelled)) p3.0.1 t0.0 v1 in
    let f : RawFits kind version (made p0.0 p1.0 p2.0 p3.0).0 = record { stat = t0.1; id_kind = t1.1.0; id_len = t1.1.1; flags = t2.1.0; stated = t2.1.1; strip = t3.1.0; name = t3.1.1 } in
    subst (λ (y : RawEntry × List ℕ). Takes bytes (raw_bytes kind version y.0) y.1 × RawFits kind version y.0) (ok_is (made p0.0 p1.0 p2.0 p3.0) (x, rest) p3.2) (v0, f)

raw_again : (kind : HashKind) (version : ℕ) (x : RawEntry) (rest : List ℕ) → RawFits kind version x → raw_at kind version (raw_bytes kind version x ++ rest) ≡ Ok (x, rest)
unfolding raw_at raw_bytes
raw_again kind version x rest fits =
    let size : ℕ = cond (is_extended x.flags) 4 2 in
    let f0 = fixed_bytes x.stat x.mode in
    let f1 = id_bytes x.id in
    let f2 = flags_bytes x.flags x.stated in
    let f3 = name_bytes version (before_name kind x.flags) x.strip x.name in
    let regrouped : (f0 ++ (f1 ++ (f2 ++ f3))) ++ rest ≡ f0 ++ (f1 ++ (f2 ++ (f3 ++ rest))) = simp append_assoc in
    ap (raw_at kind version) regrouped
    ∙ rw (
      fixed_reader.again (x.stat, x.mode) (f1 ++ (f2 ++ (f3 ++ rest))) fits.stat,
      (id_reader kind).again x.id (f2 ++ (f3 ++ rest)) (fits.id_kind, fits.id_len),
      (flags_reader version).again (x.flags, x.stated, size) (f3 ++ rest) (fits.flags, fits.stated, refl),
      (name_reader version (before_name kind x.flags)).again (x.strip, x.name) rest (fits.strip, fits.name),
    ) refl

pub raw_reader : (kind : HashKind) (version : ℕ) → IsReader RawEntry (raw_at kind version) (raw_bytes kind version) (RawFits kind version)
raw_reader kind version = record { takes = raw_takes kind version; again = raw_again kind version }
