-- An entry that was stored is read back, with only its known flags.
use Rattle.std.proofs.Common.{◌≡◌, ℕ, ◌^◌, ◌<◌, List, length, Some, Ok, refl, sym, arith}
use Rattle.std.proofs.lemmas.Bool.{lt-ltb}
use Rattle.hex.proofs.HexLemmas.{IsDigits-lower_digits, decode_pairs-encode_with, length-encode_with}
use Rattle.hex.specs.Hex.{IsBytes, decode_pairs, encode_lower, lower_digits}
use Rattle.serde_json.specs.Data.{string}
use Rattle.status_index.specs.declared.id.ObjectId.{ObjectId}
use Rattle.status_index.specs.declared.id.ObjectId.TheVariants.{Sha1, Sha256}
use Rattle.status_index.specs.declared.mode.Mode.{Mode}
use Rattle.status_index.specs.declared.mode.Mode.TheVariants as modes
use Rattle.status_index.specs.declared.stat.Moment.{Moment}
use Rattle.status_index.specs.declared.stat.Time.{Time}
use Rattle.status_index.specs.Entries.{IndexEntry, stage_of}
use Rattle.status_format.specs.Reading.{number_in, time_in, stamp_in, stage_in, stat_in, mode_in, id_in, entry_in}
use Rattle.status_format.specs.Storable.{HasKnownBits, known_entry, Fits32, FitsTime, FitsId, IsStorable}
use Rattle.status_format.specs.StoredEntry.{stored_number, stored_stamp, stored_time, stored_entry}
use Rattle.status_format.specs.Words.{mode_digits, id_digits}
use Rattle.status_format.proofs.FlagsBack.{flags_back}

pub number_back : (n : ℕ) → Fits32 n → number_in (stored_number n) ≡ Some n
number_back n fits = rw (lt-ltb n (2 ^ 32) fits) refl

pub time_back : (time : Time) → FitsTime time → time_in (stored_time time) ≡ Some time
time_back time fits = rw (number_back time.secs fits.secs, number_back time.nsecs fits.nsecs) refl

pub moment_back : (t : Moment) → Fits32 t.secs → Fits32 t.nsecs → stamp_in (stored_stamp t.secs t.nsecs) ≡ Some t
moment_back t secs nsecs = rw (number_back t.secs secs, number_back t.nsecs nsecs) refl

pub stage_back : (e : IndexEntry) → stage_in (stored_number (stage_of e)) ≡ Some (stage_of e)
stage_back e =
    let small : stage_of e < 4 = omega arith in
    let fits : stage_of e < 2 ^ 32 = omega arith in
    rw (number_back (stage_of e) fits, lt-ltb (stage_of e) 4 small) refl

pub mode_back : (mode : Mode) → mode_in (string (mode_digits mode)) ≡ Some mode
mode_back modes.Dir = refl
mode_back modes.File = refl
mode_back modes.FileExecutable = refl
mode_back modes.Symlink = refl
mode_back modes.Commit = refl

pairs_back : (digest : List ℕ) → IsBytes digest → decode_pairs 0 (encode_lower digest) ≡ Ok digest
pairs_back = decode_pairs-encode_with lower_digits IsDigits-lower_digits 0

pub id_back : (id : ObjectId) → FitsId id → id_in (string (id_digits id)) ≡ Some id
id_back (Sha1 digest) fits =
    let long : length (encode_lower digest) ≡ 40 = omega (arith, length-encode_with lower_digits digest, fits.0) in
    rw (long, pairs_back digest fits.1) refl
id_back (Sha256 digest) fits =
    let long : length (encode_lower digest) ≡ 64 = omega (arith, length-encode_with lower_digits digest, fits.0) in
    rw (long, pairs_back digest fits.1) refl

pub entry_back : (e : IndexEntry) → IsStorable e → entry_in (stored_entry e) ≡ Some (known_entry e)
unfolding entry_in stat_in
entry_back e h =
    let stat = h.stat in
    rw (
      id_back e.id h.id,
      stage_back e,
      flags_back e.flags.0,
      mode_back e.mode,
      number_back e.stat.size stat.size,
      time_back e.stat.mtime stat.mtime,
      time_back e.stat.ctime stat.ctime,
      number_back e.stat.dev stat.dev,
      number_back e.stat.ino stat.ino,
      number_back e.stat.uid stat.uid,
      number_back e.stat.gid stat.gid,
    ) refl

pub entry_same : (e : IndexEntry) → HasKnownBits e.flags.0 → known_entry e ≡ e
entry_same e known = λ i. record { path = e.path; stat = e.stat; id = e.id; flags = record { 0 = sym known i }; mode = e.mode }
