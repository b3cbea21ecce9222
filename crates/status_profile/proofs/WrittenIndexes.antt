-- The members of an index in an object are read as that index, and why there may be none.
use Rattle.std.proofs.Common.{◌≡◌, ◌≤◌, ℕ, List, [], ◌∷◌, length, map, Some, All, refl, ap, ◌∙◌, arith}
use Rattle.std.specs.Prelude.{codes}
use Rattle.serde_json.specs.Data.{Data, null, boolean, number, string, array, object, Members, depth, put}
use Rattle.serde_json.specs.Find.{get_member}
use Rattle.serde_json.specs.Read.{max_depth}
use Rattle.serde_json.proofs.Views.{get_member-put, get_member-put_other}
use Rattle.status_index.specs.declared.stat.Moment.{Moment}
use Rattle.status_index.specs.Entries.{IndexEntry}
use Rattle.status_format.specs.Reading.{entries_in, stamp_in}
use Rattle.status_format.specs.Reads.{needed}
use Rattle.status_format.specs.Storable.{Fits32, IsStorable, known_entry}
use Rattle.status_format.specs.StoredEntry.{stored_stamp}
use Rattle.status_format.proofs.EntryBack.{moment_back}
use Rattle.status_stored.specs.declared.error.StoreError.{StoreError}
use Rattle.status_stored.specs.declared.error.StoreError.TheVariants.{NotUtf8, Memory}
use Rattle.status_stored.specs.Storable.{AreUtf8, IsNotUtf8At, IsStoreRefusal}
use Rattle.status_stored.specs.StoredIndex.{stored_entries, stored_with}
use Rattle.status_stored.proofs.Back.{entries_back}
use Rattle.status_stored.proofs.Depths.{with_depth}
use Rattle.status_profile.specs.Failures.{error_of_store}
use Rattle.status_profile.specs.Refreshed.{IsUnwritten, refreshed}

apart : codes "index" ≡ codes "timestamp" → ⊥
apart same =
    let lengths : 5 ≡ 9 = ap length same in
    absurd (omega (arith, lengths))

pub entries_read : (ms : Members) (es : List IndexEntry) (t : Moment) → All IsStorable es → needed entries_in (get_member (codes "index") (stored_with ms es t)) ≡ Some (map known_entry es)
entries_read ms es t h =
    let stamp = stored_stamp t.secs t.nsecs in
    let found = get_member-put_other (codes "index") (codes "timestamp") stamp (put (codes "index") (stored_entries es) ms) apart ∙ get_member-put (codes "index") (stored_entries es) ms in
    ap (needed entries_in) found ∙ entries_back es h

pub timestamp_read : (ms : Members) (es : List IndexEntry) (t : Moment) → Fits32 t.secs → Fits32 t.nsecs → needed stamp_in (get_member (codes "timestamp") (stored_with ms es t)) ≡ Some t
timestamp_read ms es t secs nsecs = ap (needed stamp_in) (get_member-put (codes "timestamp") (stored_stamp t.secs t.nsecs) (put (codes "index") (stored_entries es) ms)) ∙ moment_back t secs nsecs

pub others_kept : (key : List ℕ) (ms : Members) (es : List IndexEntry) (t : Moment) → (key ≡ codes "index" → ⊥) → (key ≡ codes "timestamp" → ⊥) → get_member key (stored_with ms es t) ≡ get_member key ms
others_kept key ms es t index timestamp = get_member-put_other key (codes "timestamp") (stored_stamp t.secs t.nsecs) (put (codes "index") (stored_entries es) ms) timestamp
    ∙ get_member-put_other key (codes "index") (stored_entries es) ms index

-- a refreshed profile nests as deep as one may that is read
pub refreshed_depth : (d : Data) (es : List IndexEntry) (t : Moment) → depth d ≤ max_depth → depth (refreshed d es t) ≤ max_depth
refreshed_depth null es t h = h
refreshed_depth (boolean b) es t h = h
refreshed_depth (number n) es t h = h
refreshed_depth (string s) es t h = h
refreshed_depth (array ds) es t h = h
refreshed_depth (object ms) es t h =
    let members = with_depth ms es t (omega arith) in
    omega arith

not_all : (es : List IndexEntry) (at : ℕ) → IsNotUtf8At es at → AreUtf8 es → ⊥
not_all [] at h all = absurd (omega (arith, h.inside))
not_all (e ∷ es) at h all = h.here e (all at e h.inside)

pub unwritten : (es : List IndexEntry) (e : StoreError) → IsStoreRefusal es e → IsUnwritten es (error_of_store e)
unwritten es (NotUtf8 at) h = (refl, not_all es at h)
unwritten es Memory h = tt
