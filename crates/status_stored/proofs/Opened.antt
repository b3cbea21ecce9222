-- The index of a formed world is the same after it was stored and loaded.
use Rattle.std.proofs.Common.{◌≡◌, refl, sym, subst, ◌∙◌, ℕ, List, map, Result, Ok, Err, IfErr, OnOk}
use Rattle.status_index.specs.declared.stat.Moment.{Moment}
use Rattle.status_index.specs.declared.state.State.{State}
use Rattle.status_index.specs.Entries.{IndexEntry}
use Rattle.status_index.specs.FlagBits.{bits_of_stage}
use Rattle.status_index.specs.States.{index_of, timestamp_of}
use Rattle.status_stored.specs.declared.error.ReopenError.TheVariants as errors
use Rattle.status_stored.specs.RoundTrip.{IsRoundTrip}
use Rattle.status_stored.specs.Storable.{AreKnown, IsNotUtf8At, IsStorableIndex}
use Rattle.status_format.specs.Storable.{HasKnownBits, known_entry}
use Rattle.status_stored.specs.Reopening.{IsOpeningRefusal}
use Rattle.status_stored.proofs.Back.{entries_same}
use Rattle.status_world.specs.declared.world.event.Refusal.{Refusal}
use Rattle.status_world.specs.declared.world.event.Refusal.TheVariants.{OtherIndex}
use Rattle.status_world.specs.SameIndex as opens
use Rattle.status_world.specs.Sound.{IsFormed}
use Rattle.status_world.specs.StampedWorld.{StampedWorld}
use Rattle.status_world.proofs.EntryVerdicts.{each_entry}

-- Without a flag besides the stage, all flags are known.
known : (bits : ℕ) → bits ≡ bits_of_stage 0 → HasKnownBits bits
known bits none = subst HasKnownBits (sym none) refl

pub known_flags : (w : StampedWorld) → IsFormed w → AreKnown w.entries
known_flags w formed k d inside = known _ (each_entry w formed k d inside).formed.flags

-- ---- the result

pub not_text : (w : StampedWorld) (es : List IndexEntry) (t : Moment) (at : ℕ) → es ≡ w.entries → IsRoundTrip es t (Err (errors.NotUtf8 at))
    → IsOpeningRefusal w OtherIndex
not_text w es t at own h = λ formed. (at, subst (λ l. IsNotUtf8At l at) own h)

pub unread : (w : StampedWorld) (es : List IndexEntry) (t : Moment) → es ≡ w.entries → IsRoundTrip es t (Err errors.Unreadable)
    → IsOpeningRefusal w OtherIndex
unread w es t own h = absurd h

-- A loaded index was storable.
pub storable : (w : StampedWorld) (es : List IndexEntry) (t : Moment) (s : State) (r : Result (Unit {0}) Refusal) → es ≡ w.entries → t ≡ w.timestamp
    → IsRoundTrip es t (Ok s) → OnOk r (IsStorableIndex w.entries w.timestamp)
storable w es t s (Ok _) own own_time loaded = subst (λ u. IsStorableIndex w.entries u) own_time (subst (λ l. IsStorableIndex l t) own loaded.0)
storable w es t s (Err r) own own_time loaded = tt

-- A loaded index isn't refused in a formed world.
pub refused : (w : StampedWorld) (es : List IndexEntry) (t : Moment) (s : State) (r : Result (Unit {0}) Refusal) (new : StampedWorld) → es ≡ w.entries
    → t ≡ w.timestamp → IsRoundTrip es t (Ok s) → opens.IsIndexReplaced (index_of s) (timestamp_of s) w r new → IfErr r (IsOpeningRefusal w)
refused w es t s (Ok _) new own own_time loaded opened = tt
refused w es t s (Err r) new own own_time loaded opened =
    subst (IsOpeningRefusal w) (sym opened.0)
    (λ formed.
    let known : map known_entry es ≡ es = entries_same es (subst AreKnown (sym own) (known_flags w formed)) in
    absurd (opened.1 (sym (loaded.1.1 ∙ own_time), sym (loaded.1.0 ∙ known ∙ own))))
