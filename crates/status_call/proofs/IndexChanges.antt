-- The changes that are stored: position by position, and of the index's own entries alone.
use Rattle.std.proofs.Common.{◌≡◌, refl, sym, ap, subst, ◌∙◌, ℕ, zero, suc, ◌<◌, arith, All, List, [], ◌∷◌, ◌++◌, map, length, Option, Some, None, Result, slice_index_or, slice_set, true, false}
use Rattle.std.specs.List.{cons_option, filter_map}
use Rattle.std.proofs.lemmas.List.Elements.{All-nil, All-cons, All-head, All-tail, filter_map-append}
use Rattle.std.proofs.lemmas.List.{append-nil, length-map}
use Rattle.std.proofs.lemmas.Option.{slice_get_within}
use Rattle.status_index.specs.declared.id.ObjectId.TheVariants.{Sha1}
use Rattle.status_index.specs.declared.mode.Mode.TheVariants.{File}
use Rattle.status_index.specs.declared.state.State.{State}
use Rattle.status_index.specs.Entries.{IndexEntry, index_entry}
use Rattle.status_index.specs.States.{ChangesAt, entries_of, backing_of, index_of, with_stat}
use Rattle.status_compare.specs.declared.error.Error.{Error}
use Rattle.status_call.specs.declared.index_as_worktree.apply.ApplyChange.{ApplyChange}
use Rattle.status_call.specs.declared.index_as_worktree.apply.ApplyChange.TheVariants.{NewStat, SetSizeToZero}
use Rattle.status_call.specs.declared.index_as_worktree.types.Change.TheVariants as changes
use Rattle.status_call.specs.declared.index_as_worktree.types.EntryStatus.{EntryStatus}
use Rattle.status_call.specs.declared.index_as_worktree.types.EntryStatus.TheVariants as statuses
use Rattle.status_call.specs.declared.index_as_worktree.types.Outcome.{Outcome}
use Rattle.status_call.specs.IndexChanges.{AreInside, DifferInStats, applied, applied_one, change_at, change_of, changed_entry, changes_of, entry_index_of}
use Rattle.status_call.specs.Query.{Query}
use Rattle.status_call.specs.StatusTheorem.{IsStatusReport}
use Rattle.status_call.specs.Visits.{Visit, IsFaithful}

-- ---- one position

-- An empty entry.
abbrev pub no_entry : IndexEntry
no_entry = record {
  path = [];
  stat = record {
    mtime = record { secs = 0; nsecs = 0 };
    ctime = record { secs = 0; nsecs = 0 };
    dev = 0;
    ino = 0;
    uid = 0;
    gid = 0;
    size = 0;
  };
  id = Sha1 [];
  flags = record { 0 = 0 };
  mode = File;
}

-- The list after an entry's change, as the contracts of the index state it.
pub changes_is : (f : IndexEntry → IndexEntry) (at : ℕ) (old new : List IndexEntry) → ChangesAt f at old new → new ≡ change_at f at old
changes_is f at old new h = h no_entry ∙ sym (set_is at old)
  where
    set_is : (n : ℕ) (es : List IndexEntry) → change_at f n es ≡ slice_set es n (f (slice_index_or es n no_entry))
    set_is n [] = refl
    set_is zero (e ∷ es) = refl
    set_is (suc n) (e ∷ es) = ap (λ (l : List IndexEntry). e ∷ l) (set_is n es)

length-change_at : (f : IndexEntry → IndexEntry) (at : ℕ) (es : List IndexEntry) → length (change_at f at es) ≡ length es
length-change_at f at [] = refl
length-change_at f zero (e ∷ es) = refl
length-change_at f (suc at) (e ∷ es) = ap suc (length-change_at f at es)

pub change_behind : (f : IndexEntry → IndexEntry) (done : List IndexEntry) (e : IndexEntry) (es : List IndexEntry) → change_at f (length done) (done ++ e ∷ es) ≡ done ++ f e ∷ es
change_behind f [] e es = refl
change_behind f (x ∷ done) e es = ap (λ (l : List IndexEntry). x ∷ l) (change_behind f done e es)

-- ---- all changes

-- Changes keep the number of entries.
pub length-applied : (cs : List ApplyChange) (es : List IndexEntry) → length (applied cs es) ≡ length es
length-applied [] es = refl
length-applied (c ∷ cs) es = length-applied cs (applied_one c es) ∙ length-change_at (changed_entry c) (entry_index_of c) es

-- One change more, as at a step of a loop.
pub applied-append : (cs later : List ApplyChange) (es : List IndexEntry) → applied (cs ++ later) es ≡ applied later (applied cs es)
applied-append [] later es = refl
applied-append (c ∷ cs) later es = applied-append cs later (applied_one c es)

-- Nothing but stats changes.
pub stats_alone : (cs : List ApplyChange) (es : List IndexEntry) → DifferInStats (applied cs es) es
stats_alone [] es s = refl
stats_alone (c ∷ cs) es s = stats_alone cs (applied_one c es) s ∙ at_place (entry_index_of c) es
  where
    kept : (d : ApplyChange) (e : IndexEntry) → with_stat s (changed_entry d e) ≡ with_stat s e
    kept (NewStat at stat) e = refl
    kept (SetSizeToZero at) e = refl

    at_place : (n : ℕ) (rest : List IndexEntry) → map (with_stat s) (change_at (changed_entry c) n rest) ≡ map (with_stat s) rest
    at_place n [] = refl
    at_place zero (e ∷ rest) = ap (λ (x : IndexEntry). x ∷ map (with_stat s) rest) (kept c e)
    at_place (suc n) (e ∷ rest) = ap (λ (l : List IndexEntry). with_stat s e ∷ l) (at_place n rest)

-- ---- changes that a status asks for

-- One item more, as at a step of a loop: with its result, or without.
pub kept_some : {X Y : Type 0} (h : X → Option Y) (xs : List X) (x : X) (y : Y) → h x ≡ Some y → filter_map h (xs ++ x ∷ []) ≡ filter_map h xs ++ y ∷ []
kept_some {X} {Y} h xs x y same = filter_map-append h xs (x ∷ []) ∙ ap (λ (o : Option Y). filter_map h xs ++ cons_option o []) same

pub kept_none : {X Y : Type 0} (h : X → Option Y) (xs : List X) (x : X) → h x ≡ None → filter_map h (xs ++ x ∷ []) ≡ filter_map h xs
kept_none {X} {Y} h xs x same = filter_map-append h xs (x ∷ []) ∙ ap (λ (o : Option Y). filter_map h xs ++ cons_option o []) same ∙ append-nil (filter_map h xs)

module _ {T U : Type 0} where
  -- The change that a record asks for, if any.
  abbrev pub asked : Visit T U → Option ApplyChange
  asked v = change_of v.entry_index v.status

  -- A status asks for a change of the entry at its position.
  pub place_kept : (at : ℕ) (s : EntryStatus T U) (c : ApplyChange) → change_of at s ≡ Some c → entry_index_of c ≡ at
  place_kept at (statuses.NeedsUpdate stat) c h = cc
  place_kept at (statuses.Change (changes.Modification x k true)) c h = cc
  place_kept at (statuses.Change (changes.Modification x k false)) c h = absurd (cc)
  place_kept at s c h = absurd (cc)

  pub one_inside : (at : ℕ) (s : EntryStatus T U) (o : Option ApplyChange) → change_of at s ≡ o → (cs : List ApplyChange) (es : List IndexEntry) → at < length es → AreInside cs es → AreInside (cons_option o cs) es
  one_inside at s None h cs es within later = later
  one_inside at s (Some c) h cs es within later =
      let place : entry_index_of c ≡ at = place_kept at s c h in
      All-cons (λ (x : ApplyChange). entry_index_of x < length es) c cs (omega (arith, place, within)) later

  -- The changes for entries that are the index's own are of positions within it.
  pub changes_inside : (index : State) (vs : List (Visit T U)) → All (IsFaithful (entries_of index) (backing_of index)) vs → AreInside (changes_of vs) (index_of index)
  changes_inside index [] all = All-nil (λ (c : ApplyChange). entry_index_of c < length (index_of index))
  changes_inside index (v ∷ vs) all =
      let within : v.entry_index < length (entries_of index) = slice_get_within (entries_of index) v.entry_index v.entry (All-head (IsFaithful (entries_of index) (backing_of index)) v vs all).entry in
      let long : length (index_of index) ≡ length (entries_of index) = length-map (entries_of index) (index_entry (backing_of index)) in
      one_inside v.entry_index v.status (asked v) refl (changes_of vs) (index_of index) (omega (arith, long, within))
      (changes_inside index vs (All-tail (IsFaithful (entries_of index) (backing_of index)) v vs all))

  -- A status asks for no change at a position that the index doesn't have, with a collector that had nothing before.
  pub status_inside : (q : Query T U) (index : State) (old : List (Visit T U)) (result : Result Outcome Error) (new : List (Visit T U)) → IsStatusReport q index old result new
      → old ≡ [] → AreInside (changes_of new) (index_of index)
  status_inside q index old result new met none =
      let grown : new ≡ met.more = met.grew ∙ ap (λ (l : List (Visit T U)). l ++ met.more) none in
      subst (λ vs. AreInside (changes_of vs) (index_of index)) (sym grown) (changes_inside index met.more met.faithful)
