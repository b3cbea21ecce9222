-- After a refresh an entry shows the letters that it showed before.
use Rattle.std.proofs.Common.{◌≡◌, ◌≢◌, ◌⊎◌, ◌∙◌, inl, inr, refl, sym, ap, subst, ℕ, ◌<◌, ◌≤◌, ◌%◌, ◌^◌, ◌==◌, Bool, true, false, not, ◌&&◌, ◌||◌, List, [], Option, Some, None, Result, Ok, Err, IfOk, if◌then◌else◌, arith, codes}
use Rattle.std.proofs.Math.Path.{fun_ext}
use Rattle.std.proofs.lemmas.Bool.{and_parts, eq-eqb, eqb-true, leb-true, le-leb}
use Rattle.std.specs.Cmp.{nat_cmp_is, ranks}
use Rattle.std.specs.Ordering.{MatchOrdering, nat_cmp, ordering_then}
use Rattle.std.specs.Prelude.{nat_le}
use Rattle.std.specs.declared.cmp.Ordering.{Ordering}
use Rattle.std.specs.declared.cmp.Ordering.TheVariants.{Less, Equal, Greater}
use Rattle.status_index.specs.BlobId.{blob_id, id_kind, is_empty_blob, same_id}
use Rattle.status_index.specs.Content.{Content}
use Rattle.status_index.specs.Entries.{IndexEntry}
use Rattle.status_index.specs.NodeStat.{stat_of, stat_with}
use Rattle.status_index.specs.Orders.{moment_cmp}
use Rattle.status_index.specs.Stat.{counts_nsecs, is_racy, owner_agrees, racy_by_seconds, stat_agrees, time_agrees}
use Rattle.status_index.specs.States.{smudged, with_stat}
use Rattle.status_index.specs.declared.entry.TheConstants.Flags.{INTENT_TO_ADD}
use Rattle.status_index.specs.declared.fault.Fault.{Fault}
use Rattle.status_index.specs.declared.id.ObjectId.{ObjectId}
use Rattle.status_index.specs.declared.mode.Change.{Change as ModeChange}
use Rattle.status_index.specs.declared.mode.Change.TheVariants.{TypeChange, ExecutableBit}
use Rattle.status_index.specs.declared.stat.Metadata.{Metadata}
use Rattle.status_index.specs.declared.stat.Moment.{Moment}
use Rattle.status_index.specs.declared.stat.Options.{Options}
use Rattle.status_index.specs.declared.stat.Stat.{Stat}
use Rattle.status_index.specs.declared.stat.Time.{Time}
use Rattle.status_index.specs.Mode.{mode_change}
use Rattle.status_base.specs.Conversions.{Conversion}
use Rattle.status_base.specs.declared.worktree.objects.FindError.TheVariants as finds
use Rattle.status_compare.specs.Comparers.{answer_without_id, changed_result, fast_answer, hash_answer, reading_id, size_decides}
use Rattle.status_compare.specs.Reading.{Readings}
use Rattle.status_compare.specs.declared.error.Error.{Error}
use Rattle.status_call.specs.Considered.{has_flag}
use Rattle.status_call.specs.IndexChanges.{change_of, updated_entry}
use Rattle.status_call.specs.Query.{Query}
use Rattle.status_call.specs.Status.{Case, Found, added, answer, case_of_change, case_of_content, case_of_found, case_of_stat, compared, directory, found, is_trusted, nothing, present, reading, readings, refused, same_bool, status_of, unchanged}
use Rattle.status_call.specs.declared.index_as_worktree.apply.ApplyChange.{ApplyChange}
use Rattle.status_call.specs.declared.index_as_worktree.apply.ApplyChange.TheVariants.{NewStat, SetSizeToZero}
use Rattle.status_call.specs.declared.index_as_worktree.types.Change.TheVariants as changes
use Rattle.status_call.specs.declared.index_as_worktree.types.EntryStatus.{EntryStatus}
use Rattle.status_call.specs.declared.index_as_worktree.types.EntryStatus.TheVariants as statuses
use Rattle.git_status.specs.Lines.{letters}
use Rattle.git_status.specs.RefreshLaw.{ComparesBySizes, KeptLaw, LeftOutLaw, ReadsEmptyNode, SeesSame, shown_letters}

-- ---- tests and numbers

-- The second of four tests that hold.
second : (a b c d : Bool) → (a && b && c && d) ≡ true → b ≡ true
second a b c d h = (and_parts a b (and_parts (a && b) c (and_parts (a && b && c) d h).0).0).1

-- Tests fail if the second does.
second_fails : (a b c d f : Bool) → b ≡ false → (a && b && c && d && f) ≡ false
second_fails true true c d f h = absurd (cc)
second_fails true false c d f h = refl
second_fails false b c d f h = refl

same_as_true : (b : Bool) → same_bool b true ≡ true → b ≡ true
same_as_true true h = refl
same_as_true false h = absurd (cc)

-- A stat has the low 32 bits of the length.
abbrev size_or_zero : Option Stat → ℕ
size_or_zero (Some s) = s.size
size_or_zero None = 0

low_with : (n : Metadata) (m c : Option Time) (s : Stat) → stat_with n m c ≡ Some s → s.size ≡ n.len % 2 ^ 32
low_with n (Some m) (Some c) s h = sym (ap size_or_zero h)
low_with n (Some m) None s h = absurd (cc)
low_with n None (Some c) s h = absurd (cc)
low_with n None None s h = absurd (cc)

-- ---- time

-- An earlier second, or the same second and no later nanosecond.
abbrev IsEarly : Moment → Moment → Type 0
IsEarly a b = (a.secs < b.secs) ⊎ ((a.secs ≡ b.secs) × (a.nsecs ≤ b.nsecs))

is_early : (a b : Moment) → moment_cmp a b ≢ Greater → IsEarly a b
is_early a b = by (nat_cmp a.secs b.secs) (nat_cmp a.nsecs b.nsecs) (ranks a.secs b.secs) (ranks a.nsecs b.nsecs)
  where
    by : (o p : Ordering) → MatchOrdering o (a.secs < b.secs) (a.secs ≡ b.secs) (b.secs < a.secs) → MatchOrdering p (a.nsecs < b.nsecs) (a.nsecs ≡ b.nsecs) (b.nsecs < a.nsecs)
        → ordering_then o p ≢ Greater → IsEarly a b
    by Less p h k other = inl h
    by Equal Less h k other = inr (h, omega arith)
    by Equal Equal h k other = inr (h, omega arith)
    by Equal Greater h k other = absurd (other refl)
    by Greater p h k other = absurd (other refl)

not_after : (a m : ℕ) (o : Ordering) (x : Bool) → MatchOrdering o (a < m) (a ≡ m) (m < a) → racy_by_seconds o x ≡ true → a ≤ m
not_after a m Less x h racy = omega arith
not_after a m Equal x h racy = omega arith
not_after a m Greater x h racy = absurd (cc)

earlier_second : (a b m : ℕ) (x y : Bool) → a < b → racy_by_seconds (nat_cmp b m) x ≡ true → racy_by_seconds (nat_cmp a m) y ≡ true
earlier_second a b m x y less racy =
    let upto : b ≤ m = not_after b m (nat_cmp b m) x (ranks b m) racy in
    let below : a < m = omega arith in
    ap (λ (o : Ordering). racy_by_seconds o y) (sym (nat_cmp_is a m Less below))

same_second : (a b m : ℕ) (x y : Bool) → a ≡ b → (x ≡ true → y ≡ true) → racy_by_seconds (nat_cmp b m) x ≡ true → racy_by_seconds (nat_cmp a m) y ≡ true
same_second a b m x y same next racy = subst (λ (k : ℕ). racy_by_seconds (nat_cmp k m) y ≡ true) (sym same) (by (nat_cmp b m) racy)
  where
    by : (o : Ordering) → racy_by_seconds o x ≡ true → racy_by_seconds o y ≡ true
    by Less h = refl
    by Equal h = next h
    by Greater h = h

earlier_nanosecond : (coarse : Bool) (a b m : ℕ) → a ≤ b → (coarse || nat_le b m) ≡ true → (coarse || nat_le a m) ≡ true
earlier_nanosecond true a b m less h = refl
earlier_nanosecond false a b m less h = let upto : b ≤ m = leb-true b m h in le-leb a m (omega arith)

-- An index of an earlier time is racy too.
racy_too : (o : Options) (a b : Moment) (s : Stat) → IsEarly a b → is_racy o b s ≡ true → is_racy o a s ≡ true
racy_too o a b s (inl less) racy = earlier_second a.secs b.secs s.mtime.secs (not (counts_nsecs o) || nat_le b.nsecs s.mtime.nsecs) (not (counts_nsecs o) || nat_le a.nsecs s.mtime.nsecs) less racy
racy_too o a b s (inr (same, upto)) racy =
    same_second a.secs b.secs s.mtime.secs (not (counts_nsecs o) || nat_le b.nsecs s.mtime.nsecs) (not (counts_nsecs o) || nat_le a.nsecs s.mtime.nsecs) same
    (earlier_nanosecond (not (counts_nsecs o)) a.nsecs b.nsecs s.mtime.nsecs upto) racy

-- ---- comparison

-- Ids decide if sizes don't.
by_hash : (decides : Bool) (hash : Result (Option (Unit {0})) Error) → (if decides then Ok (Some tt) else hash) ≡ Ok None → hash ≡ Ok None
by_hash true hash h = absurd (cc)
by_hash false hash h = h

or_hash : (decides : Bool) (hash : Result (Option (Unit {0})) Error) → hash ≡ Ok (Some tt) → (if decides then Ok (Some tt) else hash) ≡ Ok (Some tt)
or_hash true hash h = refl
or_hash false hash h = h

-- An empty content has the id of no bytes.
no_change : (same : Bool) (new : ObjectId) → same ≡ true → answer_without_id (Ok (if same then None else Some new)) ≡ Ok (Some tt) → ⊥
no_change true new h k = cc
no_change false new h k = cc

empty_unchanged : (id : ObjectId) (r : Result ObjectId Error) → is_empty_blob id ≡ true → IfOk r (λ new. new ≡ blob_id (id_kind id) []) → answer_without_id (changed_result id r) ≡ Ok (Some tt) → ⊥
empty_unchanged id (Ok new) empty own h = no_change (same_id id new) new (ap (same_id id) own ∙ empty) h
empty_unchanged id (Err e) empty own h = cc

-- A change is of the stat alone.
pub only_stat : (c : Option ApplyChange) (e : IndexEntry) → updated_entry c e ≡ with_stat (updated_entry c e).stat e
only_stat (Some (NewStat at stat)) e = refl
only_stat (Some (SetSizeToZero at)) e = refl
only_stat None e = refl

-- The result of an entry.
abbrev Answer : Type 0 → Type 0
Answer U = Result (Option (EntryStatus (Unit {0}) U)) Error

module _ {U : Type 0} where
  inner : (a b : EntryStatus (Unit {0}) U) → ◌≡◌ {A = Answer U} (Ok (Some a)) (Ok (Some b)) → a ≡ b
  inner a b h = cc

  -- ---- the case by its tests

  -- An entry's status by whether the executable bit changed, the entry is trusted, and its stat is racy.
  abbrev case_by : Bool → Bool → Bool → Stat → Result (Option (Unit {0})) Error → Case (Unit {0}) U
  case_by false true false s a = unchanged
  case_by true trusted racy s a = compared true trusted racy s a
  case_by false false racy s a = compared false false racy s a
  case_by false true true s a = compared false true true s a

  content_is : (q : Query (Unit {0}) U) (e : IndexEntry) (n : Metadata) (s : Stat) (x trusted racy : Bool) → case_of_content q e n s x trusted racy ≡ case_by x trusted racy s (q.compared e n.len (readings q e n))
  content_is q e n s true trusted racy = refl
  content_is q e n s false false racy = refl
  content_is q e n s false true true = refl
  content_is q e n s false true false = refl

-- The letters that the tests show.
abbrev shown_by : (U : Type 0) → List ℕ → Bool → Bool → Bool → Stat → Result (Option (Unit {0})) Error → Result (Option (List ℕ)) Error
shown_by U path x trusted racy s a = shown_letters (answer {U = U} path (case_by x trusted racy s a))

module _ (U : Type 0) (path : List ℕ) (racy : Bool) (s : Stat) where
  -- An entry that isn't trusted shows its change, and one with another executability too.
  untrusted_change : (x : Bool) → shown_by U path x false racy s (Ok (Some tt)) ≡ Ok (Some (codes " M"))
  untrusted_change true = refl
  untrusted_change false = refl

  executable_change : (trusted : Bool) (c : Option (Unit {0})) → shown_by U path true trusted racy s (Ok c) ≡ Ok (Some (codes " M"))
  executable_change trusted (Some c) = refl
  executable_change trusted None = refl

  -- An unchanged entry shows nothing.
  no_content_change : (trusted : Bool) → shown_by U path false trusted racy s (Ok None) ≡ Ok None
  no_content_change false = refl
  no_content_change true = by racy
    where
      by : (r : Bool) → shown_by U path false true r s (Ok None) ≡ Ok None
      by true = refl
      by false = refl

-- ---- results for an entry

-- The results and options that a query has for an entry, without the time.
record Sight (U : Type 0) : Type 0 where
  stat_options : Options
  symlink : Bool
  executable_bit : Bool
  lstat : List ℕ → Result Metadata Fault
  opened : Result Content Fault
  linked : Result (List ℕ) Fault
  cached : Option Metadata
  conversion : Content → Conversion
  submodule : Result (Option U) (List ℕ)

module _ {U : Type 0} where
  abbrev sight_of : Query (Unit {0}) U → IndexEntry → Sight U
  sight_of q e = record {
    stat_options = q.stat_options;
    symlink = q.symlink;
    executable_bit = q.executable_bit;
    lstat = q.lstat e;
    opened = q.opened e;
    linked = q.linked e;
    cached = q.cached e;
    conversion = λ content. q.conversion content e.path;
    submodule = q.submodule e;
  }

  -- A query that has these for each entry, at this time.
  abbrev query_of : Sight U → Moment → Query (Unit {0}) U
  query_of sight time = record {
    modelled = true;
    stat_options = sight.stat_options;
    symlink = sight.symlink;
    executable_bit = sight.executable_bit;
    timestamp = time;
    lstat = λ _. sight.lstat;
    opened = λ _. sight.opened;
    linked = λ _. sight.linked;
    cached = λ _. sight.cached;
    prefix = [];
    included = λ _ _. true;
    conversion = λ content _. sight.conversion content;
    blob = λ _. Err finds.Memory;
    submodule = λ _. sight.submodule;
    compared = λ e len readings. fast_answer e len readings.file;
    counted = λ _ _ _ before. Some before;
  }

  status_is : (q : Query (Unit {0}) U) (e : IndexEntry) → ComparesBySizes q → status_of q e ≡ status_of (query_of (sight_of q e) q.timestamp) e
  status_is q e sizes = ap (λ (c : IndexEntry → ℕ → Readings → Result (Option (Unit {0})) Error). status_of (record q { compared = c }) e) sizes

  sight_same : (q later : Query (Unit {0}) U) (old new : IndexEntry) → SeesSame q later old new → sight_of later new ≡ sight_of q old
  sight_same q later old new same =
      let nodes : later.lstat new ≡ q.lstat old = fun_ext same.lstat in
      let conversions : ◌≡◌ {A = Content → Conversion} (λ content. later.conversion content new.path) (λ content. q.conversion content old.path) = fun_ext same.conversion in
      rw (same.stat_options, same.symlink, same.executable_bit, nodes, same.opened, same.linked, same.cached, conversions, same.submodule) refl

  no_error : (x : Error) (status : EntryStatus (Unit {0}) U) → ◌≡◌ {A = Answer U} (Err x) (Ok (Some status)) → ⊥
  no_error x status h = cc

  no_record : (status : EntryStatus (Unit {0}) U) → ◌≡◌ {A = Answer U} (Ok None) (Ok (Some status)) → ⊥
  no_record status h = cc

  -- ---- an entry at a present node

  module _ (sight : Sight U) (time later : Moment) (e : IndexEntry) (n : Metadata) (s : Stat) where
    abbrev trusted_at : IndexEntry → Bool
    trusted_at d = is_trusted (query_of sight time) d s

    abbrev racy_at : Moment → Bool
    racy_at m = is_racy sight.stat_options m s

    abbrev comparison_at : IndexEntry → Result (Option (Unit {0})) Error
    comparison_at d = fast_answer d n.len (reading (query_of sight time) d n)

    -- The comparison by ids, which no change of the stat changes.
    abbrev hash : Result (Option (Unit {0})) Error
    hash = answer_without_id (hash_answer e (reading (query_of sight time) e n))

    abbrev by_sizes : Bool → Bool → Result (Option (Unit {0})) Error
    by_sizes same marked = if not same && marked then Ok (Some tt) else hash

    abbrev shown_later : Bool → IndexEntry → Result (Option (List ℕ)) Error
    shown_later x d = shown_by U d.path x (trusted_at d) (racy_at later) s (comparison_at d)

    abbrev agrees : Stat → Bool
    agrees stored = stat_agrees sight.stat_options s stored

    -- The stat has the low 32 bits of the length, and so has the entry if it is trusted.
    low : stat_of n ≡ Some s → s.size ≡ n.len % 2 ^ 32
    low known = low_with n n.mtime n.ctime s known

    settled : stat_of n ≡ Some s → trusted_at e ≡ true → e.stat.size ≡ n.len % 2 ^ 32
    settled known trusted =
        let o = sight.stat_options in
        let parts = and_parts (agrees e.stat) (same_bool (is_empty_blob e.id) (e.stat.size == 0)) trusted in
        let sizes : (s.size == e.stat.size) ≡ true =
        second (time_agrees o s.mtime e.stat.mtime) (s.size == e.stat.size) (not o.trust_ctime || time_agrees o s.ctime e.stat.ctime) (not o.check_stat || owner_agrees o s e.stat) parts.0 in
        sym (eqb-true s.size e.stat.size sizes) ∙ low known

    -- The new stat doesn't change the result of the comparison.
    updated : stat_of n ≡ Some s → comparison_at e ≡ Ok None → comparison_at (with_stat s e) ≡ Ok None
    updated known none =
        ap (λ (b : Bool). by_sizes b (is_empty_blob e.id || not (s.size == 0))) (eq-eqb s.size (n.len % 2 ^ 32) (low known))
        ∙ by_hash (size_decides e n.len) hash none

    -- The ids of a trusted entry show its change.
    trusted_hash : stat_of n ≡ Some s → trusted_at e ≡ true → comparison_at e ≡ Ok (Some tt) → hash ≡ Ok (Some tt)
    trusted_hash known trusted differs =
        sym (ap (λ (b : Bool). by_sizes b (is_empty_blob e.id || not (e.stat.size == 0))) (eq-eqb e.stat.size (n.len % 2 ^ 32) (settled known trusted)))
        ∙ differs

    -- With size 0, the stat doesn't agree with that of a node of another size.
    smudged_untrusted : (s.size == 0) ≡ false → trusted_at (smudged e) ≡ false
    smudged_untrusted other =
        let o = sight.stat_options in
        second_fails (time_agrees o s.mtime e.stat.mtime) (s.size == 0) (not o.trust_ctime || time_agrees o s.ctime e.stat.ctime) (not o.check_stat || owner_agrees o s e.stat)
        (same_bool (is_empty_blob e.id) true) other

    -- An empty content, if it can be read, has the id of no bytes.
    abbrev ReadsEmpty : Type 0
    ReadsEmpty = is_empty_blob e.id ≡ true → n.len % 2 ^ 32 ≡ 0 → IfOk (reading_id (id_kind e.id) (reading (query_of sight time) e n)) (λ id. id ≡ blob_id (id_kind e.id) [])

    -- A change that the stat would hide isn't of an empty node.
    not_empty : stat_of n ≡ Some s → ReadsEmpty → trusted_at e ≡ true → comparison_at e ≡ Ok (Some tt) → (s.size == 0) ≡ true → ⊥
    not_empty known read trusted differs zero =
        let none : s.size ≡ 0 = eqb-true s.size 0 zero in
        let stored : e.stat.size ≡ 0 = settled known trusted ∙ (sym (low known) ∙ none) in
        let parts = and_parts (agrees e.stat) (same_bool (is_empty_blob e.id) (e.stat.size == 0)) trusted in
        let marked : same_bool (is_empty_blob e.id) true ≡ true = subst (λ (z : Bool). same_bool (is_empty_blob e.id) z ≡ true) (eq-eqb e.stat.size 0 stored) parts.1 in
        let empty : is_empty_blob e.id ≡ true = same_as_true (is_empty_blob e.id) marked in
        empty_unchanged e.id (reading_id (id_kind e.id) (reading (query_of sight time) e n)) empty (read empty (sym (low known) ∙ none)) (trusted_hash known trusted differs)

    smudge_change : (x : Bool) → stat_of n ≡ Some s → ReadsEmpty → trusted_at e ≡ true → comparison_at e ≡ Ok (Some tt) → shown_later x (smudged e) ≡ Ok (Some (codes " M"))
    smudge_change x known read trusted differs = by (s.size == 0) refl
      where
        by : (zero : Bool) → (s.size == 0) ≡ zero → shown_later x (smudged e) ≡ Ok (Some (codes " M"))
        by true zero = absurd (not_empty known read trusted differs zero)
        by false other =
            ap (λ (t : Bool). shown_by U e.path x t (racy_at later) s (comparison_at (smudged e))) (smudged_untrusted other)
            ∙ (ap (λ (a : Result (Option (Unit {0})) Error). shown_by U e.path x false (racy_at later) s a) (or_hash (size_decides (smudged e) n.len) hash (trusted_hash known trusted differs))
            ∙ untrusted_change U e.path (racy_at later) s x)

    -- A change that is compared again.
    again_executable : (c : Option (Unit {0})) → comparison_at e ≡ Ok c → shown_later true e ≡ Ok (Some (codes " M"))
    again_executable c is =
        ap (λ (a : Result (Option (Unit {0})) Error). shown_by U e.path true (trusted_at e) (racy_at later) s a) is ∙ executable_change U e.path (racy_at later) s (trusted_at e) c

    again_untrusted : (x : Bool) → trusted_at e ≡ false → comparison_at e ≡ Ok (Some tt) → shown_later x e ≡ Ok (Some (codes " M"))
    again_untrusted x untrusted differs =
        ap (λ (t : Bool). shown_by U e.path x t (racy_at later) s (comparison_at e)) untrusted
        ∙ (ap (λ (a : Result (Option (Unit {0})) Error). shown_by U e.path x false (racy_at later) s a) differs
        ∙ untrusted_change U e.path (racy_at later) s x)

    unchanged_content : (d : IndexEntry) → comparison_at d ≡ Ok None → shown_later false d ≡ Ok None
    unchanged_content d none =
        ap (λ (a : Result (Option (Unit {0})) Error). shown_by U d.path false (trusted_at d) (racy_at later) s a) none
        ∙ no_content_change U d.path (racy_at later) s (trusted_at d)

    -- ---- after the change is stored

    module _ (at : ℕ) where
      -- The entry after the change that a status asks for.
      abbrev Shows : Bool → EntryStatus (Unit {0}) U → Type 0
      Shows x status = shown_later x (with_stat (updated_entry (change_of at status) e).stat e) ≡ Ok (letters status)

      kept_content : (x t r : Bool) (a : Result (Option (Unit {0})) Error) → stat_of n ≡ Some s → ReadsEmpty → trusted_at e ≡ t → comparison_at e ≡ a
          → (status : EntryStatus (Unit {0}) U) → answer e.path (case_by x t r s a) ≡ Ok (Some status) → Shows x status
      kept_content false true false a known read trusted is status h = absurd (no_record status h)
      kept_content true t r (Err x) known read trusted is status h = absurd (no_error x status h)
      kept_content false false r (Err x) known read trusted is status h = absurd (no_error x status h)
      kept_content false true true (Err x) known read trusted is status h = absurd (no_error x status h)
      kept_content true t r (Ok None) known read trusted is status h =
          subst (Shows true) (inner (statuses.Change (changes.Modification true None false)) status h) (again_executable None is)
      kept_content true true true (Ok (Some c)) known read trusted is status h =
          subst (Shows true) (inner (statuses.Change (changes.Modification true (Some c) true)) status h) (smudge_change true known read trusted is)
      kept_content true true false (Ok (Some c)) known read trusted is status h =
          subst (Shows true) (inner (statuses.Change (changes.Modification true (Some c) false)) status h) (again_executable (Some c) is)
      kept_content true false r (Ok (Some c)) known read trusted is status h =
          subst (Shows true) (inner (statuses.Change (changes.Modification true (Some c) false)) status h) (again_executable (Some c) is)
      kept_content false false r (Ok None) known read trusted is status h =
          subst (Shows false) (inner (statuses.NeedsUpdate s) status h) (unchanged_content (with_stat s e) (updated known is))
      kept_content false true true (Ok None) known read trusted is status h =
          subst (Shows false) (inner (statuses.NeedsUpdate s) status h) (unchanged_content (with_stat s e) (updated known is))
      kept_content false false r (Ok (Some c)) known read trusted is status h =
          subst (Shows false) (inner (statuses.Change (changes.Modification false (Some c) false)) status h) (again_untrusted false trusted is)
      kept_content false true true (Ok (Some c)) known read trusted is status h =
          subst (Shows false) (inner (statuses.Change (changes.Modification false (Some c) true)) status h) (smudge_change false known read trusted is)

    -- ---- without a change

    left_content : (x t r : Bool) (a : Result (Option (Unit {0})) Error) → trusted_at e ≡ t → comparison_at e ≡ a → (r ≡ true → racy_at later ≡ true)
        → (status : EntryStatus (Unit {0}) U) → answer e.path (case_by x t r s a) ≡ Ok (Some status) → shown_later x e ≡ Ok (letters status)
    left_content false true false a trusted is early status h = absurd (no_record status h)
    left_content true t r (Err x) trusted is early status h = absurd (no_error x status h)
    left_content false false r (Err x) trusted is early status h = absurd (no_error x status h)
    left_content false true true (Err x) trusted is early status h = absurd (no_error x status h)
    left_content true t r (Ok None) trusted is early status h = again_executable None is ∙ ap shown_letters h
    left_content true t r (Ok (Some c)) trusted is early status h = again_executable (Some c) is ∙ ap shown_letters h
    left_content false false r (Ok None) trusted is early status h = unchanged_content e is ∙ ap shown_letters h
    left_content false true true (Ok None) trusted is early status h = unchanged_content e is ∙ ap shown_letters h
    left_content false false r (Ok (Some c)) trusted is early status h = again_untrusted false trusted is ∙ ap shown_letters h
    left_content false true true (Ok (Some c)) trusted is early status h =
        ap (λ (t : Bool). shown_by U e.path false t (racy_at later) s (comparison_at e)) trusted
        ∙ (ap (λ (r : Bool). shown_by U e.path false true r s (comparison_at e)) (early refl)
        ∙ (ap (λ (a : Result (Option (Unit {0})) Error). shown_by U e.path false true true s a) is
        ∙ ap shown_letters h))

  -- ---- any entry

  module _ (sight : Sight U) (time later : Moment) (e : IndexEntry) (stat : Stat) (status : EntryStatus (Unit {0}) U) where
    abbrev old : Query (Unit {0}) U
    old = query_of sight time

    abbrev new : Query (Unit {0}) U
    new = query_of sight later

    -- The entry with the stat that is stored.
    abbrev stored : IndexEntry
    stored = with_stat stat e

    abbrev Kept : Case (Unit {0}) U → Case (Unit {0}) U → Type 0
    Kept before after = answer e.path before ≡ Ok (Some status) → shown_letters (answer e.path after) ≡ Ok (letters status)

    -- The content of a present node shows the same letters.
    abbrev ContentKept : Type 0
    ContentKept = (n : Metadata) (s : Stat) (x : Bool) → found old e ≡ present n → stat_of n ≡ Some s
        → Kept (case_of_content old e n s x (is_trusted old e s) (is_racy sight.stat_options time s)) (case_of_content new stored n s x (is_trusted new stored s) (is_racy sight.stat_options later s))

    module _ (content : ContentKept) where
      by_change : (n : Metadata) (s : Stat) → found old e ≡ present n → stat_of n ≡ Some s → (m : Option ModeChange) → Kept (case_of_change old e n s m) (case_of_change new stored n s m)
      by_change n s is known (Some (TypeChange mode)) h = ap shown_letters h
      by_change n s is known (Some ExecutableBit) h = content n s true is known h
      by_change n s is known None h = content n s false is known h

      by_stat : (n : Metadata) → found old e ≡ present n → (s : Option Stat) → stat_of n ≡ s → Kept (case_of_stat old e n s) (case_of_stat new stored n s)
      by_stat n is None known h = ap shown_letters h
      by_stat n is (Some s) known h = by_change n s is known (mode_change sight.symlink sight.executable_bit e.mode n) h

      by_flag : (n : Metadata) → found old e ≡ present n → (intended : Bool) → Kept (if intended then added else case_of_stat old e n (stat_of n)) (if intended then added else case_of_stat new stored n (stat_of n))
      by_flag n is true h = ap shown_letters h
      by_flag n is false h = by_stat n is (stat_of n) refl h

      by_found : (f : Found) → found old e ≡ f → Kept (case_of_found old e f) (case_of_found new stored f)
      by_found nothing is h = ap shown_letters h
      by_found (refused f) is h = ap shown_letters h
      by_found directory is h = ap shown_letters h
      by_found (present n) is h = by_flag n is (has_flag e INTENT_TO_ADD) h

      by_entry : status_of old e ≡ Ok (Some status) → shown_letters (status_of new stored) ≡ Ok (letters status)
      by_entry h = by_found (found old e) refl h

  -- ---- the laws

  -- A later query's status is the one by what the first query sees, at the later time.
  later_status : (q later : Query (Unit {0}) U) (e changed : IndexEntry) → ComparesBySizes later → SeesSame q later e changed
      → status_of later changed ≡ status_of (query_of (sight_of q e) later.timestamp) changed
  later_status q later e changed sizes same =
      status_is later changed sizes ∙ ap (λ (sight : Sight U). status_of (query_of sight later.timestamp) changed) (sight_same q later e changed same)

  kept_at : (sight : Sight U) (time later : Moment) (at : ℕ) (e : IndexEntry) (status : EntryStatus (Unit {0}) U) → ReadsEmptyNode (query_of sight time) e
      → ContentKept sight time later e (updated_entry (change_of at status) e).stat status
  kept_at sight time later at e status reads n s x is known h =
      let stored = with_stat (updated_entry (change_of at status) e).stat e in
      let old = query_of sight time in
      let new = query_of sight later in
      ap (λ (k : Case (Unit {0}) U). shown_letters (answer e.path k)) (content_is new stored n s x (is_trusted new stored s) (is_racy sight.stat_options later s))
      ∙ kept_content sight time later e n s at x (is_trusted old e s) (is_racy sight.stat_options time s) (fast_answer e n.len (reading old e n)) known (λ empty. reads empty n is) refl refl status
      (sym (ap (answer e.path) (content_is old e n s x (is_trusted old e s) (is_racy sight.stat_options time s))) ∙ h)

  left_at : (sight : Sight U) (time later : Moment) (e : IndexEntry) (status : EntryStatus (Unit {0}) U) → IsEarly later time → ContentKept sight time later e e.stat status
  left_at sight time later e status early n s x is known h =
      let old = query_of sight time in
      let new = query_of sight later in
      ap (λ (k : Case (Unit {0}) U). shown_letters (answer e.path k)) (content_is new e n s x (is_trusted new e s) (is_racy sight.stat_options later s))
      ∙ left_content sight time later e n s x (is_trusted old e s) (is_racy sight.stat_options time s) (fast_answer e n.len (reading old e n)) refl refl (racy_too sight.stat_options later time s early) status
      (sym (ap (answer e.path) (content_is old e n s x (is_trusted old e s) (is_racy sight.stat_options time s))) ∙ h)

  pub kept_law : (q later : Query (Unit {0}) U) (e : IndexEntry) → KeptLaw q later e
  kept_law q later e sizes later_sizes reads at status h same =
      let changed = updated_entry (change_of at status) e in
      let sight = sight_of q e in
      ap shown_letters (later_status q later e changed later_sizes same ∙ ap (status_of (query_of sight later.timestamp)) (only_stat (change_of at status) e))
      ∙ by_entry sight q.timestamp later.timestamp e changed.stat status (kept_at sight q.timestamp later.timestamp at e status reads) (sym (status_is q e sizes) ∙ h)

  pub left_out_law : (q later : Query (Unit {0}) U) (e : IndexEntry) → LeftOutLaw q later e
  left_out_law q later e sizes later_sizes early status h same =
      let sight = sight_of q e in
      ap shown_letters (later_status q later e e later_sizes same)
      ∙ by_entry sight q.timestamp later.timestamp e e.stat status (left_at sight q.timestamp later.timestamp e status (is_early later.timestamp q.timestamp early)) (sym (status_is q e sizes) ∙ h)
