-- A path stays sound after each event there. This shows why stats are tested for being racy: a node that is written now is
-- racy, so no entry is trusted to have its bytes.
use Rattle.std.proofs.Common.{◌≡◌, ◌∙◌, refl, sym, ap, subst, ℕ, ◌==◌, ◌&&◌, Bool, true, false, List, Option, Some, None, option_map}
use Rattle.status_index.specs.BlobId.{is_empty_blob}
use Rattle.status_index.specs.Entries.{IndexEntry}
use Rattle.status_index.specs.NodeStat.{stat_of}
use Rattle.status_index.specs.Stat.{stat_agrees, is_racy}
use Rattle.status_index.specs.declared.stat.NodeKind.{NodeKind}
use Rattle.status_index.specs.declared.stat.Moment.{Moment}
use Rattle.status_index.specs.declared.stat.Options.{Options}
use Rattle.status_index.specs.declared.stat.Stat.{Stat}
use Rattle.status_base.specs.MemoryTree.{Placed}
use Rattle.status_call.specs.Status.{same_bool, is_trusted}
use Rattle.status_compare.specs.declared.compare.Comparer.{Comparer}
use Rattle.status_compare.specs.declared.compare.Comparer.TheVariants.{Hash}
use Rattle.status_world.specs.Moments.{IsAtMost, moment_of, stamp_of}
use Rattle.status_world.specs.PlainWorld.{Plain}
use Rattle.status_world.specs.Sound.{IsFormedNode, IsFormedPair, IsFormedAt, IsStagedSize, IsTrustworthy, IsSoundAt}
use Rattle.status_world.specs.StampedWorld.{StampedWorld, query_of, stored_node, plain_of, entry_of, written, with_executability, stored_verdict}
use Rattle.status_world.proofs.Formed.{node_formed, staged_well, stored_formed}
use Rattle.status_world.proofs.NodeStats.{stat_at, stat_stamped}
use Rattle.status_world.proofs.Pairs.{restored, HasOwnIds, pair_kept}
use Rattle.status_world.proofs.StatLaws.{racy_from_at_most, agrees_before}
use Rattle.status_world.proofs.Verdicts.{IsNodeOfEntry, verdict_at}

-- ---- a world of the same options and timestamp

trustworthy_over : (w w' : StampedWorld) → w'.stat_options ≡ w.stat_options → w'.timestamp ≡ w.timestamp
    → (n : Placed) (e : IndexEntry) (s : Plain) → IsTrustworthy w n e s → IsTrustworthy w' n e s
trustworthy_over w w' options timestamp n e s h = record {
  bytes = λ now is k t r.
      h.bytes now is k
      (subst (λ (o : Options). (stat_agrees o now e.stat && same_bool (is_empty_blob e.id) (e.stat.size == 0)) ≡ true) options t)
      (sym (ap (λ (o : Options). is_racy o w.timestamp now) options) ∙ (sym (ap (λ (m : Moment). is_racy w'.stat_options m now) timestamp) ∙ r));
}

pub at_over : (w w' : StampedWorld) → w'.stat_options ≡ w.stat_options → w'.timestamp ≡ w.timestamp
    → (n : Option Placed) (e : Option IndexEntry) (s : Option Plain) → IsSoundAt w n e s → IsSoundAt w' n e s
at_over w w' options timestamp (Some n) (Some e) (Some s) h = (h.0, trustworthy_over w w' options timestamp n e s h.1)
at_over w w' options timestamp None (Some e) (Some s) h = h
at_over w w' options timestamp (Some n) (Some e) None h = tt
at_over w w' options timestamp (Some n) None s h = tt
at_over w w' options timestamp None (Some e) None h = tt
at_over w w' options timestamp None None s h = tt

-- The clock advances.
pub at_later : (w : StampedWorld) (clock : Moment) (n : Option Placed) (e : Option IndexEntry) (s : Option Plain) → IsSoundAt w n e s → IsSoundAt (record w { clock = clock }) n e s
at_later w clock n e s h = at_over w (record w { clock = clock }) refl refl n e s h

-- ---- another node

size_sound : (w : StampedWorld) (n : Option Placed) (e : IndexEntry) (s : Plain) → IsSoundAt w n (Some e) (Some s) → IsStagedSize e s
size_sound w (Some n) e s h = h.0
size_sound w None e s h = h

-- Another node at a path, for which the entry is trustworthy if it was so before.
renewed : (w : StampedWorld) (new : Placed) (n : Option Placed) (e : Option IndexEntry) (s : Option Plain)
    → ((e : IndexEntry) (s : Plain) → IsSoundAt w n (Some e) (Some s) → IsTrustworthy w new e s) → IsSoundAt w n e s → IsSoundAt w (Some new) e s
renewed w new n None s trust h = tt
renewed w new n (Some e) None trust h = tt
renewed w new n (Some e) (Some s) trust h = (size_sound w n e s h, trust e s h)

written_trust : (w : StampedWorld) (kind : NodeKind) (executable : Bool) (bytes : List ℕ) → IsAtMost w.timestamp w.clock
    → (e : IndexEntry) (s : Plain) → IsTrustworthy w (written w.clock kind executable bytes) e s
written_trust w kind executable bytes h e s = record {
  bytes = λ now is _ _ calm.
      let stat = stat_at (written w.clock kind executable bytes).metadata (stamp_of w.clock) (stamp_of w.clock) in
      let one : stat ≡ now = cc (is) in
      let racy : is_racy w.stat_options w.timestamp now ≡ true = subst (λ (x : Stat). is_racy w.stat_options w.timestamp x ≡ true) one (racy_from_at_most w.stat_options w.timestamp stat h) in
      absurd (cc (racy, calm));
}

-- A write or a link: the node is racy.
pub at_written : (w : StampedWorld) (kind : NodeKind) (executable : Bool) (bytes : List ℕ) → IsAtMost w.timestamp w.clock
    → (n : Option Placed) (e : Option IndexEntry) (s : Option Plain) → IsSoundAt w n e s → IsSoundAt w (Some (written w.clock kind executable bytes)) e s
at_written w kind executable bytes h n e s sound =
    renewed w (written w.clock kind executable bytes) n e s (λ e s _. written_trust w kind executable bytes h e s) sound

first_for : (a b c : Bool) → (a ≡ true → c ≡ true) → (a && b) ≡ true → (c && b) ≡ true
first_for true b c h e = rw (h refl) e
first_for false b c h e = absurd (cc)

-- An entry that is trusted with a later ctime was trusted before.
changed_trust : (w : StampedWorld) (executable : Bool) (n : Placed) (e : IndexEntry) (s : Plain) → IsFormedNode w.clock n → IsFormedPair n e
    → IsTrustworthy w n e s → IsTrustworthy w (with_executability w.clock executable n) e s
changed_trust w executable n e s f pair h = record {
  bytes = λ now is k t r.
      let before = stat_at n.metadata f.mtime.0 f.ctime.0 in
      let after = stat_at n.metadata f.mtime.0 (stamp_of w.clock) in
      let stat : stat_of (with_executability w.clock executable n).metadata ≡ Some after =
      stat_stamped (with_executability w.clock executable n).metadata f.mtime.0 (stamp_of w.clock) f.mtime.1 refl in
      let one : now ≡ after = cc (stat, is) in
      let since : pair.ctime.0 ≡ f.ctime.0 = cc (pair.ctime.1, f.ctime.1) in
      h.bytes before (stat_stamped n.metadata f.mtime.0 f.ctime.0 f.mtime.1 f.ctime.1) k
      (first_for (stat_agrees w.stat_options after e.stat) (same_bool (is_empty_blob e.id) (e.stat.size == 0)) (stat_agrees w.stat_options before e.stat)
      (agrees_before w.stat_options e.stat before (stamp_of w.clock) (subst (λ x. IsAtMost (moment_of e.stat.ctime) (moment_of x)) since pair.ctime.2) f.ctime.2)
      (subst (λ (x : Stat). is_trusted (query_of w Hash) e x ≡ true) one t))
      (subst (λ (x : Stat). is_racy w.stat_options w.timestamp x ≡ false) one r);
}

-- A change of executability.
pub at_changed : (w : StampedWorld) (executable : Bool) (n : Option Placed) (e : Option IndexEntry) (s : Option Plain)
    → IsFormedAt w n e s → IsSoundAt w n e s → IsSoundAt w (option_map (with_executability w.clock executable) n) e s
at_changed w executable None e s f h = h
at_changed w executable (Some n) None s f h = tt
at_changed w executable (Some n) (Some e) None f h = tt
at_changed w executable (Some n) (Some e) (Some s) f h = (h.0, changed_trust w executable n e s f.0 f.2 h.1)

-- A removal.
pub at_removed : (w : StampedWorld) (n : Option Placed) (e : Option IndexEntry) (s : Option Plain) → IsSoundAt w n e s → IsSoundAt w None e s
at_removed w n (Some e) (Some s) h = size_sound w n e s h
at_removed w n (Some e) None h = tt
at_removed w n None s h = tt

-- Staging: the node's bytes are the staged ones.
abbrev SoundStaged : StampedWorld → List ℕ → Option Placed → Option Placed → Type 0
SoundStaged w path n stored = IsSoundAt w n (option_map (entry_of w path) stored) (option_map plain_of stored)

pub at_staged : (w : StampedWorld) (path : List ℕ) (n : Option Placed) (e : Option IndexEntry) (s : Option Plain) → IsFormedAt w n e s
    → IsSoundAt w n (option_map (entry_of w path) (stored_node n)) (option_map plain_of (stored_node n))
at_staged w path None e s f = tt
at_staged w path (Some n) e s f =
    let formed = node_formed w n e s f in
    subst (SoundStaged w path (Some n)) (sym (stored_formed w.clock n formed))
    ((staged_well w path n formed).size, record { bytes = λ _ _ _ _ _. refl })

-- A run, at a path with a node.
pub at_stored : (w : StampedWorld) (c : Comparer) (e : IndexEntry) (n : Placed) (s : Plain) → IsNodeOfEntry w e n s → HasOwnIds w n s → IsSoundAt w (Some n) (Some e) (Some s)
    → (u : Moment) (es : List IndexEntry) → IsSoundAt (restored w u es) (Some n) (Some (stored_verdict e (verdict_at w c e n))) (Some s)
at_stored w c e n s met own h u es = pair_kept w c e n s met own h.0 h.1 u es
