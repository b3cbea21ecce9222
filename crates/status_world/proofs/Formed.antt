-- A path is formed after each event: after its node is written, changed or removed, and after its entry is staged or stored by
-- a run. A formed path stays so when the clock advances.
use Rattle.std.proofs.Common.{◌≡◌, ◌∙◌, inl, refl, sym, ap, subst, ℕ, ◌<◌, Bool, true, false, List, length, Option, Some, None, option_map, unwrap_or, Result, Ok, Err, IsTrue, if◌then◌else◌}
use Rattle.status_index.specs.BlobId.{blob_id}
use Rattle.status_index.specs.Entries.{IndexEntry}
use Rattle.status_index.specs.FlagBits.{bits_of_stage}
use Rattle.status_index.specs.Mode.{new_mode}
use Rattle.status_index.specs.NodeStat.{stat_of}
use Rattle.status_index.specs.States.{with_stat, smudged}
use Rattle.status_index.specs.declared.stat.NodeKind.{NodeKind}
use Rattle.status_index.specs.declared.stat.NodeKind.TheVariants.{File, Link, Directory, Other}
use Rattle.status_index.specs.declared.stat.Moment.{Moment}
use Rattle.status_index.specs.declared.stat.Stat.{Stat}
use Rattle.status_index.specs.declared.stat.Time.{Time}
use Rattle.status_base.specs.MemoryTree.{Placed}
use Rattle.status_compare.specs.declared.error.Error.{Error}
use Rattle.status_call.specs.declared.index_as_worktree.types.Change.TheVariants as changes
use Rattle.status_call.specs.declared.index_as_worktree.types.EntryStatus.TheVariants as statuses
use Rattle.status_compare.specs.declared.compare.Comparer.{Comparer}
use Rattle.status_world.specs.Moments.{IsAtMost, moment_of, stamp_of}
use Rattle.status_world.specs.PlainWorld.{Plain, executable_of_kind}
use Rattle.status_world.specs.Reports.{RunStatus}
use Rattle.status_world.specs.Sound.{IsKnownBy, IsFormedNode, IsFormedEntry, IsFormedPair, IsFormedAt, IsStagedSize}
use Rattle.status_world.specs.StampedWorld.{StampedWorld, is_stored_kind, stored_node, plain_of, entry_of, written, with_executability, zero_stat, stored_verdict}
use Rattle.status_world.proofs.Moments.{at_most_refl, at_most_trans}
use Rattle.status_world.proofs.NodeStats.{KnownStat, stat_known}
use Rattle.status_world.proofs.Pairs.{restored, pair_stat}
use Rattle.status_world.proofs.Verdicts.{IsNodeOfEntry, verdict_at}

-- A world with the same kind of ids and executability, whose clock isn't earlier.
pub record Follows (w w' : StampedWorld) : Type 0 where
  pub kind : w'.kind ≡ w.kind
  pub executable_bit : w'.executable_bit ≡ w.executable_bit
  pub clock : IsAtMost w.clock w'.clock

known_later : (stamp : Option Time) (a b : Moment) → IsAtMost a b → IsKnownBy stamp a → IsKnownBy stamp b
known_later stamp a b h k = (k.0, k.1, at_most_trans (moment_of k.0) a b k.2 h)

pub node_later : (a b : Moment) (n : Placed) → IsAtMost a b → IsFormedNode a n → IsFormedNode b n
node_later a b n h f = record {
  kind = f.kind;
  len = f.len;
  small = f.small;
  mtime = known_later n.metadata.mtime a b h f.mtime;
  ctime = known_later n.metadata.ctime a b h f.ctime;
}

-- An entry with another stat, whose times aren't after the clock.
pub entry_with : (w w' : StampedWorld) (e : IndexEntry) (stat : Stat) (s : Plain) → Follows w w' → IsFormedEntry w e s
    → IsAtMost (moment_of stat.mtime) w'.clock → IsAtMost (moment_of stat.ctime) w'.clock → IsFormedEntry w' (with_stat stat e) s
entry_with w w' e stat s follows f m c = record {
  kind = f.kind;
  id = f.id ∙ ap (λ k. blob_id k s.bytes) (sym follows.kind);
  mode = f.mode ∙ ap (λ x. new_mode x s.kind s.executable) (sym follows.executable_bit);
  flags = f.flags;
  small = f.small;
  mtime = m;
  ctime = c;
}

pub entry_later : (w w' : StampedWorld) (e : IndexEntry) (s : Plain) → Follows w w' → IsFormedEntry w e s → IsFormedEntry w' e s
entry_later w w' e s follows f =
    entry_with w w' e e.stat s follows f
    (at_most_trans (moment_of e.stat.mtime) w.clock w'.clock f.mtime follows.clock)
    (at_most_trans (moment_of e.stat.ctime) w.clock w'.clock f.ctime follows.clock)

-- A formed path stays formed.
pub formed_later : (w w' : StampedWorld) → Follows w w' → (n : Option Placed) (e : Option IndexEntry) (s : Option Plain) → IsFormedAt w n e s → IsFormedAt w' n e s
formed_later w w' follows None None None f = f
formed_later w w' follows (Some n) None None f = node_later w.clock w'.clock n follows.clock f
formed_later w w' follows n (Some e) None f = absurd f
formed_later w w' follows n None (Some s) f = absurd f
formed_later w w' follows None (Some e) (Some s) f = entry_later w w' e s follows f
formed_later w w' follows (Some n) (Some e) (Some s) f = (node_later w.clock w'.clock n follows.clock f.0, entry_later w w' e s follows f.1, f.2)

-- The node and the entry of a formed path are formed.
pub node_formed : (w : StampedWorld) (n : Placed) (e : Option IndexEntry) (s : Option Plain) → IsFormedAt w (Some n) e s → IsFormedNode w.clock n
node_formed w n None None f = f
node_formed w n (Some e) None f = absurd f
node_formed w n None (Some s) f = absurd f
node_formed w n (Some e) (Some s) f = f.0

pub entry_formed : (w : StampedWorld) (n : Option Placed) (e : IndexEntry) (s : Plain) → IsFormedAt w n (Some e) (Some s) → IsFormedEntry w e s
entry_formed w None e s f = f
entry_formed w (Some n) e s f = f.1

-- Another node at a path, whose times aren't before those of the entry.
renewed : (w : StampedWorld) (new : Placed) (n : Option Placed) (e : Option IndexEntry) (s : Option Plain) → IsFormedNode w.clock new
    → ((e : IndexEntry) (s : Plain) → IsFormedAt w n (Some e) (Some s) → IsFormedPair new e) → IsFormedAt w n e s → IsFormedAt w (Some new) e s
renewed w new n None None f pair old = f
renewed w new n (Some e) None f pair old = absurd old
renewed w new n None (Some s) f pair old = absurd old
renewed w new n (Some e) (Some s) f pair old = (f, entry_formed w n e s old, pair e s old)

-- A write.
pub written_formed : (clock : Moment) (kind : NodeKind) (executable : Bool) (bytes : List ℕ) → IsTrue (is_stored_kind kind) → length bytes < 4294967296
    → IsFormedNode clock (written clock kind executable bytes)
written_formed clock kind executable bytes stored small = record {
  kind = stored;
  len = refl;
  small = small;
  mtime = (stamp_of clock, refl, at_most_refl clock);
  ctime = (stamp_of clock, refl, at_most_refl clock);
}

pub formed_written : (w : StampedWorld) (kind : NodeKind) (executable : Bool) (bytes : List ℕ) → IsTrue (is_stored_kind kind) → length bytes < 4294967296
    → (n : Option Placed) (e : Option IndexEntry) (s : Option Plain) → IsFormedAt w n e s → IsFormedAt w (Some (written w.clock kind executable bytes)) e s
formed_written w kind executable bytes stored small n e s f =
    renewed w (written w.clock kind executable bytes) n e s (written_formed w.clock kind executable bytes stored small)
    (λ e s old. record {
      mtime = (stamp_of w.clock, refl, (entry_formed w n e s old).mtime);
      ctime = (stamp_of w.clock, refl, (entry_formed w n e s old).ctime);
    }) f

-- A change of executability.
pub changed_formed : (clock : Moment) (executable : Bool) (n : Placed) → IsFormedNode clock n → IsFormedNode clock (with_executability clock executable n)
changed_formed clock executable n f = record { kind = f.kind; len = f.len; small = f.small; mtime = f.mtime; ctime = (stamp_of clock, refl, at_most_refl clock) }

pub formed_changed : (w : StampedWorld) (executable : Bool) (n : Option Placed) (e : Option IndexEntry) (s : Option Plain)
    → IsFormedAt w n e s → IsFormedAt w (option_map (with_executability w.clock executable) n) e s
formed_changed w executable None e s f = f
formed_changed w executable (Some n) e s f =
    renewed w (with_executability w.clock executable n) (Some n) e s (changed_formed w.clock executable n (node_formed w n e s f))
    (λ e s old. record { mtime = old.2.mtime; ctime = (stamp_of w.clock, refl, old.1.ctime) }) f

-- A removal.
pub formed_removed : (w : StampedWorld) (n : Option Placed) (e : Option IndexEntry) (s : Option Plain) → IsFormedAt w n e s → IsFormedAt w None e s
formed_removed w n None None f = tt
formed_removed w n (Some e) None f = absurd f
formed_removed w n None (Some s) f = absurd f
formed_removed w n (Some e) (Some s) f = entry_formed w n e s f

-- ---- staging

same_mode : (x : Bool) (kind : NodeKind) (executable : Bool) → new_mode x kind executable ≡ new_mode x kind (executable_of_kind kind executable)
same_mode x File executable = refl
same_mode x Link executable = refl
same_mode x Directory executable = refl
same_mode x Other executable = refl

-- The entry of a staged node fits the node.
pub record IsStagedWell (w : StampedWorld) (n : Placed) (e : IndexEntry) : Type 0 where
  pub entry : IsFormedEntry w e (plain_of n)
  pub pair : IsFormedPair n e
  pub size : IsStagedSize e (plain_of n)

abbrev entry_by : StampedWorld → List ℕ → Placed → Stat → IndexEntry
entry_by w path n stat = record {
  path = path;
  stat = stat;
  id = blob_id w.kind n.bytes;
  flags = record { 0 = bits_of_stage 0 };
  mode = new_mode w.executable_bit n.metadata.kind n.metadata.executable;
}

staged_by : (w : StampedWorld) (path : List ℕ) (n : Placed) → IsFormedNode w.clock n → (k : KnownStat w.clock n) → IsStagedWell w n (entry_by w path n k.now)
staged_by w path n f k = record {
  entry = record {
    kind = f.kind;
    id = refl;
    mode = same_mode w.executable_bit n.metadata.kind n.metadata.executable;
    flags = refl;
    small = f.small;
    mtime = k.mtime;
    ctime = k.ctime;
  };
  pair = record { mtime = (k.now.mtime, k.stamped, at_most_refl (moment_of k.now.mtime)); ctime = (k.now.ctime, k.changed, at_most_refl (moment_of k.now.ctime)) };
  size = inl k.size;
}

pub staged_well : (w : StampedWorld) (path : List ℕ) (n : Placed) → IsFormedNode w.clock n → IsStagedWell w n (entry_of w path n)
staged_well w path n f =
    let k = stat_known w.clock n f in
    subst (λ o. IsStagedWell w n (entry_by w path n (unwrap_or o zero_stat))) (sym k.is) (staged_by w path n f k)

-- A formed node is one that an index stores.
pub stored_formed : (clock : Moment) (n : Placed) → IsFormedNode clock n → stored_node (Some n) ≡ Some n
stored_formed clock n f = ap (λ b. if b then Some n else None) f.kind

abbrev FormedStaged : StampedWorld → List ℕ → Option Placed → Option Placed → Type 0
FormedStaged w path n stored = IsFormedAt w n (option_map (entry_of w path) stored) (option_map plain_of stored)

pub formed_staged : (w : StampedWorld) (path : List ℕ) (n : Option Placed) (e : Option IndexEntry) (s : Option Plain) → IsFormedAt w n e s
    → IsFormedAt w n (option_map (entry_of w path) (stored_node n)) (option_map plain_of (stored_node n))
formed_staged w path None e s f = tt
formed_staged w path (Some n) e s f =
    let formed = node_formed w n e s f in
    let well = staged_well w path n formed in
    subst (FormedStaged w path (Some n)) (sym (stored_formed w.clock n formed)) (formed, well.entry, well.pair)

-- ---- a run

module _ (w : StampedWorld) (u : Moment) (es : List IndexEntry) (e : IndexEntry) (n : Placed) (s : Plain) (node : IsFormedNode w.clock n) (entry : IsFormedEntry w e s) (pair : IsFormedPair n e) where
  abbrev Stored : IndexEntry → Type 0
  Stored stored = IsFormedEntry (restored w u es) stored s × IsFormedPair n stored

  stored_with : (stat : Stat) → IsAtMost (moment_of stat.mtime) w.clock → IsAtMost (moment_of stat.ctime) w.clock → IsFormedPair n (with_stat stat e) → Stored (with_stat stat e)
  stored_with stat m c p = (entry_with w (restored w u es) e stat s (record { kind = refl; executable_bit = refl; clock = at_most_refl w.clock }) entry m c, p)

  stored_kept : Stored e
  stored_kept = stored_with e.stat entry.mtime entry.ctime pair

  stored_smudged : Stored (smudged e)
  stored_smudged = stored_with (smudged e).stat entry.mtime entry.ctime (record { mtime = pair.mtime; ctime = pair.ctime })

  stored_now : (k : KnownStat w.clock n) → Stored (with_stat k.now e)
  stored_now k = stored_with k.now k.mtime k.ctime (record {
    mtime = (k.now.mtime, k.stamped, at_most_refl (moment_of k.now.mtime));
    ctime = (k.now.ctime, k.changed, at_most_refl (moment_of k.now.ctime));
  })

  stored_by : (v : Result (Option RunStatus) Error) → ((t : Stat) → v ≡ Ok (Some (statuses.NeedsUpdate t)) → stat_of n.metadata ≡ Some t) → Stored (stored_verdict e v)
  stored_by (Err fault) h = stored_kept
  stored_by (Ok None) h = stored_kept
  stored_by (Ok (Some (statuses.NeedsUpdate t))) h =
      let k = stat_known w.clock n node in
      let one : k.now ≡ t = cc (k.is, h t refl) in
      subst (λ x. Stored (with_stat x e)) one (stored_now k)
  stored_by (Ok (Some (statuses.Change (changes.Modification x c true)))) h = stored_smudged
  stored_by (Ok (Some (statuses.Change (changes.Modification x c false)))) h = stored_kept
  stored_by (Ok (Some (statuses.Change changes.Removed))) h = stored_kept
  stored_by (Ok (Some (statuses.Change (changes.TypeChange mode)))) h = stored_kept
  stored_by (Ok (Some (statuses.Change (changes.SubmoduleModification u)))) h = stored_kept
  stored_by (Ok (Some (statuses.Conflict summary entries))) h = stored_kept
  stored_by (Ok (Some statuses.IntentToAdd)) h = stored_kept

-- An entry that a run stores is formed, with the node at its path.
pub formed_stored : (w : StampedWorld) (c : Comparer) (e : IndexEntry) (n : Placed) (s : Plain) → IsNodeOfEntry w e n s → IsFormedPair n e
    → (u : Moment) (es : List IndexEntry) → IsFormedAt (restored w u es) (Some n) (Some (stored_verdict e (verdict_at w c e n))) (Some s)
formed_stored w c e n s met pair u es =
    let stored = stored_by w u es e n s met.node met.entry pair (verdict_at w c e n) (pair_stat w c e n s met) in
    (met.node, stored.0, stored.1)
