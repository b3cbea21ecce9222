-- A run's verdict for an entry, and the node at its path.
use Rattle.std.proofs.Common.{◌≡◌, ◌≢◌, ◌∙◌, refl, sym, ap, subst, ◌&&◌, Bool, true, false, Option, Some, None, Result, Ok, IsTrue}
use Rattle.std.specs.FinMap as paths
use Rattle.status_index.specs.BlobId.{id_kind}
use Rattle.status_index.specs.Entries.{IndexEntry}
use Rattle.status_index.specs.Mode.{mode_change, new_mode}
use Rattle.status_index.specs.NodeStat.{stat_of}
use Rattle.status_index.specs.Stat.{is_racy}
use Rattle.status_index.specs.declared.id.ObjectId.{ObjectId}
use Rattle.status_index.specs.declared.mode.Change.{Change as ModeChange}
use Rattle.status_index.specs.declared.mode.Mode.{Mode}
use Rattle.status_index.specs.declared.stat.Stat.{Stat}
use Rattle.status_base.specs.MemoryTree.{Placed}
use Rattle.status_compare.specs.FastAgrees.{IsWholly}
use Rattle.status_compare.specs.declared.error.Error.{Error}
use Rattle.status_call.specs.declared.index_as_worktree.types.Change.TheVariants as changes
use Rattle.status_call.specs.declared.index_as_worktree.types.EntryStatus.TheVariants as statuses
use Rattle.status_call.specs.Status as status
use Rattle.status_call.specs.Status.{answer, case_of_stat, case_of_change, case_of_content, is_trusted, readings, reading}
use Rattle.status_compare.specs.declared.compare.Comparer.{Comparer}
use Rattle.status_compare.specs.declared.compare.Comparer.TheVariants.{Hash}
use Rattle.status_world.specs.PlainWorld.{Plain, IsExecutableChange}
use Rattle.status_world.specs.Reports.{RunStatus}
use Rattle.status_world.specs.Sound.{IsFormedNode, IsFormedEntry}
use Rattle.status_world.specs.StampedWorld.{StampedWorld, node_at, query_of, plain_of}
use Rattle.status_compare.specs.NamedComparers.{compared_by}
use Rattle.status_world.proofs.Answers.{Answered, answered, kind_of_blob}
use Rattle.status_world.proofs.Modes.{ModeCase, other_kind, other_bit, same_mode, mode_case}
use Rattle.status_world.proofs.Readings.{whole_reading}

-- A run's verdict for an entry, if this node is at its path.
abbrev pub verdict_at : StampedWorld → Comparer → IndexEntry → Placed → Result (Option RunStatus) Error
verdict_at w c e n = answer e.path (case_of_stat (query_of w c) e n.metadata (stat_of n.metadata))

-- The result of the run's comparer.
abbrev pub comparison_at : StampedWorld → Comparer → IndexEntry → Placed → Result (Option (Option ObjectId)) Error
comparison_at w c e n = compared_by c e n.metadata.len (readings (query_of w c) e n.metadata)

-- Whether the entry is trusted with the node's stat, and whether the node's stat is racy.
abbrev pub trusted_at : StampedWorld → IndexEntry → Stat → Bool
trusted_at w e now = is_trusted (query_of w Hash) e now

abbrev pub racy_at : StampedWorld → Stat → Bool
racy_at w now = is_racy w.stat_options w.timestamp now

abbrev pub IsExecutableAsked : StampedWorld → Placed → Plain → Type 0
IsExecutableAsked w n s = IsTrue w.executable_bit × IsExecutableChange (plain_of n) s

-- A formed node at the path of a formed entry, with what was staged there. No fault is planted.
pub record IsNodeOfEntry (w : StampedWorld) (e : IndexEntry) (n : Placed) (s : Plain) : Type 0 where
  pub node : IsFormedNode w.clock n
  pub entry : IsFormedEntry w e s
  pub there : node_at w e.path ≡ Some n
  pub unplanted : w.tree.planted ≡ paths.empty

-- The verdicts, each with its condition.
pub data VerdictCase (w : StampedWorld) (c : Comparer) (e : IndexEntry) (n : Placed) (s : Plain) (now : Stat) (v : Result (Option RunStatus) Error) : Type 0 where
  retyped : (mode : Mode) → n.metadata.kind ≢ s.kind → v ≡ Ok (Some (statuses.Change (changes.TypeChange mode))) → VerdictCase w c e n s now v
  unchanged : n.metadata.kind ≡ s.kind → (IsExecutableAsked w n s → ⊥) → trusted_at w e now ≡ true → racy_at w now ≡ false → v ≡ Ok None → VerdictCase w c e n s now v
  rewritten : (x t r : Bool) (id : Option ObjectId) → n.metadata.kind ≡ s.kind → trusted_at w e now ≡ t → racy_at w now ≡ r → comparison_at w c e n ≡ Ok (Some id)
      → v ≡ Ok (Some (statuses.Change (changes.Modification x (Some id) (t && r)))) → VerdictCase w c e n s now v
  remoded : n.metadata.kind ≡ s.kind → IsExecutableAsked w n s → comparison_at w c e n ≡ Ok None
      → v ≡ Ok (Some (statuses.Change (changes.Modification true None false))) → VerdictCase w c e n s now v
  restamped : n.metadata.kind ≡ s.kind → (IsExecutableAsked w n s → ⊥) → comparison_at w c e n ≡ Ok None
      → v ≡ Ok (Some (statuses.NeedsUpdate now)) → VerdictCase w c e n s now v

-- Whether executability changed, if it counts.
abbrev IsBit : StampedWorld → Placed → Plain → Bool → Type 0
IsBit w n s true = IsExecutableAsked w n s
IsBit w n s false = IsExecutableAsked w n s → ⊥

module _ (w : StampedWorld) (c : Comparer) (e : IndexEntry) (n : Placed) (s : Plain) (now : Stat) where
  -- The verdict of a comparison, by the comparer's result.
  abbrev shown : Bool → Bool → Bool → Result (Option (Option ObjectId)) Error → Result (Option RunStatus) Error
  shown x t r a = answer e.path (status.compared x t r now a)

  abbrev CaseOf : Result (Option RunStatus) Error → Type 0
  CaseOf v = VerdictCase w c e n s now v

  compared_case : (x t r : Bool) (found : Option (Option ObjectId)) → n.metadata.kind ≡ s.kind → IsBit w n s x → trusted_at w e now ≡ t → racy_at w now ≡ r
      → comparison_at w c e n ≡ Ok found → CaseOf (shown x t r (comparison_at w c e n))
  compared_case x t r (Some id) k b ht hr is = rewritten x t r id k ht hr is (ap (shown x t r) is)
  compared_case true t r None k b ht hr is = remoded k b is (ap (shown true t r) is)
  compared_case false t r None k b ht hr is = restamped k b is (ap (shown false t r) is)

  content_case : (x t r : Bool) (found : Option (Option ObjectId)) → n.metadata.kind ≡ s.kind → IsBit w n s x → trusted_at w e now ≡ t → racy_at w now ≡ r
      → comparison_at w c e n ≡ Ok found → CaseOf (answer e.path (case_of_content (query_of w c) e n.metadata now x t r))
  content_case false true false found k b ht hr is = unchanged k b ht hr refl
  content_case true t r found k b ht hr is = compared_case true t r found k b ht hr is
  content_case false false r found k b ht hr is = compared_case false false r found k b ht hr is
  content_case false true true found k b ht hr is = compared_case false true true found k b ht hr is

  abbrev by_change : Option ModeChange → Result (Option RunStatus) Error
  by_change m = answer e.path (case_of_change (query_of w c) e n.metadata now m)

  by_mode_case : (m : Option ModeChange) → ModeCase w.executable_bit (plain_of n) s m → (n.metadata.kind ≡ s.kind → Answered (comparison_at w c e n)) → CaseOf (by_change m)
  by_mode_case m (other_kind mode k is) a = retyped mode k (ap by_change is)
  by_mode_case m (other_bit k x b is) a =
      subst (λ o. CaseOf (by_change o)) (sym is)
      (content_case true (trusted_at w e now) (racy_at w now) (a k).0 k (x, b) refl refl (a k).1)
  by_mode_case m (same_mode k b is) a =
      subst (λ o. CaseOf (by_change o)) (sym is)
      (content_case false (trusted_at w e now) (racy_at w now) (a k).0 k (λ h. b h.0 h.1) refl refl (a k).1)

module _ (w : StampedWorld) (c : Comparer) (e : IndexEntry) (n : Placed) (s : Plain) where
  -- A run reads the whole of a node of the entry's kind.
  pub met_whole : IsNodeOfEntry w e n s → n.metadata.kind ≡ s.kind → IsWholly n.bytes (reading (query_of w c) e n.metadata)
  met_whole h k =
      whole_reading w c e n s.executable h.unplanted h.there h.node.kind h.node.len
      (h.entry.mode ∙ ap (λ kind. new_mode w.executable_bit kind s.executable) (sym k))

  met_answered : IsNodeOfEntry w e n s → n.metadata.kind ≡ s.kind → Answered (comparison_at w c e n)
  met_answered h k =
      answered c e w.kind n.bytes n.metadata.len (readings (query_of w c) e n.metadata)
      (ap id_kind h.entry.id ∙ kind_of_blob w.kind s.bytes) (met_whole h k)

  -- A run's verdict, by cases.
  pub verdict_case : IsNodeOfEntry w e n s → (now : Stat) → stat_of n.metadata ≡ Some now → VerdictCase w c e n s now (verdict_at w c e n)
  verdict_case h now is =
      subst (λ o. VerdictCase w c e n s now (answer e.path (case_of_stat (query_of w c) e n.metadata o))) (sym is)
      (subst (λ mode. VerdictCase w c e n s now (answer e.path (case_of_change (query_of w c) e n.metadata now (mode_change true w.executable_bit mode n.metadata)))) (sym h.entry.mode)
      (by_mode_case w c e n s now (mode_change true w.executable_bit (new_mode w.executable_bit s.kind s.executable) n.metadata)
      (mode_case w.executable_bit n s h.node.kind h.entry.kind) (met_answered h)))
