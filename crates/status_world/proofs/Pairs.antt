-- An entry and the node at its path: a run's verdict is a change exactly if the node differs from what was staged. The entry
-- that the run stores can be trusted with any later timestamp.
use Rattle.std.proofs.Common.{◌≡◌, ◌∙◌, ◌↔◌, inl, inr, refl, sym, ap, subst, ◌&&◌, Bool, true, false, List, [], length, Option, Some, None, Result, Ok, Err, IsTrue}
use Rattle.status_index.specs.Entries.{IndexEntry}
use Rattle.std.proofs.lemmas.Bool.{and_parts}
use Rattle.std.proofs.lemmas.List.{nil_from_length}
use Rattle.status_index.specs.BlobId.{is_empty_blob}
use Rattle.status_index.specs.NodeStat.{stat_of}
use Rattle.status_index.specs.Stat.{stat_agrees}
use Rattle.status_index.specs.States.{with_stat, smudged}
use Rattle.status_index.specs.declared.id.ObjectId.{ObjectId}
use Rattle.status_index.specs.declared.stat.Moment.{Moment}
use Rattle.status_index.specs.declared.stat.Stat.{Stat}
use Rattle.status_base.specs.MemoryTree.{Placed}
use Rattle.status_compare.specs.FastAgrees.{HasOwnId}
use Rattle.status_compare.specs.declared.error.Error.{Error}
use Rattle.status_call.specs.declared.index_as_worktree.types.Change.TheVariants as changes
use Rattle.status_call.specs.declared.index_as_worktree.types.EntryStatus.TheVariants as statuses
use Rattle.status_call.specs.Status.{same_bool, is_trusted, readings}
use Rattle.status_compare.specs.declared.compare.Comparer.{Comparer}
use Rattle.status_compare.specs.declared.compare.Comparer.TheVariants.{Hash}
use Rattle.status_world.specs.PlainWorld.{Plain, Differs, IsExecutableChange}
use Rattle.status_world.specs.Reports.{RunStatus, is_change}
use Rattle.status_world.specs.Sound.{IsStagedSize, IsTrustworthy}
use Rattle.status_world.specs.StampedWorld.{StampedWorld, query_of, plain_of, stored_verdict}
use Rattle.status_compare.specs.NamedComparers.{compared_by}
use Rattle.status_world.proofs.Answers.{answer_says, staged_empty}
use Rattle.status_world.proofs.NodeStats.{KnownStat, stat_known}
use Rattle.status_world.proofs.StatLaws.{agreed_size}
use Rattle.status_world.proofs.Verdicts.{IsNodeOfEntry, VerdictCase, retyped, unchanged, rewritten, remoded, restamped, verdict_at, comparison_at, trusted_at, racy_at, verdict_case, met_whole}

-- The verdict is a change.
abbrev pub IsChangeVerdict : Result (Option RunStatus) Error → Type 0
IsChangeVerdict (Ok (Some status)) = IsTrue (is_change status)
IsChangeVerdict (Ok None) = ⊥
IsChangeVerdict (Err e) = ⊥

-- If the staged bytes have the id of the node's bytes, or of no bytes, they are equal to these.
pub record HasOwnIds (w : StampedWorld) (n : Placed) (s : Plain) : Type 0 where
  pub bytes : HasOwnId w.kind s.bytes n.bytes
  pub empty : HasOwnId w.kind s.bytes []

-- A world with this timestamp and index.
abbrev pub restored : StampedWorld → Moment → List IndexEntry → StampedWorld
restored w timestamp entries = record w { timestamp = timestamp; entries = entries }

same_as_true : (b : Bool) → same_bool b true ≡ true → b ≡ true
same_as_true true e = refl
same_as_true false e = cc

-- Nothing differs.
no_difference : (x : Bool) (now was : Plain) → now.kind ≡ was.kind → now.bytes ≡ was.bytes
    → (IsTrue x × IsExecutableChange now was → ⊥) → Differs x (Some now) was → ⊥
no_difference x now was k b none (inl h) = h k
no_difference x now was k b none (inr (inl h)) = h b
no_difference x now was k b none (inr (inr h)) = none h

module _ (w : StampedWorld) (c : Comparer) (e : IndexEntry) (n : Placed) (s : Plain) (met : IsNodeOfEntry w e n s) where
  -- The node's stat.
  abbrev known : KnownStat w.clock n
  known = stat_known w.clock n met.node

  verdict : VerdictCase w c e n s known.now (verdict_at w c e n)
  verdict = verdict_case w c e n s met known.now known.is

  case_ok : (v : Result (Option RunStatus) Error) → VerdictCase w c e n s known.now v → (o : Option RunStatus) × (v ≡ Ok o)
  case_ok v (retyped mode k is) = (_, is)
  case_ok v (unchanged k b t r is) = (_, is)
  case_ok v (rewritten x t r id k ht hr a is) = (_, is)
  case_ok v (remoded k b a is) = (_, is)
  case_ok v (restamped k b a is) = (_, is)

  -- A run has a verdict without a fault for the entry.
  pub pair_answered : (o : Option RunStatus) × (verdict_at w c e n ≡ Ok o)
  pair_answered = case_ok (verdict_at w c e n) verdict

  case_stat : (v : Result (Option RunStatus) Error) → VerdictCase w c e n s known.now v → (t : Stat) → v ≡ Ok (Some (statuses.NeedsUpdate t)) → stat_of n.metadata ≡ Some t
  case_stat v (retyped mode k is) t h = cc
  case_stat v (unchanged k b ht hr is) t h = cc
  case_stat v (rewritten x ht hr id k et er a is) t h = cc
  case_stat v (remoded k b a is) t h = cc
  case_stat v (restamped k b a is) t h = let one : known.now ≡ t = cc in known.is ∙ ap Some one

  -- If only the stat needs an update, the new stat is the node's.
  pub pair_stat : (t : Stat) → verdict_at w c e n ≡ Ok (Some (statuses.NeedsUpdate t)) → stat_of n.metadata ≡ Some t
  pair_stat t h = case_stat (verdict_at w c e n) verdict t h

  module _ (own : HasOwnIds w n s) (size : IsStagedSize e s) (trust : IsTrustworthy w n e s) where
    -- The comparer returns None exactly if the bytes are the same.
    same_bytes : n.metadata.kind ≡ s.kind → (found : Option (Option ObjectId)) → comparison_at w c e n ≡ Ok found → (found ≡ None) ↔ (n.bytes ≡ s.bytes)
    same_bytes k found is =
        answer_says c e w.kind s n.bytes (readings (query_of w c) e n.metadata)
        (record { id = met.entry.id; small = met.entry.small; size = size; own = own.bytes; own_empty = own.empty })
        (met_whole w c e n s met k) found
        (ap (λ len. compared_by c e len (readings (query_of w c) e n.metadata)) (sym met.node.len) ∙ is)

    abbrev IsExactFor : Result (Option RunStatus) Error → Type 0
    IsExactFor v = IsChangeVerdict v ↔ Differs w.executable_bit (Some (plain_of n)) s

    trusted_bytes : n.metadata.kind ≡ s.kind → trusted_at w e known.now ≡ true → racy_at w known.now ≡ false → n.bytes ≡ s.bytes
    trusted_bytes k t r = trust.bytes known.now known.is k t r

    case_change : (v : Result (Option RunStatus) Error) → VerdictCase w c e n s known.now v → IsExactFor v
    case_change v (retyped mode k is) = subst IsExactFor (sym is) (λ _. inl k, λ _. refl)
    case_change v (unchanged k b t r is) = subst IsExactFor (sym is) (λ h. absurd h, λ d. no_difference w.executable_bit (plain_of n) s k (trusted_bytes k t r) b d)
    case_change v (rewritten x t r id k ht hr a is) =
        subst IsExactFor (sym is) (λ _. inr (inl (λ same. let none = (same_bytes k (Some id) a).1 same in cc)), λ _. refl)
    case_change v (remoded k b a is) = subst IsExactFor (sym is) (λ _. inr (inr b), λ _. refl)
    case_change v (restamped k b a is) =
        subst IsExactFor (sym is) (λ h. absurd (cc), λ d. absurd (no_difference w.executable_bit (plain_of n) s k ((same_bytes k None a).0 refl) b d))

    -- A run reports a change exactly if the node differs from what was staged.
    pub pair_change : IsChangeVerdict (verdict_at w c e n) ↔ Differs w.executable_bit (Some (plain_of n)) s
    pair_change = case_change (verdict_at w c e n) verdict

    module _ (u : Moment) (es : List IndexEntry) where
      abbrev Keeps : IndexEntry → Type 0
      Keeps stored = IsStagedSize stored s × IsTrustworthy (restored w u es) n stored s

      abbrev KeepsOf : Result (Option RunStatus) Error → Type 0
      KeepsOf v = Keeps (stored_verdict e v)

      -- If the bytes are the same, any entry of their size or size 0 can be trusted.
      same_kept : (stored : IndexEntry) → IsStagedSize stored s → n.bytes ≡ s.bytes → Keeps stored
      same_kept stored sized same = (sized, record { bytes = λ _ _ _ _ _. same })

      -- An entry that isn't trusted now isn't trusted later.
      untrusted_kept : trusted_at w e known.now ≡ false → Keeps e
      untrusted_kept t = (
        size,
        record {
          bytes = λ now is _ later _.
              let one : known.now ≡ now = cc (known.is) in
              let before : trusted_at w e known.now ≡ true = subst (λ x. trusted_at w e x ≡ true) (sym one) later in
              absurd (cc);
        },
      )

      -- Size 0 is trusted only with the empty blob's id. Then the node has no bytes either.
      smudged_bytes : (now : Stat) → stat_of n.metadata ≡ Some now → is_trusted (query_of w Hash) (smudged e) now ≡ true → n.bytes ≡ s.bytes
      smudged_bytes now is t =
          let parts = and_parts (stat_agrees w.stat_options now (smudged e).stat) (same_bool (is_empty_blob e.id) true) t in
          let one : known.now ≡ now = cc (known.is) in
          let none : length n.bytes ≡ 0 = sym known.size ∙ (ap (λ x. x.size) one ∙ agreed_size w.stat_options now (smudged e).stat parts.0) in
          nil_from_length n.bytes none ∙ sym (staged_empty e.id w.kind s.bytes met.entry.id own.empty (same_as_true (is_empty_blob e.id) parts.1))

      rewritten_kept : (x t r : Bool) (id : Option ObjectId) → n.metadata.kind ≡ s.kind → trusted_at w e known.now ≡ t → racy_at w known.now ≡ r
          → KeepsOf (Ok (Some (statuses.Change (changes.Modification x (Some id) (t && r)))))
      rewritten_kept x false r id k ht hr = untrusted_kept ht
      rewritten_kept x true false id k ht hr = same_kept e size (trusted_bytes k ht hr)
      rewritten_kept x true true id k ht hr = (inr refl, record { bytes = λ now is _ later _. smudged_bytes now is later })

      case_kept : (v : Result (Option RunStatus) Error) → VerdictCase w c e n s known.now v → KeepsOf v
      case_kept v (retyped mode k is) = subst KeepsOf (sym is) (size, record { bytes = λ _ _ same _ _. absurd (k same) })
      case_kept v (unchanged k b t r is) = subst KeepsOf (sym is) (same_kept e size (trusted_bytes k t r))
      case_kept v (rewritten x t r id k ht hr a is) = subst KeepsOf (sym is) (rewritten_kept x t r id k ht hr)
      case_kept v (remoded k b a is) = subst KeepsOf (sym is) (same_kept e size ((same_bytes k None a).0 refl))
      case_kept v (restamped k b a is) =
          let same = (same_bytes k None a).0 refl in
          subst KeepsOf (sym is) (same_kept (with_stat known.now e) (inl (known.size ∙ ap length same)) same)

      -- The entry that a run stores can be trusted with any new timestamp.
      pub pair_kept : IsStagedSize (stored_verdict e (verdict_at w c e n)) s × IsTrustworthy (restored w u es) n (stored_verdict e (verdict_at w c e n)) s
      pair_kept = case_kept (verdict_at w c e n) verdict
