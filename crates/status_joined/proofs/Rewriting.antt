-- How the rewriting of a list ends.
use Rattle.std.proofs.Common.{◌≡◌, ◌⊎◌, inl, inr, refl, sym, ap, subst, ◌∙◌, ℕ, ◌-◌, not, Bool, IsTrue, List, length, map, Some, Result, Ok, Err, slice_get, arith, rules}
use Rattle.std.specs.List.{All, count_by}
use Rattle.std.proofs.lemmas.Simd.{map-map}
use Rattle.std.proofs.lemmas.List.Filters.{length-filter_both}
use Rattle.std.proofs.lemmas.List.Sums.{length-filter}
use Rattle.status_index.specs.declared.fault.Fault.TheVariants.{Memory}
use Rattle.status_index.specs.declared.id.HashKind.{HashKind}
use Rattle.status_rewrites.specs.AfterRewrites.{IsRewriteAnswer, IsRewritten}
use Rattle.status_rewrites.specs.Entries.{IsLed, map_rewritten}
use Rattle.status_rewrites.specs.Lawful.{AreLawful}
use Rattle.status_rewrites.specs.declared.rewrites.Refused.{Refused}
use Rattle.status_rewrites.specs.declared.rewrites.Refused.TheVariants as refusals
use Rattle.status_rewrites.specs.declared.rewrites.Rewritten.{Rewritten}
use Rattle.status_rewrites.proofs.Led.{destinations_walked}
use Rattle.status_rewrites.proofs.Mapped.{bad_pair_mapped, rewritten_mapped}
use Rattle.status_rewrites.specs.TrackedChanges.{Changed}
use Rattle.status_rewrites.specs.Trackers.{TrackerFault, IsSpecifiedAnswer}
use Rattle.status_rewrites.specs.declared.tracker.Pair.{Pair}
use Rattle.status_rewrites.specs.declared.tracker.TrackerError.{TrackerError}
use Rattle.status_rewrites.specs.declared.tracker.TrackerError.TheVariants as trackers
use Rattle.status_walk.specs.WorktreeIds.{fault_of}
use Rattle.status_walk.specs.declared.id.IdError.{IdError}
use Rattle.status_joined.specs.Changes.{changed_of}
use Rattle.status_joined.specs.Errors.{error_of_id, error_of_refused, error_of_tracker}
use Rattle.status_joined.specs.NodeIds.{Identifying, id_faults}
use Rattle.status_joined.specs.Items.{Item, is_removed, is_walked}
use Rattle.status_joined.specs.Joined.{HaveTheirIds, IsRewriting, IsRewritingFault}
use Rattle.status_joined.specs.ListItems.{item_of}
use Rattle.status_joined.specs.declared.item.ModificationOrDirwalkEntry.{ModificationOrDirwalkEntry}
use Rattle.status_joined.specs.declared.index_as_worktree_with_renames.rewrites.Outcome.{Outcome}

-- Pairs that aren't copies are renames.
pub count_others : (ps : List Pair) (n : ℕ) → n ≡ count_by (λ (p : Pair). p.copy) ps → length ps - n ≡ count_by (λ (p : Pair). not p.copy) ps
count_others ps n h =
    let all = length-filter_both (λ (p : Pair). p.copy) (λ (p : Pair). not p.copy) (λ p. refl) ps in
    let copies = length-filter (λ (p : Pair). p.copy) ps in
    let renames = length-filter (λ (p : Pair). not p.copy) ps in
    omega (arith, h, all, copies, renames)

module _ {T U : Type 0} (ids : Identifying) (kind : HashKind) (tracks : List Changed → Bool → Result (List Pair) TrackerFault → Type 0) (track_empty : Bool) (list : List (Item T U)) where
  -- A node has no id.
  pub id_fault : (e : IdError) → (IsTrue ids.modelled → (slice_get (id_faults ids.ids list) 0 ≡ Some e) ⊎ (fault_of e ≡ Memory)) → IsRewritingFault ids kind tracks track_empty list (error_of_id e)
  id_fault e h = search (rules, h)

  module _ (xs slice : List (ModificationOrDirwalkEntry T U)) (same : slice ≡ xs) (identified : HaveTheirIds ids kind tracks list (map item_of xs)) where
    -- The changes that a tracker gets for the list's items.
    seen : map (λ (x : ModificationOrDirwalkEntry T U). changed_of (item_of x)) slice ≡ map changed_of (map item_of xs)
    seen = ap (map (λ (x : ModificationOrDirwalkEntry T U). changed_of (item_of x))) same ∙ sym (map-map changed_of item_of xs)

    -- The tracker has no pairs.
    tracker_fault_of : (e : TrackerError) → IsSpecifiedAnswer (tracks (map changed_of (map item_of xs)) track_empty) (Err e) → IsRewritingFault ids kind tracks track_empty list (error_of_tracker e)
    tracker_fault_of (trackers.BadPair at) reported = (map item_of xs, (identified, inl reported))
    tracker_fault_of (trackers.Refused code) reported = (map item_of xs, (identified, reported))
    tracker_fault_of trackers.Memory reported = tt

    pub tracker_fault : (e : TrackerError) → IsSpecifiedAnswer (tracks (map (λ (x : ModificationOrDirwalkEntry T U). changed_of (item_of x)) slice) track_empty) (Err e) → IsRewritingFault ids kind tracks track_empty list (error_of_tracker e)
    tracker_fault e reported = tracker_fault_of e (subst (λ cs. IsSpecifiedAnswer (tracks cs track_empty) (Err e)) seen reported)

    module _ (ps : List Pair) (reported : tracks (map (λ (x : ModificationOrDirwalkEntry T U). changed_of (item_of x)) slice) track_empty (Ok ps)) (is_made_of : ModificationOrDirwalkEntry T U → ModificationOrDirwalkEntry T U → Type 0) where
      specified : tracks (map changed_of (map item_of xs)) track_empty (Ok ps)
      specified = subst (λ cs. tracks cs track_empty (Ok ps)) seen reported

      -- The tracker's pairs break a rule.
      refused_fault_of : (e : Refused) → IsRewriteAnswer (λ x. is_removed (item_of x)) (λ x. is_walked (item_of x)) is_made_of xs ps (Err e) → IsRewritingFault ids kind tracks track_empty list (error_of_refused e)
      refused_fault_of (refusals.BadPair at) bad =
          (map item_of xs, (identified, inr (ps, (specified, bad_pair_mapped item_of (λ x. is_removed (item_of x)) (λ x. is_walked (item_of x)) is_removed is_walked (λ x. refl) (λ x. refl) xs ps at bad))))
      refused_fault_of refusals.Memory bad = tt

      pub refused_fault : (pairs : List Pair) → pairs ≡ ps → (e : Refused) → IsRewriteAnswer (λ x. is_removed (item_of x)) (λ x. is_walked (item_of x)) is_made_of xs pairs (Err e) → IsRewritingFault ids kind tracks track_empty list (error_of_refused e)
      refused_fault pairs are e bad =
          refused_fault_of e (subst (λ qs. IsRewriteAnswer (λ x. is_removed (item_of x)) (λ x. is_walked (item_of x)) is_made_of xs qs (Err e)) are bad)

      module _ (made : (x y : ModificationOrDirwalkEntry T U) → is_made_of x y → item_of y ≡ item_of x) (entries : List (Rewritten (ModificationOrDirwalkEntry T U))) (pairs : List Pair) (are : pairs ≡ ps) (answer : AreLawful (λ x. is_removed (item_of x)) (λ x. is_walked (item_of x)) xs pairs × IsRewritten is_made_of xs pairs entries) where
        answered : AreLawful is_removed is_walked (map item_of xs) ps × IsRewritten (λ (x y : Item T U). y ≡ x) (map item_of xs) ps (map (map_rewritten item_of) entries)
        answered =
            subst (λ qs. AreLawful is_removed is_walked (map item_of xs) qs × IsRewritten (λ (x y : Item T U). y ≡ x) (map item_of xs) qs (map (map_rewritten item_of) entries)) are
            (rewritten_mapped item_of (λ x. is_removed (item_of x)) (λ x. is_walked (item_of x)) is_removed is_walked (λ x. refl) (λ x. refl) xs is_made_of made pairs entries answer)

        -- The destination of each rewrite is a node.
        pub destinations_led : All (IsLed is_walked) (map (map_rewritten item_of) entries)
        destinations_led =
            destinations_walked is_removed is_walked (λ (x y : Item T U). y ≡ x) (map item_of xs) ps (map (map_rewritten item_of) entries) answered.0 answered.1

        -- The list has its renames and copies.
        pub rewriting : (counted : List Pair) → counted ≡ ps → (o : Outcome) → o.renames ≡ count_by (λ (p : Pair). not p.copy) counted → o.copies ≡ count_by (λ (p : Pair). p.copy) counted → IsRewriting ids kind tracks track_empty list (map (map_rewritten item_of) entries) o
        rewriting counted same_pairs o renames copies = record {
          items = map item_of xs;
          identified = identified;
          pairs = ps;
          specified = specified;
          lawful = answered.0;
          rewritten = answered.1;
          renames = renames ∙ ap (count_by (λ (p : Pair). not p.copy)) same_pairs;
          copies = copies ∙ ap (count_by (λ (p : Pair). p.copy)) same_pairs;
        }
