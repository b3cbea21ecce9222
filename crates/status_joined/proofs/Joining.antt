-- The joined theorem at each exit of the call.
use Rattle.std.proofs.Common.{inl, inr, ◌≡◌, refl, Bool, true, false, IsTrue, List, [], take, drop, Option, Some, None, is_some, Result, Ok, Err, sym, subst, arith}
use Rattle.std.specs.List.Sorted.{IsSorted}
use Rattle.std.proofs.lemmas.Bool.{false≢true}
use Rattle.std.proofs.lemmas.List.{append-nil, length-take-le, take-append-drop}
use Rattle.status_index.specs.declared.state.State.{State}
use Rattle.status_call.specs.Query.{Query}
use Rattle.status_call.specs.declared.index_as_worktree.types.Outcome.{Outcome as StatusOutcome}
use Rattle.status_joined.specs.Walkings.{Walking}
use Rattle.status_rewrites.specs.TrackedChanges.{Changed}
use Rattle.status_rewrites.specs.Trackers.{TrackerFault}
use Rattle.status_rewrites.specs.declared.tracker.Pair.{Pair}
use Rattle.status_rewrites.specs.declared.tracker.Rewrites.{Rewrites}
use Rattle.status_walk.specs.declared.walk.Outcome.{Outcome as WalkOutcome}
use Rattle.status_joined.specs.declared.index_as_worktree_with_renames.error.Error.{Error}
use Rattle.status_joined.specs.declared.index_as_worktree_with_renames.error.Error.TheVariants as errors
use Rattle.status_joined.specs.declared.index_as_worktree_with_renames.rewrites.Outcome.{Outcome as RewritesOutcome}
use Rattle.status_joined.specs.declared.index_as_worktree_with_renames.types.Options.{Options}
use Rattle.status_joined.specs.declared.index_as_worktree_with_renames.types.Outcome.{Outcome}
use Rattle.status_joined.specs.BothHalves.{IsHalfFault}
use Rattle.status_joined.specs.NodeIds.{Identifying}
use Rattle.status_joined.specs.Items.{Item, Reported}
use Rattle.status_joined.specs.Joined.{IsListFault, IsReportedOf}
use Rattle.status_joined.specs.JoinedTheorem.{IsFault, IsJoinedStatus, IsWhole}
use Rattle.status_joined.specs.Listing.{HasList}
use Rattle.status_joined.specs.Lists.{IsList, list_cmp, unsorted}
use Rattle.status_joined.specs.RewritingAnswers.{IsListFed}
use Rattle.status_joined.specs.Summaries.{reported_cmp}
use Rattle.status_joined.proofs.InOrder.{alone_in_order, rewritten_in_order}

module _ {T U : Type 0} (query : Query T U) (options : Options) (index : State) (interruptible : Bool) (walking : Option Walking) (ids : Identifying) (tracks : List Changed → Bool → Result (List Pair) TrackerFault → Type 0) (may_fail : Bool) where
  -- An error before anything was reported.
  pub quietly : (old : List (Reported T U)) (e : Error) → IsFault query options index interruptible walking ids tracks e → IsJoinedStatus query options index interruptible walking ids tracks may_fail old (Err e) old
  quietly old e fault = record { more = []; grew = sym (append-nil old); complete = tt; fault = fault; quiet = inl (λ i. []) }

  fault_of_half : (e : Error) → IsHalfFault query options index interruptible walking e → IsFault query options index interruptible walking ids tracks e
  fault_of_half (errors.DirWalk x) fault = fault
  fault_of_half (errors.TrackedFileModifications x) fault = fault
  fault_of_half errors.Memory fault = tt
  fault_of_half errors.SpawnThread fault = absurd fault
  fault_of_half errors.SetAttributeContext fault = absurd fault
  fault_of_half (errors.OpenWorktreeFile x) fault = absurd fault
  fault_of_half (errors.HashFile x) fault = absurd fault
  fault_of_half (errors.ReadLink x) fault = absurd fault
  fault_of_half (errors.ConvertToGit x) fault = absurd fault
  fault_of_half (errors.RewriteTracker x) fault = absurd fault

  -- A half failed.
  pub unlisted : (old : List (Reported T U)) (e : Error) → IsHalfFault query options index interruptible walking e → IsJoinedStatus query options index interruptible walking ids tracks may_fail old (Err e) old
  unlisted old e fault = quietly old e (fault_of_half e fault)

  -- The reports of a sorted list are sorted.
  reported_in_order : (r : Option Rewrites) (list : List (Item T U)) (ts : List (Reported T U)) (o : Option RewritesOutcome) → IsSorted list_cmp list → IsReportedOf ids options.object_hash tracks r list ts o → IsSorted reported_cmp ts
  reported_in_order None list ts None up reported = alone_in_order list ts up reported
  reported_in_order None list ts (Some o) up reported = absurd reported
  reported_in_order (Some r) list ts None up reported = absurd reported
  reported_in_order (Some r) list ts (Some o) up reported =
      let w = reported.1.0 in
      rewritten_in_order options.object_hash list w.items w.rewritten.moves reported.0 ts up w.identified.same w.rewritten.entries_are reported.1.1

  list_in_order : (sorted : Bool) (items list : List (Item T U)) → IsList sorted items list → IsTrue sorted → IsSorted list_cmp list
  list_in_order true items list is wanted = is.order
  list_in_order false items list is wanted = absurd (false≢true wanted)

  module _ (list : List (Item T U)) (tracked : StatusOutcome) (walked : Option WalkOutcome) (has : HasList query options index interruptible walking list tracked walked) where
    -- The call's outcome, by that of the list's report.
    abbrev ended : Option RewritesOutcome → Outcome
    ended o = record { tracked_file_modification = tracked; dirwalk = walked; rewrites = o }

    whole_of : (ts : List (Reported T U)) (o : Option RewritesOutcome) → IsReportedOf ids options.object_hash tracks options.rewrites list ts o → IsWhole query options index interruptible walking ids tracks ts (ended o)
    whole_of ts o reported = record {
      list = list;
      has = has;
      is_reported = reported;
      order = λ wanted.
          reported_in_order options.rewrites list ts o
          (list_in_order (is_some options.sorting) (unsorted options.object_hash has.visits has.kept) list has.list_is wanted) reported;
    }

    fault_of_list : (r : Option Rewrites) → options.rewrites ≡ r → (e : Error) → IsListFault ids options.object_hash tracks r list e → IsFault query options index interruptible walking ids tracks e
    fault_of_list None is e fault = absurd fault
    fault_of_list (Some r) is (errors.DirWalk x) fault = absurd fault
    fault_of_list (Some r) is (errors.TrackedFileModifications x) fault = absurd fault
    fault_of_list (Some r) is errors.Memory fault = tt
    fault_of_list (Some r) is errors.SpawnThread fault = absurd fault
    fault_of_list (Some r) is errors.SetAttributeContext fault = absurd fault
    fault_of_list (Some r) is (errors.OpenWorktreeFile x) fault = record { tracked = tracked; walked = walked; list = list; has = has; fault = rw is fault }
    fault_of_list (Some r) is (errors.HashFile x) fault = record { tracked = tracked; walked = walked; list = list; has = has; fault = rw is fault }
    fault_of_list (Some r) is (errors.ReadLink x) fault = record { tracked = tracked; walked = walked; list = list; has = has; fault = rw is fault }
    fault_of_list (Some r) is (errors.ConvertToGit x) fault = record { tracked = tracked; walked = walked; list = list; has = has; fault = rw is fault }
    fault_of_list (Some r) is (errors.RewriteTracker x) fault = record { tracked = tracked; walked = walked; list = list; has = has; fault = rw is fault }

    -- All was reported.
    pub reported_all : (o : Option RewritesOutcome) (old new : List (Reported T U)) → IsListFed ids options.object_hash tracks options.rewrites list may_fail old (Ok o) new → IsJoinedStatus query options index interruptible walking ids tracks may_fail old (Ok (ended o)) new
    reported_all o old new (ts, (reported, grew)) = record { more = ts; grew = grew; complete = whole_of ts o reported; fault = tt; quiet = tt }

    -- The list has no renames and copies, or memory ran out while it was reported.
    pub unreported : (e : Error) (old new : List (Reported T U)) → IsListFed ids options.object_hash tracks options.rewrites list may_fail old (Err e) new → IsJoinedStatus query options index interruptible walking ids tracks may_fail old (Err e) new
    unreported e old new (inl (fault, same)) =
        subst (λ x. IsJoinedStatus query options index interruptible walking ids tracks may_fail old (Err e) x) (sym same)
        (quietly old e (fault_of_list options.rewrites refl e fault))
    unreported e old new (inr (fails, (memory, (ts, (o, (reported, (n, few, grew))))))) =
        subst (λ x. IsJoinedStatus query options index interruptible walking ids tracks may_fail old (Err x) new) (sym memory)
        (record {
          more = take n ts;
          grew = grew;
          complete = tt;
          fault = tt;
          quiet = inr (
            fails,
            (
              (λ i. errors.Memory),
              record {
                whole = ts;
                outcome = ended o;
                is_whole = whole_of ts o reported;
                beginning = (drop n ts, take-append-drop n ts);
                short = omega (arith, few, length-take-le n ts (omega (arith, few)));
              },
            ),
          );
        })

  -- The same by the clauses of the call's steps, about its decider, the walk that is wanted and the ids' filter.
  pub joined_at : (by : Query T U) → by ≡ query → (w : Option Walking) → w ≡ walking → (known : Identifying) → known ≡ ids → (old : List (Reported T U)) (result : Result Outcome Error) (new : List (Reported T U)) → IsJoinedStatus by options index interruptible w known tracks may_fail old result new → IsJoinedStatus query options index interruptible walking ids tracks may_fail old result new
  joined_at by same_query w same_walk known same_ids old result new is =
      subst (λ x. IsJoinedStatus x options index interruptible walking ids tracks may_fail old result new) same_query
      (subst (λ x. IsJoinedStatus by options index interruptible x ids tracks may_fail old result new) same_walk
      (subst (λ x. IsJoinedStatus by options index interruptible w x tracks may_fail old result new) same_ids is))
