-- The report of the list: with renames and copies if they are searched for, or why it has none.
use Rattle.std.specs.Prelude.{◌≡◌, ◌⊎◌, ℕ, Bool, not, IsTrue, List, map, Option, Some, None, Result, Ok, Err, slice_get, ⊤}
use Rattle.std.specs.List.{count_by}
use Rattle.status_index.specs.declared.fault.Fault.TheVariants as faults
use Rattle.status_index.specs.declared.id.HashKind.{HashKind}
use Rattle.status_call.specs.declared.index_as_worktree.types.Options.{Options as StatusOptions}
use Rattle.status_rewrites.specs.AfterRewrites.{IsRewritten}
use Rattle.status_rewrites.specs.Lawful.{AreLawful, IsBadPair}
use Rattle.status_rewrites.specs.declared.rewrites.Rewritten.{Rewritten}
use Rattle.status_rewrites.specs.declared.rewrites.Rewritten.TheVariants.{Alone}
use Rattle.status_rewrites.specs.TrackedChanges.{Changed}
use Rattle.status_rewrites.specs.Trackers.{TrackerFault, bad_pair, refused}
use Rattle.status_rewrites.specs.declared.tracker.Pair.{Pair}
use Rattle.status_rewrites.specs.declared.tracker.Rewrites.{Rewrites}
use Rattle.status_rewrites.specs.declared.tracker.TrackerError.TheVariants as tracker_errors
use Rattle.status_walk.specs.declared.id.IdError.{IdError}
use Rattle.status_walk.specs.declared.id.IdError.TheVariants.{Open, Hash, ReadLink, Convert}
use Rattle.status_joined.specs.declared.index_as_worktree_with_renames.error.Error.{Error}
use Rattle.status_joined.specs.declared.index_as_worktree_with_renames.error.Error.TheVariants as errors
use Rattle.status_joined.specs.declared.index_as_worktree_with_renames.rewrites.Outcome.{Outcome as RewritesOutcome}
use Rattle.status_joined.specs.declared.index_as_worktree_with_renames.types.Options.{Options}
use Rattle.status_joined.specs.Changes.{changed_of}
use Rattle.status_joined.specs.Feeding.{AreReported}
use Rattle.status_joined.specs.NodeIds.{Identifying, forget, identified, id_faults}
use Rattle.status_joined.specs.Items.{Item, Reported, is_removed, is_walked}

-- The options of the status of the index. `fscache` is the joined call's own.
abbrev pub tracked_options : Options → StatusOptions
tracked_options o = record {
  fs = o.tracked_file_modifications.fs;
  thread_limit = o.tracked_file_modifications.thread_limit;
  stat = o.tracked_file_modifications.stat;
  fscache = o.fscache;
  chunk_size = o.tracked_file_modifications.chunk_size;
}

module _ {T U : Type 0} (ids : Identifying) (kind : HashKind) (tracks : List Changed → Bool → Result (List Pair) TrackerFault → Type 0) where
  -- The list's items with the ids of their contents, and no other change.
  pub record HaveTheirIds (list items : List (Item T U)) : Type 0 where
    pub known : IsTrue ids.modelled → map (identified ids.ids) list ≡ map Ok items
    pub same : map (forget kind) items ≡ map (forget kind) list

  -- The list is rewritten by the tracker's lawful pairs, or an id, a pair or the tracker fails. Here it is rewritten: each pair
  -- is there exactly once, and the outcome counts renames and copies.
  pub record IsRewriting (track_empty : Bool) (list : List (Item T U)) (entries : List (Rewritten (Item T U))) (o : RewritesOutcome) : Type 0 where
    pub items : List (Item T U)
    pub identified : HaveTheirIds list items
    pub pairs : List Pair
    pub specified : tracks (map changed_of items) track_empty (Ok pairs)
    pub lawful : AreLawful is_removed is_walked items pairs
    pub rewritten : IsRewritten (λ x y. y ≡ x) items pairs entries
    pub renames : o.renames ≡ count_by (λ p. not p.copy) pairs
    pub copies : o.copies ≡ count_by (λ p. p.copy) pairs

  -- The first fault of a node's id, in the order of the list.
  abbrev pub IsIdFault : List (Item T U) → IdError → Type 0
  IsIdFault list e = IsTrue ids.modelled → slice_get (id_faults ids.ids list) 0 ≡ Some e

  -- The tracker itself refuses this pair; or it is the first of its pairs that breaks a rule.
  abbrev pub IsPairFault : Bool → List (Item T U) → ℕ → Type 0
  IsPairFault track_empty items at =
      tracks (map changed_of items) track_empty (Err (bad_pair at))
      ⊎ ((pairs : List Pair) × (tracks (map changed_of items) track_empty (Ok pairs) × IsBadPair is_removed is_walked items pairs at))

  -- Why a list has no renames and copies. Out of memory is always the error `Memory`.
  abbrev pub IsRewritingFault : Bool → List (Item T U) → Error → Type 0
  IsRewritingFault track_empty list (errors.OpenWorktreeFile faults.Memory) = ⊥
  IsRewritingFault track_empty list (errors.HashFile faults.Memory) = ⊥
  IsRewritingFault track_empty list (errors.ReadLink faults.Memory) = ⊥
  IsRewritingFault track_empty list (errors.ConvertToGit faults.Memory) = ⊥
  IsRewritingFault track_empty list (errors.OpenWorktreeFile f) = IsIdFault list (Open f)
  IsRewritingFault track_empty list (errors.HashFile f) = IsIdFault list (Hash f)
  IsRewritingFault track_empty list (errors.ReadLink f) = IsIdFault list (ReadLink f)
  IsRewritingFault track_empty list (errors.ConvertToGit f) = IsIdFault list (Convert f)
  IsRewritingFault track_empty list (errors.RewriteTracker (tracker_errors.BadPair at)) =
      (items : List (Item T U)) × (HaveTheirIds list items × IsPairFault track_empty items at)
  IsRewritingFault track_empty list (errors.RewriteTracker (tracker_errors.Refused code)) =
      (items : List (Item T U)) × (HaveTheirIds list items × tracks (map changed_of items) track_empty (Err (refused code)))
  IsRewritingFault track_empty list errors.Memory = ⊤
  IsRewritingFault track_empty list _ = ⊥

  -- The report of a list: each item alone; or, if renames and copies are searched for, the list with these.
  abbrev pub IsReportedOf : Option Rewrites → List (Item T U) → List (Reported T U) → Option RewritesOutcome → Type 0
  IsReportedOf None list reported None = AreReported (map Alone list) reported
  IsReportedOf (Some r) list reported (Some o) =
      (entries : List (Rewritten (Item T U))) × (IsRewriting r.track_empty list entries o × AreReported entries reported)
  IsReportedOf None list reported (Some o) = ⊥
  IsReportedOf (Some r) list reported None = ⊥

  -- Why the list has no renames and copies, if these are searched for.
  abbrev pub IsListFault : Option Rewrites → List (Item T U) → Error → Type 0
  IsListFault None list e = ⊥
  IsListFault (Some r) list e = IsRewritingFault r.track_empty list e
