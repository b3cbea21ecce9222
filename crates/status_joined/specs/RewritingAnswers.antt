-- The results of rewriting a list, and of reporting it.
use Rattle.std.specs.Prelude.{◌≡◌, ◌⊎◌, ℕ, ◌<◌, Bool, IsTrue, List, ◌++◌, length, map, take, Option, Result, Ok, Err}
use Rattle.status_index.specs.declared.id.HashKind.{HashKind}
use Rattle.status_rewrites.specs.Entries.{map_rewritten}
use Rattle.status_rewrites.specs.TrackedChanges.{Changed}
use Rattle.status_rewrites.specs.Trackers.{TrackerFault}
use Rattle.status_rewrites.specs.declared.tracker.Pair.{Pair}
use Rattle.status_rewrites.specs.declared.tracker.Rewrites.{Rewrites}
use Rattle.status_joined.specs.declared.index_as_worktree_with_renames.error.Error.{Error}
use Rattle.status_joined.specs.declared.index_as_worktree_with_renames.error.Error.TheVariants.{Memory}
use Rattle.status_joined.specs.declared.index_as_worktree_with_renames.rewrites.Outcome.{Outcome}
use Rattle.status_joined.specs.declared.index_as_worktree_with_renames.types.Options.{Options}
use Rattle.status_joined.specs.Items.{Item, Reported}
use Rattle.status_joined.specs.declared.index_as_worktree_with_renames.rewriting.RewrittenList.{RewrittenList}
use Rattle.status_joined.specs.NodeIds.{Identifying}
use Rattle.status_joined.specs.Joined.{IsListFault, IsReportedOf, IsRewriting, IsRewritingFault}
use Rattle.status_joined.specs.ListItems.{item_of}
use Rattle.status_joined.specs.declared.item.ModificationOrDirwalkEntry.{ModificationOrDirwalkEntry}

-- The list with its renames and copies, or why it has none.
abbrev pub IsRewritingAnswer : {T U : Type 0} → Identifying → HashKind → (List Changed → Bool → Result (List Pair) TrackerFault → Type 0) → Rewrites → List (ModificationOrDirwalkEntry T U) → Result (RewrittenList T U) Error → Type 0
IsRewritingAnswer ids kind tracks rewrites list (Ok r) = IsRewriting ids kind tracks rewrites.track_empty (map item_of list) (map (map_rewritten item_of) r.entries.items) r.outcome
IsRewritingAnswer ids kind tracks rewrites list (Err e) = IsRewritingFault ids kind tracks rewrites.track_empty (map item_of list) e

-- The list was reported; or nothing was, and this is why it has no renames and copies; or the collector ran out of memory after a
-- proper beginning of the list.
abbrev pub IsListFed : {T U : Type 0} → Identifying → HashKind → (List Changed → Bool → Result (List Pair) TrackerFault → Type 0) → Option Rewrites → List (Item T U) → Bool → List (Reported T U) → Result (Option Outcome) Error → List (Reported T U) → Type 0
IsListFed {T} {U} ids kind tracks rewrites list may_fail old (Ok o) new =
    (ts : List (Reported T U)) × (IsReportedOf ids kind tracks rewrites list ts o × (new ≡ old ++ ts))
IsListFed {T} {U} ids kind tracks rewrites list may_fail old (Err e) new =
    (IsListFault ids kind tracks rewrites list e × (new ≡ old))
    ⊎ (IsTrue may_fail × ((e ≡ Memory) × ((ts : List (Reported T U)) × ((o : Option Outcome)
    × (IsReportedOf ids kind tracks rewrites list ts o × ((n : ℕ) × (n < length ts) × (new ≡ old ++ take n ts)))))))

-- The same by the call's options.
abbrev pub IsListFedBy : {T U : Type 0} → Identifying → (List Changed → Bool → Result (List Pair) TrackerFault → Type 0) → Options → List (Item T U) → Bool → List (Reported T U) → Result (Option Outcome) Error → List (Reported T U) → Type 0
IsListFedBy ids tracks options list may_fail old result new = IsListFed ids options.object_hash tracks options.rewrites list may_fail old result new
