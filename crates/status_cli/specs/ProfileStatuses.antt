-- A profile's status is by its options, its index and the tree of its nodes, unless one can't be put; its lines are those of the
-- plain or of the joined status, and a failure has its line.
use Rattle.std.specs.Prelude.{◌≡◌, ◌⊎◌, IfSome, nat_eq, ℕ, ◌+◌, Bool, true, false, List, [], ◌∷◌, map, Option, Some, None, Result, Ok, Err, IfOk}
use Rattle.std.specs.FinMap as paths
use Rattle.std.specs.List.{starts_with}
use Rattle.std.specs.Result.{IsErrAnd}
use Rattle.status_index.specs.Content.{Content}
use Rattle.status_index.specs.Entries.{IndexEntry}
use Rattle.status_index.specs.States.{index_of, timestamp_of}
use Rattle.status_index.specs.declared.fault.Fault.{Fault}
use Rattle.status_index.specs.declared.fault.Fault.TheVariants.{NotFound}
use Rattle.status_index.specs.declared.id.HashKind.{HashKind}
use Rattle.status_index.specs.declared.id.ObjectId.{ObjectId}
use Rattle.status_index.specs.declared.stat.Metadata.{Metadata}
use Rattle.status_index.specs.declared.stat.Moment.{Moment}
use Rattle.status_index.specs.declared.state.State.{State}
use Rattle.status_base.specs.Conversions.{same}
use Rattle.status_base.specs.MemoryTree.{Placed, Tree, lstat_in, open_in, target_in}
use Rattle.status_base.specs.Nodes.{put_fault}
use Rattle.status_base.specs.Trees.{empty_tree}
use Rattle.status_base.specs.declared.worktree.node.TreeError.{TreeError}
use Rattle.status_base.specs.declared.worktree.tree.Worktree as worktree
use Rattle.status_call.specs.Inputs.{settings}
use Rattle.status_call.specs.Query.{Query}
use Rattle.status_call.specs.declared.index_as_worktree.apply.ApplyChange.{ApplyChange}
use Rattle.status_call.specs.declared.index_as_worktree.inputs.Settings.{Settings}
use Rattle.status_joined.specs.Items.{Reported}
use Rattle.status_joined.specs.NodeIds.{ids_by}
use Rattle.status_joined.specs.Walkings.{Walking}
use Rattle.status_joined.specs.declared.index_as_worktree_with_renames.error.Error.{Error as JoinedError}
use Rattle.status_joined.specs.declared.index_as_worktree_with_renames.types.Outcome.{Outcome as JoinedOutcome}
use Rattle.status_walk.specs.Untracked.{untracked_walk}
use Rattle.status_world.specs.RunStatus.{status_query}
use Rattle.status_compare.specs.NamedComparers.{compared_by, counted_by}
use Rattle.status_profile.specs.Nodes.{node_value}
use Rattle.status_profile.specs.Options.{OptionValues, is_joined, option_values}
use Rattle.status_profile.specs.Profiles.{IsRead}
use Rattle.status_profile.specs.declared.node.Place.{Place}
use Rattle.status_profile.specs.declared.node.Place.TheVariants as places
use Rattle.status_profile.specs.declared.options.Kind.{Kind}
use Rattle.status_profile.specs.declared.options.ProfileOptions.{ProfileOptions}
use Rattle.status_profile.specs.declared.profile.Profile.{Profile}
use Rattle.status_profile.specs.declared.error.ProfileError.{ProfileError}
use Rattle.status_cli.specs.declared.failure.Failure.{Failure}
use Rattle.status_cli.specs.declared.status.inputs.WantedChanges.{WantedChanges}
use Rattle.status_cli.specs.declared.status.inputs.WantedChanges.TheVariants.{Dropped}
use Rattle.status_cli.specs.declared.status.inputs.IndexChanges.{IndexChanges}
use Rattle.status_cli.specs.declared.status.inputs.ProfileStatus.{ProfileStatus}
use Rattle.status_cli.specs.declared.status.inputs.Request.{Request}
use Rattle.status_cli.specs.declared.failure.Failure.TheVariants.{Unreadable, Memory}
use Rattle.status_cli.specs.Failures.{failure_of_node, failure_of_profile}
use Rattle.status_cli.specs.FaultLines.{IsFaultReported}
use Rattle.status_cli.specs.Statuses.{IsJoinedAnswer, IsJoinedPrinted, IsStatusPrinted, JoinedInputs}

-- what a profile asks for: a status of this index by these options, ids of this kind, and whether the changes that the status asks
-- for are returned
pub record Asked : Type 0 where
  pub hash : HashKind
  pub options : ProfileOptions
  pub index : State
  pub wanted : WantedChanges

-- what a request asks for
abbrev pub asked_by : Request → Asked
asked_by r = record { hash = r.hash; options = r.options; index = r.index.now; wanted = r.wanted }

-- what a profile asks for, and whether the changes are returned
abbrev pub asked_in : Profile → WantedChanges → Asked
asked_in p wanted = record { hash = p.hash; options = p.options; index = p.index; wanted = wanted }

-- the results of a worktree, and whether they are specified
pub record WorktreeResults : Type 0 where
  pub modelled : Bool
  pub lstat : List ℕ → Result Metadata Fault
  pub opened : List ℕ → Result Content Fault
  pub linked : List ℕ → Result (List ℕ) Fault

-- the results of a worktree, by the specification of its type
abbrev pub results_of : {W F : Type 0} → worktree.Ghosts W F → W → WorktreeResults
results_of g w = record { modelled = g.modelled w; lstat = g.lstat_of w; opened = g.open_of w; linked = g.target_of w }

-- the query of a status by a profile's options, of these paths of a worktree
abbrev pub options_query : OptionValues → Moment → WorktreeResults → List ℕ → (List ℕ → Bool → Bool) → Query (Option ObjectId) (Unit {0})
options_query o timestamp w prefix included =
    record (status_query o.status timestamp w.modelled w.lstat w.opened w.linked (compared_by o.comparer) (counted_by o.comparer)) {
      prefix = prefix;
      included = included;
    }

-- the inputs of a joined status of a worktree, which converts nothing
abbrev pub joined_inputs : {T U : Type 0} → Query T U → WorktreeResults → Walking → HashKind → JoinedInputs T U
joined_inputs query w walking hash = record {
  query = query;
  walking = walking;
  ids = record { modelled = w.modelled; ids = ids_by hash w.lstat w.opened w.linked (λ _ _. same) };
}

-- the paths that begin with a prefix
abbrev pub begins_with : List ℕ → List ℕ → Bool → Bool
begins_with prefix = λ path _. starts_with nat_eq path prefix

-- the command fails as if the text of a profile couldn't be read, or since memory ran out; and nothing was printed
abbrev pub IsUnreadPrinted : {A : Type 0} → Option (List ℕ) → Result A Failure → Option (List ℕ) → Type 0
IsUnreadPrinted old result new = IsErrAnd result (λ f. (f ≡ Unreadable) ⊎ (f ≡ Memory)) × (new ≡ old)

-- the next step, unless the one before failed
abbrev pub and_then : {A B E : Type 0} → Result A E → (A → Result B E) → Result B E
and_then (Ok x) next = next x
and_then (Err e) next = Err e

-- a tree with a node at its path; or the command's failure for this fault of the node at this position
abbrev pub with_placed : ℕ → Tree → List ℕ × Placed → Option TreeError → Result Tree Failure
with_placed position tree node None = Ok (record tree { nodes = paths.insert tree.nodes node.0 node.1 })
with_placed position tree node (Some e) = Err (failure_of_node e position)

-- a tree with nodes that are put one after the other, the first of them at this position; or the failure for the first that can't be put
abbrev pub with_nodes : ℕ → Tree → List (List ℕ × Placed) → Result Tree Failure
with_nodes position tree [] = Ok tree
with_nodes position tree (node ∷ nodes) =
    and_then (with_placed position tree node (put_fault tree node.0 node.1.metadata.kind)) (λ more. with_nodes (position + 1) more nodes)

-- the command fails for the first node that can't be put, or memory ran out
abbrev pub AreNodesRefused : List (List ℕ × Placed) → Failure → Type 0
AreNodesRefused nodes failure = (failure ≡ Memory) ⊎ (with_nodes 0 empty_tree nodes ≡ Err failure)

module _ (w : WorktreeResults) (asked : Asked) (prefix : List ℕ) (included : List ℕ → Bool → Bool) where
  -- over a worktree and of these paths, the lines of a plain status by a profile's options were printed
  abbrev pub IsPlainOver : Option (List ℕ) → Result (List ApplyChange) Failure → Option (List ℕ) → Type 0
  IsPlainOver old result new = IsStatusPrinted (options_query (option_values asked.options) (timestamp_of asked.index) w prefix included) asked.options.status.thread_limit asked.index asked.options.counts asked.wanted old result new

  -- those of a joined status, by what there is to walk
  abbrev pub IsJoinedOver : {A : Type 0} → Walking → Option (List ℕ) → Result A Failure → Option (List ℕ) → Type 0
  IsJoinedOver walking old result new =
      IsJoinedPrinted (joined_inputs (options_query (option_values asked.options) (timestamp_of asked.index) w prefix included) w walking asked.hash) (option_values asked.options) asked.hash asked.index old result new

  -- those of the plain status; or of the joined one, which returns no changes, if the options have untracked files, renames or sorting
  pub record IsStatusOver (walking : Walking) (old : Option (List ℕ)) (result : Result (List ApplyChange) Failure) (new : Option (List ℕ)) : Type 0 where
    pub plain : is_joined (option_values asked.options) ≡ false → IsPlainOver old result new
    pub joined : is_joined (option_values asked.options) ≡ true → IsJoinedOver walking old result new
    pub unchanged : is_joined (option_values asked.options) ≡ true → IfOk result (λ changes. changes ≡ [])

-- the lines of a status were printed, of the paths that begin with the options' prefix; or nothing, since memory ran out
abbrev pub IsPrintedOver : WorktreeResults → (List ℕ → (List ℕ → Bool → Bool) → Walking) → Asked → Option (List ℕ) → Result (List ApplyChange) Failure → Option (List ℕ) → Type 0
IsPrintedOver w walked asked old result new =
    let prefix = (option_values asked.options).prefix in
    (IsErrAnd result (λ f. f ≡ Memory) × (new ≡ old))
    ⊎ IsStatusOver w asked prefix (begins_with prefix) (walked prefix (begins_with prefix)) old result new

-- the report of a joined status by a query to its collector, over a worktree and by what there is to walk
abbrev pub IsJoinedReported : {T U : Type 0} → (Settings → Query T U) → WorktreeResults → Asked → Walking → Bool → List (Reported T U) → Result JoinedOutcome JoinedError → List (Reported T U) → Type 0
IsJoinedReported query w asked walking may_fail old answer new =
    IsJoinedAnswer (joined_inputs (query (settings asked.options.status asked.index)) w walking asked.hash) (option_values asked.options) asked.hash asked.index may_fail old answer new

-- what there is to walk for a profile's status, by the specification of its walk
abbrev pub walked_by : {W K : Type 0} → (K → W → List IndexEntry → List ℕ → (List ℕ → Bool → Bool) → Walking) → ProfileStatus W K → List ℕ → (List ℕ → Bool → Bool) → Walking
walked_by walking s prefix included = walking s.walk s.worktree.now (index_of s.request.index.now) prefix included

-- the results of a tree of nodes, which are specified
abbrev pub tree_results : Tree → WorktreeResults
tree_results tree = record { modelled = true; lstat = lstat_in tree; opened = open_in tree; linked = target_in tree }

-- the results of a folder, of which nothing is specified
abbrev pub folder_results : WorktreeResults
folder_results = record { modelled = false; lstat = λ _. Err NotFound; opened = λ _. Err NotFound; linked = λ _. Err NotFound }

-- the walk of a folder finds nothing, since untracked files are refused there
abbrev pub folder_walk : List ℕ → (List ℕ → Bool → Bool) → Walking
folder_walk prefix included = Some (record { entries = []; fault = None })

-- the walk of a tree of nodes finds the untracked ones
abbrev pub tree_walk : Tree → State → List ℕ → (List ℕ → Bool → Bool) → Walking
tree_walk tree index prefix included = Some (untracked_walk tree (index_of index) included)

-- a profile's lines were printed, over its folder or over the tree of its nodes; or nothing, since one of these can't be put or memory ran
-- out
abbrev pub IsPlacePrinted : Place → Asked → Option (List ℕ) → Result (List ApplyChange) Failure → Option (List ℕ) → Type 0
IsPlacePrinted (places.Folder path) asked old result new = IsPrintedOver folder_results folder_walk asked old result new
IsPlacePrinted (places.Nodes nodes) asked old result new =
    (IsErrAnd result (AreNodesRefused (map node_value nodes.items)) × (new ≡ old))
    ⊎ ((tree : Tree) × (with_nodes 0 empty_tree (map node_value nodes.items) ≡ Ok tree) × IsPrintedOver (tree_results tree) (tree_walk tree asked.index) asked old result new)

-- the changes that are returned with a profile's index
abbrev pub changes_returned : IndexChanges → List ApplyChange
changes_returned r = r.changes.items

-- the lines of a profile were printed, by its own request
abbrev pub IsProfilePrinted : Profile → WantedChanges → Option (List ℕ) → Result (List ApplyChange) Failure → Option (List ℕ) → Type 0
IsProfilePrinted p wanted old result new = IsPlacePrinted p.place (asked_in p wanted) old result new

-- a text was read as a profile, and this was printed of it
abbrev pub IsReadPrinted : Kind → List ℕ → WantedChanges → Option (List ℕ) → Result (List ApplyChange) Failure → Option (List ℕ) → Type 0
IsReadPrinted kind text wanted old result new = (p : Profile) × IsRead kind text (Ok p) × IsProfilePrinted p wanted old result new

-- a text was read as a profile, and this was printed of it; or it says none, and the command fails for this reason; or it can't be
-- read. In both of these nothing was printed
abbrev pub IsTextPrinted : Kind → List ℕ → WantedChanges → Option (List ℕ) → Result (List ApplyChange) Failure → Option (List ℕ) → Type 0
IsTextPrinted kind text wanted old result new =
    (IsUnreadPrinted old result new ⊎ ((e : ProfileError) × IsRead kind text (Err e) × IsErrAnd result (λ f. f ≡ failure_of_profile e) × (new ≡ old)))
    ⊎ IsReadPrinted kind text wanted old result new

-- of a command that ended with exit status 1: a beginning of its failure's line was written, and this holds of what was printed
abbrev pub IsFailed : (Failure → Type 0) → List ℕ → Option (List ℕ) → Option (List ℕ) → Type 0
IsFailed Printed name old new = (f : Failure) × Printed f × IsFaultReported name f old new

-- the same of a command's text, if that is known: it succeeded, or it failed
abbrev pub IsTextSucceeded : Kind → Option (List ℕ) → Option (List ℕ) → Option (List ℕ) → Type 0
IsTextSucceeded kind text old new = IfSome text (λ t. IsReadPrinted kind t Dropped old (Ok []) new)

abbrev pub IsTextFailed : Kind → Option (List ℕ) → Option (List ℕ) → Option (List ℕ) → List ℕ → Option (List ℕ) → Option (List ℕ) → Type 0
IsTextFailed kind text old new name old_faults new_faults = IfSome text (λ t. IsFailed (λ f. IsTextPrinted kind t Dropped old (Err f) new) name old_faults new_faults)
