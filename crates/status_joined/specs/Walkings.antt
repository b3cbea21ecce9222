-- The specification of the walk.
use Rattle.std.specs.Prelude.{◌≡◌, Bool, true, false, List, Option, Some, None, option_map}
use Rattle.std.specs.Borrow.{Bor}
use Rattle.status_index.specs.Entries.{IndexEntry}
use Rattle.status_walk.specs.Walks.{WalkResult}
use Rattle.status_joined.specs.declared.untracked.Walker.{Walker}

-- The walk's nodes and fault, if it is modelled.
abbrev pub Walking : Type 0
Walking = Option WalkResult

abbrev pub walker_of : {W K P : Type 0} → Bor W → K → P → Walker W K P
walker_of worktree walk pathspec = record { worktree = worktree; walk = walk; pathspec = pathspec }

-- The walk, if one is wanted.
abbrev pub wanted_walk : Bool → Walking → Option Walking
wanted_walk true w = Some w
wanted_walk false w = None

-- If one is wanted, a walker with the same specification; otherwise none.
abbrev pub IsWantedWalker : {B : Type 0} → (B → List IndexEntry → Walking) → Bool → B → Option B → Type 0
IsWantedWalker walking_of wanted walker found =
    (entries : List IndexEntry) → option_map (λ b. walking_of b entries) found ≡ wanted_walk wanted (walking_of walker entries)
