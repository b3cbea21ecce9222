-- The look-up of a path with the help of listings.
use Rattle.std.specs.Prelude.{◌≡◌, ◌≢◌, ℕ, Bool, List, Option, IfOk, Result, IsTrue, ⊤}
use Rattle.std.specs.declared.alloc.AllocError.{AllocError}
use Rattle.status_index.specs.declared.fault.Fault.{Fault}
use Rattle.status_index.specs.declared.stat.Metadata.{Metadata}
use Rattle.status_index.specs.declared.stat.NodeKind.TheVariants as kinds
use Rattle.status_compare.specs.declared.error.Error.{Error}
use Rattle.status_base.specs.CheckState.{IsClear}
use Rattle.status_base.specs.ListedNodes.{Listing, known_node}
use Rattle.status_base.specs.ListingTable.{Table, HasListedNames}
use Rattle.status_base.specs.Looked.{IsMet}
use Rattle.status_base.specs.Sights.{MayStat}
use Rattle.status_call.specs.EntryParts.{IsLookAt}
use Rattle.status_call.specs.Modelled.{are_modelled}
use Rattle.status_call.specs.declared.index_as_worktree.lookup.AtPath.{AtPath}
use Rattle.status_call.specs.declared.index_as_worktree.lookup.AtPath.TheVariants.{Nothing, Directory, Node}
use Rattle.status_call.specs.declared.index_as_worktree.lookup.Look.{Look}

-- A fact that has to hold of the node at a path, if one that is no directory is there.
abbrev pub IfNode : AtPath → (Metadata → Type 0) → Type 0
IfNode Nothing P = ⊤
IfNode Directory P = ⊤
IfNode (Node n) P = P n

-- A node was met at a path that is no directory.
pub record IsNodeMet (may : MayStat) (listed : Bool) (path : List ℕ) (n : Metadata) : Type 0 where
  pub met : IsMet may listed path n
  pub kind : n.kind ≢ kinds.Directory

-- A table has the lister's listings, if the lister is modelled.
abbrev pub Keeps : Bool → (List ℕ → Listing) → Table → Type 0
Keeps modelled listing table = IsTrue modelled → HasListedNames listing table

module _ (asked modelled : Bool) (listing : List ℕ → Listing) (table : Table) (path : List ℕ) where
  -- The node that listings know at a path, if they are used.
  abbrev pub IsKnownByListings : Result (Option Metadata) AllocError → Type 0
  IsKnownByListings result = IsTrue (are_modelled asked modelled) → Keeps modelled listing table
      → IfOk result (λ node. node ≡ known_node asked listing path)

  -- The look-up of a path by listings and by `lstat`, if no directory above the path that the check keeps is a link or a fault.
  abbrev pub IsLookUp : (List ℕ → Result Metadata Fault) → List ℕ → Result Look Error → Type 0
  IsLookUp lstat tested result =
      IsTrue (are_modelled asked modelled) → IsClear lstat tested → Keeps modelled listing table
      → IsLookAt lstat (known_node asked listing path) path result
