-- Which results the interfaces that are passed may return, whether they are modelled or not.
use Rattle.std.specs.Prelude.{ℕ, List, Option, Result}
use Rattle.status_index.specs.Content.{Content}
use Rattle.status_index.specs.Entries.{IndexEntry}
use Rattle.status_index.specs.declared.fault.Fault.{Fault}
use Rattle.status_index.specs.declared.id.ObjectId.{ObjectId}
use Rattle.status_index.specs.declared.stat.Metadata.{Metadata}
use Rattle.status_base.specs.ListedNodes.{Listing, MayList}
use Rattle.status_base.specs.Openings.{MayOpen}
use Rattle.status_base.specs.Sights.{MayStat}
use Rattle.status_base.specs.declared.worktree.objects.FindError.{FindError}

-- Which results each call may have. `U` is the type of a submodule's report of a change.
pub record MayReturn (U : Type 0) : Type 1 where
  -- Of `lstat` at a path. After a node was met there: of opening the file and reading its content, and of reading the link.
  pub stat : MayStat
  pub opened : List ℕ → Metadata → MayOpen
  pub linked : List ℕ → Metadata → Result (List ℕ) Fault → Type 0
  -- Of listing a directory.
  pub listed : MayList
  -- Of finding a blob.
  pub found : ObjectId → Result (List ℕ) FindError → Type 0
  -- Of an entry's submodule.
  pub reported : IndexEntry → Result (Option U) (List ℕ) → Type 0

-- Each result that the one may return, the other may return too.
pub record ReturnsWithin {U : Type 0} (less more : MayReturn U) : Type 0 where
  pub stat : (path : List ℕ) (r : Result Metadata Fault) → less.stat path r → more.stat path r
  pub opened : (path : List ℕ) (n : Metadata) (r : Result Content Fault) → less.opened path n r → more.opened path n r
  pub linked : (path : List ℕ) (n : Metadata) (r : Result (List ℕ) Fault) → less.linked path n r → more.linked path n r
  pub listed : (directory : List ℕ) (listing : Listing) → less.listed directory listing → more.listed directory listing
  pub found : (id : ObjectId) (r : Result (List ℕ) FindError) → less.found id r → more.found id r
  pub reported : (e : IndexEntry) (r : Result (Option U) (List ℕ)) → less.reported e r → more.reported e r
