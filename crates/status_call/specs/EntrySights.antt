-- One entry over any worktree: its look-up, the comparison of its content, and its submodule.
use Rattle.std.specs.Prelude.{◌≡◌, ◌⊎◌, ⊤, ℕ, Bool, true, false, IsTrue, List, [], Option, Some, None, IfSome, unwrap_or, Result, Err}
use Rattle.status_index.specs.Content.{Content}
use Rattle.status_index.specs.declared.stat.Metadata.{Metadata}
use Rattle.status_index.specs.declared.stat.Stat.{Stat}
use Rattle.status_index.specs.Entries.{IndexEntry}
use Rattle.status_index.specs.Mode.{is_submodule}
use Rattle.status_base.specs.Conversions.{Conversion}
use Rattle.status_base.specs.LinkCheck.{link_check}
use Rattle.status_base.specs.ListedNodes.{Listing, MayList, directory_of, known_node}
use Rattle.status_base.specs.Sights.{MayStat, Stats, AreAllowed}
use Rattle.status_compare.specs.declared.error.Error.{Error}
use Rattle.status_compare.specs.declared.error.Error.TheVariants.{Memory}
use Rattle.status_compare.specs.declared.read_data.Reads.{Reads}
use Rattle.status_compare.specs.Reading.{IsSpecified, Readings}
use Rattle.status_compare.specs.Reads.{no_reads}
use Rattle.status_call.specs.declared.index_as_worktree.content.Comparison.{Comparison}
use Rattle.status_call.specs.declared.index_as_worktree.inputs.Settings.{Settings}
use Rattle.status_call.specs.declared.index_as_worktree.lookup.Look.{Look}
use Rattle.status_call.specs.declared.index_as_worktree.step.Decided.{Decided}
use Rattle.status_call.specs.EntryParts.{IsCaseDecided, IsContentCompared, IsContentDecided, IsLookAt, IsNodeDecided}
use Rattle.status_call.specs.declared.index_as_worktree.types.EntryStatus.{EntryStatus}
use Rattle.status_call.specs.MayReturn.{MayReturn}
use Rattle.status_call.specs.Query.{Query}
use Rattle.status_call.specs.Status.{Found, answer, cached_or, directory, directory_case, found_by, in_submodule, nothing, present, refused}
use Rattle.status_call.specs.Views.{View}

-- The content, the target and the blob in a view of an entry are ones that may be returned after this node was met at its path.
pub record IsContentAllowed {U : Type 0} (may : MayReturn U) (e : IndexEntry) (n : Metadata) (view : View U) : Type 0 where
  pub opened : may.opened e.path n view.opened
  pub linked : may.linked e.path n view.linked
  pub blob : may.found e.id view.blob

-- The node at an entry's path, by a view.
abbrev pub node_seen : {U : Type 0} → IndexEntry → View U → Found
node_seen e view = found_by (link_check view.lstat e.path) (cached_or view.listed (view.lstat e.path))

-- A fact that has to hold of the node that was found at a path, if it is no directory.
abbrev pub IfPresent : Found → (Metadata → Type 0) → Type 0
IfPresent nothing P = ⊤
IfPresent (refused f) P = ⊤
IfPresent directory P = ⊤
IfPresent (present n) P = P n

-- A listing of the path's directory that may be returned knows this node at the path.
pub record IsNodeListed (may : MayList) (path : List ℕ) (n : Metadata) : Type 0 where
  pub listing : Listing
  pub allowed : may (directory_of path) listing
  pub node : known_node true (λ _. listing) path ≡ Some n

-- A view of an entry is allowed if each of its results may be returned: the content only after the view's own node was met, and
-- only if there is one. The submodule's has to be only if a directory is at a submodule's entry. No listing is used unless that is asked for. A node that a listing knows is one of a listing of the path's
-- directory that may be returned.
pub record IsViewAllowed {U : Type 0} (may : MayReturn U) (fscache : Bool) (e : IndexEntry) (view : View U) : Type 0 where
  pub stats : AreAllowed may.stat view.lstat
  pub unlisted : fscache ≡ false → view.listed ≡ None
  pub node : IfSome view.listed (IsNodeListed may.listed e.path)
  pub content : IfPresent (node_seen e view) (λ n. IsContentAllowed may e n view)
  pub submodule : node_seen e view ≡ directory → IsTrue (is_submodule e.mode) → may.reported e view.submodule

-- The look-up of a path is the specified one for results that `lstat` may return, and for a node of a listing that may be returned.
pub record IsLookSeen (may : MayStat) (may_list : MayList) (fscache : Bool) (path : List ℕ) (result : Result Look Error) : Type 0 where
  pub lstat : Stats
  pub listed : Option Metadata
  pub allowed : AreAllowed may lstat
  pub unlisted : fscache ≡ false → listed ≡ None
  pub node : IfSome listed (IsNodeListed may_list path)
  pub look : IsLookAt lstat listed path result

-- The status of a submodule's entry is that of what the submodule may report.
pub record IsSaid {T U : Type 0} (may : Result (Option U) (List ℕ) → Type 0) (path : List ℕ) (result : Result (Option (EntryStatus T U)) Error) : Type 0 where
  pub said : Result (Option U) (List ℕ)
  pub allowed : may said
  pub status : IsSpecified (answer {T = T} path (in_submodule said)) result

-- The same, or memory ran out.
abbrev pub IsSubmoduleSeen : {T U : Type 0} → (Result (Option U) (List ℕ) → Type 0) → List ℕ → Result (Option (EntryStatus T U)) Error → Type 0
IsSubmoduleSeen may path result = (result ≡ Err Memory) ⊎ IsSaid may path result

-- The decision of an entry whose path has a directory is the specified one for what its submodule may report, if it is a submodule's.
pub record IsDirectorySaid {T U : Type 0} (may : Result (Option U) (List ℕ) → Type 0) (e : IndexEntry) (result : Result (Decided T U) Error) : Type 0 where
  pub said : Result (Option U) (List ℕ)
  pub allowed : IsTrue (is_submodule e.mode) → may said
  pub decided : IsCaseDecided e.path (directory_case {T = T} e said) false (Some no_reads) result

-- The same, or memory ran out.
abbrev pub IsDirectorySeen : {T U : Type 0} → (Result (Option U) (List ℕ) → Type 0) → IndexEntry → Result (Decided T U) Error → Type 0
IsDirectorySeen may e result = (result ≡ Err Memory) ⊎ IsDirectorySaid may e result

-- A query that has these settings, this conversion and this comparer, and of the rest only what was seen of an entry.
abbrev pub viewed : {T U : Type 0} → Settings → (Content → List ℕ → Conversion) → (IndexEntry → ℕ → Readings → Result (Option T) Error) → (IndexEntry → ℕ → Readings → Reads → Option Reads) → View U → Query T U
viewed settings conversion answers counts view = record {
  modelled = true;
  stat_options = settings.stat;
  symlink = settings.fs.symlink;
  executable_bit = settings.fs.executable_bit;
  timestamp = settings.timestamp;
  lstat = λ _. view.lstat;
  opened = λ _. view.opened;
  linked = λ _. view.linked;
  cached = λ _. view.listed;
  prefix = [];
  included = λ _ _. true;
  conversion = conversion;
  blob = λ _. view.blob;
  submodule = λ _. view.submodule;
  compared = answers;
  counted = λ e len readings before. Some (unwrap_or (counts e len readings before) view.reads);
}

module _ {T U : Type 0} (may : MayReturn U) (settings : Settings) (conversion : Content → List ℕ → Conversion) (answers : IndexEntry → ℕ → Readings → Result (Option T) Error)
    (counts : IndexEntry → ℕ → Readings → Reads → Option Reads) (e : IndexEntry) (n : Metadata) where
  -- The comparison of an entry's content with its node's is the specified one for contents that may be returned.
  pub record IsComparisonViewed (result : Result (Comparison T) Error) : Type 0 where
    pub view : View U
    pub allowed : IsContentAllowed may e n view
    pub compared : IsContentCompared (viewed settings conversion answers counts view) e n result

  -- The decision of an entry whose path has this node is.
  pub record IsNodeSeen (result : Result (Decided T U) Error) : Type 0 where
    pub view : View U
    pub allowed : IsContentAllowed may e n view
    pub decided : IsNodeDecided (viewed settings conversion answers counts view) e n result

  -- The same if the node has the entry's type and this stat.
  pub record IsContentSeen (s : Stat) (executable_changed : Bool) (result : Result (Decided T U) Error) : Type 0 where
    pub view : View U
    pub allowed : IsContentAllowed may e n view
    pub decided : IsContentDecided (viewed settings conversion answers counts view) e n s executable_changed result
