-- The index file after a refresh: the same, except for the changes that the refresh makes.
use Rattle.std.specs.Prelude.{◌≡◌, ◌≢◌, ◌⊎◌, ◌↔◌, ℕ, Bool, false, List, [], replicate, Option, Some, None, Result, Ok, Err, if◌then◌else◌}
use Rattle.std.specs.Option.{option_map}
use Rattle.git_attributes.specs.Files.{attributes_of}
use Rattle.git_index.specs.File.{IsFileOf}
use Rattle.git_index.specs.RawEntry.{id_len}
use Rattle.git_index.specs.Refusals.{sum_of}
use Rattle.git_index.specs.Writing.{file_bytes}
use Rattle.status_call.specs.IndexChanges.{applied}
use Rattle.status_call.specs.declared.index_as_worktree.apply.ApplyChange.{ApplyChange}
use Rattle.status_index.specs.Entries.{IndexEntry, IsIndex}
use Rattle.status_index.specs.States.{index_of}
use Rattle.status_index.specs.declared.id.HashKind.{HashKind}
use Rattle.git_status.specs.Kept.{is_whole, kept_changes}
use Rattle.git_status.specs.Runs.{Asking, IsFileRun, IsCommandRun}
use Rattle.git_status.specs.declared.answer.Report.{Report}
use Rattle.git_status.specs.declared.failure.Failure.{Failure}
use Rattle.git_status.specs.declared.failure.Failure.TheVariants.{Memory}
use Rattle.git_status.specs.declared.refresh.Refreshed.{Refreshed}

-- A file of these entries, written with a checksum unless the old bytes end in zeros in place of one; its index is valid.
pub record IsIndexRewritten (kind : HashKind) (old : List ℕ) (version : ℕ) (extensions : List ℕ) (es : List IndexEntry) (bytes : List ℕ) : Type 0 where
  pub has_checksum : Bool
  pub sum : (has_checksum ≡ false) ↔ (sum_of kind old ≡ replicate (id_len kind) 0)
  pub written : bytes ≡ file_bytes kind version es extensions has_checksum
  pub file : IsFileOf kind bytes version es extensions
  pub valid : IsIndex es

-- The new bytes of an index file, of the same version and with the same extensions, if changes are made. Without changes there are none.
abbrev pub IsRefreshedFile : HashKind → List ℕ → ℕ → List ℕ → List IndexEntry → List ApplyChange → Option (List ℕ) → Type 0
IsRefreshedFile kind old version extensions es changes None = changes ≡ []
IsRefreshedFile kind old version extensions es changes (Some bytes) = (changes ≢ []) × IsIndexRewritten kind old version extensions (applied changes es) bytes

module _ {T U : Type 0} where
  -- The status of an index file was printed, these are the file's extensions and its new bytes, and this states whether the refresh is whole.
  pub record IsFileRefreshed (a : Asking T U) (bytes : List ℕ) (old : Option (List ℕ)) (r : Report) (all : Bool) (extensions : List ℕ) (refreshed new : Option (List ℕ)) : Type 0 where
    pub run : IsFileRun a bytes old (Ok r) new
    pub kept : extensions ≡ run.0.extensions
    pub whole : all ≡ is_whole (attributes_of run.0.converting.files, a.settings.conversions) run.1.visits r.outcome
    pub file : IsRefreshedFile a.settings.kind bytes run.0.version run.0.extensions (index_of run.0.index) (kept_changes (attributes_of run.0.converting.files, a.settings.conversions) run.1.visits) refreshed

  -- The refresh of an index file fails as its status does, or since memory ran out after the status was printed.
  abbrev pub IsUnrefreshed : Asking T U → List ℕ → Option (List ℕ) → Failure → Option (List ℕ) → Type 0
  IsUnrefreshed a bytes old f new = IsCommandRun a bytes old (Err f) new ⊎ ((r : Report) × IsCommandRun a bytes old (Ok r) new × (f ≡ Memory))

  -- The result of a refresh over the bytes of an index file and a worktree.
  unfoldable pub IsRefresh : Asking T U → List ℕ → Option (List ℕ) → Result (Report × Refreshed) Failure → Option (List ℕ) → Type 0
  IsRefresh a bytes old (Ok (r, made)) new =
      (made.status ≡ (if r.dirty then 1 else 0)) × IsFileRefreshed a bytes old r made.is_whole made.extensions.now (option_map (λ v. v.items) made.bytes) new
  IsRefresh a bytes old (Err f) new = IsUnrefreshed a bytes old f new

  -- With exit status 0 the refresh found no difference, and with 1 it found one.
  abbrev pub IsRefreshExit : Asking T U → List ℕ → Bool → Refreshed → Option (List ℕ) → Option (List ℕ) → Type 0
  IsRefreshExit a bytes dirty result old new =
      (r : Report) × (r.dirty ≡ dirty) × IsFileRefreshed a bytes old r result.is_whole result.extensions.now (option_map (λ v. v.items) result.bytes) new

  -- With exit status 2 it failed.
  abbrev pub IsRefreshFailedExit : Asking T U → List ℕ → Option (List ℕ) → Option (List ℕ) → Type 0
  IsRefreshFailedExit a bytes old new = (f : Failure) × IsUnrefreshed a bytes old f new
