-- A refresh changes the entries that have records, each by its own, and hides no difference: they show the same letters after it.
use Rattle.std.specs.Prelude.{◌≡◌, ◌≢◌, ℕ, ◌<◌, ◌%◌, ◌^◌, Bool, List, [], All, AllPairs, map, Option, Some, None, option_map, slice_get, Result, Ok, Err, IfOk, IsTrue, IsFalse, if◌then◌else◌}
use Rattle.std.specs.List.{list_any}
use Rattle.std.specs.declared.cmp.Ordering.TheVariants.{Greater}
use Rattle.git_attributes.specs.Files.{attributes_of}
use Rattle.git_attributes.specs.declared.clean.CleanFilter.{CleanFilter}
use Rattle.status_index.specs.BlobId.{blob_id, id_kind, is_empty_blob}
use Rattle.status_index.specs.Content.{Content}
use Rattle.status_index.specs.Entries.{IndexEntry, IsIndex}
use Rattle.status_index.specs.Orders.{moment_cmp}
use Rattle.status_index.specs.States.{index_of}
use Rattle.status_index.specs.declared.stat.Metadata.{Metadata}
use Rattle.status_compare.specs.Comparers.{fast_answer, reading_id}
use Rattle.status_compare.specs.declared.error.Error.{Error}
use Rattle.status_call.specs.Considered.{considered, considered_start}
use Rattle.status_call.specs.IndexChanges.{applied, change_of, updated_entry}
use Rattle.status_call.specs.Inputs.{settings}
use Rattle.status_call.specs.Query.{Query}
use Rattle.status_call.specs.Records.{records_of, verdict}
use Rattle.status_call.specs.Status.{found, present, reading, status_of}
use Rattle.status_call.specs.StatusTheorem.{IsBeginning}
use Rattle.status_call.specs.Visits.{Visit, finding_of}
use Rattle.status_call.specs.declared.index_as_worktree.inputs.Settings.{Settings as StatusSettings}
use Rattle.status_call.specs.declared.index_as_worktree.types.EntryStatus.{EntryStatus}
use Rattle.git_status.specs.Kept.{Asks, is_left_out, kept_changes}
use Rattle.git_status.specs.Lines.{letters}
use Rattle.git_status.specs.Refreshes.{IsFileRefreshed}
use Rattle.git_status.specs.Runs.{Asking, SeenBy, seen_query}
use Rattle.git_status.specs.declared.answer.Report.{Report}

module _ {T U : Type 0} where
  -- The letters of an entry's result, or its error. An entry that doesn't differ from the worktree has none.
  abbrev pub shown_letters : Result (Option (EntryStatus T U)) Error → Result (Option (List ℕ)) Error
  shown_letters (Ok (Some status)) = Ok (letters status)
  shown_letters (Ok None) = Ok None
  shown_letters (Err e) = Err e

  -- A later query sees of the entry in the new index what the first query sees of the entry in the old one: the same nodes,
  -- contents and submodule, by the same options. Only the timestamp of the index may be another.
  pub record SeesSame (q later : Query T U) (old new : IndexEntry) : Type 0 where
    pub stat_options : later.stat_options ≡ q.stat_options
    pub symlink : later.symlink ≡ q.symlink
    pub executable_bit : later.executable_bit ≡ q.executable_bit
    pub lstat : (path : List ℕ) → later.lstat new path ≡ q.lstat old path
    pub opened : later.opened new ≡ q.opened old
    pub linked : later.linked new ≡ q.linked old
    pub cached : later.cached new ≡ q.cached old
    pub conversion : (content : Content) → later.conversion content new.path ≡ q.conversion content old.path
    pub submodule : later.submodule new ≡ q.submodule old

  -- Both queries consider and skip the same paths.
  pub record SelectsSame (q later : Query T U) : Type 0 where
    pub prefix : later.prefix ≡ q.prefix
    pub included : (path : List ℕ) (directory : Bool) → later.included path directory ≡ q.included path directory

  -- The new index isn't of a later time than the old one.
  abbrev pub IsOfNoLaterTime : Query T U → Query T U → Type 0
  IsOfNoLaterTime q later = moment_cmp later.timestamp q.timestamp ≢ Greater

module _ {U : Type 0} where
  -- Contents are compared by sizes, and by ids if sizes don't decide.
  abbrev pub ComparesBySizes : Query (Unit {0}) U → Type 0
  ComparesBySizes q = q.compared ≡ (λ e len readings. fast_answer e len readings.file)

  -- If the entry is of the empty blob, and the stat of the node at its path has size 0, then the node is read as an empty
  -- content, or can't be read. A stat has the low 32 bits of a length, so a file of 4 GiB would be another case.
  abbrev pub ReadsEmptyNode : Query (Unit {0}) U → IndexEntry → Type 0
  ReadsEmptyNode q e =
      IsTrue (is_empty_blob e.id) → (n : Metadata) → found q e ≡ present n → n.len % 2 ^ 32 ≡ 0
      → IfOk (reading_id (id_kind e.id) (reading q e n)) (λ id. id ≡ blob_id (id_kind e.id) [])

  -- If the change that a record asks for is stored, the entry shows the same letters by any later query that sees the same,
  -- whatever the time of the new index.
  abbrev pub KeptLaw : Query (Unit {0}) U → Query (Unit {0}) U → IndexEntry → Type 0
  KeptLaw q later e =
      ComparesBySizes q → ComparesBySizes later → ReadsEmptyNode q e
      → (at : ℕ) (status : EntryStatus (Unit {0}) U) → status_of q e ≡ Ok (Some status)
      → SeesSame q later e (updated_entry (change_of at status) e)
      → shown_letters (status_of later (updated_entry (change_of at status) e)) ≡ Ok (letters status)

  -- If the record is left out, so that the entry stays as it is, it shows the same letters by any later query that sees the same
  -- of an index of no later time.
  abbrev pub LeftOutLaw : Query (Unit {0}) U → Query (Unit {0}) U → IndexEntry → Type 0
  LeftOutLaw q later e =
      ComparesBySizes q → ComparesBySizes later → IsOfNoLaterTime q later
      → (status : EntryStatus (Unit {0}) U) → status_of q e ≡ Ok (Some status)
      → SeesSame q later e e
      → shown_letters (status_of later e) ≡ Ok (letters status)

module _ {T U : Type 0} (asks : Asks) where
  -- The entries of an index after a refresh by these records.
  abbrev pub refreshed_entries : List (Visit T U) → List IndexEntry → List IndexEntry
  refreshed_entries visits es = applied (kept_changes asks visits) es

  -- The entry of a record after the refresh: with the change that the record asks for, unless the record is left out.
  abbrev pub refreshed_entry : Visit T U → IndexEntry → IndexEntry
  refreshed_entry v e = if is_left_out asks v then e else updated_entry (change_of v.entry_index v.status) e

  -- A refresh changes each entry that has a record by that record alone, and no other entry.
  pub record ChangesOwn (visits : List (Visit T U)) (es : List IndexEntry) : Type 0 where
    pub recorded : All (λ v. slice_get (refreshed_entries visits es) v.entry_index ≡ option_map (refreshed_entry v) (slice_get es v.entry_index)) visits
    pub others : (at : ℕ) → All (λ v. v.entry_index ≢ at) visits → slice_get (refreshed_entries visits es) at ≡ slice_get es at

  -- So it is if the positions of the records ascend, as those of a status do.
  abbrev pub OwnLaw : List (Visit T U) → List IndexEntry → Type 0
  OwnLaw visits es = AllPairs (λ a b. a.entry_index < b.entry_index) visits → ChangesOwn visits es

module _ {U : Type 0} (asks : Asks) (q later : Query (Unit {0}) U) (visits : List (Visit (Unit {0}) U)) (es : List IndexEntry) where
  -- A later query sees the same of the entry at a record's position, in the refreshed index as in the old one.
  pub record IsSeenAgain (v : Visit (Unit {0}) U) (old new : IndexEntry) : Type 0 where
    pub old_entry : slice_get es v.entry_index ≡ Some old
    pub new_entry : slice_get (refreshed_entries asks visits es) v.entry_index ≡ Some new
    pub empty : ReadsEmptyNode q old
    pub same : SeesSame q later old new

  -- The result of an entry of the refreshed index by the later query.
  abbrev pub later_verdict : IndexEntry → Result (Option (EntryStatus (Unit {0}) U)) Error
  later_verdict e = verdict later (considered later.prefix (refreshed_entries asks visits es)) e

  -- The records are those of an index by the first query, or a beginning of them.
  abbrev pub AreRecords : Type 0
  AreRecords = IsIndex es × IsBeginning (map finding_of visits) (records_of q (considered_start q.prefix es) (considered q.prefix es))

  -- In the refreshed index each entry that has a record, and of which the later query sees the same, shows the same letters.
  abbrev pub HidesNothing : Type 0
  HidesNothing = All (λ v. (old new : IndexEntry) → IsSeenAgain v old new → shown_letters (later_verdict new) ≡ Ok (letters v.status)) visits

  -- This holds of any later query that compares by sizes too. If a record was left out, the refreshed index has to be of no later
  -- time.
  abbrev pub RefreshLaw : Type 0
  RefreshLaw =
      ComparesBySizes q → ComparesBySizes later → SelectsSame q later → AreRecords
      → (IsTrue (list_any (is_left_out asks) visits) → IsOfNoLaterTime q later)
      → HidesNothing

-- ---- a run of the command

module _ {U : Type 0} (a : Asking (Unit {0}) U) (bytes : List ℕ) where
  -- Each query of the command compares by sizes.
  abbrev pub IsBySizes : Type 0
  IsBySizes = (filter : CleanFilter) (settings : StatusSettings) → ComparesBySizes (a.query filter settings)

  -- Each query of the command is over a modelled worktree.
  abbrev pub IsModelled : Type 0
  IsModelled = (filter : CleanFilter) (settings : StatusSettings) → IsTrue (a.query filter settings).modelled

  module _ (old new refreshed : Option (List ℕ)) (r : Report) (whole : Bool) (extensions : List ℕ) (made : IsFileRefreshed a bytes old r whole extensions refreshed new) where
    -- The query of the status that the refresh is of.
    abbrev pub run_query : Query (Unit {0}) U
    run_query = a.query made.run.0.converting.filter (settings a.settings.options made.run.0.index)

    -- If the records are those of this query, the refresh of the index file hides nothing from a later one. If it isn't whole, the
    -- refreshed index has to be of no later time.
    abbrev pub RunHidesNothing : Query (Unit {0}) U → Type 0
    RunHidesNothing q =
        (later : Query (Unit {0}) U) → ComparesBySizes later → SelectsSame q later → (IsFalse whole → IsOfNoLaterTime q later)
        → HidesNothing (attributes_of made.run.0.converting.files, a.settings.conversions) q later made.run.1.visits (index_of made.run.0.index)

    -- Over a modelled worktree the records are those of the command's query, and over any those of a query of what was seen.
    pub record RunLaw : Type 0 where
      pub known : IsModelled → RunHidesNothing run_query
      pub seen : ∥ ((seen : SeenBy a made.run.0.index made.run.0.converting.filter) × RunHidesNothing (seen_query a made.run.0.index made.run.0.converting.filter seen)) ∥₁

  -- No refresh by the command, which compares by sizes, hides anything.
  abbrev pub RefreshesLaw : Type 0
  RefreshesLaw =
      IsBySizes
      → (old new refreshed : Option (List ℕ)) (r : Report) (whole : Bool) (extensions : List ℕ) (made : IsFileRefreshed a bytes old r whole extensions refreshed new)
      → RunLaw old new refreshed r whole extensions made
