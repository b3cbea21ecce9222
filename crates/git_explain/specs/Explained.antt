-- The status of one path by its sight.
use Rattle.std.specs.Prelude.{◌≡◌, ◌&&◌, ℕ, Bool, true, false, not, List, [], ◌∷◌, map, All, Option, Some, None, Result, IfOk, is_err, if◌then◌else◌}
use Rattle.std.specs.FinMap as ids
use Rattle.std.specs.List.{list_any}
use Rattle.std.specs.Str.{bytes_eq}
use Rattle.bstr.specs.BStr.{bstr_bytes}
use Rattle.git_attributes.specs.Clean.{cleaned}
use Rattle.git_attributes.specs.declared.clean.CleanFilter.{CleanFilter}
use Rattle.status_base.specs.Objects.{found_in}
use Rattle.git_status.specs.Runs.{Asking, Converting, is_difference}
use Rattle.status_call.specs.Inputs.{settings}
use Rattle.status_base.specs.Openings.{MayOpen}
use Rattle.status_base.specs.Sights.{MayStat}
use Rattle.status_call.specs.Query.{Query}
use Rattle.status_call.specs.RecorderVisits.{visits_of}
use Rattle.status_call.specs.StatusTheorem.{IsStatusReport}
use Rattle.status_call.specs.declared.index_as_worktree.inputs.Settings.{Settings}
use Rattle.status_call.specs.declared.index_as_worktree.types.Outcome.{Outcome}
use Rattle.status_compare.specs.Comparers.{counts_after_fast, fast_answer}
use Rattle.status_compare.specs.declared.error.Error.{Error}
use Rattle.status_index.specs.Entries.{IndexEntry, entry_at}
use Rattle.status_index.specs.Mode.{is_submodule}
use Rattle.status_index.specs.States.{index_of}
use Rattle.status_index.specs.declared.fault.Fault.{Fault}
use Rattle.status_index.specs.declared.state.State.{State}
use Rattle.git_explain.specs.Allowed.{IsSightAllowed, linked_anyhow, opened_anyhow}
use Rattle.git_explain.specs.Sights.{linked, result_at, opened, reported}
use Rattle.git_explain.specs.declared.explained.Explained.{Explained}
use Rattle.git_explain.specs.declared.sight.Sight.{Sight}

-- The query for the entries of one path, whose worktree and submodule return the results in the sight, and no others.
abbrev pub by_sight : Settings → CleanFilter → List ℕ → Sight → Query (Unit {0}) (Unit {0})
by_sight settings filter path sight = record {
  modelled = true;
  stat_options = settings.stat;
  symlink = settings.fs.symlink;
  executable_bit = settings.fs.executable_bit;
  timestamp = settings.timestamp;
  lstat = λ _. result_at sight.calls.items;
  opened = λ _. opened sight.file;
  linked = λ _. linked sight.link;
  cached = λ _. None;
  prefix = path;
  included = λ p _. bytes_eq p path;
  conversion = cleaned filter;
  blob = λ e. found_in ids.empty e.id;
  submodule = λ _. reported sight.submodule;
  compared = λ e n m. fast_answer e n m.file;
  counted = λ e n m k. Some (counts_after_fast e n m.file k);
}

-- The records and counts, or the fault, are those of the status theorem for the entries of the path, by its sight.
abbrev pub IsStatusBySight : Settings → CleanFilter → State → Explained → Type 0
IsStatusBySight settings filter index x = IsStatusReport (by_sight settings filter (bstr_bytes x.path) x.sight) index [] x.answer (visits_of x.recorder)

-- The status of the path didn't end early.
abbrev pub IsWhole : Result Outcome Error → Type 0
IsWhole answer = IfOk answer (λ o. o.interrupted ≡ false)

-- The entry whose path is explained.
abbrev pub entry_of : Explained → IndexEntry
entry_of x = entry_at (bstr_bytes x.path) x.entry.now

-- The path has a line in the status.
abbrev pub has_line : Explained → Bool
has_line x = list_any is_difference (visits_of x.recorder)

-- The path's status is that of its sight, it didn't end early, and each result in the sight is one that may be returned for the
-- entry.
pub record IsExplained {U : Type 0} (may_stat : MayStat) (may_open : List ℕ → MayOpen) (may_link : List ℕ → Result (List ℕ) Fault → Type 0)
    (may_report : IndexEntry → Result (Option U) (List ℕ) → Type 0) (settings : Settings) (filter : CleanFilter) (index : State) (x : Explained) : Type 0 where
  pub status : IsStatusBySight settings filter index x
  pub whole : IsWhole x.answer
  pub allowed : let e = entry_of x in IsSightAllowed may_stat (may_open e.path) (may_link e.path) (may_report e) x.sight

-- The first entry of each path, of the paths that are included. The path before these entries is passed too.
abbrev pub first_entries : (List ℕ → Bool → Bool) → List ℕ → List IndexEntry → List IndexEntry
first_entries included before [] = []
first_entries included before (e ∷ es) =
    if not (bytes_eq e.path before) && included e.path (is_submodule e.mode) then e ∷ first_entries included e.path es else first_entries included e.path es

-- Each included path of the index is explained, in index order, with line ends converted by attribute files that may be found.
-- These are whether one differs, and whether the status of one failed.
pub record AreExplained {T U : Type 0} (a : Asking T U) (included : List ℕ → Bool → Bool) (index : State) (differs failed : Bool) : Type 0 where
  pub converting : Converting a index
  pub found : List Explained
  pub all : map entry_of found ≡ first_entries included [] (index_of index)
  pub each : let may = a.may_return in All (IsExplained may.stat (opened_anyhow may) (linked_anyhow may) may.reported (settings a.settings.options index) converting.filter index) found
  pub lines : differs ≡ list_any has_line found
  pub faults : failed ≡ list_any (λ x. is_err x.answer) found
