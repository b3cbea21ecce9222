-- The explanations of more paths are added.
use Rattle.std.specs.Prelude.{◌≡◌, ◌||◌, ℕ, List, map, All, Option, Result, is_err}
use Rattle.std.specs.List.{list_any}
use Rattle.git_attributes.specs.declared.clean.CleanFilter.{CleanFilter}
use Rattle.status_base.specs.Openings.{MayOpen}
use Rattle.status_base.specs.Sights.{MayStat}
use Rattle.status_call.specs.declared.index_as_worktree.inputs.Settings.{Settings}
use Rattle.status_index.specs.Entries.{IndexEntry}
use Rattle.status_index.specs.declared.fault.Fault.{Fault}
use Rattle.status_index.specs.declared.state.State.{State}
use Rattle.git_explain.specs.Explained.{IsExplained, entry_of, has_line}
use Rattle.git_explain.specs.declared.explained.Explained.{Explained}
use Rattle.git_explain.specs.declared.paths.Explanations.{Explanations}

module _ {U : Type 0} (may_stat : MayStat) (may_open : List ℕ → MayOpen) (may_link : List ℕ → Result (List ℕ) Fault → Type 0)
    (may_report : IndexEntry → Result (Option U) (List ℕ) → Type 0) (settings : Settings) (filter : CleanFilter) (index : State) where
  -- The paths of these entries were explained, and it is noted whether one differs, and whether one failed.
  pub record Adds (entries : List IndexEntry) (old new : Explanations) : Type 0 where
    pub found : List Explained
    pub all : map entry_of found ≡ entries
    pub each : All (IsExplained may_stat may_open may_link may_report settings filter index) found
    pub lines : new.differs ≡ (old.differs || list_any has_line found)
    pub faults : new.failed ≡ (old.failed || list_any (λ x. is_err x.answer) found)
