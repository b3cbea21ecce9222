-- The clauses of a refresh over any worktree, by the views of its status.
use Rattle.std.proofs.Common.{◌≡◌, ℕ, Bool, true, false, List, Option, Some, Ok, sym, ◌∙◌, refl, if◌then◌else◌}
use Rattle.git_status.specs.Differences.{PrintsSeen}
use Rattle.git_status.specs.Refreshes.{IsRefresh}
use Rattle.git_status.specs.Runs.{Asking, IsCommandRun, IsSeenClean}
use Rattle.git_status.specs.declared.answer.Report.{Report}
use Rattle.git_status.specs.declared.lines.LineStyle.{LineStyle}
use Rattle.git_status.specs.declared.refresh.Refreshed.{Refreshed}
use Rattle.git_status.proofs.Clean.{clean_seen}
use Rattle.git_status.proofs.Shown.{lines_seen}

-- The exit status of a report, which is 0 exactly if it isn't dirty.
abbrev status_of : Bool → ℕ
status_of dirty = if dirty then 1 else 0

undirty : (dirty : Bool) → status_of dirty ≡ 0 → dirty ≡ false
undirty true e = absurd (cc)
undirty false e = refl

module _ {T U : Type 0} (a : Asking T U) (bytes : List ℕ) (old new : Option (List ℕ)) (r : Report) (made : Refreshed) where
  -- The status of the file was printed.
  refresh_run : IsRefresh a bytes old (Ok (r, made)) new → IsCommandRun a bytes old (Ok r) new
  unfolding IsRefresh IsCommandRun
  refresh_run h = h.1.run

  refresh_status : IsRefresh a bytes old (Ok (r, made)) new → made.status ≡ status_of r.dirty
  unfolding IsRefresh
  refresh_status h = h.0

  -- With exit status 0 no entry differs.
  pub refresh_clean : IsRefresh a bytes old (Ok (r, made)) new → made.status ≡ 0 → IsSeenClean a bytes
  refresh_clean h zero = clean_seen a bytes old new (r, undirty r.dirty (sym (refresh_status h) ∙ zero), refresh_run h)

  -- The lines are of the entries that differ.
  pub refresh_lines : IsRefresh a bytes old (Ok (r, made)) new → (style : LineStyle) → a.settings.lines ≡ Some style → PrintsSeen a style bytes old new
  refresh_lines h style loud = lines_seen a bytes style loud r.dirty old new (r, refl, refresh_run h)
