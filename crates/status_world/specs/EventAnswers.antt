-- What applying an event returns, and the world after it.
use Rattle.std.specs.Prelude.{◌≡◌, ◌≢◌, ◌⊎◌, ℕ, List, ◌++◌, Option, Some, None, option_map, Result, Ok, Err, ⊤}
use Rattle.std.specs.Option.{option_to_list}
use Rattle.status_base.specs.MemoryTree.{Placed}
use Rattle.status_base.specs.Nodes.{IsLookedBelow}
use Rattle.status_base.specs.declared.worktree.node.TreeError.{TreeError}
use Rattle.status_base.specs.declared.worktree.node.TreeError.TheVariants.{BadPath, InTheWay, Memory}
use Rattle.status_compare.specs.declared.error.Error.TheVariants as errors
use Rattle.status_call.specs.Records.{first_fault}
use Rattle.status_world.specs.declared.world.event.Event.{Event}
use Rattle.status_world.specs.declared.world.event.Run.{Run}
use Rattle.status_world.specs.declared.world.event.Refusal.{Refusal}
use Rattle.status_world.specs.declared.world.event.Refusal.TheVariants as refusals
use Rattle.status_world.specs.declared.world.run.Report.{Report}
use Rattle.status_world.specs.Events.{run_event}
use Rattle.status_world.specs.History.{reports_at, IsExact, plain_world_of}
use Rattle.status_world.specs.Refusals.{refusal_of, write_refusal, fault_refusal, IsRefused}
use Rattle.status_world.specs.Reports.{RunReport, report_value}
use Rattle.status_world.specs.Sound.{IsSound}
use Rattle.status_world.specs.StampedWorld.{StampedWorld, after_event, with_node, query_of, report_of}

-- An accepted event leads to the world after it; a refused one leaves the world unchanged.
abbrev pub IsChanged : {A : Type 0} → Event → StampedWorld → Result A Refusal → StampedWorld → Type 0
IsChanged event old (Ok _) new = (refusal_of event old ≡ None) × (new ≡ after_event event old)
IsChanged event old (Err r) new = IsRefused r event old × (new ≡ old)

-- The same for a write, which puts a node at a path. It is refused if a refusal is due. It may also be refused for memory,
-- once the paths below its own are looked up.
abbrev pub IsWriteApplied : {A : Type 0} → List ℕ → List ℕ → Placed → StampedWorld → Result A Refusal → StampedWorld → Type 0
IsWriteApplied path bytes node old (Ok _) new = (write_refusal old path bytes ≡ None) × (new ≡ with_node old path (Some node))
IsWriteApplied path bytes node old (Err r) new =
    (((r ≡ refusals.Memory) × IsLookedBelow old.tree path) ⊎ (write_refusal old path bytes ≡ Some r)) × (new ≡ old)

-- The refusal of an event whose node can't be put.
abbrev pub tree_refusal : TreeError → Refusal
tree_refusal BadPath = refusals.BadPath
tree_refusal InTheWay = refusals.InTheWay
tree_refusal Memory = refusals.Memory

-- An accepted event leads to the defined world and report; a refused one leaves the world unchanged.
abbrev pub IsApplied : Event → StampedWorld → Result (Option Report) Refusal → StampedWorld → Type 0
IsApplied event old (Ok report) new =
    (refusal_of event old ≡ None)
    × (option_to_list (option_map report_value report) ≡ reports_at event old)
    × (new ≡ after_event event old)
IsApplied event old (Err r) new = IsRefused r event old × (new ≡ old)

-- The index can still be trusted, and a run's report has a change of exactly the staged paths that differ.
abbrev pub IsExactEvent : StampedWorld → Result (Option Report) Refusal → StampedWorld → Type 0
IsExactEvent old (Ok (Some report)) new = IsExact old.executable_bit (report_value report) (plain_world_of old) × IsSound new
IsExactEvent old (Ok None) new = IsSound new
IsExactEvent old (Err r) new = IsSound new

-- The result of a run's status: the report, if no entry has a fault; or the first fault; or out of memory; or a refused
-- thread, unless the thread limit is 1.
abbrev pub IsRunReport : Run → StampedWorld → Result Report Refusal → Type 0
IsRunReport run w (Ok report) =
    (first_fault (query_of w run.comparer) w.entries ≡ None) × (report_value report ≡ report_of w run.comparer)
IsRunReport run w (Err refusals.Memory) = ⊤
IsRunReport run w (Err (refusals.Run errors.Memory)) = ⊤
IsRunReport run w (Err (refusals.Run errors.SpawnThread)) = run.thread_limit ≢ Some 1
IsRunReport run w (Err r) = fault_refusal (first_fault (query_of w run.comparer) w.entries) ≡ Some r

-- An accepted run returns the report of the world before it, and leads to the world after it. A refused one leaves the world
-- unchanged.
abbrev pub IsRunApplied : Run → StampedWorld → Result Report Refusal → StampedWorld → Type 0
IsRunApplied run old (Ok report) new =
    (refusal_of (run_event run) old ≡ None) × (report_value report ≡ report_of old run.comparer) × (new ≡ after_event (run_event run) old)
IsRunApplied run old (Err r) new = IsRefused r (run_event run) old × (new ≡ old)

-- The same for an event of a list: the report of an accepted run is appended to the earlier reports.
abbrev pub IsListStep : Event → StampedWorld → List RunReport → Result (Unit {0}) Refusal → StampedWorld → List RunReport → Type 0
IsListStep event old earlier (Ok _) new all =
    (refusal_of event old ≡ None) × (all ≡ earlier ++ reports_at event old) × (new ≡ after_event event old)
IsListStep event old earlier (Err r) new all = IsRefused r event old × (all ≡ earlier) × (new ≡ old)
