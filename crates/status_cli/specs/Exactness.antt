-- A replay that printed its lines missed no change, from the text of its history to the bytes of its output.
use Rattle.std.specs.Prelude.{ℕ, List, [], ◌∷◌, ◌++◌, map, Option, Ok}
use Rattle.std.specs.Io.KnownBytes.{Appends}
use Rattle.status_profile.specs.declared.history.History.{History}
use Rattle.status_profile.specs.Histories.{IsHistoryRead}
use Rattle.status_stored.specs.Reopening.{events_in}
use Rattle.status_world.specs.declared.world.run.Report.{Report}
use Rattle.status_world.specs.Events.{contents_of_events}
use Rattle.status_world.specs.History.{AreExact, HaveDistinctIds, plains_of}
use Rattle.status_world.specs.PlainWorld.{empty_plain}
use Rattle.status_world.specs.Reports.{report_value}
use Rattle.status_cli.specs.Replays.{IsReplayed, replay_lines}

-- the text says a history, and the output grew by exactly the lines of its runs; and in each run the paths of the records that are
-- changes are exactly the staged paths that differ at that time
pub record PrintsAllChanges (text : List ℕ) (old new : Option (List ℕ)) : Type 0 where
  pub history : History
  pub read : IsHistoryRead text (Ok history)
  pub reports : List Report
  pub printed : Appends old new (replay_lines history.options.counts reports)
  pub exact : AreExact history.options.executable_bit (map report_value reports) (plains_of (events_in history.stretches.items) empty_plain)

-- contents of the text's history are equal if their ids are
abbrev pub HasDistinctIds : List ℕ → Type 0
HasDistinctIds text = (h : History) → IsHistoryRead text (Ok h) → HaveDistinctIds h.hash (contents_of_events (events_in h.stretches.items) ++ [] ∷ [])

-- a replay that ended with exit status 0 printed all changes, if contents with equal ids are equal
abbrev pub ReplayedLaw : List ℕ → Type 0
ReplayedLaw text = HasDistinctIds text → (old new : Option (List ℕ)) → IsReplayed text old new → PrintsAllChanges text old new
