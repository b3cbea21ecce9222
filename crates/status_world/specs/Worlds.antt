-- The fields of a world, as a stamped world.
use Rattle.std.specs.Prelude.{ℕ, Bool, List, refl}
use Rattle.std.specs.Coded.{Coded, code_by, coded×, coded_ℕ, coded_bool, coded_list}
use Rattle.status_index.specs.contracts.entry.Flags as flags
use Rattle.status_index.specs.contracts.id.HashKind as kind
use Rattle.status_index.specs.contracts.id.ObjectId as id
use Rattle.status_index.specs.contracts.mode.Mode as mode
use Rattle.status_index.specs.contracts.stat.Moment as moment
use Rattle.status_index.specs.contracts.stat.Options as options
use Rattle.status_index.specs.contracts.stat.Stat as stat
use Rattle.status_index.specs.declared.entry.Flags.{Flags}
use Rattle.status_index.specs.declared.id.HashKind.{HashKind}
use Rattle.status_index.specs.declared.id.ObjectId.{ObjectId}
use Rattle.status_index.specs.declared.mode.Mode.{Mode}
use Rattle.status_index.specs.declared.stat.Moment.{Moment}
use Rattle.status_index.specs.declared.stat.Options.{Options}
use Rattle.status_index.specs.declared.stat.Stat.{Stat}
use Rattle.status_index.specs.Entries.{IndexEntry}
use Rattle.status_index.specs.States.{index_of, timestamp_of}
use Rattle.status_base.specs.MemoryTree.{PathMap, Tree}
use Rattle.status_base.specs.Trees.{tree_code}
use Rattle.status_world.specs.declared.world.state.Parts.{Parts}
use Rattle.status_world.specs.PlainWorld.{Plain}
use Rattle.status_world.specs.StagedPaths.{staged_code}
use Rattle.status_world.specs.StampedWorld.{StampedWorld}

abbrev pub entry_code : Coded IndexEntry
entry_code =
    code_by (List ℕ × (Stat × (ObjectId × (Flags × Mode))))
    (coded× (coded_list coded_ℕ) (coded× stat.the_row.coded (coded× id.the_row.coded (coded× flags.the_row.coded mode.the_row.coded))))
    (λ e. (e.path, (e.stat, (e.id, (e.flags, e.mode))))) (λ p. record { path = p.0; stat = p.1.0; id = p.1.1.0; flags = p.1.1.1.0; mode = p.1.1.1.1 }) (λ _. refl)

abbrev pub world_code : Coded StampedWorld
world_code =
    code_by (HashKind × (Options × (Bool × (Moment × (Tree × (List IndexEntry × (Moment × PathMap Plain)))))))
    (coded× kind.the_row.coded (coded× options.the_row.coded (coded× coded_bool (coded× moment.the_row.coded
    (coded× tree_code (coded× (coded_list entry_code) (coded× moment.the_row.coded staged_code)))))))
    (λ w. (w.kind, (w.stat_options, (w.executable_bit, (w.clock, (w.tree, (w.entries, (w.timestamp, w.staged))))))))
    (λ p. record { kind = p.0; stat_options = p.1.0; executable_bit = p.1.1.0; clock = p.1.1.1.0; tree = p.1.1.1.1.0; entries = p.1.1.1.1.1.0; timestamp = p.1.1.1.1.1.1.0; staged = p.1.1.1.1.1.1.1 })
    (λ _. refl)

abbrev pub world_of : Parts → StampedWorld
world_of p = record {
  kind = p.kind;
  stat_options = p.stat;
  executable_bit = p.executable_bit;
  clock = p.clock;
  tree = p.worktree;
  entries = index_of p.index;
  timestamp = timestamp_of p.index;
  staged = p.staged;
}
