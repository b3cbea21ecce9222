-- The query of a run's status, over any worktree and comparer.
use Rattle.std.specs.Prelude.{ℕ, Bool, true, [], List, None, Option, Result, Ok}
use Rattle.std.specs.FinMap as ids
use Rattle.status_index.specs.Content.{Content}
use Rattle.status_index.specs.Entries.{IndexEntry}
use Rattle.status_index.specs.declared.fault.Fault.{Fault}
use Rattle.status_index.specs.declared.stat.Metadata.{Metadata}
use Rattle.status_index.specs.declared.stat.Moment.{Moment}
use Rattle.status_base.specs.Conversions.{same}
use Rattle.status_base.specs.ListedNodes.{known_node}
use Rattle.status_base.specs.Objects.{found_in}
use Rattle.status_compare.specs.declared.error.Error.{Error}
use Rattle.status_compare.specs.declared.read_data.Reads.{Reads}
use Rattle.status_compare.specs.Reading.{Readings}
use Rattle.status_call.specs.declared.index_as_worktree.types.Options.{Options}
use Rattle.status_call.specs.Modelled.{all_modelled, are_modelled}
use Rattle.status_call.specs.Query.{Query}

-- The query of a status of all paths, in which nothing is converted, without listings, blobs and submodules.
abbrev pub status_query : {T : Type 0} → Options → Moment → Bool → (List ℕ → Result Metadata Fault) → (List ℕ → Result Content Fault) → (List ℕ → Result (List ℕ) Fault)
    → (IndexEntry → ℕ → Readings → Result (Option T) Error) → (IndexEntry → ℕ → Readings → Reads → Option Reads) → Query T (Unit {0})
status_query options timestamp modelled lstat opened linked compared counted = record {
  modelled = all_modelled modelled true true (are_modelled options.fscache true);
  stat_options = options.stat;
  symlink = options.fs.symlink;
  executable_bit = options.fs.executable_bit;
  timestamp = timestamp;
  lstat = λ _. lstat;
  opened = λ e. opened e.path;
  linked = λ e. linked e.path;
  cached = λ e. known_node options.fscache (λ _. None) e.path;
  prefix = [];
  included = λ _ _. true;
  conversion = λ _ _. same;
  blob = λ e. found_in ids.empty e.id;
  submodule = λ _. Ok None;
  compared = compared;
  counted = counted;
}
