-- A status depends on options, timestamp, and the specifications of all interfaces passed. A query has them all.
use Rattle.std.specs.Prelude.{ℕ, Bool, List, Option, Result}
use Rattle.status_index.specs.Content.{Content}
use Rattle.status_index.specs.Entries.{IndexEntry}
use Rattle.status_index.specs.declared.fault.Fault.{Fault}
use Rattle.status_index.specs.declared.stat.Metadata.{Metadata}
use Rattle.status_index.specs.declared.stat.Moment.{Moment}
use Rattle.status_index.specs.declared.stat.Options.{Options}
use Rattle.status_base.specs.Conversions.{Conversion}
use Rattle.status_base.specs.declared.worktree.objects.FindError.{FindError}
use Rattle.status_compare.specs.declared.error.Error.{Error}
use Rattle.status_compare.specs.Reading.{Readings}
use Rattle.status_compare.specs.declared.read_data.Reads.{Reads}

-- `T` is the type of a comparer's report of a change, `U` of a submodule's.
pub record Query (T U : Type 0) : Type 0 where
  -- All interfaces passed are modelled: their results are those of the functions below.
  pub modelled : Bool
  pub stat_options : Options
  -- Whether symbolic links count, and executability.
  pub symlink : Bool
  pub executable_bit : Bool
  -- The time at which the index was written.
  pub timestamp : Moment
  -- The worktree: `lstat` at a path, and opening the file and reading the link at an entry's path. Each result may depend on the
  -- entry for which the call is made.
  pub lstat : IndexEntry → List ℕ → Result Metadata Fault
  pub opened : IndexEntry → Result Content Fault
  pub linked : IndexEntry → Result (List ℕ) Fault
  -- The node that listings of directories know at an entry's path; none if listings aren't used.
  pub cached : IndexEntry → Option Metadata
  -- The pathspec: the common prefix, and whether a path is included, by whether it is a directory's.
  pub prefix : List ℕ
  pub included : List ℕ → Bool → Bool
  -- The filter, the entry's blob, the submodules.
  pub conversion : Content → List ℕ → Conversion
  pub blob : IndexEntry → Result (List ℕ) FindError
  pub submodule : IndexEntry → Result (Option U) (List ℕ)
  -- The comparer: its result, and its reads.
  pub compared : IndexEntry → ℕ → Readings → Result (Option T) Error
  pub counted : IndexEntry → ℕ → Readings → Reads → Option Reads
