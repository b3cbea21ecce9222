-- The default options of a status.
use Rattle.std.specs.Prelude.{false, None}
use Rattle.status_index.specs.DefaultOptions.{default_options as default_stat_options}
use Rattle.status_call.specs.declared.index_as_worktree.types.Options.{Options}
use Rattle.status_call.specs.DefaultCapabilities.{default_capabilities}

-- Links and executability count; no listings. The number of workers and the size of pieces are the usual ones.
abbrev pub default_options : Options
default_options = record {
  fs = default_capabilities;
  thread_limit = None;
  stat = default_stat_options;
  fscache = false;
  chunk_size = 0;
}
