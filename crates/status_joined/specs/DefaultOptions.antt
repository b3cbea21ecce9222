-- The default options of a status with untracked files, renames and copies.
use Rattle.std.specs.Prelude.{false, None}
use Rattle.status_index.specs.declared.id.HashKind.TheVariants.{Sha1}
use Rattle.status_call.specs.DefaultOptions.{default_options as default_status_options}
use Rattle.status_joined.specs.declared.index_as_worktree_with_renames.types.Options.{Options}

-- Nothing is sorted, walked or tracked.
abbrev pub default_options : Options
default_options = record {
  sorting = None;
  object_hash = Sha1;
  tracked_file_modifications = default_status_options;
  fscache = false;
  dirwalk = false;
  rewrites = None;
}
