-- Options; over a folder executability doesn't count, and untracked files and renames are refused; a plain profile
-- (`Kind.Plain`) refuses these and sorting.
use Rattle.std.specs.Prelude.{ℕ, ◌||◌, Bool, true, false, List, [], codes, Option, Some, None, is_some, if◌then◌else◌}
use Rattle.bstr.specs.Owned.{bstring_bytes}
use Rattle.serde_json.specs.Data.{Data}
use Rattle.serde_json.specs.Find.{get, as_bool, as_str}
use Rattle.status_index.specs.declared.stat.Options.{Options as StatOptions}
use Rattle.status_call.specs.declared.index_as_worktree.types.Options.{Options}
use Rattle.status_compare.specs.declared.compare.Comparer.{Comparer}
use Rattle.status_compare.specs.declared.compare.Comparer.TheVariants.{Hash}
use Rattle.status_profile.specs.declared.options.HistoryOptions.{HistoryOptions}
use Rattle.status_profile.specs.declared.options.Kind.{Kind}
use Rattle.status_profile.specs.declared.options.Kind.TheVariants as kinds
use Rattle.status_profile.specs.declared.options.ProfileOptions.{ProfileOptions}
use Rattle.status_format.specs.Reading.{number_in}
use Rattle.status_format.specs.Reads.{◌>>=◌, or_default}
use Rattle.status_profile.specs.Forms.{limit_in, object_or_empty}
use Rattle.status_profile.specs.Words.{comparer_in}

-- which parts of stats have to be equal
abbrev pub stat_options_in : Data → Option StatOptions
stat_options_in o = do
  trust_ctime ← or_default as_bool true (get (codes "trust_ctime") o)
  check_stat ← or_default as_bool true (get (codes "check_stat") o)
  use_nsec ← or_default as_bool false (get (codes "use_nsec") o)
  use_stdev ← or_default as_bool false (get (codes "use_stdev") o)
  Some (record { trust_ctime = trust_ctime; check_stat = check_stat; use_nsec = use_nsec; use_stdev = use_stdev })

-- the options of a history, which a status has too
unfoldable pub common_options_in : Data → Option HistoryOptions
common_options_in o = do
  stat ← stat_options_in o
  executable_bit ← or_default as_bool true (get (codes "executable_bit") o)
  counts ← or_default as_bool false (get (codes "counts") o)
  Some (record { stat = stat; executable_bit = executable_bit; counts = counts })

-- how a status is computed, with these options of a history; listings are never used
unfoldable pub status_options_in : HistoryOptions → Data → Option Options
status_options_in common o = do
  symlink ← or_default as_bool true (get (codes "symlink") o)
  thread_limit ← or_default limit_in None (get (codes "thread_limit") o)
  chunk_size ← or_default number_in 0 (get (codes "chunk_size") o)
  Some (record {
    fs = record { symlink = symlink; executable_bit = common.executable_bit };
    thread_limit = thread_limit;
    stat = common.stat;
    fscache = false;
    chunk_size = chunk_size;
  })

-- the options of a status
pub record OptionValues : Type 0 where
  pub status : Options
  pub comparer : Comparer
  pub prefix : List ℕ
  pub untracked : Bool
  pub renames : Bool
  pub sort : Bool
  pub counts : Bool

abbrev pub option_values : ProfileOptions → OptionValues
option_values o = record {
  status = o.status;
  comparer = o.comparer;
  prefix = bstring_bytes o.prefix;
  untracked = o.untracked;
  renames = o.renames;
  sort = o.sort;
  counts = o.counts;
}

-- the options of a status with untracked files, renames or sorted lines
abbrev pub is_joined : OptionValues → Bool
is_joined o = o.untracked || o.renames || o.sort

-- the options by the fields of an object
unfoldable pub fields_in : Data → Option OptionValues
fields_in o = do
  common ← common_options_in o
  status ← status_options_in common o
  comparer ← or_default comparer_in Hash (get (codes "comparer") o)
  prefix ← or_default as_str [] (get (codes "prefix") o)
  untracked ← or_default as_bool false (get (codes "untracked") o)
  renames ← or_default as_bool false (get (codes "renames") o)
  sort ← or_default as_bool false (get (codes "sort") o)
  Some (record {
    status = status;
    comparer = comparer;
    prefix = prefix;
    untracked = untracked;
    renames = renames;
    sort = sort;
    counts = common.counts;
  })

-- over a folder executability doesn't count, and untracked files and renames are refused
abbrev pub over_folder : OptionValues → Option OptionValues
over_folder o =
    if o.untracked || o.renames then None
    else Some (record o { status = record o.status { fs = record o.status.fs { executable_bit = false } } })

abbrev pub over_place : Bool → OptionValues → Option OptionValues
over_place is_folder o = if is_folder then over_folder o else Some o

-- a plain status has neither untracked files nor renames nor sorted lines
abbrev pub if_kind : Kind → OptionValues → Option OptionValues
if_kind kinds.Any o = Some o
if_kind kinds.Plain o = if is_joined o then None else Some o

-- the options of a status, by the values of `options` and `folder`; all of them may be missing
abbrev pub options_in : Kind → Option Data → Option Data → Option OptionValues
options_in kind options folder = do
  object ← object_or_empty options
  values ← fields_in object
  placed ← over_place (is_some folder) values
  if_kind kind placed

-- the options of a history, by the value of `options`
abbrev pub history_options_in : Option Data → Option HistoryOptions
history_options_in options = do
  object ← object_or_empty options
  common_options_in object
