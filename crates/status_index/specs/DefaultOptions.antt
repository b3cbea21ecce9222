-- The default stat options.
use Rattle.std.specs.Prelude.{true, false}
use Rattle.status_index.specs.declared.stat.Options.{Options}

-- Ctime and owners count, nanoseconds and device don't.
abbrev pub default_options : Options
default_options = record { trust_ctime = true; check_stat = true; use_nsec = false; use_stdev = false }
