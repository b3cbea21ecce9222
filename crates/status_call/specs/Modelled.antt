-- A status depends on options, timestamp, and the specifications of all interfaces passed. Here is whether all are modelled.
use Rattle.std.specs.Prelude.{Bool, true, false}

-- Listings count only if they are used.
abbrev pub are_modelled : Bool → Bool → Bool
are_modelled false listings = true
are_modelled true listings = listings

-- The worktree, the object database, the submodules, and the listings are modelled.
abbrev pub all_modelled : Bool → Bool → Bool → Bool → Bool
all_modelled true true true listings = listings
all_modelled true true false listings = false
all_modelled true false _ listings = false
all_modelled false _ _ listings = false
