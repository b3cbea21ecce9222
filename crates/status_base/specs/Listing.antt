-- The names and stats of a listing, as lists of bytes.
use Rattle.std.specs.Prelude.{ℕ, List, map, Option, option_map}
use Rattle.std.specs.Global.{Vec}
use Rattle.bstr.specs.declared.bstring.BString.{BString}
use Rattle.bstr.specs.Owned.{bstring_bytes}
use Rattle.status_base.specs.declared.fscache.Stat.{Stat}

-- The names with their stats.
abbrev pub entries_of : List (BString × Stat) → List (List ℕ × Stat)
entries_of = map (λ p. (bstring_bytes p.0, p.1))

abbrev pub listing_of : Option (Vec (BString × Stat)) → Option (List (List ℕ × Stat))
listing_of = option_map (λ v. entries_of v.items)
