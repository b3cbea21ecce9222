-- A JSON value says a profile or a history, unless a first key is missing or has a wrong form; reading returns that or that
-- error.
use Rattle.std.specs.Prelude.{◌≡◌, ℕ, List, map, codes, Result, Ok, Err, ⊤, if◌then◌else◌}
use Rattle.serde_json.specs.Data.{Data}
use Rattle.serde_json.specs.Find.{get}
use Rattle.status_index.specs.declared.id.HashKind.{HashKind}
use Rattle.status_index.specs.declared.id.HashKind.TheVariants.{Sha1}
use Rattle.status_index.specs.declared.stat.Moment.{Moment}
use Rattle.status_index.specs.declared.state.IndexError.{IndexError}
use Rattle.status_index.specs.declared.state.IndexError.TheVariants as index_errors
use Rattle.status_index.specs.Entries.{IndexEntry, IsRefusal, new_entry}
use Rattle.status_index.specs.States.{index_of, timestamp_of}
use Rattle.status_profile.specs.declared.error.Key.{Key}
use Rattle.status_profile.specs.declared.error.Key.TheVariants as keys
use Rattle.status_profile.specs.declared.error.ProfileError.{ProfileError}
use Rattle.status_profile.specs.declared.error.ProfileError.TheVariants.{NotJson, Bad, Index, Memory}
use Rattle.status_profile.specs.declared.options.Kind.{Kind}
use Rattle.status_profile.specs.declared.profile.Fields.{Fields}
use Rattle.status_profile.specs.declared.profile.Profile.{Profile}
use Rattle.status_format.specs.Reading.{entries_in, stamp_in}
use Rattle.status_format.specs.Reads.{needed, or_default}
use Rattle.status_profile.specs.Forms.{is_object}
use Rattle.status_profile.specs.Nodes.{PlaceValue, place_in, place_value}
use Rattle.status_profile.specs.Options.{OptionValues, option_values, options_in}
use Rattle.status_profile.specs.Readings.{◌>>=◌, IsNoJson, Says, under}
use Rattle.status_profile.specs.Words.{hash_in}

-- what a profile says
pub record ProfileValues : Type 0 where
  pub hash : HashKind
  pub timestamp : Moment
  pub options : OptionValues
  pub entries : List IndexEntry
  pub place : PlaceValue

abbrev pub profile_values : Profile → ProfileValues
profile_values p = record {
  hash = p.hash;
  timestamp = timestamp_of p.index;
  options = option_values p.options;
  entries = index_of p.index;
  place = place_value p.place;
}

-- what its keys were read as
abbrev pub field_values : Fields → ProfileValues
field_values f = record {
  hash = f.hash;
  timestamp = f.timestamp;
  options = option_values f.options;
  entries = map new_entry f.entries.items;
  place = place_value f.place;
}

-- what the keys of an object say as a profile for this kind of status, or the first of them that is missing or has a wrong form
abbrev pub profile_from : Kind → Data → Result ProfileValues Key
profile_from kind d = do
  hash ← under keys.Hash (or_default hash_in Sha1 (get (codes "hash") d))
  timestamp ← under keys.Timestamp (needed stamp_in (get (codes "timestamp") d))
  options ← under keys.Options (options_in kind (get (codes "options") d) (get (codes "folder") d))
  entries ← under keys.Index (needed entries_in (get (codes "index") d))
  place ← under keys.Worktree (place_in (get (codes "folder") d) (get (codes "worktree") d))
  Ok (record { hash = hash; timestamp = timestamp; options = options; entries = entries; place = place })

-- the same of a JSON value; if it is no object, the first key is bad
unfoldable pub profile_in : Kind → Data → Result ProfileValues Key
profile_in kind d = if is_object d then profile_from kind d else Err keys.Hash

-- the entries of a profile are refused as an index, for this reason
abbrev pub IsRefusedProfile : Result ProfileValues Key → IndexError → Type 0
IsRefusedProfile (Ok p) index_errors.Memory = ⊥
IsRefusedProfile (Ok p) e = IsRefusal p.entries e
IsRefusedProfile (Err key) e = ⊥

-- what is made of what a profile says: the profile; or why there is none; or memory runs out
abbrev pub IsProfile : Result ProfileValues Key → Result Profile ProfileError → Type 0
IsProfile said (Ok p) = said ≡ Ok (profile_values p)
IsProfile said (Err NotJson) = ⊥
IsProfile said (Err (Bad key)) = said ≡ Err key
IsProfile said (Err (Index e)) = IsRefusedProfile said e
IsProfile said (Err Memory) = ⊤

-- what reading a text returns: the profile that it says; or that it isn't JSON; or the first key that is missing or has a wrong
-- form; or, if each has its form, why the entries aren't an index. Memory may run out
abbrev pub IsRead : Kind → List ℕ → Result Profile ProfileError → Type 0
IsRead kind text (Ok p) = Says text (λ d. IsProfile (profile_in kind d) (Ok p))
IsRead kind text (Err NotJson) = IsNoJson text
IsRead kind text (Err (Bad key)) = Says text (λ d. IsProfile (profile_in kind d) (Err (Bad key)))
IsRead kind text (Err (Index e)) = Says text (λ d. IsProfile (profile_in kind d) (Err (Index e)))
IsRead kind text (Err Memory) = ⊤
