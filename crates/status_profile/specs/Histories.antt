-- A JSON value says a history, unless a first key is missing or has a wrong form; reading returns that history or that error.
use Rattle.std.specs.Prelude.{ℕ, List, codes, Result, Ok, Err, ⊤, if◌then◌else◌}
use Rattle.serde_json.specs.Data.{Data}
use Rattle.serde_json.specs.Find.{get}
use Rattle.status_index.specs.declared.id.HashKind.{HashKind}
use Rattle.status_index.specs.declared.id.HashKind.TheVariants.{Sha1}
use Rattle.status_index.specs.declared.stat.Moment.{Moment}
use Rattle.status_profile.specs.declared.error.Key.{Key}
use Rattle.status_profile.specs.declared.error.Key.TheVariants as keys
use Rattle.status_profile.specs.declared.error.ProfileError.{ProfileError}
use Rattle.status_profile.specs.declared.error.ProfileError.TheVariants.{NotJson, Bad, Index, Memory}
use Rattle.status_profile.specs.declared.history.History.{History}
use Rattle.status_profile.specs.declared.options.HistoryOptions.{HistoryOptions}
use Rattle.status_profile.specs.Events.{EventValue, stretch_values, stretches_in}
use Rattle.status_format.specs.Reads.{needed, or_default}
use Rattle.status_profile.specs.Forms.{is_object, moment_in}
use Rattle.status_profile.specs.Options.{history_options_in}
use Rattle.status_profile.specs.Readings.{◌>>=◌, IsNoJson, ReadsKeys, Says, under}
use Rattle.status_profile.specs.Words.{hash_in}

-- what the profile of a history says
pub record HistoryValues : Type 0 where
  pub hash : HashKind
  pub clock : Moment
  pub timestamp : Moment
  pub options : HistoryOptions
  pub stretches : List (List EventValue)

abbrev pub history_values : History → HistoryValues
history_values h = record {
  hash = h.hash;
  clock = h.clock;
  timestamp = h.timestamp;
  options = h.options;
  stretches = stretch_values h.stretches;
}

-- what the keys of an object say as a history, or the first of them that is missing or has a wrong form
abbrev pub history_from : Data → Result HistoryValues Key
history_from d = do
  hash ← under keys.Hash (or_default hash_in Sha1 (get (codes "hash") d))
  clock ← under keys.Clock (needed moment_in (get (codes "clock") d))
  timestamp ← under keys.Timestamp (needed moment_in (get (codes "timestamp") d))
  options ← under keys.Options (history_options_in (get (codes "options") d))
  stretches ← under keys.Events (needed stretches_in (get (codes "events") d))
  Ok (record { hash = hash; clock = clock; timestamp = timestamp; options = options; stretches = stretches })

-- the same of a JSON value; if it is no object, the first key is bad
unfoldable pub history_in : Data → Result HistoryValues Key
history_in d = if is_object d then history_from d else Err keys.Hash

-- what reading a text returns: the history that it says; or that it isn't JSON; or the first key that is missing or has a wrong
-- form. Memory may run out
abbrev pub IsHistoryRead : List ℕ → Result History ProfileError → Type 0
IsHistoryRead text (Ok h) = Says text (λ d. ReadsKeys history_values (Ok h) (history_in d))
IsHistoryRead text (Err NotJson) = IsNoJson text
IsHistoryRead text (Err (Bad key)) = Says text (λ d. ReadsKeys history_values (Err (Bad key)) (history_in d))
IsHistoryRead text (Err (Index e)) = ⊥
IsHistoryRead text (Err Memory) = ⊤
