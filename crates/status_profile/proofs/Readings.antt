-- What reading a text returns, by what is read of its JSON value.
use Rattle.std.proofs.Common.{◌≡◌, ℕ, List, Some, Result, Ok, Err, IfOk}
use Rattle.std.specs.Str.{IsUtf8}
use Rattle.serde_json.specs.Data.{Data}
use Rattle.serde_json.specs.Read.{read}
use Rattle.status_index.specs.declared.state.IndexError.{IndexError}
use Rattle.status_index.specs.declared.state.IndexError.TheVariants as index_errors
use Rattle.status_index.specs.Entries.{IsRefusal}
use Rattle.status_format.specs.declared.read.FieldError.{FieldError}
use Rattle.status_profile.specs.declared.error.Key.{Key}
use Rattle.status_profile.specs.declared.error.ProfileError.{ProfileError}
use Rattle.status_profile.specs.declared.error.ProfileError.TheVariants as errors
use Rattle.status_profile.specs.declared.history.History.{History}
use Rattle.status_profile.specs.declared.options.Kind.{Kind}
use Rattle.status_profile.specs.declared.profile.Profile.{Profile}
use Rattle.status_profile.specs.Failures.{error_of_index, result_under}
use Rattle.status_profile.specs.Histories.{IsHistoryRead, history_in, history_values}
use Rattle.status_profile.specs.Profiles.{IsProfile, IsRead, ProfileValues, field_values, profile_in}
use Rattle.status_profile.specs.Readings.{IsJsonRead, ReadsKeys}

-- a bad key is the profile's failure
pub fields_unread : (said : Result ProfileValues Key) (e : ProfileError) → ReadsKeys field_values (Err e) said → IsProfile said (Err e)
fields_unread said errors.NotJson h = absurd h
fields_unread said (errors.Bad key) h = h
fields_unread said (errors.Index e) h = absurd h
fields_unread said errors.Memory h = tt

-- so are entries that aren't an index
pub index_refused : (said : Result ProfileValues Key) (p : ProfileValues) → said ≡ Ok p → (e : IndexError) → IsRefusal p.entries e → IsProfile said (Err (error_of_index e))
index_refused said p is index_errors.Memory h = tt
index_refused said p is (index_errors.EmptyPath at) h = rw is h
index_refused said p is (index_errors.NotAscending at) h = rw is h
index_refused said p is (index_errors.MixedHash at) h = rw is h

-- what holds of a value holds of it under a key
pub under_ok : {T : Type 0} (P : T → Type 0) (key : Key) (r : Result T FieldError) → IfOk r P → IfOk (result_under key r) P
under_ok P key (Ok x) h = h
under_ok P key (Err e) h = tt

module _ (text : List ℕ) where
  -- what a text that is JSON says
  module _ (d : Data) (utf8 : IsUtf8 text) (is : read text ≡ Some d) where
    pub profile_read : (kind : Kind) (r : Result Profile ProfileError) → IsProfile (profile_in kind d) r → IsRead kind text r
    profile_read kind (Ok p) h = (utf8, (d, is, h))
    profile_read kind (Err errors.NotJson) h = absurd h
    profile_read kind (Err (errors.Bad key)) h = (utf8, (d, is, h))
    profile_read kind (Err (errors.Index e)) h = (utf8, (d, is, h))
    profile_read kind (Err errors.Memory) h = tt

    pub history_read : (r : Result History ProfileError) → ReadsKeys history_values r (history_in d) → IsHistoryRead text r
    history_read (Ok x) h = (utf8, (d, is, h))
    history_read (Err errors.NotJson) h = absurd h
    history_read (Err (errors.Bad key)) h = (utf8, (d, is, h))
    history_read (Err (errors.Index e)) h = absurd h
    history_read (Err errors.Memory) h = tt

  -- a text that isn't read
  pub profile_unread : (kind : Kind) (e : ProfileError) → IsJsonRead text (Err e) → IsRead kind text (Err e)
  profile_unread kind errors.NotJson h = h
  profile_unread kind (errors.Bad key) h = absurd h
  profile_unread kind (errors.Index e) h = absurd h
  profile_unread kind errors.Memory h = tt

  pub history_unread : (e : ProfileError) → IsJsonRead text (Err e) → IsHistoryRead text (Err e)
  history_unread errors.NotJson h = h
  history_unread (errors.Bad key) h = absurd h
  history_unread (errors.Index e) h = absurd h
  history_unread errors.Memory h = tt
