-- The error of a profile for an error of a part of it.
use Rattle.std.specs.Prelude.{Result, Ok, Err}
use Rattle.status_index.specs.declared.state.IndexError.{IndexError}
use Rattle.status_index.specs.declared.state.IndexError.TheVariants as index_errors
use Rattle.status_format.specs.declared.read.FieldError.{FieldError}
use Rattle.status_format.specs.declared.read.FieldError.TheVariants as fields
use Rattle.status_stored.specs.declared.error.StoreError.{StoreError}
use Rattle.status_stored.specs.declared.error.StoreError.TheVariants as store_errors
use Rattle.status_profile.specs.declared.error.Key.{Key}
use Rattle.status_profile.specs.declared.error.Key.TheVariants as keys
use Rattle.status_profile.specs.declared.error.ProfileError.{ProfileError}
use Rattle.status_profile.specs.declared.error.ProfileError.TheVariants.{Bad, Index, Memory}

-- of storing its index
abbrev pub error_of_store : StoreError → ProfileError
error_of_store (store_errors.NotUtf8 at) = Bad keys.Index
error_of_store store_errors.Memory = Memory

-- of its entries
abbrev pub error_of_index : IndexError → ProfileError
error_of_index index_errors.Memory = Memory
error_of_index (index_errors.EmptyPath at) = Index (index_errors.EmptyPath at)
error_of_index (index_errors.NotAscending at) = Index (index_errors.NotAscending at)
error_of_index (index_errors.MixedHash at) = Index (index_errors.MixedHash at)

-- of a field under a key
abbrev pub error_under : Key → FieldError → ProfileError
error_under key fields.Form = Bad key
error_under key fields.Memory = Memory

-- a field under a key
abbrev pub result_under : {T : Type 0} → Key → Result T FieldError → Result T ProfileError
result_under key (Ok x) = Ok x
result_under key (Err e) = Err (error_under key e)
