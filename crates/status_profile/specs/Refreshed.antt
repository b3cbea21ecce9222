-- A profile that is written again with the index that its refresh left.
use Rattle.std.specs.Prelude.{◌≡◌, ℕ, List, [], ◌∷◌, ◌++◌, false, Some, ⊤}
use Rattle.json.specs.Lex.{tokens}
use Rattle.json.specs.Print.{print}
use Rattle.serde_json.specs.Data.{Data, null, boolean, number, string, array, object}
use Rattle.serde_json.specs.Read.{read}
use Rattle.serde_json.specs.Written.{IsInOrder, compact_text, has_float}
use Rattle.status_index.specs.Entries.{IndexEntry}
use Rattle.status_index.specs.declared.stat.Moment.{Moment}
use Rattle.status_stored.specs.Storable.{AreUtf8}
use Rattle.status_stored.specs.StoredIndex.{stored_with}
use Rattle.status_profile.specs.declared.error.Key.TheVariants as keys
use Rattle.status_profile.specs.declared.error.ProfileError.{ProfileError}
use Rattle.status_profile.specs.declared.error.ProfileError.TheVariants as errors

-- a profile with the index and its timestamp in place of earlier ones; a value that is no object is no profile, and stays the same
abbrev pub refreshed : Data → List IndexEntry → Moment → Data
refreshed null es t = null
refreshed (boolean b) es t = boolean b
refreshed (number n) es t = number n
refreshed (string s) es t = string s
refreshed (array ds) es t = array ds
refreshed (object ms) es t = object (stored_with ms es t)

-- a value's text: compact, with each item and member once and in order; it is read as the same value; and without a float there is one
-- such text
pub record IsTextOf (d : Data) (text : List ℕ) : Type 0 where
  pub exact : has_float d ≡ false → text ≡ compact_text d
  pub compact : text ≡ print (tokens text)
  pub order : IsInOrder text d
  pub reads_back : read text ≡ Some d

-- a value's text, and a line feed
abbrev pub IsLineOf : Data → List ℕ → Type 0
IsLineOf d line = (text : List ℕ) × IsTextOf d text × (line ≡ text ++ 10 ∷ [])

-- why an index isn't written: a path isn't UTF-8, or memory ran out
abbrev pub IsUnwritten : List IndexEntry → ProfileError → Type 0
IsUnwritten es errors.NotJson = ⊥
IsUnwritten es (errors.Bad key) = (key ≡ keys.Index) × (AreUtf8 es → ⊥)
IsUnwritten es (errors.Index e) = ⊥
IsUnwritten es errors.Memory = ⊤
