-- The readings of a text: its JSON value, and what keys of it say.
use Rattle.std.specs.Prelude.{◌≡◌, List, ℕ, Option, Some, None, Result, Ok, Err, ⊤}
use Rattle.std.specs.Str.{IsUtf8}
use Rattle.serde_json.specs.Data.{Data}
use Rattle.serde_json.specs.Read.{read}
use Rattle.serde_json.specs.View.{view}
use Rattle.serde_json.specs.declared.value.Value.{Value}
use Rattle.status_profile.specs.declared.error.Key.{Key}
use Rattle.status_profile.specs.declared.error.ProfileError.{ProfileError}
use Rattle.status_profile.specs.declared.error.ProfileError.TheVariants.{NotJson, Bad, Index, Memory}

-- a text is JSON in UTF-8, and of what it says this holds
abbrev pub Says : List ℕ → (Data → Type 0) → Type 0
Says text P = IsUtf8 text × ((d : Data) × (read text ≡ Some d) × P d)

-- the text isn't JSON in UTF-8
abbrev pub IsNoJson : List ℕ → Type 0
IsNoJson text = IsUtf8 text → read text ≡ None

-- what reading a text as JSON returns: its value, or that it isn't JSON. Memory may run out
abbrev pub IsJsonRead : List ℕ → Result Value ProfileError → Type 0
IsJsonRead text (Ok value) = Says text (λ d. d ≡ view value)
IsJsonRead text (Err NotJson) = IsNoJson text
IsJsonRead text (Err (Bad key)) = ⊥
IsJsonRead text (Err (Index e)) = ⊥
IsJsonRead text (Err Memory) = ⊤

-- the next step, if the one before has a value; otherwise this key is bad
infixl 10 ◌>>=◌
abbrev pub ◌>>=◌ : {A B : Type 0} → Result A Key → (A → Result B Key) → Result B Key
Ok x >>= f = f x
Err key >>= f = Err key

-- what a key says, or that it is missing or has a wrong form
abbrev pub under : {A : Type 0} → Key → Option A → Result A Key
under key (Some x) = Ok x
under key None = Err key

-- a result that shows what keys say, or names the first of them that is missing or has a wrong form; or memory ran out
abbrev pub ReadsKeys : {A B : Type 0} → (A → B) → Result A ProfileError → Result B Key → Type 0
ReadsKeys shown (Ok x) said = said ≡ Ok (shown x)
ReadsKeys shown (Err (Bad key)) said = said ≡ Err key
ReadsKeys shown (Err Memory) said = ⊤
ReadsKeys shown (Err NotJson) said = ⊥
ReadsKeys shown (Err (Index e)) said = ⊥
