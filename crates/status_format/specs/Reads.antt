-- Results of reading.
use Rattle.std.specs.Prelude.{◌≡◌, List, Option, Some, None, Result, Ok, Err, ⊤}
use Rattle.hex.specs.declared.error.FromHexError.{FromHexError}
use Rattle.hex.specs.declared.error.FromHexError.TheVariants as digits
use Rattle.status_format.specs.declared.read.FieldError.{FieldError}
use Rattle.status_format.specs.declared.read.FieldError.TheVariants.{Form, Memory}

-- The next step, if the step before it has a value.
infixl 10 ◌>>=◌
abbrev pub ◌>>=◌ : {A B : Type 0} → Option A → (A → Option B) → Option B
Some x >>= f = f x
None >>= f = None

-- A result of reading: a value that shows the stated one, or Form if none is stated, or out of memory.
abbrev pub Reads : {A B : Type 0} → (A → B) → Result A FieldError → Option B → Type 0
Reads shown (Ok x) specified = specified ≡ Some (shown x)
Reads shown (Err Form) specified = specified ≡ None
Reads shown (Err Memory) specified = ⊤

-- The value that is read of a field that may not be missing.
abbrev pub needed : {A B : Type 0} → (A → Option B) → Option A → Option B
needed read None = None
needed read (Some x) = read x

-- The value that is read, or the default if there is none.
abbrev pub or_default : {A B : Type 0} → (A → Option B) → B → Option A → Option B
or_default read default None = Some default
or_default read default (Some x) = read x

-- The error of hexadecimal digits that can't be read.
abbrev pub error_of_digits : FromHexError → FieldError
error_of_digits digits.OutOfMemory = Memory
error_of_digits _ = Form
