-- The range of an index's entries whose paths start with a prefix.
use Rattle.std.specs.Prelude.{◌≡◌, ℕ, ◌<◌, ◌≤◌, ◌-◌, nat_eq, Bool, true, false, List, length, take, drop, Option, Some, None, All, AllPairs}
use Rattle.std.specs.List.{starts_with}
use Rattle.std.specs.Ordering.{nat_cmp, is_eq, is_lt, is_le}
use Rattle.std.specs.Cmp.Lexicographic.{slice_cmp}
use Rattle.std.specs.declared.ops.Range.{Range}
use Rattle.status_index.specs.declared.probe.Question.{Question}
use Rattle.status_index.specs.declared.probe.Question.TheVariants.{Below, Under, UpTo}
use Rattle.status_index.specs.Entries.{IndexEntry}

-- Whether an entry's path starts with the prefix.
abbrev pub is_under : List ℕ → IndexEntry → Bool
is_under prefix e = starts_with nat_eq e.path prefix

-- The part of a list from position a up to position b.
abbrev pub part_of : {X : Type 0} → List X → ℕ → ℕ → List X
part_of xs a b = take (b - a) (drop a xs)

-- Exactly the paths of the entries from position a up to position b start with the prefix.
pub record IsStretch (es : List IndexEntry) (prefix : List ℕ) (a b : ℕ) : Type 0 where
  pub order : a ≤ b
  pub inside : b ≤ length es
  pub before : All (λ e. is_under prefix e ≡ false) (take a es)
  pub within : All (λ e. is_under prefix e ≡ true) (part_of es a b)
  pub after : All (λ e. is_under prefix e ≡ false) (drop b es)

-- A prefix's range has exactly the entries whose paths start with it; only a nonempty prefix may have none.
abbrev pub IsPrefixed : List IndexEntry → List ℕ → Option (Range ℕ) → Type 0
IsPrefixed es prefix None = (0 < length prefix) × All (λ e. is_under prefix e ≡ false) es
IsPrefixed es prefix (Some r) = IsStretch es prefix r.start r.end × (0 < length prefix → r.start < r.end)

-- Whether an entry's path is less than the prefix.
abbrev pub is_below : List ℕ → IndexEntry → Bool
is_below prefix e = is_lt (slice_cmp nat_cmp e.path prefix)

-- Whether an entry's path is the prefix or less than it.
abbrev pub is_up_to : List ℕ → IndexEntry → Bool
is_up_to prefix e = is_le (slice_cmp nat_cmp e.path prefix)

-- Whether an entry's path is this one.
abbrev pub is_at : List ℕ → IndexEntry → Bool
is_at path e = is_eq (slice_cmp nat_cmp e.path path)

-- Whether an entry meets a question: whether its path is less than the prefix, starts with it, or is at most it.
abbrev pub meets : Question → List ℕ → IndexEntry → Bool
meets Below prefix = is_below prefix
meets Under prefix = is_under prefix
meets UpTo prefix = is_up_to prefix

-- The entries that pass a test are before those that don't.
abbrev pub IsFront : (IndexEntry → Bool) → List IndexEntry → Type 0
IsFront p es = AllPairs (λ a b. p b ≡ true → p a ≡ true) es
