-- How often a link check calls `lstat` for a list of queries.
use Rattle.std.specs.Prelude.{◌≡◌, ◌≢◌, ◌≤◌, ◌+◌, ℕ, Bool, not, List, [], ◌∷◌, ◌++◌, length, filter, AllPairs, Contains, Result, Ok}
use Rattle.std.specs.List.{list_any}
use Rattle.std.specs.Ordering.{nat_cmp}
use Rattle.std.specs.Cmp.Lexicographic.{slice_cmp}
use Rattle.std.specs.declared.cmp.Ordering.TheVariants.{Less}
use Rattle.bstr.specs.declared.bstr.BStr.{BStr}
use Rattle.status_index.specs.declared.fault.Fault.{Fault}
use Rattle.status_index.specs.declared.stat.Metadata.{Metadata}
use Rattle.status_base.specs.Paths.{directories, lies_above}
use Rattle.status_base.specs.CheckState.{CheckState}
use Rattle.status_base.specs.AfterQuery.{IsAfterVerified}
use Rattle.status_base.specs.Sights.{AnyAnswer}

-- A list of queries to one check, which accepts each path.
abbrev pub AreVerified : Bool → (List ℕ → Result Metadata Fault) → CheckState → List (List ℕ) → CheckState → Type 0
AreVerified modelled lstat old [] new = new ≡ old
AreVerified modelled lstat old (q ∷ qs) new = (mid : CheckState) × (answer : BStr) × IsAfterVerified AnyAnswer modelled lstat q (Ok answer) old mid × AreVerified modelled lstat mid qs new

-- The directories above some paths that aren't above an earlier path, each at the first path below it.
abbrev pub directories_beside : List (List ℕ) → List (List ℕ) → List (List ℕ)
directories_beside earlier [] = []
directories_beside earlier (q ∷ qs) = filter (λ d. not (list_any (lies_above d) earlier)) (directories q) ++ directories_beside (q ∷ earlier) qs

-- The directories above some paths, each once, at the first path below it.
abbrev pub directories_above : List (List ℕ) → List (List ℕ)
directories_above qs = directories_beside [] qs

-- Paths are in ascending order of their bytes, and no two are equal.
abbrev pub AreAscending : List (List ℕ) → Type 0
AreAscending qs = AllPairs (λ a b. slice_cmp nat_cmp a b ≡ Less) qs

-- The calls of `lstat` are bounded, and each directory is listed once. A check whose tested path is empty, such as a new one,
-- calls it at most once for each directory above paths that ascend, if it accepts them all.
abbrev pub LooksLaw : Bool → (List ℕ → Result Metadata Fault) → CheckState → List (List ℕ) → CheckState → Type 0
LooksLaw modelled lstat old qs new = old.path ≡ [] → AreAscending qs → AreVerified modelled lstat old qs new → new.looks ≤ old.looks + length (directories_above qs)

-- A directory is above one of the paths.
abbrev pub StandsAbove : List (List ℕ) → List ℕ → Type 0
StandsAbove qs d = (q : List ℕ) × Contains qs q × Contains (directories q) d

-- No directory is listed twice. Exactly the directories above one of the paths are listed.
pub record ListedOnceLaw (qs : List (List ℕ)) : Type 0 where
  pub once : AllPairs (λ a b. a ≢ b) (directories_above qs)
  pub all : (d : List ℕ) → StandsAbove qs d → Contains (directories_above qs) d
  pub only : (d : List ℕ) → Contains (directories_above qs) d → StandsAbove qs d
