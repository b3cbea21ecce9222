-- Paths, with `/` between components.
use Rattle.std.specs.Prelude.{ℕ, zero, suc, ◌==◌, nat_eq, Bool, true, false, not, ◌&&◌, List, [], ◌∷◌, ◌++◌, length, take, find, filter, Option, slice_index, if◌then◌else◌}
use Rattle.std.specs.List.{slice_split, starts_with}

abbrev pub is_slash : ℕ → Bool
is_slash b = b == 47

-- The parts between the slashes.
abbrev pub components : List ℕ → List (List ℕ)
components path = slice_split is_slash path

-- Whether a component isn't normal: it is empty, `.` or `..`.
abbrev pub is_abnormal : List ℕ → Bool
is_abnormal [] = true
is_abnormal (a ∷ []) = a == 46
is_abnormal (a ∷ b ∷ []) = a == 46 && b == 46
is_abnormal (a ∷ b ∷ c ∷ rest) = false

-- A path isn't normal if a component is empty, `.` or `..`; `.git` is normal. This is the leftmost component that isn't.
abbrev pub abnormal_component : List ℕ → Option (List ℕ)
abnormal_component path = find is_abnormal (components path)

-- The fronts of fewer than n bytes that a slash follows, the shortest first.
abbrev pub directories_below : List ℕ → ℕ → List (List ℕ)
directories_below path zero = []
directories_below path (suc n) = directories_below path n ++ (if is_slash (slice_index path n) then take n path ∷ [] else [])

-- The proper directory prefixes of a path, the shortest first.
abbrev pub directories : List ℕ → List (List ℕ)
directories path = directories_below path (length path)

-- Whether a path is below a directory.
abbrev pub lies_above : List ℕ → List ℕ → Bool
lies_above directory path = starts_with nat_eq path (directory ++ 47 ∷ [])

-- The directories above a path that aren't above the tested path.
abbrev pub new_directories : List ℕ → List ℕ → List (List ℕ)
new_directories tested path = filter (λ d. not (lies_above d tested)) (directories path)

-- A path joined to a root. It is the path alone if the root is empty.
abbrev pub joined : List ℕ → List ℕ → List ℕ
joined [] path = path
joined (b ∷ root) path = (b ∷ root) ++ 47 ∷ path
