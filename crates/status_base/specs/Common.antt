-- The common prefix of two paths.
use Rattle.std.specs.Prelude.{◌≢◌, ◌≡◌, ◌<◌, ◌≤◌, ℕ, List, length, take, slice_index}

-- The common prefix of two paths has n bytes: the first n are the same, and the next ones aren't.
pub record IsCommon (one other : List ℕ) (n : ℕ) : Type 0 where
  pub within_one : n ≤ length one
  pub within : n ≤ length other
  pub same : take n one ≡ take n other
  pub most : n < length one → n < length other → slice_index one n ≢ slice_index other n
