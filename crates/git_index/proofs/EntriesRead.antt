-- Reading entries one after the other.
use Rattle.std.proofs.Common.{◌≡◌, ℕ, ◌+◌, List, [], ◌∷◌, ◌++◌, length, Option, Ok}
use Rattle.status_index.specs.declared.id.HashKind.{HashKind}
use Rattle.status_index.specs.Entries.{IndexEntry}
use Rattle.git_index.specs.declared.fault.IndexFileError.{IndexFileError}
use Rattle.git_index.specs.RawEntry.{RawEntry}
use Rattle.git_index.specs.Reading.{raw_at}
use Rattle.git_index.specs.Counting.{IsIndexSoFar}
use Rattle.git_index.proofs.Listing.{Front, front_more}

-- The entries that were read so far, and the index of them or why there is none.
pub record SoFar (kind : HashKind) (version at : ℕ) (bytes : List ℕ) (es : List IndexEntry) (path : List ℕ) (refused : Option IndexFileError) (rest : List ℕ) : Type 0 where
  pub raw : List RawEntry
  pub front : Front kind version at bytes raw rest
  pub index : IsIndexSoFar version raw es path refused

pub more_so_far : (kind : HashKind) (version at : ℕ) (bytes : List ℕ) (es new : List IndexEntry) (path next : List ℕ) (refused then : Option IndexFileError) (rest : List ℕ) (x : RawEntry) (after : List ℕ)
    → SoFar kind version at bytes es path refused rest → raw_at kind version rest ≡ Ok (x, after)
    → ((rs : List RawEntry) → length rs ≡ at → IsIndexSoFar version rs es path refused → IsIndexSoFar version (rs ++ x ∷ []) new next then)
    → SoFar kind version (at + 1) bytes new next then after
more_so_far kind version at bytes es new path next refused then rest x after s e step = record {
  raw = s.raw ++ x ∷ [];
  front = front_more kind version at bytes s.raw rest x after s.front e;
  index = step s.raw s.front.spells.many s.index;
}
