-- A list that is joined bucket by bucket.
use Rattle.std.specs.Prelude.{◌≡◌, ◌==◌, ℕ, ◌+◌, ◌*◌, ◌/◌, ◌<◌, min, Bool, List, ◌++◌, length, map, slice_index}
use Rattle.std.specs.List.{filter, slice_index_or}
use Rattle.std.specs.Global.{Vec}
use denote.Ref.{Bor}
use Rattle.status_index.specs.BlobId.{id_kind, id_bytes}
use Rattle.status_index.specs.Orders.{kind_rank}
use Rattle.status_rewrites.specs.declared.tracker.ChangeKind.TheVariants.{Deletion, Addition}
use Rattle.status_rewrites.specs.declared.seen.Seen.{Seen}
use Rattle.status_rewrites.specs.declared.tracker.Pair.{Pair}
use Rattle.status_rewrites.specs.TrackedChanges.{Changed}
use Rattle.status_rewrites.specs.IdentityPairs.{mode_number}
use Rattle.status_rewrites.specs.Joins.{HasRows, IsJoin, side_of}
use Rattle.status_rewrites.specs.SeenItems.{changed_of}

-- Three types of node, two kinds of id, and the values of twelve bits.
unfoldable pub bucket_count : ℕ
bucket_count = 3 * 2 * 4096

-- The first twelve bits of bytes. It is at most 4095 also for numbers that are no bytes.
abbrev pub leading_bits : List ℕ → ℕ
leading_bits bytes = min (slice_index bytes 0 * 16 + min (slice_index bytes 1) 255 / 16) 4095

-- The bucket of a change, by type of node, kind of id and the id's first bits.
unfoldable pub bucket_number : Changed → ℕ
bucket_number x = (mode_number x.mode * 2 + kind_rank (id_kind x.id)) * 4096 + leading_bits (id_bytes x.id)

-- The changes of a list that belong to a bucket.
abbrev pub in_bucket : ℕ → List Seen → List Seen
in_bucket number xs = filter (λ s. bucket_number (changed_of s) == number) xs

-- The changes that a bucket refers to.
abbrev pub changes_named : Vec (Bor Seen) → List Seen
changes_named bucket = map (λ s. s.now) bucket.items

-- The buckets of a list, each in the list's order.
pub record AreBuckets (xs : List Seen) (buckets : List (Vec (Bor Seen))) : Type 0 where
  pub count : length buckets ≡ bucket_count
  pub each : (i : ℕ) (d : Vec (Bor Seen)) → i < length buckets → changes_named (slice_index_or buckets i d) ≡ in_bucket i xs

-- Pairs followed by those of two buckets.
pub record IsAppendedJoin (gone came : List Seen) (old new : List Pair) : Type 0 where
  pub first : List Seen
  pub second : List Seen
  pub more : List Pair
  pub is : new ≡ old ++ more
  pub first_rows : HasRows gone first
  pub second_rows : HasRows came second
  pub join : IsJoin first second more

-- The pairs of a list's two sides.
pub record ArePairsOf (track_empty : Bool) (xs : List Seen) (pairs : List Pair) : Type 0 where
  pub gone : List Seen
  pub came : List Seen
  pub gone_rows : HasRows (side_of Deletion track_empty xs) gone
  pub came_rows : HasRows (side_of Addition track_empty xs) came
  pub join : IsJoin gone came pairs
