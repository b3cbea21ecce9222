-- The numbers in the words of flags.
use Rattle.std.proofs.Common.{◌≡◌, ℕ, ◌+◌, ◌*◌, ◌/◌, ◌%◌, ◌^◌, ◌<◌, arith}

pub record WordParts (w a b s l : ℕ) : Type 0 where
  pub assume_valid : w / 0x8000 % 2 ≡ a
  pub bit : w / 0x4000 % 2 ≡ b
  pub stage : w / 0x1000 % 4 ≡ s
  pub low : w % 0x1000 ≡ l
  pub fits : w < 2 ^ 16

pub word_parts : (w a b s l : ℕ) → a < 2 → b < 2 → s < 4 → l < 0x1000 → w ≡ a * 0x8000 + b * 0x4000 + s * 0x1000 + l → WordParts w a b s l
word_parts w a b s l ha hb hs hl e = record { assume_valid = omega arith; bit = omega arith; stage = omega arith; low = omega arith; fits = omega arith }

pub word_whole : (w : ℕ) → w < 2 ^ 16 → w ≡ w / 0x8000 % 2 * 0x8000 + w / 0x4000 % 2 * 0x4000 + w / 0x1000 % 4 * 0x1000 + w % 0x1000
word_whole w h = omega arith

pub record FlagParts (f s a i k : ℕ) : Type 0 where
  pub stage : f / 0x1000 % 4 ≡ s
  pub assume_valid : f / 0x10 % 2 ≡ a
  pub intent_to_add : f / 0x8 % 2 ≡ i
  pub skip_worktree : f / 0x2 % 2 ≡ k

pub flag_parts : (f s a i k : ℕ) → s < 4 → a < 2 → i < 2 → k < 2 → f ≡ s * 0x1000 + a * 0x10 + i * 0x8 + k * 0x2 → FlagParts f s a i k
flag_parts f s a i k hs ha hi hk e = record { stage = omega arith; assume_valid = omega arith; intent_to_add = omega arith; skip_worktree = omega arith }

pub record MoreParts (m k i : ℕ) : Type 0 where
  pub skip_worktree : m / 0x4000 % 2 ≡ k
  pub intent_to_add : m / 0x2000 % 2 ≡ i

pub more_parts : (m k i : ℕ) → k < 2 → i < 2 → m ≡ k * 0x4000 + i * 0x2000 → MoreParts m k i
more_parts m k i hk hi e = record { skip_worktree = omega arith; intent_to_add = omega arith }

pub more_whole : (m : ℕ) → m < 0x8000 → m % 0x2000 ≡ 0 → m ≡ m / 0x4000 % 2 * 0x4000 + m / 0x2000 % 2 * 0x2000
more_whole m h e = omega arith
