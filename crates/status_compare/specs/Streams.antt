-- A stream has bytes of a file or of memory left, then its fault, and may count what it returns.
use Rattle.std.specs.Prelude.{ℕ, List, Option, Some, None, if◌then◌else◌}
use Rattle.status_index.specs.Content.{Content}
use Rattle.status_index.specs.Given.{MayGive, IsKnownOrCut}
use Rattle.status_base.specs.declared.worktree.filter.ToGitOutcome.{ToGitOutcome}
use Rattle.status_base.specs.declared.worktree.filter.ToGitOutcome.TheVariants.{Unchanged, Buffer}
use Rattle.status_compare.specs.declared.stream.Stream.{Stream}

-- Bytes in memory, with no fault after them.
abbrev pub whole : List ℕ → Content
whole bytes = record { bytes = bytes; fault = None }

abbrev pub outcome_left : {F : Type 0} → (F → Option Content) → ToGitOutcome F → Option Content
outcome_left left (Unchanged file) = left file
outcome_left left (Buffer buffer) = Some (whole buffer.now)

-- The bytes that are in memory; none for a file.
abbrev pub outcome_buffer : {F : Type 0} → ToGitOutcome F → Option (List ℕ)
outcome_buffer (Unchanged file) = None
outcome_buffer (Buffer buffer) = Some buffer.now

-- The content that a stream has left, if its file is modelled.
abbrev pub stream_left : {F : Type 0} → (F → Option Content) → Stream F → Option Content
stream_left left s = outcome_left left s.source

-- The contents that a stream may give: those of its file, or the buffer's, of which memory may run out.
abbrev pub outcome_gives : {F : Type 0} → (F → MayGive) → ToGitOutcome F → MayGive
outcome_gives gives (Unchanged file) = gives file
outcome_gives gives (Buffer buffer) = IsKnownOrCut (whole buffer.now)

abbrev pub stream_gives : {F : Type 0} → (F → MayGive) → Stream F → MayGive
stream_gives gives s = outcome_gives gives s.source

-- The number of bytes that a stream counted, if it counts.
abbrev pub stream_taken : {F : Type 0} → Stream F → Option ℕ
stream_taken s = if s.counts then Some s.counted else None
