-- The content that a reader has left, and the results of a read.
use Rattle.std.specs.Prelude.{◌≡◌, ℕ, ◌+◌, ◌-◌, ◌<◌, ◌≤◌, ◌^◌, ◌⊎◌, min, List, [], ◌++◌, length, take, Option, Some, None, Result, Ok, Err, ⊤}
use Rattle.status_index.specs.declared.fault.Fault.{Fault}
use Rattle.status_index.specs.declared.fault.Fault.TheVariants.{Memory}

-- A reader has bytes left, then its end or a fault; reads take and count the next bytes.
-- The end is a `fault` of None.
pub record Content : Type 0 where
  pub bytes : List ℕ
  pub fault : Option Fault

-- A read returns at most as many bytes as the buffer holds.
abbrev pub ReadFits : Result ℕ Fault → List ℕ → Type 0
ReadFits (Ok n) buffer = n ≤ length buffer
ReadFits (Err f) buffer = ⊤

-- The first n bytes are now at the front of the buffer, and the rest is left. n is 0 only at the end, or if the buffer is empty.
abbrev pub Takes : Content → Option Content → ℕ → List ℕ → Type 0
Takes old None n buffer = ⊥
Takes old (Some new) n buffer =
    (old.bytes ≡ take n buffer ++ new.bytes) × (new.fault ≡ old.fault)
    × (n ≡ 0 → 0 < length buffer → (old.bytes ≡ []) × (old.fault ≡ None))

-- A fault of a read: the reader's own fault, if no bytes are left before it, or out of memory.
abbrev pub FaultOf : Content → Fault → Type 0
FaultOf old f = (f ≡ Memory) ⊎ ((old.bytes ≡ []) × (old.fault ≡ Some f))

-- A read takes the first bytes that were left, and leaves the rest. A failed read leaves all.
abbrev pub ReadKeeps : Option Content → Option Content → Result ℕ Fault → List ℕ → Type 0
ReadKeeps None new r buffer = new ≡ None
ReadKeeps (Some old) new (Ok n) buffer = Takes old new n buffer
ReadKeeps (Some old) new (Err f) buffer = FaultOf old f × (new ≡ Some old)

-- A number, or the greatest u64 if the number is greater.
abbrev pub saturate : ℕ → ℕ
saturate n = min (2 ^ 64 - 1) n

-- A count grew by n, up to the greatest u64. There is none if the reader doesn't count.
abbrev pub CountsMore : Option ℕ → Option ℕ → ℕ → Type 0
CountsMore None new n = new ≡ None
CountsMore (Some a) None n = ⊥
CountsMore (Some a) (Some b) n = saturate b ≡ saturate (a + n)

-- A read counts the bytes that it returned. A failed read counts none.
abbrev pub CountsRead : {E : Type 0} → Option ℕ → Option ℕ → Result ℕ E → Type 0
CountsRead old new (Ok n) = CountsMore old new n
CountsRead old new (Err f) = CountsMore old new 0
