-- The contents that a reader may give, whether it is modelled or not.
use Rattle.std.specs.Prelude.{◌≡◌, ◌⊎◌, ◌<◌, ℕ, List, [], ◌++◌, length, take, Option, Some, None, Result, Ok, Err}
use Rattle.status_index.specs.declared.fault.Fault.{Fault}
use Rattle.status_index.specs.declared.fault.Fault.TheVariants.{Memory}
use Rattle.status_index.specs.declared.id.HashKind.{HashKind}
use Rattle.status_index.specs.declared.id.ObjectId.{ObjectId}
use Rattle.status_index.specs.Content.{Content}
use Rattle.status_index.specs.StreamId.{first_bytes_id}

-- Which contents a reader may yet give. A reader needn't give the same content twice.
abbrev pub MayGive : Type 1
MayGive = Content → Type 0

-- The content of any reader.
abbrev pub AnyContent : MayGive
AnyContent content = Unit {0}

-- The content without bytes, which has this end.
abbrev pub no_bytes : Option Fault → Content
no_bytes end = record { bytes = []; fault = end }

-- A content after some bytes.
abbrev pub behind : List ℕ → Content → Content
behind front content = record { bytes = front ++ content.bytes; fault = content.fault }

-- Each content that a reader may yet give is, after these bytes, one that it may have given before.
abbrev pub Follows : MayGive → MayGive → List ℕ → Type 0
Follows old new front = (content : Content) → new content → old (behind front content)

-- A read returns the first bytes of a content that the reader may have given before. No byte, into a buffer with room, is the
-- content's end. A fault is the content's, and the reader may give after it what it may have given before.
abbrev pub IsReadStep : MayGive → MayGive → Result ℕ Fault → List ℕ → Type 0
IsReadStep old new (Ok n) buffer = Follows old new (take n buffer) × (n ≡ 0 → 0 < length buffer → old (no_bytes None))
IsReadStep old new (Err f) buffer = Follows old new [] × old (no_bytes (Some f))

-- Reading to the end appended the bytes of a content that the reader may give, up to its end or to its fault.
abbrev pub IsAllGiven : MayGive → List ℕ → List ℕ → Result (Unit {0}) Fault → Type 0
IsAllGiven may before after (Ok _) = (bytes : List ℕ) × (after ≡ before ++ bytes) × may (record { bytes = bytes; fault = None })
IsAllGiven may before after (Err f) = (bytes : List ℕ) × (after ≡ before ++ bytes) × may (record { bytes = bytes; fault = Some f })

-- The result of hashing the first n bytes is that of a content which the reader may give.
abbrev pub IsHashGiven : MayGive → HashKind → ℕ → Result ObjectId Fault → Type 0
IsHashGiven may kind n result = (content : Content) × may content × (first_bytes_id kind content n ≡ result)

-- A reader whose content is known may give this content, or run out of memory after some of its first bytes.
abbrev pub IsKnownOrCut : Content → MayGive
IsKnownOrCut known content =
    (content ≡ known) ⊎ ((content.fault ≡ Some Memory) × ((rest : List ℕ) × (known.bytes ≡ content.bytes ++ rest)))
