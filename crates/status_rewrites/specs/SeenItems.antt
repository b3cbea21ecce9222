-- The changes as they are read, once each.
use Rattle.status_rewrites.specs.declared.seen.Seen.{Seen}
use Rattle.status_rewrites.specs.TrackedChanges.{Changed}
use Rattle.status_rewrites.specs.IdentityPairs.{NumberedChange}

-- The change.
abbrev pub changed_of : Seen → Changed
changed_of s = record { id = s.id; kind = s.kind; mode = s.mode; path = s.path.now }

-- The change with its position.
abbrev pub numbered : Seen → NumberedChange
numbered s = (s.place, changed_of s)
