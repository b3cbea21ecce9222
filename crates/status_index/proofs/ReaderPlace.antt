-- The content that a reader has left after some bytes.
use Rattle.std.specs.Prelude.{◌≡◌, ℕ, List, ◌++◌, Option, Some, None}
use Rattle.status_index.specs.Content.{Content}

-- The new content is the part of the old one after these bytes. A reader that isn't modelled stays so.
abbrev pub StandsAfter : Option Content → Option Content → List ℕ → Type 0
StandsAfter None new done = new ≡ None
StandsAfter (Some old) None done = ⊥
StandsAfter (Some old) (Some new) done = (old.bytes ≡ done ++ new.bytes) × (new.fault ≡ old.fault)
