-- The file and the blob that can be read of one entry.
use Rattle.std.specs.Prelude.{ℕ, Bool, true, false, List, Option, Some, None, Result}
use Rattle.status_index.specs.Content.{Content}
use Rattle.status_index.specs.declared.fault.Fault.{Fault}
use Rattle.status_base.specs.Conversions.{Conversion}
use Rattle.status_base.specs.declared.worktree.objects.FindError.{FindError}
use Rattle.status_compare.specs.Reading.{Readings, node_reading, blob_reading}

-- The specification of an entry's file and blob. It takes whether a link's target is read, the conversion and the node's length.
-- It also takes the results of opening the file, of reading the link and of finding the blob.
abbrev pub entry_readings : Bool → (Content → Conversion) → ℕ → Result Content Fault → Result (List ℕ) Fault → Result (List ℕ) FindError → Readings
entry_readings is_link conversion len opened linked found =
    record { file = node_reading is_link conversion len opened linked; blob = blob_reading found }

-- The specification, if worktree and blobs are modelled.
abbrev pub if_modelled : Bool → Bool → Readings → Option Readings
if_modelled true true m = Some m
if_modelled true false m = None
if_modelled false _ m = None
