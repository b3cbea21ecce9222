-- The remaining words, with the flags so far, have the same flags as the whole list with the first ones.
use Rattle.std.proofs.Common.{◌≡◌, drop}
use Rattle.serde_json.specs.View.{items_view}
use Rattle.status_format.specs.Reading.{flags_from}
use Rattle.status_format.proofs.read.flags_of.Given as goal

abbrev pub invariant-loop-word : goal.invariant-loop-word
invariant-loop-word l =
    flags_from l.flags.0 (items_view (drop l.word-index l.word-items))
    ≡ flags_from l.fn.start.0 (items_view l.word-items)
