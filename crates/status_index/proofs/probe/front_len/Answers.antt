use Rattle.std.proofs.Common.{◌∙◌, length}
use Rattle.std.proofs.lemmas.List.{length-map}
use Rattle.status_index.specs.Entries.{index_entry, index_entries}
use Rattle.status_index.specs.Stretch.{meets}
use Rattle.status_index.proofs.Stretches.{cut_inside}
use Rattle.status_index.proofs.probe.front_len.Goals as goal

pub returns-clause-len : goal.returns-clause-len
returns-clause-len c =
    let entries = c.args.entries.now in
    let backing = c.args.backing.now in
    c.search-len.ensures.found
    ∙ cut_inside (meets c.args.question c.args.prefix.now) (index_entries backing entries) (length entries) (length-map entries (index_entry backing))
