use Rattle.std.proofs.Common.{◌∙◌, sym, ap, not, ◌==◌, length}
use Rattle.std.proofs.lemmas.List.{length-map}
use Rattle.bstr.specs.BStr.{bstr_bytes}
use Rattle.status_index.specs.Entries.{index_entry}
use Rattle.status_index.specs.States.{backing_of, index_of}
use Rattle.status_index.specs.Stretch.{is_at}
use Rattle.status_walk.proofs.Presence.{any-filter}
use Rattle.status_walk.proofs.untracked.is_tracked.Goals as goal

pub returns : goal.returns
returns c =
    let index = c.args.index.now in
    let stored = c.entries_at.result.now in
    let same = sym (length-map stored (index_entry (backing_of index))) ∙ ap length c.entries_at.ensures in
    ap not (c.is_empty.ensures ∙ ap (λ n. n == 0) same) ∙ any-filter (is_at (bstr_bytes c.args.path)) (index_of index)
