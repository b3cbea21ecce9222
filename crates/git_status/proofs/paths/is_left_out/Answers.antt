use Rattle.std.proofs.Common.{◌==◌, ◌≡◌, ◌∙◌, not, ap, sym, length}
use Rattle.std.specs.List.{filter}
use Rattle.std.proofs.lemmas.List.{length-map}
use Rattle.bstr.specs.BStr.{bstr_bytes}
use Rattle.status_index.specs.Entries.{index_entry}
use Rattle.status_index.specs.States.{backing_of, index_of}
use Rattle.status_index.specs.Stretch.{is_at}
use Rattle.git_status.proofs.Selected.{any_filtered}
use Rattle.git_status.proofs.paths.is_left_out.Goals as goal

pub returns : goal.returns
returns c =
    let state = c.args.left_out.now in
    let path = bstr_bytes c.args.path in
    let entries = c.entries_at.result.now in
    let len : length entries ≡ length (filter (is_at path) (index_of state)) = sym (length-map entries (index_entry (backing_of state))) ∙ ap length c.entries_at.ensures in
    ap not (c.is_empty.ensures ∙ ap (λ n. n == 0) len) ∙ sym (any_filtered (is_at path) (index_of state))
