use Rattle.std.proofs.Common.{◌∙◌}
use Rattle.git_attributes.proofs.FirstBytes.{pushed}
use Rattle.git_attributes.proofs.lfs.push_pointer.Goals as goal

pub returns : goal.returns
returns c =
    pushed c.args.stored.now.items _ _ _ _ _ _ _ _ _ _ _ _
    c.in_ok-extend_from_slice.ensures.items c.in_ok-extend_from_slice-2.ensures.items (c.as_bytes.ensures.value ∙ c.in_ok-digest.ensures)
    c.in_ok-extend_from_slice-3.ensures.items c.in_ok-extend_from_slice-4.ensures.items (c.as_bytes-2.ensures.value ∙ c.format.ensures.text) c.in_ok-extend_from_slice-5.ensures.items
