use Rattle.std.proofs.Common.{map}
use Rattle.git_staged.specs.Staged.{staged_view}
use Rattle.git_status.proofs.staged.print_staged.Goals as goal

pub returns : goal.returns
returns g c = (
  map staged_view c.in-Ok.staged.items,
  rw c.in-Ok.is at c.find_staged.ensures,
  rw (c.deref.ensures.value, c.deref-2.ensures.value, c.in_ok-unmerged.ensures) at c.in_ok-print_text.ensures,
  rw (c.deref-3.ensures.value, c.deref-4.ensures.value, c.in_ok-unmerged.ensures) at c.is_any.ensures,
)
