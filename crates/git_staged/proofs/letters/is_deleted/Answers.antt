use Rattle.std.proofs.Common.{not, ap, ◌∙◌}
use Rattle.std.specs.List.{list_any}
use Rattle.status_index.specs.States.{backing_of}
use Rattle.git_staged.specs.Letters.{is_intended}
use Rattle.git_staged.proofs.Changes.{staged_seen}
use Rattle.git_staged.proofs.letters.is_deleted.Goals as goal

pub returns-clause-deleted : goal.returns-clause-deleted
returns-clause-deleted c = ap not (c.has_staged.ensures ∙ (staged_seen (backing_of c.args.index.now) c.entries_at.result.now ∙ ap (list_any (λ e. not (is_intended e))) c.entries_at.ensures))
