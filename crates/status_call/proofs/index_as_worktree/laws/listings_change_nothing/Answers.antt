use Rattle.status_call.proofs.LawListings.{listings_law}
use Rattle.status_call.proofs.index_as_worktree.laws.listings_change_nothing.Goals as goal

pub returns : goal.returns
returns g c = λ q. listings_law q
