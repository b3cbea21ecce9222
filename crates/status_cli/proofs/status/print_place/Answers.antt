use Rattle.std.proofs.Common.{◌≡◌, inl, refl}
use Rattle.std.specs.Prelude.{vec_items}
use Rattle.status_cli.specs.declared.failure.Failure.TheVariants.{Memory}
use Rattle.status_cli.proofs.Commands.{map_failed}
use Rattle.status_cli.proofs.status.print_place.Goals as goal

pub returns-in_err-worktree-in-Folder-clause-printed : goal.returns-in_err-worktree-in-Folder-clause-printed
returns-in_err-worktree-in-Folder-clause-printed g c =
    rw c.in-Folder.is (inl (map_failed vec_items c.from_residual.result Memory (λ f. f ≡ Memory) c.from_residual.ensures.1 refl, refl))

pub returns-in-Nodes-clause-printed : goal.returns-in-Nodes-clause-printed
returns-in-Nodes-clause-printed g c = rw c.in-Nodes.is c.print_nodes.ensures.printed

pub returns-in_ok-worktree-in-Folder-clause-printed :
    goal.returns-in_ok-worktree-in-Folder-clause-printed
returns-in_ok-worktree-in-Folder-clause-printed g c = rw c.in-Folder.is c.print_prefixed.ensures.printed
