use Rattle.std.proofs.Common.{map, inl, inr, refl}
use Rattle.std.specs.Prelude.{vec_items}
use Rattle.status_profile.specs.Nodes.{node_value}
use Rattle.status_cli.specs.ProfileStatuses.{AreNodesRefused}
use Rattle.status_cli.proofs.Commands.{map_failed}
use Rattle.status_cli.proofs.status.print_nodes.Goals as goal

pub returns-in_err-worktree-clause-printed : goal.returns-in_err-worktree-clause-printed
returns-in_err-worktree-clause-printed g c =
    let e = c.in_err-worktree.field-0.0 in
    inl (map_failed vec_items c.from_residual.result e (AreNodesRefused (map node_value c.args.nodes.items)) c.from_residual.ensures.1 c.in_err-worktree.ensures.err, refl)

pub returns-clause-printed : goal.returns-clause-printed
returns-clause-printed g c = inr (c.in_ok-worktree.worktree, c.in_ok-worktree.ensures.ok, c.print_prefixed.ensures.printed)
