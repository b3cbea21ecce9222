use Rattle.std.proofs.Common.{◌≡◌, true, length, take, sym, ap, ◌∙◌, arith, eq-eqb}
use Rattle.status_index.specs.States.{index_of}
use Rattle.status_base.proofs.PathFronts.{any_front}
use Rattle.status_walk.specs.Untracked.{is_below_submodule, is_submodule_at}
use Rattle.status_walk.proofs.untracked.is_below_submodule.Goals as goal

pub returns-then-is_submodule : goal.returns-then-is_submodule
returns-then-is_submodule c =
    let es = index_of c.args.index.now in
    let path = c.as_bytes-path.result.now in
    let at = c.loop-end.end in
    let here : is_submodule_at es (take at path) ≡ true = rw c.new.ensures at (sym c.is_submodule.ensures ∙ c.if-is_submodule.true) in
    let found = any_front (is_submodule_at es) path (length path) at (omega arith) (eq-eqb _ _ c.if-byte-eq47.true) here in
    sym (ap (is_below_submodule es) (sym c.as_bytes-path.ensures) ∙ found)
