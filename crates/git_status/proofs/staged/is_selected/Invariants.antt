use Rattle.std.proofs.Common.{◌≡◌, false, take}
use Rattle.std.specs.List.{list_any}
use Rattle.bstr.specs.BStr.{bstr_bytes}
use Rattle.status_index.specs.Mode.{is_submodule}
use Rattle.git_status.proofs.staged.is_selected.Given as goal

-- none of the sides so far is selected
abbrev pub invariant-loop-side : goal.invariant-loop-side
invariant-loop-side g l = list_any (λ e. g.P.Pathspec.included l.paths (bstr_bytes l.path) (is_submodule e.mode)) (take l.side-index l.sides) ≡ false
