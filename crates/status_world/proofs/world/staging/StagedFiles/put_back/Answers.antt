use Rattle.std.proofs.Common.{◌≡◌, Option, Some, IsSome, refl, sym, ap, subst, ◌∙◌}
use Rattle.std.specs.Option.{option_map}
use Rattle.bstr.specs.BStr.{bstr_bytes}
use Rattle.status_world.specs.PlainWorld.{with_value}
use Rattle.status_world.specs.StagedPaths.{plain_staged, staged_of}
use Rattle.status_world.specs.declared.world.staging.Staged.{Staged}
use Rattle.status_world.proofs.StagedMaps.{staged-updated, staged-get}
use Rattle.status_world.proofs.world.staging.StagedFiles.put_back.Goals as goal

-- The path has a key, so the replaced value overwrites the one that was put.
pub returns-in-Some-get_mut : goal.returns-in-Some-get_mut
returns-in-Some-get_mut c =
    let staged = c.in-Some.staged in
    let new = c.get_mut.follows.lender staged in
    let written = (c.get_mut.follows.holds staged).3 (subst IsSome c.in-Some-get_mut.ensures.value refl) in
    λ _. subst (λ (r : Option Staged). staged_of new.entries ≡ with_value c.args.self.now (bstr_bytes c.args.path) (option_map plain_staged r)) (sym c.in-Some.is)
    (staged-updated c.self.inside.files.entries new.entries _ _ _ (Some staged) c.self.view_is c.as_bytes.ensures written.1 written.3)

-- A path without a key has nothing staged.
pub returns-in_default : goal.returns-in_default
returns-in_default c =
    λ there.
    let none = subst IsSome (sym (staged-get c.self.inside.files.entries _ _ _ c.self.view_is c.as_bytes.ensures) ∙ ap (option_map plain_staged) (sym c.in_default.ensures.value)) there in
    cc
