use Rattle.std.proofs.Common.{◌≡◌, ◌∙◌, ◌++◌, List, ℕ, true, false, ap, sym}
use Rattle.git_attributes.specs.Lfs.{is_pointer, pointer}
use Rattle.git_attributes.proofs.FirstBytes.{replaced, stays}
use Rattle.git_attributes.proofs.lfs.make_stored.Goals as goal

pub returns-in_ok-push_pointer : goal.returns-in_ok-push_pointer
returns-in_ok-push_pointer c =
    let is : is_pointer c.args.stored.now.items ≡ false = ap is_pointer (sym c.deref.ensures.value) ∙ (sym c.is_pointer.ensures ∙ c.if-not-is_pointer.true) in
    let hashed = c.args.hashed.now in
    λ bytes of. replaced c.args.stored.now.items c.push_pointer.new.stored.items bytes hashed is
    (c.in_ok-push_pointer.ensures ∙ ap (λ (t : List ℕ). t ++ pointer hashed.digest hashed.len) c.clear.ensures.items) of

pub returns-else-not-is_pointer : goal.returns-else-not-is_pointer
returns-else-not-is_pointer c =
    let is : is_pointer c.args.stored.now.items ≡ true = ap is_pointer (sym c.deref.ensures.value) ∙ (sym c.is_pointer.ensures ∙ c.if-not-is_pointer.false) in
    λ bytes of. stays c.args.stored.now.items bytes c.args.hashed.now is of
