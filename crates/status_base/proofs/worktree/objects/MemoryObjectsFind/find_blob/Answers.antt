use Rattle.std.proofs.Common.{◌≡◌, List, ℕ, None, Some, Ok, ◌++◌, ap, sym, ◌∙◌, inl}
use Rattle.std.specs.Option.{ok_or}
use Rattle.status_base.specs.declared.worktree.objects.FindError.TheVariants.{Missing}
use Rattle.status_base.proofs.Contents.{contents-found}
use Rattle.status_base.proofs.worktree.objects.MemoryObjectsFind.find_blob.Goals as goal

pub returns-in_default-clause-answer : goal.returns-in_default-clause-answer
returns-in_default-clause-answer c modelled =
    let found = contents-found c.self.inside.contents.entries _ c.args.id.now None c.self.view_is c.in_default.ensures.value in
    inl (sym (ap (λ o. ok_or o Missing) found))

pub returns-in-Ok-clause-answer : goal.returns-in-Ok-clause-answer
returns-in-Ok-clause-answer c modelled =
    let found = contents-found c.self.inside.contents.entries _ c.args.id.now (Some c.in-Some.content.now) c.self.view_is c.in-Some.ensures.value in
    let copied : c.extend_from_slice.new.self.items ≡ c.in-Some.content.now.items = c.in-Ok.ensures.items ∙ ap (λ (xs : List ℕ). xs ++ c.deref.result.now) c.clear.ensures.items ∙ c.deref.ensures.value in
    sym (ap (λ o. ok_or o Missing) found) ∙ ap Ok (sym copied)
