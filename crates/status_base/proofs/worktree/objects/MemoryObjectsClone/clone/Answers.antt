use Rattle.std.proofs.Common.{◌∙◌, rules}
use Rattle.std.proofs.lemmas.List.Elements.{same_from_all_zip}
use Rattle.status_base.proofs.Contents.{contents-cloned}
use Rattle.status_base.proofs.worktree.objects.MemoryObjectsClone.clone.Goals as goal

pub returns : goal.returns
returns c = record { cases = contents-cloned (λ x y h. search rules) (λ v w h. same_from_all_zip _ _ _ h.0 (λ x y q. q)) _ _ c.in_ok-clone.ensures.cases ∙ c.self.view_is }
