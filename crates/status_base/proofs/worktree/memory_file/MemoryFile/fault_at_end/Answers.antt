use Rattle.std.proofs.Common.{length, ap, ◌∙◌, arith}
use Rattle.std.proofs.lemmas.List.{length-drop}
use Rattle.status_base.proofs.worktree.memory_file.MemoryFile.fault_at_end.Goals as goal

pub returns-then-self-len : goal.returns-then-self-len
returns-then-self-len c = λ none.
    absurd (omega (arith, ap length (ap (λ f. f.bytes) c.self.view_is ∙ none), length-drop c.self.inside.position c.self.inside.bytes.items))
