use Rattle.std.proofs.Common.{◌≡◌, [], ◌≤◌, length, drop, arith, sym, ap, ◌∙◌, Ok}
use Rattle.status_index.proofs.Gifts.{known_step}
use Rattle.status_base.proofs.FileReads.{read_front, read_nothing}
use Rattle.status_base.proofs.worktree.memory_file.MemoryFileReadBytes.read_bytes.Goals as goal

pub returns-clause-bytes : goal.returns-clause-bytes
returns-clause-bytes c =
    let bytes = c.self.inside.bytes.items in let at = c.self.inside.position in
    let left : drop at bytes ≡ c.args.self.now.bytes = ap (λ f. f.bytes) c.self.view_is in
    let fault : c.self.inside.fault ≡ c.args.self.now.fault = ap (λ f. f.fault) c.self.view_is in
    let inside : at ≤ length bytes = omega (arith, ap length c.deref.ensures.value) in
    let count = rw c.deref.ensures.value at c.min-count.ensures in
    let copied = rw c.deref.ensures.value at c.copy_from_slice.ensures.after in
    let end = rw c.in_default.is at c.fault_at_end.ensures in (
      sym left ∙ read_front bytes c.args.buffer.now _ at _ inside count copied,
      fault,
      λ none room. let ended : c.args.self.now.bytes ≡ [] = sym left ∙ read_nothing bytes c.args.buffer.now _ at _ inside count copied none room in (ended, end ended),
    )

pub returns-clause-seen : goal.returns-clause-seen
returns-clause-seen c = known_step c.args.self.now _ (Ok _) _ (returns-clause-bytes c)
