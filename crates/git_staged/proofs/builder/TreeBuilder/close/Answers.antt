use Rattle.std.proofs.Common.{◌≡◌, ◌-◌, length, take, drop, ap, ◌∙◌, arith}
use Rattle.std.proofs.lemmas.List.{take_rest}
use Rattle.git_staged.proofs.Stack.{start_within, closed_folder, all_noted}
use Rattle.git_staged.proofs.builder.TreeBuilder.close.Goals as goal

pub slice_bounds-id_of_tree-count : goal.slice_bounds-id_of_tree-count
slice_bounds-id_of_tree-count c =
    let (fs, t, stack) = c.requires in
    let within = start_within c.args.kind c.args.self.now fs t c.pop.new.self.items c.in-Some.mark stack c.in-Some.ensures.items in
    omega (arith, within, ap length c.deref.ensures.value)

pub slice_bounds-id_of_tree-start : goal.slice_bounds-id_of_tree-start
slice_bounds-id_of_tree-start c = slice_bounds-id_of_tree-count c

pub returns-clause-closed : goal.returns-clause-closed
returns-clause-closed c = λ f fs t stack.
    let start = c.in-Some.mark.start in
    let bytes = c.deref.result.now in
    closed_folder c.args.kind c.args.self.now (record { bytes = c.extend_from_slice.new.self; path = c.truncate-2.new.self; marks = c.pop.new.self; folders = c.push.new.self }) f fs t c.in-Some.mark c.id_of_tree-id.result
    (take (length bytes - start) (drop start bytes)) c.extend_from_slice.result stack c.in-Some.ensures.items (take_rest bytes start ∙ ap (drop start) c.deref.ensures.value) c.id_of_tree-id.ensures
    (rw (c.truncate.ensures.items, c.as_bytes.ensures) at c.extend_from_slice.ensures.items) c.truncate-2.ensures.items

pub returns-clause-folders : goal.returns-clause-folders
returns-clause-folders c = λ es f fs t stack runs within folders.
    let start = c.in-Some.mark.start in
    let bytes = c.deref.result.now in
    let len : c.len.result ≡ length c.args.self.now.path.items = omega (arith, c.len.ensures, c.args.self.now.path.ok.0) in
    all_noted c.args.kind es c.args.self.now f fs t c.pop.new.self.items c.in-Some.mark c.args.number c.id_of_tree-id.result (take (length bytes - start) (drop start bytes)) c.push.new.self.items c.extend_from_slice.result
    stack runs within c.in-Some.ensures.items (take_rest bytes start ∙ ap (drop start) c.deref.ensures.value) c.id_of_tree-id.ensures (rw len at c.in_ok-push.ensures.items) folders
