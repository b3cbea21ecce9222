use Rattle.std.proofs.Common.{List, ap, ◌∙◌, take, rules, arith, refl}
use Rattle.std.proofs.lemmas.List.{take_all}
use Rattle.status_index.specs.Entries.{IndexEntry}
use Rattle.git_staged.specs.Trees.{index_tree_id, tree_object_id}
use Rattle.git_staged.proofs.Stack.{closed_last, all_closed, still_open}
use Rattle.git_staged.proofs.builder.TreeBuilder.finish.Goals as goal

pub close-requires : goal.close-requires
close-requires c =
    let (es, m) = c.requires in
    let (fs, u, h, left) = c.loop-self.invariant es m in
    (fs, u, h.stack)

pub loop-self-preserved : goal.loop-self-preserved
loop-self-preserved c = λ es m.
    let (fs, u, h, left) = c.loop-self.invariant es m in
    closed_last c.args.kind es c.args.len c.loop-self.self c.close.new.self fs u h (search rules)
    (λ f gs v o. still_open c.args.kind es c.args.len c.loop-self.self c.close.new.self f gs v (c.in_ok-close.ensures.closed f gs v o.stack) (c.in_ok-close.ensures.folders es f gs v o.stack o.runs o.within o.folders) o)

pub returns : goal.returns
returns c = λ es m whole.
    let (fs, u, h, left) = c.loop-self.invariant es m in
    let id = c.id_of_tree-id.ensures ∙ (ap (tree_object_id c.args.kind) c.as_slice.ensures.value ∙ all_closed c.args.kind es c.args.len c.loop-self.self fs u h (search rules)) in
    record {
      id = id ∙ ap (λ (l : List IndexEntry). index_tree_id c.args.kind l) (take_all c.args.len es (omega (arith, whole)));
      folders = h.folders;
    }
