use Rattle.std.proofs.Common.{◌≡◌, false, true, refl, sym, ◌∙◌}
use Rattle.status_index.specs.Entries.{entry_at}
use Rattle.status_index.specs.FlagBits.{has_bits}
use Rattle.status_index.specs.declared.entry.TheConstants.Flags.{INTENT_TO_ADD}
use Rattle.git_staged.proofs.Stack.{passed}
use Rattle.git_staged.proofs.write_tree.put_entry.Goals as goal

pub put-requires : goal.put-requires
put-requires c = c.requires

pub returns-then-intersects : goal.returns-then-intersects
returns-then-intersects c = λ es m next.
    let intended : has_bits c.args.entry.now.flags.0 INTENT_TO_ADD.0 ≡ true = sym (c.intersects.ensures tt) ∙ c.if-intersects.true in
    passed c.args.kind es c.args.number c.args.tree.now (entry_at c.args.path.now c.args.entry.now) next intended m

pub returns : goal.returns
returns c = λ es m next.
    let kept : has_bits c.args.entry.now.flags.0 INTENT_TO_ADD.0 ≡ false = sym (c.intersects.ensures tt) ∙ c.if-intersects.false in
    c.put.ensures es m (record { entry = entry_at c.args.path.now c.args.entry.now; next = next; staged = kept; path_is = sym c.path_of_item-leaf.ensures; mode_is = refl; id_is = refl })
