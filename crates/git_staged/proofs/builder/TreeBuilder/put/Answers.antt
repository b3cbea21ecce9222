use Rattle.std.proofs.Common.{refl}
use Rattle.git_staged.proofs.Stack.{reached, opened, leaf_put}
use Rattle.git_staged.proofs.builder.TreeBuilder.put.Goals as goal

pub components-init : goal.components-init
components-init c = λ es m staged.
    reached c.args.kind es c.args.number c.close_others.new.self c.args.path.now c.in_ok-rest.rest.now c.args.mode c.args.id staged (c.in_ok-rest.ensures es m)

pub components-preserved : goal.components-preserved
components-preserved c = λ es m staged.
    opened c.args.kind es c.args.number c.components.self c.open_folder.new.self c.args.path.now c.components.rest.now c.in-Some.name.now c.in-Some.inner.now c.args.mode c.args.id staged
    (c.components.invariant es m staged) c.in-Some.ensures.0 c.in-Some.ensures.1 (λ fs u h. c.in_ok-open_folder.ensures.stack c.args.kind fs u h c.in-Some.ensures.0) c.in_ok-open_folder.ensures.folders

pub returns : goal.returns
returns c = λ es m staged.
    leaf_put c.args.kind es c.args.number c.components.self (record { bytes = c.push_item.new.bytes; path = c.components.self.path; marks = c.components.self.marks; folders = c.components.self.folders }) c.args.path.now c.components.rest.now
    c.args.mode c.args.id c.push_item.result staged (c.components.invariant es m staged) c.in_default.ensures refl refl refl c.push_item.ensures
