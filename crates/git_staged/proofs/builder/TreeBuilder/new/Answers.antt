use Rattle.std.proofs.Common.{◌≡◌, ◌≤◌, [], refl, sym, subst, All, arith}
use Rattle.std.proofs.lemmas.List.Elements.{All-nil}
use Rattle.git_staged.specs.Folders.{IsFolder}
use Rattle.git_staged.specs.Trees.{no_items}
use Rattle.git_staged.proofs.builder.TreeBuilder.new.Goals as goal

pub returns : goal.returns
returns c = λ kind es. (
  [],
  no_items,
  record {
    stack = record { bytes = c.new.ensures.items; path = c.new-2.ensures.items; marks = c.new-3.ensures.items; named = tt };
    runs = refl;
    folders = subst (All (IsFolder kind es)) (sym c.new-4.ensures.items) (All-nil (IsFolder kind es));
    within = omega (arith);
  },
  λ path. tt,
)
