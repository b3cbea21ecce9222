use Rattle.std.proofs.Common.{◌≡◌, length, subst, sym}
use Rattle.git_patterns.proofs.Items.{after, all, read_more}
use Rattle.git_attributes.specs.Quoted.{quoted_at}
use Rattle.git_attributes.proofs.Leaving.{quoted_leaves}
use Rattle.git_attributes.proofs.words.unquoted.Goals as goal

pub bytes-preserved : goal.bytes-preserved
bytes-preserved c =
    let whole = all length quoted_at c.args.text.now in let byte = c.in-Some.byte in let after_it = c.in-Some.after.now in
    subst (λ items. after items (all length quoted_at after_it) ≡ whole) (sym c.in_ok-push.ensures.items)
    (read_more length quoted_at quoted_leaves whole c.bytes.bytes.items c.bytes.rest.now (byte, after_it) c.bytes.invariant (sym c.in-Some.ensures))
