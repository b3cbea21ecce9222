use Rattle.std.proofs.Common.{◌≡◌, ◌∙◌, sym, ◌<◌, ◌≢◌, [], length, arith}
use Rattle.std.proofs.lemmas.List.{length-map}
use Rattle.std.specs.declared.cmp.Ordering.TheVariants.{Less}
use Rattle.status_index.specs.BlobId.{id_kind}
use Rattle.status_index.specs.Entries.{index_entry, entry_of_fields, entry_cmp}
use Rattle.status_index.specs.States.{entries_of, backing_of, index_of}
use Rattle.status_index.proofs.Refusals.{IsLast-listed, Less-unless_ge, apart-from_ne, same-from_ne, NotAscending-push, MixedHash-push, IsIndex-push}
use Rattle.status_index.proofs.state.State.check_next.Goals as goal

pub returns-then-is_ge-clause-refused : goal.returns-then-is_ge-clause-refused
returns-then-is_ge-clause-refused c stat mode =
    let s = c.args.self.now in
    let y = entry_of_fields c.args.path.now stat c.args.id c.args.flags mode in
    let item = rw c.deref.ensures.value at c.in-Some.ensures.item in
    let last = IsLast-listed (backing_of s) (entries_of s) c.in-Some.last.now item.3.0 item.3.1 in
    let long : c.len-at.result ≡ length (index_of s) = omega (arith, length-map (entries_of s) (index_entry (backing_of s))) in
    let named : y.path ≡ [] → ⊥ = λ e. grind arith in
    let high : entry_cmp (index_entry (backing_of s) c.in-Some.last.now) y ≢ Less = λ e. let r = rw (c.order.ensures ∙ e) at c.is_ge.ensures in cc in
    NotAscending-push (index_of s) c.len-at.result y long s.valid _ last named high

pub returns-then-ne-clause-refused : goal.returns-then-ne-clause-refused
returns-then-ne-clause-refused c stat mode =
    let s = c.args.self.now in
    let x = index_entry (backing_of s) c.in-Some.last.now in
    let y = entry_of_fields c.args.path.now stat c.args.id c.args.flags mode in
    let item = rw c.deref.ensures.value at c.in-Some.ensures.item in
    let last = IsLast-listed (backing_of s) (entries_of s) c.in-Some.last.now item.3.0 item.3.1 in
    let long : c.len-at.result ≡ length (index_of s) = omega (arith, length-map (entries_of s) (index_entry (backing_of s))) in
    let named : y.path ≡ [] → ⊥ = λ e. grind arith in
    let less : entry_cmp x y ≡ Less = sym c.order.ensures ∙ Less-unless_ge c.order.result (sym c.is_ge.ensures ∙ c.if-is_ge.false) in
    let other : id_kind x.id ≡ id_kind y.id → ⊥ = λ e. apart-from_ne _ _ _ c.ne.ensures c.if-ne.true (c.kind.ensures ∙ e ∙ sym c.kind-2.ensures) in
    MixedHash-push (index_of s) c.len-at.result y long s.valid x last named less other

pub returns-clause-ok : goal.returns-clause-ok
returns-clause-ok c stat mode =
    let s = c.args.self.now in
    let x = index_entry (backing_of s) c.in-Some.last.now in
    let y = entry_of_fields c.args.path.now stat c.args.id c.args.flags mode in
    let item = rw c.deref.ensures.value at c.in-Some.ensures.item in
    let last = IsLast-listed (backing_of s) (entries_of s) c.in-Some.last.now item.3.0 item.3.1 in
    let named : 0 < length y.path = grind arith in
    let less : entry_cmp x y ≡ Less = sym c.order.ensures ∙ Less-unless_ge c.order.result (sym c.is_ge.ensures ∙ c.if-is_ge.false) in
    let kind : id_kind x.id ≡ id_kind y.id = sym c.kind.ensures ∙ same-from_ne _ _ _ c.ne.ensures c.if-ne.false ∙ c.kind-2.ensures in
    IsIndex-push (index_of s) x y s.valid last named less kind
