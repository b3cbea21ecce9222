use Rattle.std.proofs.Common.{◌≡◌, ◌∙◌, sym, ◌<◌, ◌≤◌, inl, inr, length, None, arith}
use Rattle.std.specs.List.{Contains}
use Rattle.std.proofs.lemmas.List.{length-map, nil_from_length}
use Rattle.status_index.specs.BlobId.{id_kind}
use Rattle.status_index.specs.Entries.{index_entry, entry_of_fields}
use Rattle.status_index.specs.States.{entries_of, backing_of, index_of}
use Rattle.status_index.specs.Staging.{with_entry}
use Rattle.status_index.proofs.Indexes.{index_entry_read}
use Rattle.status_index.proofs.Refusals.{apart-from_ne, same-from_ne}
use Rattle.status_index.proofs.Places.{place_is}
use Rattle.status_index.proofs.Staging.{ShowsKind, among_others, IsIndex-alone, IsIndex-among}
use Rattle.status_index.proofs.state.State.check_put.Goals as goal
use Rattle.status_index.proofs.state.State.check_put.Goals.{then-start-gt0, else-start-gt0}

pub returns-then-is_empty-clause-refused : goal.returns-then-is_empty-clause-refused
returns-then-is_empty-clause-refused c stat flags mode =
    let s = c.args.self.now in
    (c.requires.start ∙ place_is (index_of s) c.args.path.now s.valid, nil_from_length c.args.path.now (grind arith))

pub returns-in_default-clause-ok : goal.returns-in_default-clause-ok
returns-in_default-clause-ok c stat flags mode =
    let s = c.args.self.now in
    let es = index_of s in
    let p = c.args.path.now in
    let x = entry_of_fields p stat c.args.id flags mode in
    let named : 0 < length p = grind arith in
    let outside = rw c.deref.ensures.value at c.in_default.ensures.lookup in
    let past : length es ≤ c.if-start-gt0.place = omega (arith, outside.3, length-map (entries_of s) (index_entry (backing_of s))) in
    let shown : ShowsKind es p c.if-start-gt0.place =
    elim c.if-start-gt0.branch [
      | then-start-gt0 w ↦ inl (omega (arith, c.requires.start, w.if-start-gt0.true), w.place-is)
      | else-start-gt0 w ↦ inr (omega (arith, c.requires.start, w.if-start-gt0.false), w.place-is ∙ c.requires.end)
    ] in
    IsIndex-alone es x s.valid named c.if-start-gt0.place past shown

pub returns-then-ne-clause-refused : goal.returns-then-ne-clause-refused
returns-then-ne-clause-refused c stat flags mode =
    let s = c.args.self.now in
    let es = index_of s in
    let p = c.args.path.now in
    let x = index_entry (backing_of s) c.in-Some.other.now in
    let item = rw c.deref.ensures.value at c.in-Some.ensures.lookup in
    let k = c.if-start-gt0.place in
    let inside : k < length es = omega (arith, item.3.0, length-map (entries_of s) (index_entry (backing_of s))) in
    let read = index_entry_read (backing_of s) (entries_of s) k c.in-Some.other.now item.3.0 (item.3.1 c.in-Some.other.now) x in
    let shown : ShowsKind es p c.if-start-gt0.place =
    elim c.if-start-gt0.branch [
      | then-start-gt0 w ↦ inl (omega (arith, c.requires.start, w.if-start-gt0.true), w.place-is)
      | else-start-gt0 w ↦ inr (omega (arith, c.requires.start, w.if-start-gt0.false), w.place-is ∙ c.requires.end)
    ] in
    let stands : Contains (with_entry es p None) x = among_others es p s.valid x k inside read shown in
    let other : id_kind x.id ≡ id_kind c.args.id → ⊥ = λ e. apart-from_ne _ _ _ c.ne.ensures c.if-ne.true (c.kind.ensures ∙ e ∙ sym c.kind-2.ensures) in
    (c.requires.start ∙ place_is es p s.valid, λ e. grind arith, (stands.0, x, stands.1, stands.2, other))

pub returns-clause-ok : goal.returns-clause-ok
returns-clause-ok c stat flags mode =
    let s = c.args.self.now in
    let es = index_of s in
    let p = c.args.path.now in
    let x = index_entry (backing_of s) c.in-Some.other.now in
    let y = entry_of_fields p stat c.args.id flags mode in
    let named : 0 < length p = grind arith in
    let item = rw c.deref.ensures.value at c.in-Some.ensures.lookup in
    let k = c.if-start-gt0.place in
    let inside : k < length es = omega (arith, item.3.0, length-map (entries_of s) (index_entry (backing_of s))) in
    let read = index_entry_read (backing_of s) (entries_of s) k c.in-Some.other.now item.3.0 (item.3.1 c.in-Some.other.now) in
    let kind : id_kind x.id ≡ id_kind y.id = sym c.kind.ensures ∙ same-from_ne _ _ _ c.ne.ensures c.if-ne.false ∙ c.kind-2.ensures in
    IsIndex-among es y s.valid named k x inside read kind
