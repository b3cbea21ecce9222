use Rattle.std.proofs.Common.{◌∙◌, ap, ◌++◌, List, ℕ, ◌<◌, refl, Some, arith}
use Rattle.std.specs.List.{insert}
use Rattle.std.proofs.lemmas.Result.{err_from_is_err_and}
use Rattle.bstr.specs.BStr.{bstr_bytes}
use Rattle.status_index.specs.declared.entry.Entry.{Entry}
use Rattle.status_index.specs.Entries.{IsIndex, entry_of_fields, index_entries}
use Rattle.status_index.specs.States.{index_of}
use Rattle.status_index.specs.Staging.{IsPutRefusal, with_entry}
use Rattle.status_index.proofs.Places.{none_at}
use Rattle.status_index.proofs.Staging.{Memory-from_with, IsIndex-either, stored-new, stored-over}
use Rattle.status_index.proofs.Storages.{Extends, Extends-more, index_entries-kept}
use Rattle.status_index.proofs.state.State.put_entry.Goals as goal

pub returns-in_err-check_put-clause-valid : goal.returns-in_err-check_put-clause-valid
returns-in_err-check_put-clause-valid c =
    let a = c.args in
    let p = err_from_is_err_and c.from_residual.result c.from_residual.ensures.1 in
    let x = entry_of_fields (bstr_bytes a.path) a.stat a.id a.flags a.mode in
    let refused : IsPutRefusal (index_of a.self.now) x c.in_err-check_put.field-0.0 = rw (← c.as_bytes-path.ensures) (c.in_err-check_put.ensures.refused a.stat a.flags a.mode) in
    λ index. rw (p.1, p.2) (Memory-from_with (index_of a.self.now) x c.in_err-check_put.field-0.0 index refused)

pub returns-in_err-check_put-clause-refused : goal.returns-in_err-check_put-clause-refused
returns-in_err-check_put-clause-refused c =
    let a = c.args in
    let p = err_from_is_err_and c.from_residual.result c.from_residual.ensures.1 in
    rw (p.1, p.2, ← c.as_bytes-path.ensures) (c.in_err-check_put.ensures.refused a.stat a.flags a.mode)

pub invariant_of-self-in-Break-branch-3 : goal.invariant_of-self-in-Break-branch-3
invariant_of-self-in-Break-branch-3 c =
    let s = c.args.self.now in
    let grown : Extends s.backing c.push.new.self = Extends-more s.backing c.push.new.self _ _ c.push.ensures.bytes in
    record { valid = rw (c.reserve.ensures.items, index_entries-kept s.backing c.push.new.self s.entries.items grown s.valid) s.valid }

pub invariant_of-self-then-start-end : goal.invariant_of-self-then-start-end
invariant_of-self-then-start-end c =
    let a = c.args in
    let s = a.self.now in
    let path = bstr_bytes a.path in
    let e : Entry = record { stat = a.stat; id = a.id; flags = a.flags; mode = a.mode; path = c.in_ok-path.path } in
    let places = rw c.as_bytes-path.ensures at c.places_of-start.ensures in
    let grown = c.in_ok-path.ensures.bytes ∙ ap (λ (p : List ℕ). s.backing.bytes.items ++ p) c.as_bytes-path.ensures in
    let behind : IsIndex (with_entry (index_of s) path (Some (entry_of_fields path a.stat a.id a.flags a.mode))) = rw (← c.as_bytes-path.ensures) (c.in_ok-check_put.ensures.ok a.stat a.flags a.mode) in
    let kept = index_entries-kept s.backing c.push.new.self s.entries.items (record { rest = path; same = grown }) s.valid in
    let new = stored-new s.backing s.entries.items path s.valid _ _ places.start places.end c.push.new.self e c.if-start-end.true grown c.in_ok-path.ensures.start c.in_ok-path.ensures.end in
    record { valid = rw (c.insert.ensures.items, c.reserve.ensures.items) (IsIndex-either c.push.new.self _ (insert s.entries.items c.places_of-start.result.0 e) s.entries.items (rw new behind) (rw kept s.valid)) }

pub returns-then-start-end-clause-ok : goal.returns-then-start-end-clause-ok
returns-then-start-end-clause-ok c =
    let a = c.args in
    let s = a.self.now in
    let path = bstr_bytes a.path in
    let e : Entry = record { stat = a.stat; id = a.id; flags = a.flags; mode = a.mode; path = c.in_ok-path.path } in
    let places = rw c.as_bytes-path.ensures at c.places_of-start.ensures in
    let grown = c.in_ok-path.ensures.bytes ∙ ap (λ (p : List ℕ). s.backing.bytes.items ++ p) c.as_bytes-path.ensures in
    rw (c.in_ok-insert.ensures.items, c.reserve.ensures.items) (stored-new s.backing s.entries.items path s.valid _ _ places.start places.end c.push.new.self e c.if-start-end.true grown c.in_ok-path.ensures.start c.in_ok-path.ensures.end)

pub invariant_of-self-2 : goal.invariant_of-self-2
invariant_of-self-2 c =
    let a = c.args in
    let s = a.self.now in
    let path = bstr_bytes a.path in
    let old = c.index_mut-entry.result.now in
    let e : Entry = record { stat = a.stat; id = a.id; flags = a.flags; mode = a.mode; path = old.path } in
    let places = rw c.as_bytes-path.ensures at c.places_of-start.ensures in
    let left = c.drop-drain.ensures.items ∙ c.drain.ensures.kept in
    let some : c.places_of-start.result.0 < c.places_of-start.result.1 = omega (arith, c.if-start-end.false) in
    let over = stored-over s.backing s.entries.items path s.valid _ _ places.start places.end old e some (omega arith) c.index_mut-entry.ensures.value refl in
    let behind : IsIndex (with_entry (index_of s) path (Some (entry_of_fields path a.stat a.id a.flags a.mode))) = rw (← c.as_bytes-path.ensures) (c.in_ok-check_put.ensures.ok a.stat a.flags a.mode) in
    record { valid = rw (left, over) behind }

pub returns-clause-ok : goal.returns-clause-ok
returns-clause-ok c =
    let a = c.args in
    let s = a.self.now in
    let path = bstr_bytes a.path in
    let old = c.index_mut-entry.result.now in
    let e : Entry = record { stat = a.stat; id = a.id; flags = a.flags; mode = a.mode; path = old.path } in
    let places = rw c.as_bytes-path.ensures at c.places_of-start.ensures in
    let left = c.drop-drain.ensures.items ∙ c.drain.ensures.kept in
    let some : c.places_of-start.result.0 < c.places_of-start.result.1 = omega (arith, c.if-start-end.false) in
    ap (index_entries s.backing) left
    ∙ stored-over s.backing s.entries.items path s.valid _ _ places.start places.end old e some (omega arith) c.index_mut-entry.ensures.value refl

pub returns-in_err-path-clause-storage : goal.returns-in_err-path-clause-storage
returns-in_err-path-clause-storage c =
    let s = c.args.self.now in
    let places = rw c.as_bytes-path.ensures at c.places_of-start.ensures in
    λ there. absurd (none_at (index_of s) (bstr_bytes c.args.path) s.valid (omega (arith, places.start, places.end, c.if-start-end.true)) there)

pub returns-then-start-end-clause-storage : goal.returns-then-start-end-clause-storage
returns-then-start-end-clause-storage c =
    let s = c.args.self.now in
    let places = rw c.as_bytes-path.ensures at c.places_of-start.ensures in
    λ there. absurd (none_at (index_of s) (bstr_bytes c.args.path) s.valid (omega (arith, places.start, places.end, c.if-start-end.true)) there)

pub returns-in_err-check_put-clause-replaces : goal.returns-in_err-check_put-clause-replaces
returns-in_err-check_put-clause-replaces c =
    let a = c.args in
    let x = entry_of_fields (bstr_bytes a.path) a.stat a.id a.flags a.mode in
    let refused : IsPutRefusal (index_of a.self.now) x c.in_err-check_put.field-0.0 = rw (← c.as_bytes-path.ensures) (c.in_err-check_put.ensures.refused a.stat a.flags a.mode) in
    λ index there. absurd (c.in_err-check_put.ensures.certain (Memory-from_with (index_of a.self.now) x c.in_err-check_put.field-0.0 index refused))

pub returns-in_err-reserve-clause-replaces : goal.returns-in_err-reserve-clause-replaces
returns-in_err-reserve-clause-replaces c =
    let s = c.args.self.now in
    let places = rw c.as_bytes-path.ensures at c.places_of-start.ensures in
    λ index there. absurd (none_at (index_of s) (bstr_bytes c.args.path) s.valid (omega (arith, places.start, places.end, c.if-start-end.true)) there)

pub returns-in_err-path-clause-replaces : goal.returns-in_err-path-clause-replaces
returns-in_err-path-clause-replaces c =
    let s = c.args.self.now in
    let places = rw c.as_bytes-path.ensures at c.places_of-start.ensures in
    λ index there. absurd (none_at (index_of s) (bstr_bytes c.args.path) s.valid (omega (arith, places.start, places.end, c.if-start-end.true)) there)
