use Rattle.std.proofs.Common.{refl, ap, ◌∙◌, ℕ, List, [], ◌∷◌, ◌++◌}
use Rattle.std.proofs.lemmas.Result.{err_from_is_err_and}
use Rattle.bstr.specs.BStr.{bstr_bytes}
use Rattle.status_index.specs.declared.entry.Entry.{Entry}
use Rattle.status_index.specs.Entries.{IsIndex, IsRefusal, entry_of_fields}
use Rattle.status_index.specs.States.{index_of}
use Rattle.status_index.proofs.Refusals.{Memory-from_index}
use Rattle.status_index.proofs.Storages.{Extends, Extends-more, index_entries-kept, index-push}
use Rattle.status_index.proofs.state.State.push_entry.Goals as goal

pub returns-in_err-check_next-clause-valid : goal.returns-in_err-check_next-clause-valid
returns-in_err-check_next-clause-valid c =
    let a = c.args in
    let p = err_from_is_err_and c.from_residual.result c.from_residual.ensures.1 in
    let es = index_of a.self.now ++ entry_of_fields (bstr_bytes a.path) a.stat a.id a.flags a.mode ∷ [] in
    let refused : IsRefusal es c.in_err-check_next.field-0.0 = rw (← c.as_bytes-path.ensures) (c.in_err-check_next.ensures.refused a.stat a.mode) in
    λ index. rw (p.1, p.2) (Memory-from_index es c.in_err-check_next.field-0.0 index refused)

pub returns-in_err-check_next-clause-refused : goal.returns-in_err-check_next-clause-refused
returns-in_err-check_next-clause-refused c =
    let p = err_from_is_err_and c.from_residual.result c.from_residual.ensures.1 in
    rw (p.1, p.2, ← c.as_bytes-path.ensures) (c.in_err-check_next.ensures.refused c.args.stat c.args.mode)

pub invariant_of-self-in-Break-branch-3 : goal.invariant_of-self-in-Break-branch-3
invariant_of-self-in-Break-branch-3 c =
    let s = c.args.self.now in
    let grown : Extends s.backing c.push.new.self = Extends-more s.backing c.push.new.self _ _ c.push.ensures.bytes in
    record { valid = rw (c.reserve.ensures.items, index_entries-kept s.backing c.push.new.self s.entries.items grown s.valid) s.valid }

pub invariant_of-self-2 : goal.invariant_of-self-2
invariant_of-self-2 c =
    let a = c.args in
    let s = a.self.now in
    let path = bstr_bytes a.path in
    let e : Entry = record { stat = a.stat; id = a.id; flags = a.flags; mode = a.mode; path = c.in_ok-path.path } in
    let x = entry_of_fields path a.stat a.id a.flags a.mode in
    let grown = c.in_ok-path.ensures.bytes ∙ ap (λ (p : List ℕ). s.backing.bytes.items ++ p) c.as_bytes-path.ensures in
    let behind : IsIndex (index_of s ++ x ∷ []) = rw (← c.as_bytes-path.ensures) (c.in_ok-check_next.ensures.ok a.stat a.mode) in
    record { valid = rw (c.push_reserved.ensures.items, c.reserve.ensures.items, index-push s.backing c.push.new.self s.entries.items e path x grown c.in_ok-path.ensures.start c.in_ok-path.ensures.end refl s.valid) behind }

pub returns-clause-ok : goal.returns-clause-ok
returns-clause-ok c =
    let a = c.args in
    let s = a.self.now in
    let path = bstr_bytes a.path in
    let e : Entry = record { stat = a.stat; id = a.id; flags = a.flags; mode = a.mode; path = c.in_ok-path.path } in
    let x = entry_of_fields path a.stat a.id a.flags a.mode in
    let grown = c.in_ok-path.ensures.bytes ∙ ap (λ (p : List ℕ). s.backing.bytes.items ++ p) c.as_bytes-path.ensures in
    rw (c.push_reserved.ensures.items, c.reserve.ensures.items) (index-push s.backing c.push.new.self s.entries.items e path x grown c.in_ok-path.ensures.start c.in_ok-path.ensures.end refl s.valid)
