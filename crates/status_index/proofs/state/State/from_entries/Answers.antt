use Rattle.std.proofs.Common.{map, length, drop, ◌++◌, ◌∷◌, [], ◌+◌, rules}
use Rattle.std.proofs.lemmas.Result.{err_from_is_err_and}
use Rattle.std.proofs.lemmas.Iterator.Adapters.{YieldsList-from_vec}
use Rattle.std.proofs.lemmas.Iterator.Consumers.{YieldsList-turn, YieldsList-so_far}
use Rattle.status_index.specs.Entries.{IsRefusal, new_entry}
use Rattle.status_index.proofs.Refusals.{IsRefusal-more, Memory-from_index, new_entry-cut}
use Rattle.status_index.proofs.state.State.from_entries.Goals as goal

-- A refusal of an entry is a refusal of the whole list.
refused_list : (c : goal.After-drop-state-in_err-append) → IsRefusal (map new_entry c.args.entries.items) c.in_err-append.field-0.0
refused_list c =
    let all = c.args.entries.items in
    let xs = c.loop-entry.yielded in
    let x = c.in-Some.entry in
    let gives = YieldsList-from_vec all (cc) (search rules) in
    let turn = YieldsList-turn gives xs c.loop-entry.entry-iterator c.loop-entry.yielded_by c.next.result c.next.new.self x c.in-Some.is c.next.ensures.steps in
    let front = YieldsList-so_far gives xs c.loop-entry.entry-iterator c.loop-entry.yielded_by in
    let at_turn : IsRefusal (map new_entry xs ++ new_entry x ∷ []) c.in_err-append.field-0.0 = rw c.loop-entry.invariant.entries at c.in_err-append.ensures.refused in
    rw (new_entry-cut xs all x front turn) (IsRefusal-more (map new_entry xs ++ new_entry x ∷ []) (map new_entry (drop (length xs + 1) all)) _ at_turn)

pub returns-in_err-append-clause-valid : goal.returns-in_err-append-clause-valid
returns-in_err-append-clause-valid c =
    let p = err_from_is_err_and c.from_residual-in_err-append.result c.from_residual-in_err-append.ensures.1 in
    λ index. rw (p.1, p.2) (Memory-from_index (map new_entry c.args.entries.items) c.in_err-append.field-0.0 index (refused_list c))

pub returns-in_err-append-clause-refused : goal.returns-in_err-append-clause-refused
returns-in_err-append-clause-refused c =
    let p = err_from_is_err_and c.from_residual-in_err-append.result c.from_residual-in_err-append.ensures.1 in
    rw (p.1, p.2) (refused_list c)
