use Rattle.std.proofs.Common.{◌-◌, ◌∙◌, length, map, take, drop, ap, sym, arith}
use Rattle.std.proofs.lemmas.List.{nil_from_length}
use Rattle.git_patterns.specs.Tables.{tests}
use Rattle.git_patterns.specs.Views.{part_of}
use Rattle.git_patterns.specs.Wildmatch.{is_match}
use Rattle.git_patterns.proofs.Tables.{empty_table, length_tests, parted, written}
use Rattle.git_patterns.proofs.table.+table_of.Goals as goal

pub put_before-requires : goal.put_before-requires
put_before-requires t c =
    let pieces = c.args.pieces.now in let rest = take (length pieces - 1) (drop 1 pieces) in
    ap length (c.deref_mut.ensures.value ∙ c.in_ok-table-in-len1-up.ensures) ∙ length_tests (is_match (map part_of rest)) c.args.path.now

pub returns-in_ok-table-in-empty : goal.returns-in_ok-table-in-empty
returns-in_ok-table-in-empty t c =
    let none = nil_from_length c.args.pieces.now (omega (arith, c.in-empty.len_below)) in
    empty_table c.args.path.now c.in_ok-table-in-empty.table.items (c.in_ok-table-in-empty.ensures.items_if_clones_equal (λ y e. e))
    ∙ sym (ap (λ xs. tests (is_match (map part_of xs)) c.args.path.now) none)

pub returns-in_ok-table-in-len1-up : goal.returns-in_ok-table-in-len1-up
returns-in_ok-table-in-len1-up t c =
    let pieces = c.args.pieces.now in let rest = take (length pieces - 1) (drop 1 pieces) in let path = c.args.path.now in
    let table = c.in_ok-table-in-len1-up.table in let new = c.put_before.new.table in
    let whole = parted pieces c.piece-item.result c.in-len1-up.len_at_least c.piece-item.is in
    let known = c.deref_mut.ensures.value ∙ c.in_ok-table-in-len1-up.ensures in
    let is = c.put_before.ensures (is_match (map part_of rest)) known ∙ sym (ap (λ xs. tests (is_match (map part_of xs)) path) whole) in
    let long = ap length is ∙ length_tests (is_match (map part_of pieces)) path in
    let was_long = ap length c.in_ok-table-in-len1-up.ensures ∙ length_tests (is_match (map part_of rest)) path in
    let h = c.deref_mut.ensures.len in
    written table.len new table.items (omega (arith, long, was_long, h)) (omega (arith, was_long, h)) ∙ is
