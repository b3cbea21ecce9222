use Rattle.std.proofs.Common.{◌≡◌, ◌<◌, ◌+◌, ◌-◌, ◌∙◌, ℕ, false, ap, arith, length, get_or}
use Rattle.std.proofs.lemmas.List.{drop-set-lt, length-set}
use Rattle.git_patterns.specs.Views.{part_of}
use Rattle.git_patterns.specs.Wildmatch.{after_piece}
use Rattle.git_patterns.proofs.Tables.{carry_more, finish, more, same_after, same_at, start, start_carry, start_value, value_more}
use Rattle.git_patterns.proofs.table.put_before.Goals as goal

pub suffixes-init : goal.suffixes-init
suffixes-init c =
    let part = part_of c.args.piece.now in let path = c.args.path.now in let table = c.args.table.now in
    let carry = c.carried_first-carry in let value = c.value_of in
    let n = length path - length path + 1 in
    record {
      done = λ p known. start (after_piece part p) path table n value.result (omega arith) (omega (arith, c.requires))
          (start_value p path part table false carry.result value.result known carry.ensures value.ensures);
      carries = λ p known. start_carry p path part table false carry.result known carry.ensures;
      kept = drop-set-lt n table 0 value.result (omega arith);
      last = ap (λ (k : ℕ). get_or table k false) (omega arith);
      inside = omega arith;
    }

pub suffixes-preserved : goal.suffixes-preserved
suffixes-preserved c =
    let part = part_of c.args.piece.now in let path = c.args.path.now in let before = c.args.table.now in
    let carry = c.carried_on-carry in let value = c.value_of-in-suffixes in let table = c.suffixes.table in
    let at = c.suffixes.at in let some = c.suffixes-test.true in let so_far = c.suffixes.invariant in
    let n = length path - at + 1 in let m = length path - (at - 1) + 1 in
    let next : m ≡ n + 1 = omega (arith, some, so_far.inside) in
    let room : n < length table = omega (arith, c.suffixes.auto.table ∙ length-set before 0 c.value_of.result, c.requires, some) in
    let here : get_or table n false ≡ get_or before n false = same_at n table before false so_far.kept in
    record {
      done = λ p known. more (after_piece part p) path at table n m value.result (so_far.done p known)
          (value_more part p path at some so_far.inside before false known (get_or table n false) carry.result value.result here
          (carry_more part p path at some so_far.inside before false known (get_or table n false) c.suffixes.after c.suffixes.carry carry.result here so_far.last
          (so_far.carries p known) carry.ensures)
          value.ensures)
          some so_far.inside next room;
      carries = λ p known. carry_more part p path at some so_far.inside before false known (get_or table n false) c.suffixes.after c.suffixes.carry carry.result here so_far.last
          (so_far.carries p known) carry.ensures;
      kept = drop-set-lt m table n value.result (omega (arith, next)) ∙ same_after n m table before next so_far.kept;
      last = here ∙ ap (λ (k : ℕ). get_or before k false) (omega (arith, some, so_far.inside));
      inside = omega (arith, so_far.inside);
    }

pub returns : goal.returns
returns c = λ p known.
    let long = c.suffixes.auto.table ∙ length-set c.args.table.now 0 c.value_of.result ∙ c.requires in
    finish (after_piece (part_of c.args.piece.now) p) c.args.path.now c.suffixes.at c.suffixes.table c.suffixes-test.false long (c.suffixes.invariant.done p known)
