use Rattle.std.proofs.Common.{◌≡◌, ℕ, List, ◌<◌, ◌+◌, ◌-◌, ◌++◌, [], length, take, drop, arith, ap, sym, ◌∙◌}
use Rattle.std.proofs.lemmas.List.{length-take, length-take-le, take_rest}
use Rattle.bstr.specs.Owned.{bstring_bytes}
use Rattle.status_base.specs.Paths.{joined}
use Rattle.status_base.proofs.CommonFronts.{joined_again, joined_parts}
use Rattle.status_base.proofs.stack.Parts.write.Goals as goal

pub returns-clause-joined : goal.returns-clause-joined
returns-clause-joined c =
    let old = c.args.self.now in
    let path = c.args.path.now in
    let tested : 0 < old.tested = omega (arith, c.requires.within_one, length-take old.tested (drop old.start old.buffer.items)) in
    let again : take (old.start + c.args.common) old.buffer.items ++ drop c.args.common path ≡ joined (bstring_bytes old.root) path = joined_again (bstring_bytes old.root) path old.buffer.items old.start old.tested c.args.common (old.below tested) c.requires in
    let rest : List ℕ = take (length path - c.args.common) (drop c.args.common path) in
    let items : c.extend_from_slice.new.self.items ≡ c.truncate.new.self.items ++ rest = c.in_ok-extend_from_slice.ensures.items in
    items
    ∙ ap (λ (v : List ℕ). v ++ rest) c.truncate.ensures.items
    ∙ ap (λ (v : List ℕ). take (old.start + c.args.common) old.buffer.items ++ v) (take_rest path c.args.common)
    ∙ again

pub returns-clause-path : goal.returns-clause-path
returns-clause-path c =
    let old = c.args.self.now in
    let path = c.args.path.now in
    let tested : 0 < old.tested = omega (arith, c.requires.within_one, length-take old.tested (drop old.start old.buffer.items)) in
    let long : length (joined (bstring_bytes old.root) []) ≡ old.start = ap length (sym (old.below tested)) ∙ length-take-le old.start old.buffer.items (omega arith) in
    (joined_parts (bstring_bytes old.root) path c.extend_from_slice.new.self.items old.start long (returns-clause-joined c)).1
