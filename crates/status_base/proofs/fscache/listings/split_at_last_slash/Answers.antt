use Rattle.std.proofs.Common.{◌≡◌, ℕ, ◌+◌, ◌-◌, arith, take, drop, sym, ap, ◌∙◌}
use Rattle.std.proofs.lemmas.List.{take_rest}
use Rattle.status_base.proofs.ListingTables.{split_at, split_none}
use Rattle.status_base.proofs.fscache.listings.split_at_last_slash.Goals as goal

pub returns-in-Some : goal.returns-in-Some
returns-in-Some c =
    let path = c.args.path.now in
    let is = split_at path c.in-Some.at (c.in-Some.ensures).0.high (c.in-Some.ensures).0.after (c.in-Some.ensures).1 in
    let front : c.in-Some.at + 1 - 1 ≡ c.in-Some.at = omega arith in
    record {
      directory = sym (ap (λ (n : ℕ). take (n - 1) path) is ∙ ap (λ (n : ℕ). take n path) front);
      name = take_rest path (c.in-Some.at + 1) ∙ sym (ap (λ (n : ℕ). drop n path) is);
    }

pub returns-in-None : goal.returns-in-None
returns-in-None c =
    let path = c.args.path.now in
    let is = split_none path c.in-None.ensures in
    record {
      directory = sym (ap (λ (n : ℕ). take (n - 1) path) is);
      name = sym (ap (λ (n : ℕ). drop n path) is);
    }
