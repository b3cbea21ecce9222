use Rattle.std.proofs.Common.{◌≡◌, ◌+◌, ◌∙◌, length, map, arith, sym, ap}
use Rattle.git_patterns.specs.Views.{part_of}
use Rattle.git_patterns.specs.Wildmatch.{is_match}
use Rattle.git_patterns.proofs.Matching.{is_match_Matches}
use Rattle.git_patterns.proofs.Tables.{length_tests, last_test}
use Rattle.git_patterns.proofs.table.matches.Goals as goal

pub index-requires : goal.index-requires
index-requires c =
    let h : length c.in_ok-table.table.items ≡ length c.args.path.now + 1 =
    ap length c.in_ok-table.ensures ∙ length_tests (is_match (map part_of c.args.pieces.now)) c.args.path.now in
    omega (arith, h)

pub returns-clause-test : goal.returns-clause-test
returns-clause-test c = last_test (is_match (map part_of c.args.pieces.now)) c.args.path.now c.in_ok-table.table.items c.index.result.now c.in_ok-table.ensures c.index.ensures

pub returns-clause-matches : goal.returns-clause-matches
returns-clause-matches c =
    let h : c.index.result.now ≡ is_match (map part_of c.args.pieces.now) c.args.path.now = returns-clause-test c in
    let k = is_match_Matches (map part_of c.args.pieces.now) c.args.path.now in
    (λ e. k.0 (sym h ∙ e), λ m. h ∙ k.1 m)
