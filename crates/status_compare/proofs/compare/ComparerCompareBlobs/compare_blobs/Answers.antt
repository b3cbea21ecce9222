use Rattle.std.proofs.Common.{◌≡◌, rules, option_map, Some, None}
use Rattle.std.proofs.lemmas.Result.{err_from_is_err_and}
use Rattle.status_index.specs.Entries.{entry_at}
use Rattle.status_compare.specs.declared.compare.Comparer.TheVariants.{Hash, Fast}
use Rattle.status_compare.proofs.Hashed.{hash_failed, hash_named, named_counts, sizes_failed, sizes_named}
use Rattle.status_compare.proofs.compare.ComparerCompareBlobs.compare_blobs.Goals as goal

pub returns-in_err-change-in-Hash-clause-answer : goal.returns-in_err-change-in-Hash-clause-answer
returns-in_err-change-in-Hash-clause-answer g c = λ path. let answer = c.in_err-change-in-Hash.ensures.answer path in search rules

pub returns-in_err-change-in-Fast-clause-answer : goal.returns-in_err-change-in-Fast-clause-answer
returns-in_err-change-in-Fast-clause-answer g c = λ path. let answer = c.in_err-change-in-Fast.ensures.answer path in search rules

pub returns-in_ok-change-in-Hash-clause-answer : goal.returns-in_ok-change-in-Hash-clause-answer
returns-in_ok-change-in-Hash-clause-answer g c = λ path. let answer = c.in_ok-change-in-Hash.ensures.answer path in search rules

pub returns-in_ok-change-in-Hash-clause-counts : goal.returns-in_ok-change-in-Hash-clause-counts
returns-in_ok-change-in-Hash-clause-counts g c = λ path. let counts = c.in_ok-change-in-Hash.ensures.counts path in search rules

pub returns-in_ok-change-in-Fast-clause-answer : goal.returns-in_ok-change-in-Fast-clause-answer
returns-in_ok-change-in-Fast-clause-answer g c = λ path. let answer = c.in_ok-change-in-Fast.ensures.answer path in search rules

pub returns-in_ok-change-in-Fast-clause-counts : goal.returns-in_ok-change-in-Fast-clause-counts
returns-in_ok-change-in-Fast-clause-counts g c = λ path. let counts = c.in_ok-change-in-Fast.ensures.counts path in search rules

pub returns-in_err-change-in-Hash-clause-seen : goal.returns-in_err-change-in-Hash-clause-seen
returns-in_err-change-in-Hash-clause-seen g c = λ path.
    let s = c.in_err-change-in-Hash.ensures.seen path in
    let p = err_from_is_err_and c.from_residual.result c.from_residual.ensures.1 in
    rw (p.1, p.2) (record {
      readings = s.readings;
      file = s.file;
      blob = s.blob;
      answer = hash_failed (entry_at path c.args.entry.now) c.args.size s.readings c.args.self.now c.in_err-change-in-Hash.field-0.0 c.in-Hash.is s.answer;
      counts = tt {0};
    })

pub returns-in_ok-change-in-Hash-clause-seen : goal.returns-in_ok-change-in-Hash-clause-seen
returns-in_ok-change-in-Hash-clause-seen g c = λ path.
    let s = c.in_ok-change-in-Hash.ensures.seen path in
    let mapped : c.map.result ≡ option_map Some c.in_ok-change-in-Hash.change = search rules in
    record {
      readings = s.readings;
      file = s.file;
      blob = s.blob;
      answer = hash_named (entry_at path c.args.entry.now) c.args.size s.readings c.args.self.now c.in_ok-change-in-Hash.change _ c.in-Hash.is s.answer mapped;
      counts = named_counts (entry_at path c.args.entry.now) c.args.size s.readings c.args.self.now Hash _ _ c.in-Hash.is s.counts;
    }

pub returns-in_err-change-in-Fast-clause-seen : goal.returns-in_err-change-in-Fast-clause-seen
returns-in_err-change-in-Fast-clause-seen g c = λ path.
    let s = c.in_err-change-in-Fast.ensures.seen path in
    let p = err_from_is_err_and c.from_residual-in_err-change-in-Fast.result c.from_residual-in_err-change-in-Fast.ensures.1 in
    rw (p.1, p.2) (record {
      readings = s.readings;
      file = s.file;
      blob = s.blob;
      answer = sizes_failed (entry_at path c.args.entry.now) c.args.size s.readings c.args.self.now c.in_err-change-in-Fast.field-0.0 c.in-Fast.is s.answer;
      counts = tt {0};
    })

pub returns-in_ok-change-in-Fast-clause-seen : goal.returns-in_ok-change-in-Fast-clause-seen
returns-in_ok-change-in-Fast-clause-seen g c = λ path.
    let s = c.in_ok-change-in-Fast.ensures.seen path in
    let mapped : c.map-in-Fast.result ≡ option_map (λ _. None) c.in_ok-change-in-Fast.change = search rules in
    record {
      readings = s.readings;
      file = s.file;
      blob = s.blob;
      answer = sizes_named (entry_at path c.args.entry.now) c.args.size s.readings c.args.self.now c.in_ok-change-in-Fast.change _ c.in-Fast.is s.answer mapped;
      counts = named_counts (entry_at path c.args.entry.now) c.args.size s.readings c.args.self.now Fast _ _ c.in-Fast.is s.counts;
    }
