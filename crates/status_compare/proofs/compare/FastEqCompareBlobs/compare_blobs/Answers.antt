use Rattle.std.proofs.Common.{◌≡◌, true, false, inl, sym, ◌∙◌, rules, Err}
use Rattle.std.proofs.lemmas.Result.{err_from_is_err_and}
use Rattle.status_index.specs.Entries.{entry_at}
use Rattle.status_compare.specs.declared.error.Error.TheVariants.{Memory}
use Rattle.status_compare.specs.Comparers.{size_decides, without_id}
use Rattle.status_compare.specs.Reading.{fails}
use Rattle.status_compare.proofs.Hashed.{fast_counted, fast_decided, fast_failed, fast_hashed, fast_uncounted}
use Rattle.status_compare.proofs.compare.FastEqCompareBlobs.compare_blobs.Goals as goal

pub returns-then-size_decides-clause-answer : goal.returns-then-size_decides-clause-answer
returns-then-size_decides-clause-answer g c = λ path. let decides = c.size_decides.ensures path in search rules

pub returns-then-size_decides-clause-counts : goal.returns-then-size_decides-clause-counts
returns-then-size_decides-clause-counts g c = λ path. let decides = c.size_decides.ensures path in search rules

pub returns-in_err-change-clause-answer : goal.returns-in_err-change-clause-answer
returns-in_err-change-clause-answer g c = λ path.
    let decides = c.size_decides.ensures path in
    let answer = c.in_err-change.ensures.answer path in search rules

pub returns-clause-answer : goal.returns-clause-answer
returns-clause-answer g c = λ path.
    let decides = c.size_decides.ensures path in
    let answer = c.in_ok-change.ensures.answer path in search rules

pub returns-clause-counts : goal.returns-clause-counts
returns-clause-counts g c = λ path.
    let decides = c.size_decides.ensures path in
    let counts = c.in_ok-change.ensures.counts path in search rules

pub returns-then-size_decides-clause-seen : goal.returns-then-size_decides-clause-seen
returns-then-size_decides-clause-seen g c = λ path.
    let decides : size_decides (entry_at path c.args.entry.now) c.args.size ≡ true = sym (c.size_decides.ensures path) ∙ c.if-size_decides.true in
    record {
      readings = record { file = fails Memory; blob = Err Memory };
      file = g.met.R.ReadData.stream_may_fail c.args.data.now;
      blob = g.met.R.ReadData.blob_may_fail c.args.data.now;
      answer = inl (sym (fast_decided (entry_at path c.args.entry.now) c.args.size (fails Memory) decides));
      counts = sym (fast_uncounted (entry_at path c.args.entry.now) c.args.size (fails Memory) (g.R.ReadData.counts c.args.data.now) decides);
    }

pub returns-in_err-change-clause-seen : goal.returns-in_err-change-clause-seen
returns-in_err-change-clause-seen g c = λ path.
    let p = err_from_is_err_and c.from_residual.result c.from_residual.ensures.1 in
    let s = c.in_err-change.ensures.seen path in
    let open_ : size_decides (entry_at path c.args.entry.now) c.args.size ≡ false = sym (c.size_decides.ensures path) ∙ c.if-size_decides.false in
    rw (p.1, p.2) (record {
      readings = s.readings;
      file = s.file;
      blob = s.blob;
      answer = fast_failed (entry_at path c.args.entry.now) c.args.size s.readings.file c.in_err-change.field-0.0 open_ s.answer;
      counts = tt {0};
    })

pub returns-clause-seen : goal.returns-clause-seen
returns-clause-seen g c = λ path.
    let s = c.in_ok-change.ensures.seen path in
    let open_ : size_decides (entry_at path c.args.entry.now) c.args.size ≡ false = sym (c.size_decides.ensures path) ∙ c.if-size_decides.false in
    let mapped : c.map.result ≡ without_id c.in_ok-change.change = search rules in
    record {
      readings = s.readings;
      file = s.file;
      blob = s.blob;
      answer = fast_hashed (entry_at path c.args.entry.now) c.args.size s.readings.file c.in_ok-change.change c.map.result open_ s.answer mapped;
      counts = s.counts ∙ sym (fast_counted (entry_at path c.args.entry.now) c.args.size s.readings.file (g.R.ReadData.counts c.args.data.now) open_);
    }
