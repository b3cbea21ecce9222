use Rattle.std.proofs.Common.{◌≡◌, ap, ◌∙◌, inl, refl, rules, Err}
use Rattle.std.proofs.lemmas.Result.{err_from_is_err_and}
use Rattle.status_index.specs.Content.{saturate}
use Rattle.status_compare.specs.declared.error.Error.TheVariants.{Memory}
use Rattle.status_compare.specs.Comparers.{changed_id}
use Rattle.status_compare.specs.Reading.{fails}
use Rattle.status_compare.proofs.Hashed.{failed_answer, hashed_answer, hashed_counts}
use Rattle.status_compare.proofs.compare.HashEqCompareBlobs.compare_blobs.Goals as goal

pub returns-in_err-stream-clause-seen : goal.returns-in_err-stream-clause-seen
returns-in_err-stream-clause-seen g c = λ path.
    let p = err_from_is_err_and c.from_residual.result c.from_residual.ensures.1 in
    rw (p.1, p.2) (record {
      readings = record { file = fails c.in_err-stream.field-0.0; blob = Err Memory };
      file = c.in_err-stream.ensures.seen;
      blob = g.met.R.ReadData.blob_may_fail c.args.data.now;
      answer = inl refl;
      counts = tt {0};
    })

pub returns-in_err-id-clause-seen : goal.returns-in_err-id-clause-seen
returns-in_err-id-clause-seen g c = λ path.
    let p = err_from_is_err_and c.from_residual-in_err-id.result c.from_residual-in_err-id.ensures.1 in
    let stream = c.in_ok-stream.ensures.seen in
    let id = c.in_err-id.ensures.seen stream.0 in
    rw (p.1, p.2) (record {
      readings = record { file = id.reading; blob = Err Memory };
      file = (stream.1 id.reading id.given).0;
      blob = g.met.R.ReadData.blob_may_fail c.args.data.now;
      answer = failed_answer c.args.entry.now.id c.kind.result id.reading c.in_err-id.field-0.0 c.kind.ensures id.id;
      counts = tt {0};
    })

pub returns-clause-seen : goal.returns-clause-seen
returns-clause-seen g c = λ path.
    let stream = c.in_ok-stream.ensures.seen in
    let id = c.in_ok-id.ensures.seen stream.0 in
    let read = stream.1 id.reading id.given in
    let changed : c.then_some.result ≡ changed_id c.args.entry.now.id c.in_ok-id.id = search rules in
    record {
      readings = record { file = id.reading; blob = Err Memory };
      file = read.0;
      blob = g.met.R.ReadData.blob_may_fail c.args.data.now;
      answer = hashed_answer c.args.entry.now.id c.in_ok-id.id c.kind.result id.reading c.then_some.result c.kind.ensures id.id.0 changed;
      counts = hashed_counts id.reading c.kind.result c.in_ok-id.id _ _ _ c.bytes.result id.id.0 read.1 c.counted.ensures.counts (ap saturate c.bytes.ensures ∙ id.id.1);
    }
