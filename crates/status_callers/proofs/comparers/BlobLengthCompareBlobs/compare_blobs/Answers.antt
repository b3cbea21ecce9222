use Rattle.std.proofs.Common.{inl, refl, rules, Ok, Err}
use Rattle.std.proofs.lemmas.Result.{err_from_is_err_and}
use Rattle.status_compare.specs.declared.error.Error.TheVariants.{Memory}
use Rattle.status_compare.specs.Reading.{fails}
use Rattle.status_callers.proofs.comparers.BlobLengthCompareBlobs.compare_blobs.Goals as goal

pub returns-in_err-blob-clause-seen : goal.returns-in_err-blob-clause-seen
returns-in_err-blob-clause-seen g c = λ path.
    let p = err_from_is_err_and c.from_residual.result c.from_residual.ensures.1 in
    rw (p.1, p.2) (record {
      readings = record { file = fails Memory; blob = Err c.in_err-blob.field-0.0 };
      file = g.met.R.ReadData.stream_may_fail c.args.data.now;
      blob = c.in_err-blob.ensures.seen;
      answer = inl refl;
      counts = tt {0};
    })

pub returns-clause-seen : goal.returns-clause-seen
returns-clause-seen g c = λ path. record {
  readings = record { file = fails Memory; blob = Ok c.in_ok-blob.blob.now };
  file = g.met.R.ReadData.stream_may_fail c.args.data.now;
  blob = c.in_ok-blob.ensures.seen;
  answer = search rules;
  counts = search rules;
}
