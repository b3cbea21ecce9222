use Rattle.std.proofs.Common.{arith}
use Rattle.status_rewrites.specs.Buckets.{bucket_count}
use Rattle.status_rewrites.proofs.Dealing.{kind_few, mode_few}
use Rattle.status_rewrites.proofs.buckets.bucket_number.Goals as goal

pub returns-clause-below : goal.returns-clause-below
unfolding bucket_count
returns-clause-below c = omega (arith, kind_few c.kind.result, mode_few c.args.seen.now.mode)
