use Rattle.std.proofs.Common.{◌≡◌, true}
use Rattle.git_index.specs.declared.fault.IndexFileError.TheVariants as errors
use Rattle.git_index.proofs.FileRead.{header_refusal}
use Rattle.git_index.proofs.OneFile.{not_refused, only_of}
use Rattle.git_index.proofs.read.read_index.Goals as goal

pub returns-in-Err-clause-refused : goal.returns-in-Err-clause-refused
returns-in-Err-clause-refused c = header_refusal c.args.kind c.args.bytes.now c.in-Err.error c.in-Err.ensures.refused

pub returns-in-Err-clause-only : goal.returns-in-Err-clause-only
returns-in-Err-clause-only c = λ es f valid. not_refused c.args.kind c.args.bytes.now es c.in-Err.error f valid (returns-in-Err-clause-refused c)

pub returns-then-not-ends_with_checksum-clause-refused : goal.returns-then-not-ends_with_checksum-clause-refused
returns-then-not-ends_with_checksum-clause-refused c =
    let header = c.in_default.ensures.header in
    record {
      applies = λ h. let t : c.ends_with_checksum.result ≡ true = c.ends_with_checksum.ensures.1 h in absurd cc;
      passes = record { version = _; count = _; rest = _; header = header };
    }

pub returns-then-not-ends_with_checksum-clause-only : goal.returns-then-not-ends_with_checksum-clause-only
returns-then-not-ends_with_checksum-clause-only c = λ es f valid.
    not_refused c.args.kind c.args.bytes.now es errors.Checksum f valid (returns-then-not-ends_with_checksum-clause-refused c)

pub returns-clause-only : goal.returns-clause-only
returns-clause-only c =
    let summed = c.ends_with_checksum.ensures.0 c.if-not-ends_with_checksum.false in
    only_of c.args.kind c.args.bytes.now c.args.timestamp c.read_unchecked.result c.read_unchecked.ensures.found summed (c.read_unchecked.ensures.refused summed)
