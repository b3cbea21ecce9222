use Rattle.std.proofs.Common.{refl, Err}
use Rattle.std.proofs.lemmas.Result.{err_from_is_err_and}
use Rattle.bstr.specs.BStr.{bstr_bytes}
use Rattle.status_index.specs.declared.fault.Fault.TheVariants.{Memory}
use Rattle.status_compare.proofs.Lookings.{same_anyhow}
use Rattle.status_compare.proofs.entry_reader.EntryReader.stream_target.Goals as goal

pub returns-in_err-read_link-clause-seen : goal.returns-in_err-read_link-clause-seen
returns-in_err-read_link-clause-seen g c =
    let r = c.args.self.now in
    let p = err_from_is_err_and c.from_residual.result c.from_residual.ensures.1 in
    rw (p.1, p.2) (record {
      opened = Err Memory;
      may_open = g.met.G.Guard.open_may_fail r.worktree.now (bstr_bytes r.path) r.node;
      linked = Err c.in_err-read_link.field-0.0;
      may_link = c.in_err-read_link.ensures.seen;
      is = refl;
    })

pub returns-in_err-read_link-clause-same : goal.returns-in_err-read_link-clause-same
returns-in_err-read_link-clause-same g c = same_anyhow (λ looked. record c.args.self.now { looked = looked }) _ _

pub returns-clause-same : goal.returns-clause-same
returns-clause-same g c = same_anyhow (λ looked. record c.args.self.now { reads = c.add_file.new.self; looked = looked }) _ _
