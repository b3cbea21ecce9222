use Rattle.std.proofs.Common.{refl, Err}
use Rattle.std.proofs.lemmas.Result.{err_from_is_err_and}
use Rattle.bstr.specs.BStr.{bstr_bytes}
use Rattle.status_index.specs.declared.fault.Fault.TheVariants.{Memory}
use Rattle.status_compare.proofs.Refusals.{refused_reading}
use Rattle.status_compare.proofs.Lookings.{same_anyhow}
use Rattle.status_compare.proofs.entry_reader.EntryReader.stream_file.Goals as goal

pub returns-in_err-file-clause-seen : goal.returns-in_err-file-clause-seen
returns-in_err-file-clause-seen g c =
    let r = c.args.self.now in
    let p = err_from_is_err_and c.from_residual.result c.from_residual.ensures.1 in
    rw (p.1, p.2) (record {
      opened = Err c.in_err-file.field-0.0;
      may_open = c.in_err-file.ensures.seen;
      linked = Err Memory;
      may_link = g.met.G.Guard.link_may_fail r.worktree.now (bstr_bytes r.path) r.node;
      is = refl;
    })

pub returns-in_err-source-clause-seen : goal.returns-in_err-source-clause-seen
returns-in_err-source-clause-seen g c =
    let r = c.args.self.now in
    let path = bstr_bytes r.path in
    let p = err_from_is_err_and c.from_residual-in_err-source.result c.from_residual-in_err-source.ensures.1 in
    rw (p.1, p.2) (refused_reading (g.G.Guard.may_open r.worktree.now path r.node) (g.G.Guard.may_link r.worktree.now path r.node) (g.G.File.ReadBytes.may_give c.in_ok-file.file) (λ content. g.T.ToGit.conversion r.filter.now content path) r.node.len c.in_err-source.field-0.0
    (g.met.G.Guard.open_may_fail r.worktree.now path r.node) (g.met.G.Guard.link_may_fail r.worktree.now path r.node) c.in_ok-file.ensures.seen c.in_err-source.ensures.seen)

pub returns-in_err-file-clause-same : goal.returns-in_err-file-clause-same
returns-in_err-file-clause-same g c = same_anyhow (λ looked. record c.args.self.now { looked = looked }) _ _

pub returns-in_err-source-clause-same : goal.returns-in_err-source-clause-same
returns-in_err-source-clause-same g c = same_anyhow (λ looked. record c.args.self.now { looked = looked }) _ _

pub returns-clause-same : goal.returns-clause-same
returns-clause-same g c = same_anyhow (λ looked. record c.args.self.now { reads = c.add_file.new.self; looked = looked }) _ _
