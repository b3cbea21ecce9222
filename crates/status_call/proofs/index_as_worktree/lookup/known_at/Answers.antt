use Rattle.bstr.specs.BStr.{bstr_bytes}
use Rattle.status_call.proofs.KnownNodes.{known_some, known_none, node_listed}
use Rattle.status_call.proofs.index_as_worktree.lookup.known_at.Goals as goal

pub returns-in-Some-clause-known : goal.returns-in-Some-clause-known
returns-in-Some-clause-known g c = λ modelled kept.
    known_some c.args.fscache (g.L.Lister.modelled c.args.lister.now) (g.L.Lister.listing c.args.lister.now) (bstr_bytes c.args.path) c.in_ok-stat.field-0 c.if-not-fscache.false
    (λ m. c.in_ok-stat.ensures.listed m (kept m)) c.in-Some.stat c.to_metadata.result c.in-Some.is c.to_metadata.ensures modelled

pub returns-in-None-clause-known : goal.returns-in-None-clause-known
returns-in-None-clause-known g c = λ modelled kept.
    known_none c.args.fscache (g.L.Lister.modelled c.args.lister.now) (g.L.Lister.listing c.args.lister.now) (bstr_bytes c.args.path) c.in_ok-stat.field-0 c.if-not-fscache.false
    (λ m. c.in_ok-stat.ensures.listed m (kept m)) c.in-None.is modelled

pub returns-in-Some-clause-seen : goal.returns-in-Some-clause-seen
returns-in-Some-clause-seen g c = λ of.
    node_listed (g.L.Lister.may_list c.args.lister.now) (bstr_bytes c.args.path) c.in_ok-stat.field-0 c.in-Some.stat c.to_metadata.result c.in-Some.is c.to_metadata.ensures (c.in_ok-stat.ensures.seen of)
