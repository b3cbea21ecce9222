use Rattle.std.proofs.Common.{rules, not, is_some, refl, sym, ◌∙◌, true, Some, None, Ok, Err}
use Rattle.bstr.specs.BStr.{bstr_bytes}
use Rattle.status_base.specs.LinkCheck.{link_check}
use Rattle.status_base.specs.ListedNodes.{known_node}
use Rattle.status_call.specs.Status.{cached_or}
use Rattle.status_call.proofs.EntryCases.{site_known, site_live, live_answer}
use Rattle.status_call.proofs.MetNodes.{met_at, nothing_met, open_now}
use Rattle.status_call.proofs.SightCases.{seen_accepted, seen_live}
use Rattle.status_call.proofs.index_as_worktree.lookup.look_up.Goals as goal

pub returns-in-Err-clause-look : goal.returns-in-Err-clause-look
returns-in-Err-clause-look g c =
    let lstat = g.G.Guard.lstat_of c.args.worktree.now in
    let path = bstr_bytes c.args.path in
    let known = known_node c.args.fscache (g.L.Lister.listing c.args.lister.now) path in
    λ reported listings clear kept. c.look_refused.ensures.look (link_check lstat path) (cached_or known (lstat path)) (not (is_some known)) (c.in-Err.ensures.answer reported clear)

pub returns-in-Some-clause-look : goal.returns-in-Some-clause-look
returns-in-Some-clause-look g c =
    let lstat = g.G.Guard.lstat_of c.args.worktree.now in
    let path = bstr_bytes c.args.path in
    let known = known_node c.args.fscache (g.L.Lister.listing c.args.lister.now) path in
    λ reported listings clear kept.
    site_known (link_check lstat path) known (lstat path) c.in-Some.node c.look_at.result (c.in_default.ensures.answer reported clear)
    (sym (c.in_ok-node.ensures.known listings kept) ∙ c.in-Some.is) c.look_at.ensures.look

pub returns-in-Ok-clause-look : goal.returns-in-Ok-clause-look
returns-in-Ok-clause-look g c =
    let lstat = g.G.Guard.lstat_of c.args.worktree.now in
    let path = bstr_bytes c.args.path in
    let known = known_node c.args.fscache (g.L.Lister.listing c.args.lister.now) path in
    λ reported listings clear kept.
    site_live (link_check lstat path) known (lstat path) c.in-Ok.node c.look_at-in-Ok.result (c.in_default.ensures.answer reported clear)
    (sym (c.in_ok-node.ensures.known listings kept) ∙ c.in_default-2.is) (live_answer (lstat path) c.in-Ok.node (c.in-Ok.ensures.answer reported)) c.look_at-in-Ok.ensures.look

pub returns-in-Err-lstat-clause-look : goal.returns-in-Err-lstat-clause-look
returns-in-Err-lstat-clause-look g c =
    λ reported listings clear kept.
    let verified = c.in_default.ensures.answer reported clear in
    let known = sym (c.in_ok-node.ensures.known listings kept) ∙ c.in_default-2.is in
    let answered = c.in-Err-lstat.ensures.answer reported in
    let look = c.look_at_fault.ensures.look in
    search rules

pub returns-in-Err-clause-seen : goal.returns-in-Err-clause-seen
returns-in-Err-clause-seen g c = λ opened listed.
    let check = c.in-Err.ensures.seen opened in
    record {
      lstat = check.lstat;
      listed = None;
      allowed = check.allowed;
      unlisted = λ _. refl;
      node = tt;
      look = c.look_refused.ensures.look (link_check check.lstat (bstr_bytes c.args.path)) (check.lstat (bstr_bytes c.args.path)) true check.checked;
    }

pub returns-in-Some-clause-seen : goal.returns-in-Some-clause-seen
returns-in-Some-clause-seen g c = λ opened listed.
    let check = c.in_default.ensures.seen opened in
    seen_accepted (g.G.Guard.may_stat c.args.worktree.now) (g.L.Lister.may_list c.args.lister.now) c.args.fscache (bstr_bytes c.args.path) check.lstat (Some c.in-Some.node) _ check.allowed
    (λ off. sym c.in-Some.is ∙ c.in_ok-node.ensures.unlisted off) (rw c.in-Some.is at (c.in_ok-node.ensures.seen listed)) check.checked c.look_at.ensures.look

pub returns-in-Ok-clause-seen : goal.returns-in-Ok-clause-seen
returns-in-Ok-clause-seen g c = λ opened listed.
    let check = c.in_default.ensures.seen opened in
    seen_live (g.G.Guard.may_stat c.args.worktree.now) (g.L.Lister.may_list c.args.lister.now) c.args.fscache (bstr_bytes c.args.path) (Ok c.in-Ok.node) check.lstat _ c.in-Ok.ensures.seen check.allowed check.checked c.look_at-in-Ok.ensures.look

pub returns-in-Err-lstat-clause-seen : goal.returns-in-Err-lstat-clause-seen
returns-in-Err-lstat-clause-seen g c = λ opened listed.
    let check = c.in_default.ensures.seen opened in
    seen_live (g.G.Guard.may_stat c.args.worktree.now) (g.L.Lister.may_list c.args.lister.now) c.args.fscache (bstr_bytes c.args.path) (Err c.in-Err-lstat.fault) check.lstat _ c.in-Err-lstat.ensures.seen check.allowed check.checked c.look_at_fault.ensures.look

pub returns-in-Err-clause-met : goal.returns-in-Err-clause-met
returns-in-Err-clause-met g c = λ opened. nothing_met _ c.look_refused.result c.look_refused.ensures.nothing

pub returns-in-Some-clause-met : goal.returns-in-Some-clause-met
returns-in-Some-clause-met g c = λ opened.
    let may = g.G.Guard.may_stat c.args.worktree.now in
    met_at may c.args.fscache (bstr_bytes c.args.path) c.in-Some.node c.look_at.result
    (record {
      above = open_now may (bstr_bytes c.args.path) c.in_default.ensures.after.path (c.in_default.ensures.after.after.«open» opened);
      here = λ off. absurd (let known = sym c.in-Some.is ∙ c.in_ok-node.ensures.unlisted off in cc);
    })
    c.look_at.ensures.node

pub returns-in-Ok-clause-met : goal.returns-in-Ok-clause-met
returns-in-Ok-clause-met g c = λ opened.
    let may = g.G.Guard.may_stat c.args.worktree.now in
    met_at may c.args.fscache (bstr_bytes c.args.path) c.in-Ok.node c.look_at-in-Ok.result
    (record {
      above = open_now may (bstr_bytes c.args.path) c.in_default.ensures.after.path (c.in_default.ensures.after.after.«open» opened);
      here = λ off. c.in-Ok.ensures.seen;
    })
    c.look_at-in-Ok.ensures.node

pub returns-in-Err-lstat-clause-met : goal.returns-in-Err-lstat-clause-met
returns-in-Err-lstat-clause-met g c = λ opened. nothing_met _ c.look_at_fault.result c.look_at_fault.ensures.nothing
