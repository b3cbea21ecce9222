use Rattle.std.proofs.Common.{◌≡◌, ◌∙◌, sym, ap, length}
use Rattle.std.proofs.lemmas.List.{length-map}
use Rattle.bstr.specs.BStr.{bstr_bytes}
use Rattle.status_index.specs.Entries.{index_entry}
use Rattle.status_index.specs.States.{entries_of, backing_of, index_of}
use Rattle.status_index.specs.Stretch.{part_of}
use Rattle.status_call.proofs.Considered.{is_considered, all_considered}
use Rattle.status_call.proofs.StatusProof.{part_front, take_all}
use Rattle.status_call.proofs.index_as_worktree.considered.Considered.range_of.Goals as goal

pub returns-in-Some-clause-part : goal.returns-in-Some-clause-part
returns-in-Some-clause-part c =
    (is_considered (index_of c.args.index.now) (bstr_bytes c.args.prefix) c.in-Some.range.start c.in-Some.range.end c.in-Some.ensures.0 c.in-Some.ensures.1).0

pub returns-in-Some-clause-start : goal.returns-in-Some-clause-start
returns-in-Some-clause-start c =
    (is_considered (index_of c.args.index.now) (bstr_bytes c.args.prefix) c.in-Some.range.start c.in-Some.range.end c.in-Some.ensures.0 c.in-Some.ensures.1).1

pub returns-in-None-clause-part : goal.returns-in-None-clause-part
returns-in-None-clause-part c =
    let all = index_of c.args.index.now in
    let len : length c.entries.result.now ≡ length all = ap length c.entries.ensures.value ∙ sym (length-map (entries_of c.args.index.now) (index_entry (backing_of c.args.index.now))) in
    ap (part_of all 0) len ∙ part_front all (length all) ∙ take_all all ∙ (all_considered all (bstr_bytes c.args.prefix) c.in-None.ensures.1).0

pub returns-in-None-clause-start : goal.returns-in-None-clause-start
returns-in-None-clause-start c = (all_considered (index_of c.args.index.now) (bstr_bytes c.args.prefix) c.in-None.ensures.1).1
