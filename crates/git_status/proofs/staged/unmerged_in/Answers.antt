use Rattle.std.proofs.Common.{rules, sym, ap, subst, ◌∙◌, ◌+◌, ◌≤◌, List, length, map}
use Rattle.std.proofs.lemmas.List.{map-append}
use Rattle.bstr.specs.BStr.{bstr_bytes}
use Rattle.status_index.specs.Entries.{IndexEntry, IsIndex}
use Rattle.status_index.specs.States.{backing_of, entries_of}
use Rattle.git_status.specs.StagedRuns.{unmerged_row}
use Rattle.git_status.proofs.Unmerged.{IsReached, index_same, stored_plain, stored_none, end_inside, stored_selected, stored_left}
use Rattle.git_status.proofs.staged.unmerged_in.Goals as goal

pub loop-at-preserved-then-stage_raw-eq0 : goal.loop-at-preserved-then-stage_raw-eq0
loop-at-preserved-then-stage_raw-eq0 g c =
    let b = c.path_backing-backing.result.now in
    let entries = c.entries-entries.result.now in
    let included = g.P.Pathspec.included c.args.paths.now in
    let rows = map unmerged_row c.loop-at.found.items in
    let same = index_same (backing_of c.args.index.now) b entries (entries_of c.args.index.now) c.entries-entries.ensures.value c.path_backing-backing.ensures in
    let index = subst IsIndex (sym same) c.entries-entries.ensures.valid in
    let r = subst (λ (es : List IndexEntry). IsReached es included c.loop-at.at rows) (sym same) c.loop-at.invariant in
    subst (λ (es : List IndexEntry). IsReached es included (c.loop-at.at + 1) rows) same
    (stored_plain included b entries c.loop-at.at _ index c.loop-at-test.true rows (sym c.stage_raw.ensures ∙ c.if-stage_raw-eq0.true) r)

pub unreachable-requires : goal.unreachable-requires
unreachable-requires g c =
    let b = c.path_backing-backing.result.now in
    let entries = c.entries-entries.result.now in
    let included = g.P.Pathspec.included c.args.paths.now in
    let same = index_same (backing_of c.args.index.now) b entries (entries_of c.args.index.now) c.entries-entries.ensures.value c.path_backing-backing.ensures in
    let index = subst IsIndex (sym same) c.entries-entries.ensures.valid in
    stored_none included b entries c.loop-at.at _ index c.loop-at-test.true (λ e. c.if-stage_raw-eq0.false (c.stage_raw.ensures ∙ e)) (bstr_bytes c.path_in-path.result) c.path_in-path.ensures c.in_default.ensures

pub overflow_add-end : goal.overflow_add-end
overflow_add-end g c =
    let b = c.path_backing-backing.result.now in
    let entries = c.entries-entries.result.now in
    let included = g.P.Pathspec.included c.args.paths.now in
    let same = index_same (backing_of c.args.index.now) b entries (entries_of c.args.index.now) c.entries-entries.ensures.value c.path_backing-backing.ensures in
    let index = subst IsIndex (sym same) c.entries-entries.ensures.valid in
    let inside : c.loop-at.at + c.in-Some.more + 1 ≤ length entries = end_inside included b entries c.loop-at.at _ index c.loop-at-test.true (λ e. c.if-stage_raw-eq0.false (c.stage_raw.ensures ∙ e)) (bstr_bytes c.path_in-path.result) c.path_in-path.ensures c.in-Some.conflict c.in-Some.more c.in-Some.ensures.0 c.in-Some.ensures.1 in
    search rules

pub overflow_add-end-in-loop-at : goal.overflow_add-end-in-loop-at
overflow_add-end-in-loop-at g c =
    let b = c.path_backing-backing.result.now in
    let entries = c.entries-entries.result.now in
    let included = g.P.Pathspec.included c.args.paths.now in
    let same = index_same (backing_of c.args.index.now) b entries (entries_of c.args.index.now) c.entries-entries.ensures.value c.path_backing-backing.ensures in
    let index = subst IsIndex (sym same) c.entries-entries.ensures.valid in
    let inside : c.loop-at.at + c.in-Some.more + 1 ≤ length entries = end_inside included b entries c.loop-at.at _ index c.loop-at-test.true (λ e. c.if-stage_raw-eq0.false (c.stage_raw.ensures ∙ e)) (bstr_bytes c.path_in-path.result) c.path_in-path.ensures c.in-Some.conflict c.in-Some.more c.in-Some.ensures.0 c.in-Some.ensures.1 in
    search rules

pub slice_bounds-is_selected-end : goal.slice_bounds-is_selected-end
slice_bounds-is_selected-end g c =
    let b = c.path_backing-backing.result.now in
    let entries = c.entries-entries.result.now in
    let included = g.P.Pathspec.included c.args.paths.now in
    let same = index_same (backing_of c.args.index.now) b entries (entries_of c.args.index.now) c.entries-entries.ensures.value c.path_backing-backing.ensures in
    let index = subst IsIndex (sym same) c.entries-entries.ensures.valid in
    let inside : c.loop-at.at + c.in-Some.more + 1 ≤ length entries = end_inside included b entries c.loop-at.at _ index c.loop-at-test.true (λ e. c.if-stage_raw-eq0.false (c.stage_raw.ensures ∙ e)) (bstr_bytes c.path_in-path.result) c.path_in-path.ensures c.in-Some.conflict c.in-Some.more c.in-Some.ensures.0 c.in-Some.ensures.1 in
    search rules

pub loop-at-preserved-in_ok-push : goal.loop-at-preserved-in_ok-push
loop-at-preserved-in_ok-push g c =
    let b = c.path_backing-backing.result.now in
    let entries = c.entries-entries.result.now in
    let included = g.P.Pathspec.included c.args.paths.now in
    let rows = map unmerged_row c.loop-at.found.items in
    let end = c.loop-at.at + c.in-Some.more + 1 in
    let same = index_same (backing_of c.args.index.now) b entries (entries_of c.args.index.now) c.entries-entries.ensures.value c.path_backing-backing.ensures in
    let index = subst IsIndex (sym same) c.entries-entries.ensures.valid in
    let r = subst (λ (es : List IndexEntry). IsReached es included c.loop-at.at rows) (sym same) c.loop-at.invariant in
    let reached = stored_selected included b entries c.loop-at.at _ index c.loop-at-test.true (λ e. c.if-stage_raw-eq0.false (c.stage_raw.ensures ∙ e)) (bstr_bytes c.path_in-path.result) c.path_in-path.ensures c.in-Some.conflict c.in-Some.more c.in-Some.ensures.0 c.in-Some.ensures.1 rows r c.is_selected.result c.is_selected.ensures c.if-is_selected.true in
    let pushed = ap (λ found. map unmerged_row found) c.in_ok-push.ensures.items ∙ map-append unmerged_row c.loop-at.found.items _ in
    subst (λ (es : List IndexEntry). IsReached es included end (map unmerged_row c.push.new.self.items)) same
    (subst (IsReached _ included end) (sym pushed) reached)

pub loop-at-preserved : goal.loop-at-preserved
loop-at-preserved g c =
    let b = c.path_backing-backing.result.now in
    let entries = c.entries-entries.result.now in
    let included = g.P.Pathspec.included c.args.paths.now in
    let rows = map unmerged_row c.loop-at.found.items in
    let end = c.loop-at.at + c.in-Some.more + 1 in
    let same = index_same (backing_of c.args.index.now) b entries (entries_of c.args.index.now) c.entries-entries.ensures.value c.path_backing-backing.ensures in
    let index = subst IsIndex (sym same) c.entries-entries.ensures.valid in
    let r = subst (λ (es : List IndexEntry). IsReached es included c.loop-at.at rows) (sym same) c.loop-at.invariant in
    subst (λ (es : List IndexEntry). IsReached es included end rows) same
    (stored_left included b entries c.loop-at.at _ index c.loop-at-test.true (λ e. c.if-stage_raw-eq0.false (c.stage_raw.ensures ∙ e)) (bstr_bytes c.path_in-path.result) c.path_in-path.ensures c.in-Some.conflict c.in-Some.more c.in-Some.ensures.0 c.in-Some.ensures.1 rows r c.is_selected.result c.is_selected.ensures c.if-is_selected.false)
