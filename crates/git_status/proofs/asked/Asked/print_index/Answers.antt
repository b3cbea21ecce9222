use Rattle.std.proofs.Common.{rules, ◌≡◌, false, sym, true, ◌∙◌, ◌&&◌, ◌==◌, not, ap, map}
use Rattle.std.proofs.lemmas.Bool.{false≢true}
use Rattle.git_attributes.specs.Views.{attributes_view, file_view}
use Rattle.status_call.specs.Counts.{skipped_of}
use Rattle.status_call.specs.RecorderVisits.{visits_of}
use Rattle.git_status.specs.Besides.{beside_view}
use Rattle.git_status.proofs.Founds.{found_run, index_found, late_run, sightless_index, skipped_fits, unattributed_index, unfound_index, unfound_run, wrong_index}
use Rattle.git_status.proofs.asked.Asked.print_index.Goals as goal

pub returns-in_err-files : goal.returns-in_err-files
returns-in_err-files g c = unattributed_index c.args.wanted _ c.args.read.now.bytes.now c.args.read.now.file.state _ _ c.from_residual.result c.from_residual.ensures.1

pub returns-in_err-attributes : goal.returns-in_err-attributes
returns-in_err-attributes g c = unfound_index c.args.wanted _ c.args.read.now.bytes.now c.args.read.now.file.state _ c.from_residual-in_err-attributes.result c.from_residual-in_err-attributes.ensures.1

pub returns-in_err-report : goal.returns-in_err-report
returns-in_err-report g c =
    let filter = c.filter_of-filter in let made = filter.ensures in
    let computed = c.in-Some.computed in
    let failed = c.from_residual-in_err-report in
    index_found c.args.wanted _ c.args.read.now.bytes.now c.args.read.now.file.state (map file_view c.in_ok-files.files.items) filter.result _ failed.result _ (rw c.in-Some.is at c.compute_both-beside.ensures.checked) c.in_ok-files.ensures
    (ap attributes_view made.attributes ∙ rw c.deref.ensures.value at c.in_ok-attributes.ensures) made.configured made.entries made.kind
    (unfound_run c.args.wanted _ (attributes_view filter.result.attributes.now) _ _ c.args.read.now.file.state c.args.self.settings (beside_view c.in_ok-beside.beside) (visits_of computed.recorder) computed.answer _ _ failed.result _ (rw c.in_ok-beside.was at c.compute_both-beside.ensures.found) (rw c.in-Some.is at c.compute_both-beside.ensures.computed)
    (rw (c.in_err-report.was, c.as_slice-records.ensures.value) at c.print_answer.ensures) failed.ensures.1)

pub returns-in_err-changes : goal.returns-in_err-changes
returns-in_err-changes g c =
    let filter = c.filter_of-filter in let made = filter.ensures in
    let computed = c.in-Some.computed in
    let failed = c.from_residual-in_err-changes in
    let on : c.args.wanted ≡ true = search rules in
    index_found c.args.wanted _ c.args.read.now.bytes.now c.args.read.now.file.state (map file_view c.in_ok-files.files.items) filter.result _ failed.result _ (rw c.in-Some.is at c.compute_both-beside.ensures.checked) c.in_ok-files.ensures
    (ap attributes_view made.attributes ∙ rw c.deref.ensures.value at c.in_ok-attributes.ensures) made.configured made.entries made.kind
    (late_run c.args.wanted _ (attributes_view filter.result.attributes.now) _ _ c.args.read.now.file.state c.args.self.settings (beside_view c.in_ok-beside.beside) (visits_of computed.recorder) computed.answer _ c.in_ok-report.report failed.result _ (rw c.in_ok-beside.was at c.compute_both-beside.ensures.found) (rw c.in-Some.is at c.compute_both-beside.ensures.computed)
    (rw (c.in_ok-report.was, c.as_slice-records.ensures.value) at c.print_answer.ensures) failed.ensures.1 on)

pub has_all-is_whole-requires : goal.has_all-is_whole-requires
has_all-is_whole-requires g c =
    let computed = c.in-Some.computed in
    skipped_fits _ _ c.args.read.now.file.state c.args.self.settings (beside_view c.in_ok-beside.beside) (visits_of computed.recorder) computed.answer _ c.in_ok-report.report _ (rw c.in-Some.is at c.compute_both-beside.ensures.computed)
    (rw (c.in_ok-report.was, c.as_slice-records.ensures.value) at c.print_answer.ensures)

pub returns : goal.returns
returns g c =
    let filter = c.filter_of-filter in let made = filter.ensures in
    let computed = c.in-Some.computed in
    let kept = rw c.as_slice-records.ensures.value at c.in_ok-changes.ensures in
    index_found c.args.wanted _ c.args.read.now.bytes.now c.args.read.now.file.state (map file_view c.in_ok-files.files.items) filter.result _ _ _ (rw c.in-Some.is at c.compute_both-beside.ensures.checked) c.in_ok-files.ensures
    (ap attributes_view made.attributes ∙ rw c.deref.ensures.value at c.in_ok-attributes.ensures) made.configured made.entries made.kind
    (found_run c.args.wanted _ (attributes_view filter.result.attributes.now) _ _ c.args.read.now.file.state c.args.self.settings (beside_view c.in_ok-beside.beside) (visits_of computed.recorder) computed.answer _
    (record { report = c.in_ok-report.report; changes = c.in_ok-changes.field-0.changes; is_whole = c.has_all-is_whole.result }) _ (rw c.in_ok-beside.was at c.compute_both-beside.ensures.found) (rw c.in-Some.is at c.compute_both-beside.ensures.computed)
    (rw (c.in_ok-report.was, c.as_slice-records.ensures.value) at c.print_answer.ensures)
    (λ _. (kept.changes, c.has_all-is_whole.ensures ∙ ap (λ all. all && (skipped_of c.in_ok-report.report.outcome == 0 && not c.in_ok-report.report.outcome.interrupted)) kept.all)))

pub returns-then-not-wanted : goal.returns-then-not-wanted
returns-then-not-wanted g c =
    let filter = c.filter_of-filter in let made = filter.ensures in
    let computed = c.in-Some.computed in
    let off : c.args.wanted ≡ false = search rules in
    index_found c.args.wanted _ c.args.read.now.bytes.now c.args.read.now.file.state (map file_view c.in_ok-files.files.items) filter.result _ _ _ (rw c.in-Some.is at c.compute_both-beside.ensures.checked) c.in_ok-files.ensures
    (ap attributes_view made.attributes ∙ rw c.deref.ensures.value at c.in_ok-attributes.ensures) made.configured made.entries made.kind
    (found_run c.args.wanted _ (attributes_view filter.result.attributes.now) _ _ c.args.read.now.file.state c.args.self.settings (beside_view c.in_ok-beside.beside) (visits_of computed.recorder) computed.answer _
    (record { report = c.in_ok-report.report; changes = c.new.result; is_whole = false }) _ (rw c.in_ok-beside.was at c.compute_both-beside.ensures.found) (rw c.in-Some.is at c.compute_both-beside.ensures.computed)
    (rw (c.in_ok-report.was, c.as_slice-records.ensures.value) at c.print_answer.ensures)
    (λ on. absurd (false≢true (sym off ∙ on))))

pub returns-in_default : goal.returns-in_default
returns-in_default g c = wrong_index c.args.wanted _ c.args.read.now.bytes.now c.args.read.now.file.state _ (c.compute_both-beside.ensures.wrong c.in_default.is)

pub returns-in_err-beside : goal.returns-in_err-beside
returns-in_err-beside g c =
    let failed = c.from_residual-in_err-beside in
    sightless_index c.args.wanted _ c.args.read.now.bytes.now c.args.read.now.file.state _ _ failed.result (rw c.in_err-beside.was at c.compute_both-beside.ensures.unfound) failed.ensures.1
