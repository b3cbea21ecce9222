use Rattle.std.proofs.Common.{rules, Some, None, ◌∙◌, sym, subst, arith}
use Rattle.std.proofs.lemmas.Bool.{eqb-true}
use Rattle.std.proofs.lemmas.List.{nil_from_length}
use Rattle.status_call.specs.IndexChanges.{AreInside}
use Rattle.status_index.specs.States.{index_of}
use Rattle.git_status.specs.Refreshes.{IsRefresh}
use Rattle.git_status.proofs.Founds.{index_inside, late_file, not_empty, refreshed_file, unrefreshed_file}
use Rattle.git_status.proofs.asked.Asked.refresh_file.Goals as goal

pub returns-in_err-report : goal.returns-in_err-report
returns-in_err-report g c =
    let file = c.args.read.now.file in
    let failed = c.from_residual in
    unrefreshed_file _ c.args.read.now.bytes.now _ file.state file.version file.extensions.now c.requires.file c.requires.time _ failed.result _
    (rw c.in_err-report.was at c.print_index.ensures) failed.ensures.1

pub returns-then-is_empty : goal.returns-then-is_empty
unfolding IsRefresh
returns-then-is_empty g c =
    let file = c.args.read.now.file in
    let found = c.in_ok-report.field-0 in (
      search rules,
      refreshed_file _ c.args.read.now.bytes.now _ file.state file.version file.extensions.now c.requires.file c.requires.time found None _
          (rw c.in_ok-report.was at c.print_index.ensures) (nil_from_length found.changes.items (omega (arith, eqb-true found.changes.len 0 (sym c.is_empty.ensures ∙ c.if-is_empty.true), found.changes.ok.0))),
    )

pub changed_bytes-requires-clause-inside : goal.changed_bytes-requires-clause-inside
changed_bytes-requires-clause-inside g c =
    let file = c.args.read.now.file in
    subst (λ changes. AreInside changes (index_of file.state)) (sym c.deref.ensures.value)
    (index_inside _ c.args.read.now.bytes.now file.state _ c.in_ok-report.field-0 _ (rw c.in_ok-report.was at c.print_index.ensures))

pub returns-in_err-bytes : goal.returns-in_err-bytes
returns-in_err-bytes g c =
    let file = c.args.read.now.file in
    let failed = c.from_residual-in_err-bytes in
    late_file _ c.args.read.now.bytes.now _ file.state file.version file.extensions.now c.requires.file c.requires.time c.in_ok-report.field-0 failed.result _
    (rw c.in_ok-report.was at c.print_index.ensures) failed.ensures.1

pub returns : goal.returns
unfolding IsRefresh
returns g c =
    let file = c.args.read.now.file in
    let found = c.in_ok-report.field-0 in
    let made = rw (c.deref.ensures.value, c.requires.kind) at c.in_ok-bytes.ensures in (
      search rules,
      refreshed_file _ c.args.read.now.bytes.now _ file.state file.version file.extensions.now c.requires.file c.requires.time found (Some c.in_ok-bytes.bytes.items) _
          (rw c.in_ok-report.was at c.print_index.ensures) (
            not_empty found.changes.items found.changes.len (omega (arith, found.changes.ok.0)) (sym c.is_empty.ensures ∙ c.if-is_empty.false),
            record { has_checksum = file.has_checksum; sum = c.requires.sum; written = made.bytes; file = made.file; valid = made.valid },
          ),
    )
