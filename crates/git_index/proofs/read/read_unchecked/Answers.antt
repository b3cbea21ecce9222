use Rattle.std.proofs.Common.{rules, ◌≡◌, [], refl, arith}
use Rattle.status_index.specs.States.{index_of}
use Rattle.git_index.specs.File.{IsContent}
use Rattle.git_index.specs.Paths.{entries_after, AllFollow}
use Rattle.git_index.specs.Refusals.{content_of}
use Rattle.git_index.proofs.Fields.{IsBytes-take}
use Rattle.git_index.proofs.OneFile.{is_content, is_file}
use Rattle.git_index.proofs.FileRead.{entries_refused, extension_error, refusal, rest_within}
use Rattle.git_index.proofs.Rewritten.{whole_content}
use Rattle.git_index.proofs.read.read_unchecked.Goals as goal

pub extension_error-requires : goal.extension_error-requires
extension_error-requires c =
    let header = c.in_ok-header.field-0.header in
    let r = c.in_ok-state.ensures.found in
    let within = rest_within c.args.kind (content_of c.args.kind c.args.bytes.now) header.version header.count c.in_ok-header.field-0.rest.now r.raw c.in_ok-state.field-0.rest.now c.in-Err.none.rest.now c.in-Err.none.fault
    (IsBytes-take _ c.args.bytes.now (λ i. omega (arith, c.type_inv.bytes i))) c.in_ok-header.ensures.header r.spells c.in-Err.ensures.refused in
    rw c.in_ok-header.ensures.content within

pub returns-in-Err-clause-refused : goal.returns-in-Err-clause-refused
returns-in-Err-clause-refused c = λ summed.
    let header = c.in_ok-header.field-0.header in
    let rest = c.in_ok-header.field-0.rest.now in
    let h = c.in_ok-header.ensures.header in
    let r = c.in_ok-state.ensures.found in
    refusal c.args.kind c.args.bytes.now header.version header.count rest c.extension_error.result h summed
    (extension_error c.args.kind c.args.bytes.now header.version header.count rest r.raw c.in_ok-state.field-0.rest.now c.in-Err.none.rest.now c.in-Err.none.fault c.extension_error.result
    h r.spells c.in-Err.ensures.refused (rw c.in_ok-header.ensures.content at c.extension_error.ensures))

pub returns-in-Some-clause-refused : goal.returns-in-Some-clause-refused
returns-in-Some-clause-refused c = λ summed.
    let header = c.in_ok-header.field-0.header in
    let rest = c.in_ok-header.field-0.rest.now in
    let h = c.in_ok-header.ensures.header in
    let r = c.in_ok-state.ensures.found in
    let content : IsContent c.args.kind header.version r.raw c.in_ok-state.field-0.rest.now (content_of c.args.kind c.args.bytes.now) =
    is_content c.args.kind (content_of c.args.kind c.args.bytes.now) header.version header.count rest r.raw c.in_ok-state.field-0.rest.now (IsBytes-take _ c.args.bytes.now (λ i. omega (arith, c.type_inv.bytes i))) h r.spells c.in_default.ensures.ok in
    refusal c.args.kind c.args.bytes.now header.version header.count rest c.in-Some.error h summed
    (entries_refused c.args.kind c.args.bytes.now header.version r.raw c.in_ok-state.field-0.rest.now c.in-Some.error content (rw c.in-Some.is at r.index))

pub returns-in-None-clause-found : goal.returns-in-None-clause-found
returns-in-None-clause-found c =
    let header = c.in_ok-header.field-0.header in
    let r = c.in_ok-state.ensures.found in
    let content : IsContent c.args.kind header.version r.raw c.in_ok-state.field-0.rest.now (content_of c.args.kind c.args.bytes.now) =
    is_content c.args.kind (content_of c.args.kind c.args.bytes.now) header.version header.count c.in_ok-header.field-0.rest.now r.raw c.in_ok-state.field-0.rest.now (IsBytes-take _ c.args.bytes.now (λ i. omega (arith, c.type_inv.bytes i))) c.in_ok-header.ensures.header r.spells c.in_default.ensures.ok in
    let index : AllFollow header.version [] r.raw × (index_of c.in_ok-state.field-0.state ≡ entries_after header.version [] r.raw) = rw c.in-None.is at r.index in
    record {
      found = λ summed. is_file c.args.kind c.args.bytes.now header.version r.raw (index_of c.in_ok-state.field-0.state) c.in_ok-state.field-0.rest.now content index.0 index.1 summed;
      kind_is = refl;
      whole = whole_content _ r.raw (content_of c.args.kind c.args.bytes.now) content index.0 index.1;
      sum = search rules;
      time = c.in_ok-state.ensures.timestamp;
    }
