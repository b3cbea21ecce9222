use Rattle.std.proofs.Common.{◌≡◌, ℕ, ◌-◌, Bool, List, ◌++◌, length, sym, ap, ◌∙◌, refl, subst, Some, None, option_map, Ok, Err, arith}
use Rattle.std.proofs.lemmas.Result.{err_from_is_err_and}
use Rattle.status_index.specs.BlobId.{blob_id}
use Rattle.status_index.specs.Content.{Content}
use Rattle.status_base.specs.declared.worktree.filter.ToGitOutcome.{ToGitOutcome}
use Rattle.status_compare.specs.Comparers.{worktree_result}
use Rattle.status_compare.specs.Errors.{error_of}
use Rattle.status_compare.specs.StreamCounts.{count_after, counted_with}
use Rattle.status_compare.specs.Streams.{outcome_gives}
use Rattle.status_compare.proofs.Identified.{buffered, sized, unsized}
use Rattle.status_compare.proofs.compare.stream_id.Goals as goal

pub returns-in_err-compute_stream_hash-clause-seen : goal.returns-in_err-compute_stream_hash-clause-seen
returns-in_err-compute_stream_hash-clause-seen g c = λ new.
    let s = c.args.stream.now in
    let p = err_from_is_err_and c.from_residual.result c.from_residual.ensures.1 in
    let given = c.in_err-compute_stream_hash.ensures.seen in
    rw (p.1, p.2) (sized g.F.ReadBytes.may_give c.args.kind s.source s.size s.counts s.counted c.compute_stream_hash.new.reader c.in-Some.size given.0 _
    (sym c.size.ensures ∙ c.in-Some.is) new given.1 (ap worktree_result given.2) (tt {0}))

pub returns-in-Some-clause-seen : goal.returns-in-Some-clause-seen
returns-in-Some-clause-seen g c = λ new.
    let s = c.args.stream.now in
    let given = c.in_ok-compute_stream_hash.ensures.seen in
    sized g.F.ReadBytes.may_give c.args.kind s.source s.size s.counts s.counted c.compute_stream_hash.new.reader c.in-Some.size given.0 (Ok c.in_ok-compute_stream_hash.field-0)
    (sym c.size.ensures ∙ c.in-Some.is) new given.1 (ap worktree_result given.2) c.in_ok-compute_stream_hash.ensures.counted

pub returns-in-Some-as_bytes-clause-seen : goal.returns-in-Some-as_bytes-clause-seen
returns-in-Some-as_bytes-clause-seen g c = λ new.
    let s = c.args.stream.now in
    let bytes = c.in-Some-as_bytes.bytes.now in
    let found = sym c.as_bytes.ensures.bytes ∙ ap (option_map (λ b. b.now)) c.in-Some-as_bytes.is in
    rw c.compute_hash.ensures (buffered g.F.ReadBytes.may_give c.args.kind s.source s.size s.counts s.counted c.as_bytes.new.self bytes
    (sym c.size.ensures ∙ c.in_default.is) found new c.as_bytes.ensures.same_counts (c.as_bytes.ensures.counted ∙ ap (counted_with s) found))

pub returns-in_err-read_rest-clause-seen : goal.returns-in_err-read_rest-clause-seen
returns-in_err-read_rest-clause-seen g c = λ new.
    let s = c.args.stream.now in
    let p = err_from_is_err_and c.from_residual-in_err-read_rest.result c.from_residual-in_err-read_rest.ensures.1 in
    let found = sym c.as_bytes.ensures.bytes ∙ ap (option_map (λ b. b.now)) c.in_default-as_bytes.is in
    let given = c.in_err-read_rest.ensures.seen in
    let content : Content = record { bytes = given.0; fault = Some c.in_err-read_rest.field-0.0 } in
    rw (p.1, p.2) (unsized g.F.ReadBytes.may_give c.args.kind s.source s.size s.counts s.counted c.read_rest.new.self content (Err (error_of c.in_err-read_rest.field-0.0))
    (sym c.size.ensures ∙ c.in_default.is) found new (subst (λ (o : ToGitOutcome g.row.F.Denot). outcome_gives g.F.ReadBytes.may_give o content) c.as_bytes.ensures.same_source given.2) refl (tt {0}))

pub returns-clause-seen : goal.returns-clause-seen
returns-clause-seen g c = λ new.
    let s = c.args.stream.now in
    let found = sym c.as_bytes.ensures.bytes ∙ ap (option_map (λ b. b.now)) c.in_default-as_bytes.is in
    let given = c.in_ok-read_rest.ensures.seen in
    let content : Content = record { bytes = given.0; fault = None } in
    let grown : c.read_rest.new.into.items ≡ given.0 = given.1 ∙ ap (λ (xs : List ℕ). xs ++ given.0) c.new-bytes.ensures.items in
    let more : length c.read_rest.new.into.items - length c.new-bytes.result.items ≡ length given.0 = omega (arith, ap length grown, ap length c.new-bytes.ensures.items) in
    let hashed : blob_id c.args.kind given.0 ≡ c.compute_hash-2.result = sym (c.compute_hash-2.ensures ∙ ap (blob_id c.args.kind) (c.deref.ensures.value ∙ grown)) in
    let counted : c.read_rest.new.self.counted ≡ count_after s.counts s.counted (length given.0) =
    c.in_ok-read_rest.ensures.counted ∙ ap (λ (n : ℕ). count_after c.as_bytes.new.self.counts c.as_bytes.new.self.counted n) more
    ∙ ap (λ (b : Bool). count_after b c.as_bytes.new.self.counted (length given.0)) c.as_bytes.ensures.same_counts
    ∙ ap (λ (n : ℕ). count_after s.counts n (length given.0)) (c.as_bytes.ensures.counted ∙ ap (counted_with s) found) in
    unsized g.F.ReadBytes.may_give c.args.kind s.source s.size s.counts s.counted c.read_rest.new.self content (Ok c.compute_hash-2.result)
    (sym c.size.ensures ∙ c.in_default.is) found new (subst (λ (o : ToGitOutcome g.row.F.Denot). outcome_gives g.F.ReadBytes.may_give o content) c.as_bytes.ensures.same_source given.2)
    (ap Ok hashed) (c.read_rest.ensures.same_counts ∙ c.as_bytes.ensures.same_counts, counted)
