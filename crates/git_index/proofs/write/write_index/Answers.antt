use Rattle.std.proofs.Common.{◌≡◌, ◌+◌, length, sym, ap, ◌∙◌, arith}
use Rattle.std.proofs.Math.Seq.{take-suc}
use Rattle.std.proofs.lemmas.List.{length-map}
use Rattle.status_index.specs.Entries.{index_entry}
use Rattle.status_index.specs.States.{index_of, entries_of, backing_of}
use Rattle.git_index.specs.File.{header_bytes}
use Rattle.git_index.specs.Writing.{checksum_bytes}
use Rattle.git_index.proofs.Written.{written_more, written_all, written_file, file_is}
use Rattle.git_index.proofs.write.write_index.Goals as goal

pub loop-entry-preserved : goal.loop-entry-preserved
loop-entry-preserved c =
    let more = written_more c.args.kind c.args.version (backing_of c.args.state.now) c.entries-entries.result.now c.loop-entry.entry-index (c.loop-entry.entry-index + 1) _ c.loop-entry.out.items (header_bytes c.args.version (length c.entries-entries.result.now)) c.loop-entry.last.now c.as_bytes-path.result.now (omega arith)
    (take-suc c.entries-entries.result.now c.loop-entry.entry-index _ c.loop-entry-test.true) c.loop-entry.invariant.0 c.loop-entry.invariant.1
    (c.as_bytes-path.ensures ∙ (rw c.path_backing.ensures at c.path_in.ensures)) in
    (c.in_ok-put_entry.ensures ∙ more.0, more.1)

pub returns-clause-bytes : goal.returns-clause-bytes
returns-clause-bytes c =
    let many = sym (length-map (entries_of c.args.state.now) (index_entry (backing_of c.args.state.now))) in
    let all = written_all c.args.kind c.args.version (backing_of c.args.state.now) c.entries-entries.result.now c.loop-entry.entry-index c.loop-entry.out.items (header_bytes c.args.version (length c.entries-entries.result.now)) c.loop-entry-test.false c.loop-entry.invariant.0 in
    let seen : c.as_slice.result.now ≡ c.extend_from_slice.new.self.items = c.as_slice.ensures.value in
    file_is c.args.kind c.args.version (length (entries_of c.args.state.now)) (index_of c.args.state.now) c.args.extensions.now c.args.has_checksum c.loop-entry.out.items c.extend_from_slice.new.self.items c.extend_from_slice-2.new.self.items _
    many (rw c.entries-entries.ensures.value at all) c.in_ok-extend_from_slice.ensures.items c.in_ok-extend_from_slice-2.ensures.items (c.as_bytes.ensures ∙ (c.checksum_of-sum.ensures ∙ ap (checksum_bytes c.args.kind c.args.has_checksum) seen))

pub returns-clause-file : goal.returns-clause-file
returns-clause-file c = λ known fit optional.
    written_file c.args.kind c.args.version (index_of c.args.state.now) c.args.extensions.now c.args.has_checksum c.extend_from_slice-2.new.self.items
    (omega (arith, length-map (entries_of c.args.state.now) (index_entry (backing_of c.args.state.now)), c.requires)) (returns-clause-bytes c) known fit optional
