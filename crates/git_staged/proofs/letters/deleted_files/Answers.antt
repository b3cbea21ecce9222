use Rattle.std.proofs.Common.{List, ℕ, ◌∙◌, ap, map, take}
use Rattle.std.proofs.Math.Seq.{take-suc}
use Rattle.std.proofs.lemmas.List.{take_all}
use Rattle.bstr.specs.BStr.{bstr_bytes}
use Rattle.status_index.specs.declared.entry.Entry.{Entry}
use Rattle.status_index.specs.Entries.{IndexEntry, index_entry}
use Rattle.status_index.specs.States.{backing_of, entries_of, index_of}
use Rattle.git_staged.specs.declared.letters.Letter.{Letter}
use Rattle.git_staged.specs.Letters.{and_change, deletions, letter_of_file}
use Rattle.git_staged.proofs.Changes.{change_more}
use Rattle.git_staged.proofs.Merges.{next_before, next_more}
use Rattle.git_staged.proofs.letters.deleted_files.Goals as goal

pub loop-file-preserved : goal.loop-file-preserved
loop-file-preserved c =
    let xs = c.entries-files.result.now in
    let n = c.loop-file.file-index in
    let other = index_of c.args.index.now in
    let path = bstr_bytes c.path_in-path.result in
    let so_far = deletions other (map (index_entry (backing_of c.args.head.now)) (take n xs)) in
    let more = change_more (λ (x : IndexEntry). letter_of_file other x.path) (backing_of c.args.head.now) xs n _ path (take-suc xs n _ c.loop-file-test.true) (rw c.path_backing.ensures at c.path_in-path.ensures) in
    record {
      found = c.in_ok-push_change.ensures ∙ (ap (λ (found : List (List ℕ × Letter)). and_change found path c.letter_of_file-letter.result) c.loop-file.invariant.found ∙ (ap (and_change so_far path) c.letter_of_file-letter.ensures.letter ∙ more));
      next = next_more (backing_of c.args.head.now) xs (entries_of c.args.head.now) n _ path c.loop-file-test.true c.entries-files.ensures.value (rw c.path_backing.ensures at c.path_in-path.ensures) other c.letter_of_file-letter.new.next c.entries-files.ensures.valid c.letter_of_file-letter.ensures.next;
    }

pub letter_of_file-letter-requires : goal.letter_of_file-letter-requires
letter_of_file-letter-requires c =
    let xs = c.entries-files.result.now in
    let n = c.loop-file.file-index in
    let path = bstr_bytes c.path_in-path.result in
    next_before (backing_of c.args.head.now) xs (entries_of c.args.head.now) n _ path c.loop-file-test.true c.entries-files.ensures.value (rw c.path_backing.ensures at c.path_in-path.ensures) (index_of c.args.index.now) c.loop-file.next c.loop-file.invariant.next

pub returns : goal.returns
returns c =
    c.loop-file.invariant.found ∙ ap (λ (l : List Entry). deletions (index_of c.args.index.now) (map (index_entry (backing_of c.args.head.now)) l)) (take_all c.loop-file.file-index c.entries-files.result.now c.loop-file-test.false ∙ c.entries-files.ensures.value)
