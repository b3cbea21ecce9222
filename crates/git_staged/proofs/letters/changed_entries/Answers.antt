use Rattle.std.proofs.Common.{List, ℕ, ◌∙◌, ap, map, take}
use Rattle.std.proofs.Math.Seq.{take-suc}
use Rattle.std.proofs.lemmas.List.{take_all}
use Rattle.bstr.specs.BStr.{bstr_bytes}
use Rattle.status_index.specs.declared.entry.Entry.{Entry}
use Rattle.status_index.specs.Entries.{index_entry}
use Rattle.status_index.specs.States.{backing_of, entries_of, index_of}
use Rattle.git_staged.specs.declared.letters.Letter.{Letter}
use Rattle.git_staged.specs.Letters.{and_change, changes, letter_of}
use Rattle.git_staged.proofs.Changes.{change_more}
use Rattle.git_staged.proofs.Merges.{next_before, next_more}
use Rattle.git_staged.proofs.letters.changed_entries.Goals as goal

pub loop-entry-preserved : goal.loop-entry-preserved
loop-entry-preserved c =
    let xs = c.entries-entries.result.now in
    let n = c.loop-entry.entry-index in
    let other = index_of c.args.head.now in
    let path = bstr_bytes c.path_in-path.result in
    let so_far = changes other (map (index_entry (backing_of c.args.index.now)) (take n xs)) in
    let more = change_more (letter_of other) (backing_of c.args.index.now) xs n _ path (take-suc xs n _ c.loop-entry-test.true) (rw c.path_backing.ensures at c.path_in-path.ensures) in
    record {
      found = c.in_ok-push_change.ensures ∙ (ap (λ (found : List (List ℕ × Letter)). and_change found path c.letter_of-letter.result) c.loop-entry.invariant.found ∙ (ap (and_change so_far path) c.letter_of-letter.ensures.letter ∙ more));
      next = next_more (backing_of c.args.index.now) xs (entries_of c.args.index.now) n _ path c.loop-entry-test.true c.entries-entries.ensures.value (rw c.path_backing.ensures at c.path_in-path.ensures) other c.letter_of-letter.new.next c.entries-entries.ensures.valid c.letter_of-letter.ensures.next;
    }

pub letter_of-letter-requires : goal.letter_of-letter-requires
letter_of-letter-requires c =
    let xs = c.entries-entries.result.now in
    let n = c.loop-entry.entry-index in
    let path = bstr_bytes c.path_in-path.result in
    next_before (backing_of c.args.index.now) xs (entries_of c.args.index.now) n _ path c.loop-entry-test.true c.entries-entries.ensures.value (rw c.path_backing.ensures at c.path_in-path.ensures) (index_of c.args.head.now) c.loop-entry.next c.loop-entry.invariant.next

pub returns : goal.returns
returns c =
    c.loop-entry.invariant.found ∙ ap (λ (l : List Entry). changes (index_of c.args.head.now) (map (index_entry (backing_of c.args.index.now)) l)) (take_all c.loop-entry.entry-index c.entries-entries.result.now c.loop-entry-test.false ∙ c.entries-entries.ensures.value)
