-- A stored index isn't nested deeper than the parser accepts.
use Rattle.std.proofs.Common.{◌≡◌, ◌≤◌, ℕ, List, [], ◌∷◌, map, Ordering, Less, Equal, Greater, refl, arith}
use Rattle.std.specs.Ordering.{match_ordering}
use Rattle.serde_json.specs.Data.{Data, Members, no_members, member, put, depth, items_depth, members_depth, string}
use Rattle.serde_json.specs.View.{items_of}
use Rattle.status_index.specs.declared.stat.Moment.{Moment}
use Rattle.status_index.specs.Entries.{IndexEntry}
use Rattle.status_format.specs.StoredEntry.{stored_entry}
use Rattle.status_stored.specs.StoredIndex.{stored_index, stored_with}
use Rattle.status_format.specs.Words.{flag_words}

words_depth : (words : List (List ℕ)) → items_depth (items_of (map string words)) ≡ 0
words_depth [] = refl
words_depth (word ∷ words) = rw (words_depth words) refl

entry_depth : (e : IndexEntry) → depth (stored_entry e) ≡ 2
entry_depth e = rw (words_depth (flag_words e.flags.0)) refl

entries_depth : (es : List IndexEntry) → items_depth (items_of (map stored_entry es)) ≤ 2
entries_depth [] = omega arith
entries_depth (e ∷ es) =
    let first = entry_depth e in
    let rest = entries_depth es in
    rw first (omega arith)

pub index_depth : (es : List IndexEntry) (t : Moment) → depth (stored_index es t) ≤ 127
index_depth es t =
    let entries = entries_depth es in
    omega arith

-- ---- nor are members with a stored index

ordered_depth : (o : Ordering) (a b c : Members) (n : ℕ) → members_depth a ≤ n → members_depth b ≤ n → members_depth c ≤ n
    → members_depth (match_ordering o a b c) ≤ n
ordered_depth Less a b c n p q r = p
ordered_depth Equal a b c n p q r = q
ordered_depth Greater a b c n p q r = r

put_depth : (k : List ℕ) (d : Data) (ms : Members) (n : ℕ) → depth d ≤ n → members_depth ms ≤ n → members_depth (put k d ms) ≤ n
put_depth k d no_members n p q = omega arith
put_depth k d (member l e ms) n p q =
    ordered_depth _ (member k d (member l e ms)) (member l d ms) (member l e (put k d ms)) n
    (omega arith) (omega arith) (omega (arith, put_depth k d ms n p (omega arith)))

pub with_depth : (ms : Members) (es : List IndexEntry) (t : Moment) → members_depth ms ≤ 126 → members_depth (stored_with ms es t) ≤ 126
with_depth ms es t h =
    let entries = entries_depth es in
    put_depth _ _ _ 126 (omega arith) (put_depth _ _ ms 126 (omega arith) h)
