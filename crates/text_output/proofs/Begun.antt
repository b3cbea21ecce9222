-- How known bytes grow by a text, by a beginning of it, and by texts one after the other.
use Rattle.std.proofs.Common.{◌≡◌, ℕ, ◌-◌, List, [], ◌++◌, length, Option, Result, Ok, Err, refl, sym, ap, ◌∙◌, append_assoc, append-nil, arith, take, drop, length-drop, take_all, take-append-drop}
use Rattle.std.specs.Io.KnownBytes.{Appends}
use Rattle.std.proofs.KnownBytes.{Appends-nil, Appends-trans}
use Rattle.text_output.specs.Written.{IsBegun, IsWritten}

-- nothing was printed
pub none_begun : (text : List ℕ) (known : Option (List ℕ)) → IsBegun text known known
none_begun text known = record { printed = []; grew = Appends-nil known; beginning = (text, refl) }

-- all of it was printed
pub all_begun : (text : List ℕ) (old new : Option (List ℕ)) → Appends old new text → IsBegun text old new
all_begun text old new grew = record { printed = text; grew = grew; beginning = ([], append-nil text) }

-- some first bytes were printed
pub first_begun : (n : ℕ) (text : List ℕ) (old new : Option (List ℕ)) → Appends old new (take n text) → IsBegun text old new
first_begun n text old new grew = record { printed = take n text; grew = grew; beginning = (drop n text, take-append-drop n text) }

-- whether all was printed or not, a beginning was
pub written_begun : {T E : Type 0} (text : List ℕ) (old : Option (List ℕ)) (result : Result T E) (new : Option (List ℕ)) → IsWritten text old result new → IsBegun text old new
written_begun text old (Ok v) new all = all_begun text old new all
written_begun text old (Err e) new some = some

-- one text was printed, and then another or a beginning of it
pub begun_more : (first second : List ℕ) (a b c : Option (List ℕ)) → Appends a b first → IsBegun second b c → IsBegun (first ++ second) a c
begun_more first second a b c grew more = record {
  printed = first ++ more.printed;
  grew = Appends-trans a b c first more.printed grew more.grew;
  beginning = (more.beginning.0, append_assoc first more.printed more.beginning.0 ∙ ap (λ t. first ++ t) more.beginning.1);
}

-- what a beginning of a text is, it is of a longer one
pub begun_longer : (first second : List ℕ) (a b : Option (List ℕ)) → IsBegun first a b → IsBegun (first ++ second) a b
begun_longer first second a b some = record {
  printed = some.printed;
  grew = some.grew;
  beginning = (some.beginning.0 ++ second, sym (append_assoc some.printed some.beginning.0 second) ∙ ap (λ t. t ++ second) some.beginning.1);
}

-- all that is left is its own beginning
pub rest_taken : (xs : List ℕ) (n : ℕ) → take (length xs - n) (drop n xs) ≡ drop n xs
rest_taken xs n =
    let len = length-drop n xs in
    take_all (length xs - n) (drop n xs) (omega arith)
