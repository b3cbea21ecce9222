-- The text of a string by itself.
use Rattle.std.proofs.Common.{◌≡◌, ℕ, List, [], ◌∷◌, append-nil}
use Rattle.json.specs.Print.{print, print_from, quoted}
use Rattle.json.specs.Token.{string}

pub printed_string : (s : List ℕ) → print (string s ∷ []) ≡ quoted s
unfolding print_from
printed_string s = append-nil (quoted s)
