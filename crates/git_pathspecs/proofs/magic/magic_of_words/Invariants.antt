use Rattle.std.proofs.Common.{◌≡◌, length}
use Rattle.git_pathspecs.specs.Words.{no_magic, with_words, words_of}
use Rattle.git_pathspecs.proofs.magic.magic_of_words.Given as goal

abbrev pub invariant-words : goal.invariant-words
invariant-words l = with_words l.magic (words_of l.rest) ≡ with_words no_magic (words_of l.words)

abbrev pub decreases-words : goal.decreases-words
decreases-words l = length l.rest
