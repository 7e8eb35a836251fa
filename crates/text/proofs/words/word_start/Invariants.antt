use Rattle.std.proofs.Common.{◌≡◌, drop}
use Rattle.text.specs.Words.{words_of, word}
use Rattle.text.proofs.words.word_start.Given as goal

abbrev pub invariant-loop-i : goal.invariant-loop-i
invariant-loop-i l = word (words_of (drop l.i l.s)) l.left ≡ word (words_of l.s) l.k
