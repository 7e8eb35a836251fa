use Rattle.std.proofs.Common.{◌≡◌, ◌++◌, take, drop}
use Rattle.text.specs.Words.{words_of, word}
use Rattle.text.proofs.words.word_length.Given as goal

abbrev pub invariant-loop-i : goal.invariant-loop-i
invariant-loop-i l = take l.i l.s ++ word (words_of (drop l.i l.s)) 0 ≡ word (words_of l.s) 0
