use Rattle.std.proofs.Common.{◌≡◌, ◌+◌, ◌*◌, drop}
use Rattle.text.specs.Words.{words_of}
use Rattle.text.specs.Format.{terms_of}
use Rattle.changes.specs.terms.Terms.{no_pack}
use Rattle.text.specs.Lines.{packed_from}
use Rattle.text.proofs.packing.read_terms.Given as goal

abbrev pub invariant-loop-i : goal.invariant-loop-i
invariant-loop-i l = packed_from l.t (terms_of (drop (l.from + 2 * l.i) (words_of l.s))) ≡ packed_from no_pack (terms_of (drop l.from (words_of l.s)))
