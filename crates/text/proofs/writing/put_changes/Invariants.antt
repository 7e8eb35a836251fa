use Rattle.text.specs.Answers.{Wrote, changes_text, listed_in}
use Rattle.text.proofs.writing.put_changes.Given as goal

abbrev pub invariant-loop-i : goal.invariant-loop-i
invariant-loop-i l = Wrote l.initial.out l.out l.at l.next (changes_text (listed_in l.i l.numbers l.values l.gone))
