use mathlib.Core.Path.{◌≡◌}
use Rattle.laws.specs.Loops.{run}
use Rattle.waist.specs.substituting.Notes.{flag_turn, flagged_in}
use Rattle.waist.proofs.substituting.notes.flag_place.Given as goal

abbrev pub invariant-loop-v : goal.invariant-loop-v
invariant-loop-v l = run (flag_turn l.p) l.v l.count l.bytes ≡ flagged_in l.p l.count l.initial.bytes
