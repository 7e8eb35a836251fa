use Prim.Native.Nat.{◌+◌}
use mathlib.Core.Path.{◌≡◌}
use lib.ListN.{get_or}
use Rattle.laws.specs.Loops.{run}
use Rattle.rows.specs.Marks.{mark_of}
use Rattle.sparse.specs.Places.{variable_count_at}
use Rattle.waist.specs.substituting.Notes.{noted}
use Rattle.optimising.specs.suggestion.Shifting.{shifted, shift_turn}
use Rattle.optimising.proofs.suggestion.shifting.shift_rows.Given as goal

abbrev pub invariant-loop-i : goal.invariant-loop-i
invariant-loop-i l =
    (run (shift_turn l.d l.n l.keys l.values) l.i (1 + l.count) (shifted (noted l.words l.bytes) l.reals (mark_of l.w)) ≡ run (shift_turn l.d l.n l.keys l.values) 1 (1 + l.count) (shifted (noted l.initial.words l.initial.bytes) l.initial.reals (mark_of l.initial.w)))
    × (get_or l.words variable_count_at 0 ≡ get_or l.initial.words variable_count_at 0)
