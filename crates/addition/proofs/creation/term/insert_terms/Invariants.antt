use mathlib.Core.Path.{◌≡◌}
use lib.Ieee.{nan}
use lib.ListN.{get_or}
use Rattle.rows.specs.Marks.{mark_of}
use Rattle.sparse.specs.Places.{cutoff_at}
use Rattle.waist.specs.Working.{sparse}
use Rattle.addition.specs.creation.Going.{Going}
use Rattle.addition.proofs.creation.term.insert_terms.Given as goal

abbrev pub invariant-loop-j : goal.invariant-loop-j
invariant-loop-j l = (l.cutoff ≡ get_or l.initial.reals cutoff_at nan) × Going l.e l.vars l.coefs (mark_of l.initial.w) (sparse l.initial.words l.keys l.initial.bytes l.initial.reals l.values) l.initial.row l.j (mark_of l.w) (sparse l.words l.keys l.bytes l.reals l.values) l.row
