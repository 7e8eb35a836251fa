use Rattle.rows.specs.Marks.{mark_of}
use Rattle.waist.specs.substituting.Lines.{lines}
use Rattle.waist.specs.substituting.Passed.{Leads}
use Rattle.waist.proofs.substituting.onepass.substitute_lines.Given as goal

abbrev pub invariant-loop-i : goal.invariant-loop-i
invariant-loop-i l = Leads l.cutoff l.at l.other.size l.y l.other.keys l.other.vals l.count l.n l.spots l.initial.i l.initial.p.back (lines l.initial.keys l.initial.values l.initial.p.front l.initial.reals (mark_of l.initial.p.wrote)) l.i l.p.back (lines l.keys l.values l.p.front l.reals (mark_of l.p.wrote))
