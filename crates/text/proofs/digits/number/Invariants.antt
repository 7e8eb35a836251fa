use Rattle.std.proofs.Common.{◌≡◌, ◌≤◌, drop}
use Rattle.text.specs.Digits.{digits_from, digits_of}
use Rattle.text.proofs.digits.number.Given as goal

abbrev pub invariant-loop-b : goal.invariant-loop-b
invariant-loop-b g l = (l.v ≤ l.most) × (digits_from g.row.BASE l.v (drop l.b-index l.w) ≡ digits_of g.row.BASE l.w)
