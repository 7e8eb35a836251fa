use mathlib.Core.Bool.{◌&&◌, Bool, cond, false, not, true}
use mathlib.Core.Path.{refl, ◌≡◌}
use lib.Ieee.{binary64, eq, mul, ne}
use Rattle.steps.specs.Number.{zero64}
use Rattle.steps.specs.Symbol.{absent}
use Rattle.waist.specs.substituting.Notes.{is_external_kind, changes}
use Rattle.waist.specs.Kinds.{kind_byte}
use Rattle.waist.proofs.substituting.notes.is_noted.Goals as goal

three : (a b c : Bool) → a && not b && c ≡ (a && cond b false c)
three true true c = refl
three true false c = refl
three false true c = refl
three false false c = refl

pub returns : goal.returns
unfolding changes absent zero64 ne
returns c = rw c.is_external.ensures (three (is_external_kind (kind_byte c.args.kind)) (eq c.args.k zero64) (not (eq (mul binary64 c.args.y c.args.k) zero64)))
