use Rattle.std.proofs.Common.{◌≡◌, arith, rules, length, refl, eq-eqb, ne_eqb}
use Rattle.reader.specs.sums.Held.{zero_at}
use Rattle.reader.specs.Answers.{kept_with, set_past}
use Rattle.reader.proofs.answers.keep.Goals as goal
use Rattle.reader.proofs.answers.keep.Goals.{then-n-lt16, else-n-lt16}

pub returns-then-x-eq-ZERO : goal.returns-then-x-eq-ZERO
unfolding kept_with
returns-then-x-eq-ZERO c = rw (eq-eqb c.args.x zero_at c.if-x-eq-ZERO.true)

pub returns : goal.returns
unfolding kept_with
returns c =
    let p : length c.args.k.variables ≡ 16 = search rules in
    let q : length c.args.k.coefficients ≡ 16 = search rules in
    elim c.if-n-lt16.branch [
      | then-n-lt16 w ↦ rw (ne_eqb c.args.x zero_at c.if-x-eq-ZERO.false, c.is_big.ensures, w.variables-is, w.coefficients-is) refl
      | else-n-lt16 w ↦ rw (ne_eqb c.args.x zero_at c.if-x-eq-ZERO.false, c.is_big.ensures, w.variables-is, w.coefficients-is, set_past c.args.k.variables c.args.k.count c.args.v (omega (arith, w.if-n-lt16.false)), set_past c.args.k.coefficients c.args.k.count c.args.x (omega (arith, w.if-n-lt16.false))) refl
    ]
