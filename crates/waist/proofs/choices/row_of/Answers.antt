use Prim.Native.Nat.{◌+◌}
use mathlib.Core.Path.{◌≡◌}
use mathlib.Core.Bool.{true, false}
use native.Mathlib.Omega.{arith}
use lib.Dec.{eqb}
use lib.ListN.{get_or}
use Rattle.std.proofs.Common.{rules, tests}
use Rattle.std.proofs.lemmas.Iterator.{first_from_Range}
use Rattle.sparse.specs.Places.{row_places_at, row_count_at}
use Rattle.waist.specs.Rows.{row_for}
use Rattle.waist.proofs.Firsts.{found-first}
use Rattle.waist.proofs.choices.row_of.Goals as goal

pub returns-clause-value : goal.returns-clause-value
unfolding row_for
returns-clause-value c =
    let z : get_or c.args.words.now row_count_at 0 + 1 ≡ 1 + get_or c.args.words.now row_count_at 0 = omega arith in
    rw (← z)
    (found-first (λ j. eqb c.args.p (get_or c.args.bytes.now (row_places_at + j) 0)) _ _ _ (omega arith)
    (first_from_Range _ _ _ _ (λ j. eqb c.args.p (get_or c.args.bytes.now (row_places_at + j) 0) ≡ true) (λ j. eqb c.args.p (get_or c.args.bytes.now (row_places_at + j) 0) ≡ false) c.find.ensures.ran
    (λ x q k. grind (arith, tests))
    (λ x q k. (search rules, grind (arith, tests)))))
