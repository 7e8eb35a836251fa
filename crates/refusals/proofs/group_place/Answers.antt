use mathlib.Core.Path.{refl}
use native.Mathlib.Omega.{arith}
use borrow.Author.Tests.{eq-eqb, ne_eqb}
use Rattle.laws.specs.Loops.{first_next, first-here, first-last}
use Rattle.rows.specs.places.Finding.{place_in}
use Rattle.sparse.specs.Lookup.{place_from}
use Rattle.refusals.proofs.group_place.Goals as goal

pub loop-i-init : goal.loop-i-init
unfolding place_from place_in
loop-i-init c = refl

pub returns-then-g-words : goal.returns-then-g-words
returns-then-g-words c = first-here _ _ _ _ _ (omega arith) (eq-eqb _ _ c.if-g-words.true) c.loop-i.invariant

pub loop-i-preserved : goal.loop-i-preserved
loop-i-preserved c = first_next _ _ _ _ _ (omega arith) (ne_eqb _ _ c.if-g-words.false) c.loop-i.invariant

pub returns : goal.returns
returns c = first-last _ _ _ _ _ (omega arith) c.loop-i.invariant
