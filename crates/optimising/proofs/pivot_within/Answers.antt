use mathlib.Core.Path.{refl}
use native.Mathlib.Omega.{arith}
use Rattle.optimising.specs.Chosen.{turn-limit, turn-pivots}
use Rattle.optimising.proofs.pivot_within.Goals as goal

pub returns-then-budget-pivots-clause-does : goal.returns-then-budget-pivots-clause-does
returns-then-budget-pivots-clause-does c = λ run choose n turns q. turn-limit turns _ _ _ _ _ q (omega (arith, c.if-budget-pivots.true)) refl

pub pivot_on-w-requires : goal.pivot_on-w-requires
pivot_on-w-requires c = record { standing = c.requires.standing; le_i = c.requires.le_i; i_bound = c.requires.i_bound; le_p = c.requires.le_p; p_bound = c.requires.p_bound; free = c.requires.free }

pub counted-requires : goal.counted-requires
counted-requires c = omega (arith, c.if-budget-pivots.false, c.well_formed)

pub returns-clause-does : goal.returns-clause-does
returns-clause-does c = λ run choose n turns q. turn-pivots turns _ _ _ _ _ q _ (omega (arith, c.if-budget-pivots.false)) c.pivot_on-w.ensures.makes c.counted.ensures
