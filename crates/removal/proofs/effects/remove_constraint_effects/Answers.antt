use mathlib.Core.Path.{refl}
use native.Mathlib.Omega.{arith}
use borrow.Author.Tests.{eq-eqb, ne_eqb}
use Rattle.sparse.specs.Sparse.{symbol_at}
use Rattle.removal.specs.Effects.{no_other, with-other}
use Rattle.removal.proofs.effects.remove_constraint_effects.Goals as goal

pub returns-then-other-eq0 : goal.returns-then-other-eq0
returns-then-other-eq0 c = no_other _ _ _ _ _ c.remove_marker_effects-w.ensures (eq-eqb _ _ c.if-other-eq0.true)

pub returns : goal.returns
unfolding symbol_at
returns c = with-other _ _ _ _ _ c.remove_marker_effects-w.ensures (ne_eqb _ _ c.if-other-eq0.false) refl c.remove_marker_effects.ensures

pub remove_marker_effects-requires : goal.remove_marker_effects-requires
remove_marker_effects-requires c = record { standing = c.remove_marker_effects-w.ensures.stands; le_p = omega (arith, c.if-other-eq0.false); p_bound = c.requires.other_bound }
