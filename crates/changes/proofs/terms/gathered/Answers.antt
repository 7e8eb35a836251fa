use mathlib.Core.Path.{refl, ap, ◌∙◌}
use native.Mathlib.Omega.{arith}
use Rattle.laws.specs.Loops.{run-next, run-last}
use Rattle.changes.proofs.terms.gathered.Goals as goal

pub loop-i-init : goal.loop-i-init
loop-i-init g c = (c.requires, λ h e. rw c.none-q.ensures refl)

pub packed-t-requires : goal.packed-t-requires
packed-t-requires g c = omega arith

pub loop-i-preserved : goal.loop-i-preserved
loop-i-preserved g c =
    (c.requires, λ h e. run-next _ _ _ _ (omega (arith, c.shown-i-end.ensures.value)) (e _ _ _ c.put-q.ensures ∙ ap (h c.loop-i.q) c.packed-t.ensures) (c.loop-i.invariant.1 h e))

pub returns : goal.returns
returns g c = λ h e. run-last _ _ _ _ (omega (arith, c.shown-i-end.ensures.value)) (c.loop-i.invariant.1 h e)
