use Prim.Native.Nat.{◌+◌}
use mathlib.Core.Path.{◌≡◌, refl, sym, ap, subst, ◌∙◌}
use native.Mathlib.Omega.{arith}
use Rattle.std.proofs.Common.{rules}
use Rattle.steps.specs.Number.{zero64}
use Rattle.fetches.specs.Lists.{Lists}
use Rattle.fetches.specs.Listing.{entries}
use Rattle.fetches.specs.Telling.{tell_gone, told-next, told-last}
use Rattle.fetches.proofs.listing.tell_gone.Goals as goal

pub loop-j-init : goal.loop-j-init
loop-j-init c = (refl, omega arith, (refl, refl, refl))

pub loop-j-preserved : goal.loop-j-preserved
unfolding zero64
loop-j-preserved c = (
  subst (λ (m : Lists). tell_gone c.args.words.now (c.loop-j.j + 1) c.args.b m ≡ tell_gone c.args.words.now c.args.a c.args.b (entries c.args.out.now)) (sym c.push.ensures.after) (told-next _ _ _ _ _ _ _ (omega arith) c.loop-j.invariant.0),
  ap (λ (m : Lists). m.count) c.push.ensures.after ∙ omega (arith, c.loop-j.invariant.1),
  search rules,
)

pub returns : goal.returns
returns c = record { after = told-last _ _ _ _ (omega arith) c.loop-j.invariant.0; count = omega arith; same = search rules }
