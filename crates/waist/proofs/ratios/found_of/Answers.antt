use mathlib.Core.Path.{◌≡◌, refl, sym, subst, ◌∙◌}
use Rattle.rows.specs.choose.Choose.{Found, Within, found_of}
use Rattle.waist.proofs.Options.{some-if, found-within}
use Rattle.waist.proofs.ratios.found_of.Goals as goal

pub returns-in_default : goal.returns-in_default
unfolding found_of
returns-in_default c = record { value = rw c.in_default.is refl; within = tt }

pub returns : goal.returns
unfolding found_of
returns c =
    let v : c.then_some.result ≡ found_of c.args.n c.args.b = rw c.in-Some.is (c.then_some.ensures ∙ some-if _ _) in
    record { value = v; within = subst (λ (f : Found). Within c.args.n f) (sym v) (found-within c.args.n c.args.b) }
