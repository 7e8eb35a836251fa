use mathlib.Core.Path.{refl}
use native.Mathlib.Omega.{arith}
use Rattle.stored.specs.Put.{no-terms, terms-names, next-term, terms-end}
use Rattle.stored.proofs.new.put_terms.Goals as goal

pub loop-j-init : goal.loop-j-init
loop-j-init c = no-terms _ _ _ _

pub number_place-x-requires : goal.number_place-x-requires
number_place-x-requires c = terms-names _ _ _ _ _ _ c.requires.names c.loop-j.invariant

pub loop-j-preserved : goal.loop-j-preserved
loop-j-preserved c = next-term _ _ _ _ _ _ (omega arith) c.requires.names.variables refl c.number_place-x.ensures c.loop-j.invariant

pub returns : goal.returns
returns c = terms-end _ _ _ _ _ _ _ (omega arith) (omega arith) c.loop-j.invariant
