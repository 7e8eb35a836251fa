use Rattle.std.proofs.Common.{T, sym, ap, ◌∙◌, subst, arith}
use lib.Ieee.{of_bits}
use Rattle.steps.specs.Number.{zero64}
use Rattle.rows.specs.places.Marked.{hit, product-fits}
use Rattle.rows.proofs.places.cell_hit.Goals as goal

pub returns-then-x-m : goal.returns-then-x-m
unfolding of_bits zero64 hit
returns-then-x-m c = record { hits = λ b q. ap hit (sym c.if-x-m.true ∙ product-fits _ b (subst T (sym c.well_formed.0.1) tt) q); upper_bound = omega arith }

pub returns-else-x-m : goal.returns-else-x-m
unfolding of_bits zero64 hit
returns-else-x-m c = record { hits = λ b q. ap hit (sym c.if-x-m.false ∙ product-fits _ b (subst T (sym c.well_formed.0.1) tt) q); upper_bound = omega arith }
