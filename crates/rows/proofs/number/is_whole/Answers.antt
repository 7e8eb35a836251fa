use Rattle.std.proofs.Common.{T, sym, ap, ◌∙◌, subst, w64}
use lib.Ieee.{binary64, neg, of_bits, of_int}
use mir.ValLaws.{to_z-of_z}
use Rattle.rows.specs.Integral.{large-test, small, small-asks, small-test}
use Rattle.rows.proofs.number.is_whole.Goals as goal

pub truncating_f64_to_i64-requires : goal.truncating_f64_to_i64-requires
unfolding of_bits neg small
truncating_f64_to_i64-requires c = let all = small-asks c.args.x c.if-x.true in record { lower_bound = all.0; upper_bound = all.1 }

pub returns-then-x : goal.returns-then-x
unfolding of_bits neg small
returns-then-x c = small-test c.args.x c.if-x.true c.truncating_f64_to_i64.ensures (c.nearest_i64_to_f64.ensures ∙ ap (of_int binary64) (to_z-of_z w64 c.truncating_f64_to_i64.result (record { sfits = c.truncating_f64_to_i64.type_inv })))

pub returns-else-x : goal.returns-else-x
unfolding of_bits neg small
returns-else-x c = c.is_finite.ensures ∙ large-test c.args.x (subst T (sym c.well_formed.0.1) tt) c.if-x.false
