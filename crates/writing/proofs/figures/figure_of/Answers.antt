use Rattle.std.proofs.Common.{◌≡◌, Bool, true, ◌&&◌, sym, ap, ◌∙◌}
use lib.Ieee.{of_bits, neg}
use Rattle.steps.specs.Number.{zero64}
use Rattle.rows.specs.Integral.{small}
use Rattle.writing.specs.Figures.{is_figure, figure-asks, figure-yes, figure-no}
use Rattle.writing.proofs.figures.figure_of.Goals as goal

pub truncating_f64_to_u64-size-requires : goal.truncating_f64_to_u64-size-requires
unfolding of_bits neg small
truncating_f64_to_u64-size-requires c =
    let t : is_figure c.args.x ≡ true = ap (λ (b : Bool). small c.args.x && b) (sym c.is_whole.ensures) ∙ c.if-x-is_whole.true in
    let all = figure-asks c.args.x (rw t tt) c.magnitude.ensures in record { lower_bound = all.0; upper_bound = all.1 }

pub returns-then-x-is_whole : goal.returns-then-x-is_whole
unfolding of_bits neg small zero64
returns-then-x-is_whole c =
    let t : is_figure c.args.x ≡ true = ap (λ (b : Bool). small c.args.x && b) (sym c.is_whole.ensures) ∙ c.if-x-is_whole.true in
    figure-yes c.args.x (rw t tt) c.magnitude.ensures c.truncating_f64_to_u64-size.ensures

pub returns : goal.returns
unfolding of_bits neg small
returns c = figure-no c.args.x (ap (λ (b : Bool). small c.args.x && b) (sym c.is_whole.ensures) ∙ c.if-x-is_whole.false)
