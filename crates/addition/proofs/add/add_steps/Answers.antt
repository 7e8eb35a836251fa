use Rattle.std.proofs.Common.{rules, ◌∙◌}
use Rattle.std.proofs.lemmas.Result.{err_from_is_err_and}
use Rattle.addition.specs.Whole.{opening-first, made_by, tag-live, added_of, added-refusal, steps-are}
use Rattle.addition.proofs.add.add_steps.Goals as goal

pub create_row-made-requires : goal.create_row-made-requires
create_row-made-requires c = record { opening = opening-first _ _ _ _ _ _ c.mark_inputs-first.ensures c.requires.opening; spare = c.requires.spare }

pub add_row-requires : goal.add_row-requires
add_row-requires c = made_by _ _ _ _ _ _ _ _ (opening-first _ _ _ _ _ _ c.mark_inputs-first.ensures c.requires.opening) c.create_row-made.ensures

pub returns-in_err-went : goal.returns-in_err-went
returns-in_err-went c =
    let m = made_by _ _ _ _ _ _ _ _ (opening-first _ _ _ _ _ _ c.mark_inputs-first.ensures c.requires.opening) c.create_row-made.ensures in
    let p = err_from_is_err_and c.from_residual.result c.from_residual.ensures.1 in rw (p.1, p.2) (record { values_value = added-refusal _ _ _ _ ∙ steps-are _ _ _ _ _ _ _ _ _ _ _ _ c.mark_inputs-first.ensures c.create_row-made.ensures.reads m c.in_err-went.ensures.values_value; goes = tt; then = tt; same = search rules })

pub returns : goal.returns
unfolding added_of
returns c = let m = made_by _ _ _ _ _ _ _ _ (opening-first _ _ _ _ _ _ c.mark_inputs-first.ensures c.requires.opening) c.create_row-made.ensures in
    record { values_value = steps-are _ _ _ _ _ _ _ _ _ _ _ _ c.mark_inputs-first.ensures c.create_row-made.ensures.reads m c.in_ok-went.ensures.values_value; goes = c.in_ok-went.ensures.goes; then = tag-live _ _ _ _ _ m _ _ _ c.in_ok-went.ensures.values_value; same = search rules }
