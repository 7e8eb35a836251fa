use Rattle.waist.specs.Choices.{leaving-chooses}
use Rattle.waist.proofs.choices.get_leaving_row.Goals as goal

pub returns : goal.returns
returns c = leaving-chooses _ _ c.requires.sound _ c.requires.le_p c.requires.p_bound c.ratio_row.ensures.within c.ratio_row.ensures.value
