use Rattle.waist.specs.MarkerRow.{rank-one, rank-two, rank-three, rank-four, marker-chooses}
use Rattle.waist.proofs.choices.get_marker_leaving_row.Goals as goal

pub returns-in_default : goal.returns-in_default
returns-in_default c = marker-chooses _ c.requires.sound _ c.requires.le_p c.requires.p_bound (rank-one _ _ c.first_dummy_row-f.ensures.value c.in_default.is) c.first_dummy_row-f.ensures.within

pub returns-in_default-g : goal.returns-in_default-g
returns-in_default-g c = marker-chooses _ c.requires.sound _ c.requires.le_p c.requires.p_bound (rank-two _ _ c.first_dummy_row-f.ensures.value c.in-None.is c.ratio_row-g.ensures.value c.in_default-g.is) c.ratio_row-g.ensures.within

pub returns-in_default-h : goal.returns-in_default-h
returns-in_default-h c = marker-chooses _ c.requires.sound _ c.requires.le_p c.requires.p_bound (rank-three _ _ c.first_dummy_row-f.ensures.value c.in-None.is c.ratio_row-g.ensures.value c.in-None-g.is c.ratio_row-h.ensures.value c.in_default-h.is) c.ratio_row-h.ensures.within

pub returns : goal.returns
returns c = marker-chooses _ c.requires.sound _ c.requires.le_p c.requires.p_bound (rank-four _ _ c.first_dummy_row-f.ensures.value c.in-None.is c.ratio_row-g.ensures.value c.in-None-g.is c.ratio_row-h.ensures.value c.in-None-h.is c.last_external_row.ensures.value) c.last_external_row.ensures.within
