use Rattle.waist.specs.Subject.{subject-is}
use Rattle.waist.proofs.subject.choose_subject.Goals as goal

pub returns : goal.returns
returns c = record { by_index = (λ k x y a v. subject-is _ c.requires.named _ a v _ _ c.requires.le_marker c.requires.marker_bound c.requires.other_bound c.subject_of.ensures.value); within = c.subject_of.ensures.within }
