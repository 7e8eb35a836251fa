use mathlib.Core.Path.{sym, ◌∙◌}
use Rattle.addition.specs.creation.Steps.{steps-none}
use Rattle.addition.specs.creation.Terms.{kept-skips, kept-inserts}
use Rattle.addition.proofs.creation.term.insert_kept.Goals as goal

pub returns-then-near_zero : goal.returns-then-near_zero
returns-then-near_zero c = record { builds = kept-skips _ _ _ _ _ _ (sym c.near_zero.ensures ∙ c.if-near_zero.true) c.requires.standing; steps = steps-none 1 1 _ }

pub insert_term-requires : goal.insert_term-requires
insert_term-requires c = record { standing = c.requires.standing; room = c.requires.room (sym c.near_zero.ensures ∙ c.if-near_zero.false); used = c.requires.used }

pub returns : goal.returns
returns c = record { builds = kept-inserts _ _ _ (sym c.near_zero.ensures ∙ c.if-near_zero.false) c.insert_term.ensures.builds; steps = c.insert_term.ensures.steps }
