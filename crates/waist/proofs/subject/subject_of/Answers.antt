use native.Mathlib.Omega.{arith}
use borrow.Author.Tests.{eq-eqb, ne_eqb}
use Rattle.waist.specs.Subject.{negative-within, subject-external, subject-marker, subject-none, subject-other}
use Rattle.waist.proofs.subject.subject_of.Goals as goal

pub returns-in_default : goal.returns-in_default
returns-in_default c = record { value = subject-external _ _ _ _ _ c.first_along-f.ensures.value c.in_default.is; within = c.first_along-f.ensures.within }

pub returns-in_default-m : goal.returns-in_default-m
returns-in_default-m c = record { value = subject-marker _ _ _ _ _ c.first_along-f.ensures.value c.in-None.is c.negative_tag-m.ensures c.in_default-m.is; within = rw c.negative_tag-m.ensures (negative-within _ _ _ _ (omega arith) (omega arith)) }

pub returns-then-other-eq0 : goal.returns-then-other-eq0
returns-then-other-eq0 c = record { value = subject-none _ _ _ _ _ c.first_along-f.ensures.value c.in-None.is c.negative_tag-m.ensures c.in-None-m.is (eq-eqb _ _ c.if-other-eq0.true); within = tt }

pub returns : goal.returns
returns c = record { value = subject-other _ _ _ _ _ c.first_along-f.ensures.value c.in-None.is c.negative_tag-m.ensures c.in-None-m.is (ne_eqb _ _ c.if-other-eq0.false) c.negative_tag.ensures; within = rw c.negative_tag.ensures (negative-within _ _ _ _ (omega arith) (omega arith)) }
