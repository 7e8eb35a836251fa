use Rattle.std.proofs.Common.{sym, refl, ap, ◌∙◌, Option, Float}
use Rattle.text.specs.Choices.{yes-in, no-in}
use Rattle.text.specs.Format.{relation_of}
use Rattle.text.specs.Lines.{as_related}
use Rattle.text.proofs.calls.relation_word.Goals as goal

pub returns-in_err-s : goal.returns-in_err-s
unfolding relation_of
returns-in_err-s c = c.from_residual.ensures ∙ sym (ap (λ (x : Option Float). as_related (relation_of c.args.w.now x)) c.in_err-s.was)

pub returns-then-same : goal.returns-then-same
unfolding relation_of
returns-then-same c = yes-in as_related _ _ (sym c.same.ensures ∙ c.if-same.true) (refl)
    ∙ sym (ap (λ (x : Option Float). as_related (relation_of c.args.w.now x)) c.in_ok-s.was)

pub returns-then-same-2 : goal.returns-then-same-2
unfolding relation_of
returns-then-same-2 c = no-in as_related _ _ (sym c.same.ensures ∙ c.if-same.false) (yes-in as_related _ _ (sym c.same-2.ensures ∙ c.if-same-2.true) (refl))
    ∙ sym (ap (λ (x : Option Float). as_related (relation_of c.args.w.now x)) c.in_ok-s.was)

pub returns-then-same-3 : goal.returns-then-same-3
unfolding relation_of
returns-then-same-3 c = no-in as_related _ _ (sym c.same.ensures ∙ c.if-same.false) (no-in as_related _ _ (sym c.same-2.ensures ∙ c.if-same-2.false) (yes-in as_related _ _ (sym c.same-3.ensures ∙ c.if-same-3.true) (refl)))
    ∙ sym (ap (λ (x : Option Float). as_related (relation_of c.args.w.now x)) c.in_ok-s.was)

pub returns : goal.returns
unfolding relation_of
returns c = no-in as_related _ _ (sym c.same.ensures ∙ c.if-same.false) (no-in as_related _ _ (sym c.same-2.ensures ∙ c.if-same-2.false) (no-in as_related _ _ (sym c.same-3.ensures ∙ c.if-same-3.false) (refl)))
    ∙ sym (ap (λ (x : Option Float). as_related (relation_of c.args.w.now x)) c.in_ok-s.was)
