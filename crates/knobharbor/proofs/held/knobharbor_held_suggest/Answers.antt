use Rattle.std.proofs.Common.{◌≡◌, true, rules, sym, subst, ap, ◌∙◌}
use Rattle.steps.specs.Calls.{suggest}
use Rattle.waist.specs.Working.{sparse}
use Rattle.sparse_test.specs.Reads.{reads}
use Rattle.lending.specs.Lending.{Called, call_in}
use Rattle.knobharbor.specs.Places.{in_places}
use Rattle.knobharbor.specs.Together.{back}
use Rattle.knobharbor.proofs.held.knobharbor_held_suggest.Goals as goal

pub suggest_held-a-requires : goal.suggest_held-a-requires
suggest_held-a-requires c = subst (λ t. reads t ≡ true) (sym c.to_write.ensures.value) c.requires

pub returns-clause-answer_after : goal.returns-clause-answer_after
returns-clause-answer_after c = c.put.ensures ∙ ap (λ (x : Called). in_places x.answer) (c.suggest_held-a.ensures.values_value ∙ ap (call_in (suggest c.args.variable c.args.suggestion c.args.budget)) c.to_write.ensures.value)

pub returns-clause-values_value : goal.returns-clause-values_value
returns-clause-values_value c =
    let t = sparse c.args.words.now c.args.keys.now c.args.bytes.now c.args.reals.now c.args.values.now in
    back c.suggest_held-a.new.tables (search rules) (λ u. u ≡ (call_in (suggest c.args.variable c.args.suggestion c.args.budget) t).tables)
    (ap (λ (x : Called). x.tables) (c.suggest_held-a.ensures.values_value ∙ ap (call_in (suggest c.args.variable c.args.suggestion c.args.budget)) c.to_write.ensures.value))

pub returns-clause-values_value_2 : goal.returns-clause-values_value_2
returns-clause-values_value_2 c = back c.suggest_held-a.new.tables (search rules) (λ u. reads u ≡ true) c.suggest_held-a.ensures.values_value_2
