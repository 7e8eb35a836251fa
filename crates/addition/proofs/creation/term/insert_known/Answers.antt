use native.Mathlib.Omega.{arith}
use mathlib.Core.Path.{sym, ◌∙◌}
use Rattle.variables.specs.Found.{found_at}
use Rattle.addition.specs.creation.Steps.{steps-none}
use Rattle.addition.specs.creation.Terms.{used-none, known-ready, known-calls}
use Rattle.addition.proofs.creation.term.insert_known.Goals as goal

pub find_variable-f-requires : goal.find_variable-f-requires
find_variable-f-requires c = record { variable_count_at_bound = c.requires.standing.sound.named.few-variables; ascends = c.requires.standing.owners.up }

pub returns-in_default : goal.returns-in_default
returns-in_default c = record { builds = used-none _ _ _ _ c.requires.standing _ (sym c.find_variable-f.ensures.value ∙ c.in_default.is); steps = steps-none 0 1 _ }

pub count_use-requires : goal.count_use-requires
count_use-requires c = let l = (found_at _ _ (sym c.find_variable-f.ensures.value ∙ c.in-Some.is)).0 in let u = c.requires.used _ l in
    record { v_lt_most_variables = omega (arith, l, c.requires.standing.sound.named.few-variables); v_bound = omega (arith, u) }

pub overflow_add-v : goal.overflow_add-v
overflow_add-v c = let l = (found_at _ _ (sym c.find_variable-f.ensures.value ∙ c.in-Some.is)).0 in omega (arith, l, c.requires.standing.sound.named.few-variables)

pub bounds-bytes-v : goal.bounds-bytes-v
bounds-bytes-v c = let l = (found_at _ _ (sym c.find_variable-f.ensures.value ∙ c.in-Some.is)).0 in omega (arith, l, c.requires.standing.sound.named.few-variables)

pub insert_variable-requires : goal.insert_variable-requires
insert_variable-requires c = let all = known-ready _ _ _ _ c.requires.standing (sym c.find_variable-f.ensures.value ∙ c.in-Some.is) _ c.count_use.ensures in record { standing = all.0; le_p = all.1.0; p_bound = all.1.1 }

pub returns : goal.returns
returns c = let all = known-calls _ _ _ _ c.requires.standing (sym c.find_variable-f.ensures.value ∙ c.in-Some.is) _ c.count_use.ensures _ _ c.insert_variable.ensures in record { builds = all.0; steps = all.1 }
