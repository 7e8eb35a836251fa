use native.Mathlib.Omega.{arith}
use mathlib.Core.Path.{sym, ◌∙◌}
use Rattle.addition.specs.creation.Known.{known-here, known-new}
use Rattle.addition.proofs.creation.term.know_variable.Goals as goal

pub find_variable-f-requires : goal.find_variable-f-requires
find_variable-f-requires c = record { variable_count_at_bound = c.requires.sound.named.few-variables; ascends = c.requires.owners.up }

pub new_variable-requires : goal.new_variable-requires
new_variable-requires c = let e = sym c.find_variable-f.ensures.value ∙ c.in_default.is in let r = c.requires.room e in
    record { sound = c.requires.sound; values_bound = omega (arith, r.1); values_bound_2 = omega (arith, r.0); values_bound_3 = r.2; words_value = e }

pub returns-in_default : goal.returns-in_default
returns-in_default c = λ a s. let h = c.new_variable.ensures a s in known-new _ a _ _ _ _ (sym c.find_variable-f.ensures.value ∙ c.in_default.is) h.0 h.1

pub returns : goal.returns
returns c = λ a s. known-here _ a _ _ _ (sym c.find_variable-f.ensures.value ∙ c.in-Some.is) s
