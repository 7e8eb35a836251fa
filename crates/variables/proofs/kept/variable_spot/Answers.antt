use Rattle.std.proofs.Common.{rules, ℕ, Bool, true, false, ◌≡◌, ◌+◌, ◌∙◌, ltb, get_or, arith}
use Rattle.std.proofs.lemmas.Iterator.{first_from_Range}
use Rattle.laws.specs.Loops.{first-found, found-within}
use Rattle.sparse.specs.Places.{variable_count_at, variable_numbers_at}
use Rattle.variables.specs.Variables.{spot_in}
use Rattle.variables.proofs.kept.variable_spot.Goals as goal

pub returns : goal.returns
unfolding spot_in
returns c =
    let p : ℕ → Bool = λ i. ltb c.args.n (get_or c.args.words.now (variable_numbers_at + i) 0) in
    let e : ℕ = get_or c.args.words.now variable_count_at 0 in
    let m = first_from_Range _ _ _ c.find.result (λ i. p i ≡ true) (λ i. p i ≡ false) c.find.ensures.ran (λ i q k. search rules) (λ i q k. search rules) in
    record { value = c.unwrap_or.ensures ∙ first-found p e 0 e c.find.result (omega arith) m; upper_bound = rw c.unwrap_or.ensures (found-within p 0 e c.find.result m) }
