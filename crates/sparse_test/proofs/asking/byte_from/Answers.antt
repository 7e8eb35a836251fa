use Rattle.std.proofs.Common.{rules, ℕ, Bool, true, false, ◌≡◌, ◌+◌, ◌∙◌, eqb, get_or, arith}
use Rattle.std.proofs.lemmas.Iterator.{first_from_Range}
use Rattle.laws.specs.Loops.{first-found, found-within}
use Rattle.rows.specs.places.Finding.{place_in}
use Rattle.sparse.specs.Lookup.{place_from}
use Rattle.sparse_test.proofs.asking.byte_from.Goals as goal

pub returns : goal.returns
unfolding place_from place_in
returns c =
    let p : ℕ → Bool = λ i. eqb c.args.x (get_or c.args.bytes.now (c.args.a + i) 0) in
    let m = first_from_Range _ _ _ c.find.result (λ i. p i ≡ true) (λ i. p i ≡ false) c.find.ensures.ran (λ i q k. search rules) (λ i q k. search rules) in
    record { value = c.unwrap_or.ensures ∙ first-found p c.args.n 0 c.args.n c.find.result (omega arith) m; upper_bound = rw c.unwrap_or.ensures (found-within p 0 c.args.n c.find.result m) }
