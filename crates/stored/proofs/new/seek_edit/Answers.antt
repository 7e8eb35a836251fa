use Rattle.std.proofs.Common.{rules, ℕ, ◌≡◌, ◌+◌, ◌≤◌, ◌<◌, List, get_or, Option, None, Some, arith}
use Rattle.std.specs.Prelude.{MatchOption}
use Rattle.std.specs.Option.{unwrap_or}
use Rattle.std.proofs.lemmas.Iterator.{first_from_Range}
use Rattle.sparse.specs.Places.{edit_count_at}
use Rattle.stored.specs.Put.{edit_number, EditSought}
use Rattle.stored.proofs.new.seek_edit.Goals as goal

sought-by : (w b : List ℕ) (n : ℕ) (f : Option ℕ) {r : ℕ}
    → MatchOption f ((k : ℕ) → 0 ≤ k → k < get_or w edit_count_at 0 → edit_number w b k ≤ n) (λ i. (0 ≤ i) × (i < get_or w edit_count_at 0) × (n < edit_number w b i) × ((k : ℕ) → 0 ≤ k → k < i → edit_number w b k ≤ n))
    → r ≡ unwrap_or f (get_or w edit_count_at 0) → EditSought w b n r
sought-by w b n None m q = rw q (record { high = omega arith; below = λ k. m k (omega arith); reached = λ k. absurd (omega (arith, k)) })
sought-by w b n (Some i) m q = rw q (record { high = omega (arith, m.1); below = λ k. m.3 k (omega arith); reached = λ k. m.2 })

pub returns : goal.returns
returns c = sought-by _ _ _ c.find.result (first_from_Range _ _ _ c.find.result (λ i. c.args.n < edit_number c.args.words.now c.args.bytes.now i) (λ i. edit_number c.args.words.now c.args.bytes.now i ≤ c.args.n) c.find.ensures.ran (λ i q k. search rules) (λ i q k. search rules)) c.unwrap_or.ensures
