use Rattle.std.proofs.Common.{rules, ℕ, ◌≡◌, ◌+◌, ◌≤◌, ◌<◌, List, get_or, Option, None, Some, arith}
use Rattle.std.specs.Prelude.{MatchOption}
use Rattle.std.specs.Option.{unwrap_or}
use Rattle.std.proofs.lemmas.Iterator.{first_from_Range}
use Rattle.stored.specs.Maps.{Sought}
use Rattle.stored.proofs.places.seek.Goals as goal

sought-by : {l : List ℕ} (base lo e x : ℕ) (f : Option ℕ) {r : ℕ} → lo ≤ e
    → MatchOption f ((k : ℕ) → lo ≤ k → k < e → get_or l (base + k) 0 < x) (λ i. (lo ≤ i) × (i < e) × (x ≤ get_or l (base + i) 0) × ((k : ℕ) → lo ≤ k → k < i → get_or l (base + k) 0 < x))
    → r ≡ unwrap_or f e → Sought l base lo e x r
sought-by base lo e x None h m q = rw q (record { low = h; high = omega arith; below = m; reached = λ k. absurd (omega (arith, k)) })
sought-by base lo e x (Some i) h m q = rw q (record { low = m.0; high = omega (arith, m.1); below = m.3; reached = λ k. m.2 })

pub returns : goal.returns
returns c = sought-by c.args.base c.args.start c.args.e c.args.x c.find.result c.requires.start_le_e (first_from_Range _ _ _ c.find.result (λ i. c.args.x ≤ get_or c.args.words.now (c.args.base + i) 0) (λ i. get_or c.args.words.now (c.args.base + i) 0 < c.args.x) c.find.ensures.ran (λ i q k. search rules) (λ i q k. search rules)) c.unwrap_or.ensures
