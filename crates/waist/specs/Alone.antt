-- Tables in which rows came or went, and nothing else: the parts that are read as before.
-- Assumes nothing.
use Rattle.std.specs.Prelude.{ℕ, ◌+◌, ◌≤◌, ◌<◌, ◌≡◌, Bool, length}
use Rattle.std.proofs.Math.Path.{refl, sym}
use Rattle.std.proofs.Common.{ap, ◌∙◌, arith}
use mathlib.Core.List.{List}
use Rattle.std.proofs.Math.Dec.{eqb}
use Rattle.std.specs.Float.{nan}
use Rattle.std.proofs.Math.ListN.{get_or}
use Rattle.laws.specs.Lists.{list_of, tab-ext}
use Rattle.steps.specs.Number.{Mark}
use Rattle.steps.specs.State.{Basic, Variable}
use Rattle.steps.specs.Work.{with_tableau, with_rows}
use Rattle.sparse.specs.Places.{next_id_at, symbol_count_at, row_count_at, cell_count_at, variable_count_at, should_clear_at, gone_count_at, ids_at, variable_numbers_at, variable_uses_at, gone_numbers_at, kinds_at, row_places_at, variable_places_at, changed_at, old_values_at, objective_at, cutoff_at}
use Rattle.sparse.specs.Sparse.{Sparse, symbol_count, variable_count, symbol_at, variable_of, symbols_of, basics_of, objective_of, gone_of, read}
use Rattle.layout.specs.cells.Names.{last_place}
use Rattle.waist.specs.substituting.Notes.{noted}
use Rattle.waist.specs.substituting.Gone.{gone-kept}
use Rattle.waist.specs.substituting.Named.{Named}
use Rattle.waist.specs.Working.{artificial_of, work_of, work-parts}
use Rattle.waist.specs.Owning.{Owners, Low, owners-by}

pub record RowsAlone (t u : Sparse) : Type 0 where
  pub words : (q : ℕ) → (q ≡ row_count_at → ⊥) → (q ≡ cell_count_at → ⊥) → get_or u.words q 0 ≡ get_or t.words q 0
  pub long : length u.words ≡ length t.words
  pub low : (q : ℕ) → q ≤ row_places_at → get_or u.bytes q 0 ≡ get_or t.bytes q 0
  pub later : (q : ℕ) → variable_places_at ≤ q → get_or u.bytes q 0 ≡ get_or t.bytes q 0
  pub wide : length u.bytes ≡ length t.bytes
  pub reals : (q : ℕ) → old_values_at ≤ q → get_or u.reals q nan ≡ get_or t.reals q nan

module _ (t u : Sparse) (n : Named t.words t.bytes) (k : RowsAlone t u) where
  word : (q : ℕ) → cell_count_at < q → get_or u.words q 0 ≡ get_or t.words q 0
  word q h = k.words q (λ e. omega (arith, e, h)) (λ e. omega (arith, e, h))

  pub symbols-count : symbol_count u ≡ symbol_count t
  symbols-count = k.words symbol_count_at (λ e. omega (arith, e)) (λ e. omega (arith, e))

  pub symbol-alone : (p : ℕ) → p ≤ last_place → symbol_at u p ≡ symbol_at t p
  unfolding symbol_at
  symbol-alone p h = rw (word (ids_at + p) (omega arith), k.low (kinds_at + p) (omega (arith, h))) refl

  symbols-alone : symbols_of u ≡ symbols_of t
  unfolding symbols_of
  symbols-alone = let f = n.few-symbols in rw symbols-count (tab-ext (symbol_at u) (symbol_at t) 1 (symbol_count t) λ p a b. symbol-alone p (omega (arith, b, f)))

  objective-alone : objective_of u ≡ objective_of t
  unfolding objective_of
  objective-alone = rw symbols-count (tab-ext _ (λ p. get_or t.reals (objective_at + p) nan) 1 (symbol_count t) λ p a b. k.reals (objective_at + p) (omega arith))

  variable-alone : (v : ℕ) → v < variable_count t → variable_of u v ≡ variable_of t v
  unfolding variable_of
  variable-alone v h =
      let l = n.variables v h in
      let f = n.few-symbols in
      rw (word (variable_numbers_at + v) (omega arith), word (variable_uses_at + v) (omega arith), k.later (variable_places_at + v) (omega arith), k.later (changed_at + v) (omega arith), k.reals (old_values_at + v) (omega arith), symbol-alone (get_or t.bytes (variable_places_at + v) 0) (omega (arith, l, f))) refl

  gone-alone : gone_of u ≡ gone_of t
  gone-alone = gone-kept t u (word gone_count_at (omega arith)) (λ j. word (gone_numbers_at + j) (omega arith))

  changes-alone : (read u).changes ≡ (read t).changes
  unfolding read list_of
  changes-alone =
      rw (word variable_count_at (omega arith), gone-alone, word should_clear_at (omega arith))
      (ap (λ (x : List Variable). record { variables = x; gone = gone_of t; should_clear = eqb (get_or t.words should_clear_at 0) 1 }) (tab-ext (variable_of u) (variable_of t) 0 (variable_count t) λ v a b. variable-alone v (omega (arith, b))))

  pub named-alone : Named u.words u.bytes
  named-alone =
      let v : variable_count u ≡ variable_count t = word variable_count_at (omega arith) in
      record {
        long = k.long ∙ n.long;
        wide = k.wide ∙ n.wide;
        few-symbols = rw symbols-count n.few-symbols;
        few-variables = rw v n.few-variables;
        up = λ p q a b d. rw (word (ids_at + p) (omega arith), word (ids_at + q) (omega arith)) (n.up p q a b (rw symbols-count at d));
        variables = λ i a. rw (k.later (variable_places_at + i) (omega arith), symbols-count) (n.variables i (rw v at a));
      }

  pub owners-alone : Owners t → Owners u
  owners-alone = owners-by t u n (λ q a b c. k.words q b c) k.low (λ q a b. k.later q a) low
    where
      low : Low (noted t.words t.bytes) → Low (noted u.words u.bytes)
      low l =
          let v : variable_count u ≡ variable_count t = word variable_count_at (omega arith) in
          ((λ i a. rw (k.later (changed_at + i) (omega arith)) (l.0 i (rw v at a))), rw (word should_clear_at (omega arith)) l.1)

  -- only the rows are others
  pub work-alone : (art : Bool) (a : Mark) (v : ℕ) {rs : List Basic} → artificial_of art u ≡ artificial_of art t → basics_of u ≡ rs → work_of art a v u ≡ with_rows rs (work_of art a v t)
  unfolding with_rows with_tableau
  work-alone art a v e f =
      work-parts art a v u
      ∙ rw (k.reals cutoff_at (omega arith), symbols-alone, k.words next_id_at (λ e. omega (arith, e)) (λ e. omega (arith, e)), f, objective-alone, changes-alone, e) refl
      ∙ sym (ap (with_rows _) (work-parts art a v t))
