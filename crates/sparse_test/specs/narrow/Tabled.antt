-- Of tables that read as a state: the state's numbers are u32, and no cell of it is -0.0. Assumes nothing.
use Rattle.std.specs.Prelude.{ℕ, zero, suc, ◌+◌, ◌-◌, ◌*◌, ◌≤◌, ◌<◌, ◌≡◌, refl, Bool, true, false, cond, List, Float}
use Rattle.std.proofs.Common.{arith, le-leb}
use Rattle.std.proofs.Math.Dec.{eqb}
use Rattle.std.proofs.Math.ListN.{get_or}
use Rattle.std.specs.Float.{nan}
use Rattle.std.specs.Float.Ieee.{eq, ne}
use Rattle.std.proofs.lemmas.Bool.{not-true}
use Rattle.laws.specs.Loops.{seek, first}
use Rattle.laws.specs.Lists.{tab, list_of}
use Rattle.steps.specs.Number.{zero64}
use Rattle.steps.specs.Symbol.{absent}
use Rattle.steps.specs.Row.{stored}
use Rattle.steps.specs.State.{Basic, Variable, Constraint}
use Rattle.keeps.specs.Lists.{All}
use Rattle.sparse_test.specs.zeros.Plain.{Plain, PlainRow, zero-plain}
use Rattle.sparse_test.specs.zeros.PlainCalls.{PlainState}
use Rattle.layout.specs.cells.Names.{row_span}
use Rattle.layout.specs.cells.Cells.{cell_in, cell_at, row_of}
use Rattle.sparse.specs.Places.{next_id_at, variable_numbers_at, constraint_numbers_at, gone_numbers_at}
use Rattle.sparse.specs.Sparse.{Sparse, read, symbol_count, row_count, cell_count, basic_of, basics_of, variable_count, variable_of, constraint_count, constraint_of, gone_count, gone_of}
use Rattle.sparse.specs.Form.{Form}
use Rattle.sparse_test.specs.Stretch.{most}
use Rattle.sparse_test.specs.Reads.{greatest_u32, reads}
use Rattle.sparse_test.specs.Meaning.{reads-form, reads-parts}
use Rattle.sparse_test.specs.narrow.Numbers.{is_u32}
use Rattle.sparse_test.specs.narrow.Narrow.{Narrow}

pub all-tab : {A : Type 0} (P : A → Type 0) (g : ℕ → A) (i n : ℕ) → ((j : ℕ) → i ≤ j → j < i + n → P (g j)) → All P (tab g i n)
unfolding tab
all-tab P g i zero h = tt
all-tab P g i (suc n) h = (h i (omega arith) (omega arith), all-tab P g (suc i) n (λ j a b. h j (omega arith) (omega arith)))

-- ---- numbers that the tables hold are u32

pub narrow-of : (t : Sparse) → reads t ≡ true → Narrow (read t)
unfolding is_u32 read variable_of constraint_of gone_of list_of
narrow-of t h =
    let p = reads-parts t h in
    record {
      next = le-leb (get_or t.words next_id_at 0) greatest_u32 p.counts.next;
      variables = all-tab (λ (v : Variable). is_u32 v.number ≡ true) (variable_of t) 0 (variable_count t) (λ j a b. le-leb (get_or t.words (variable_numbers_at + j) 0) greatest_u32 (most t.words variable_numbers_at (variable_count t) greatest_u32 p.numbers j (omega (arith, b))));
      constraints = all-tab (λ (c : Constraint). is_u32 c.number ≡ true) (constraint_of t) 0 (constraint_count t) (λ j a b. le-leb (get_or t.words (constraint_numbers_at + j) 0) greatest_u32 (most t.words constraint_numbers_at (constraint_count t) greatest_u32 p.constraints j (omega (arith, b))));
      gone = all-tab (λ (n : ℕ). is_u32 n ≡ true) (λ j. get_or t.words (gone_numbers_at + j) 0) 0 (gone_count t) (λ j a b. le-leb (get_or t.words (gone_numbers_at + j) 0) greatest_u32 (most t.words gone_numbers_at (gone_count t) greatest_u32 p.gone j (omega (arith, b))));
    }

-- ---- a cell that is present is not 0.0, and one that is not is +0.0

present-plain : (c : Float) → ne c zero64 ≡ true → Plain c
unfolding stored absent ne
present-plain c e = let f : eq c zero64 ≡ false = not-true (eq c zero64) e in rw f refl

seek-any : (P : Float → Type 0) (p : ℕ → Bool) (g : ℕ → Float) (z : Float) (n i : ℕ) → P z → ((j : ℕ) → i ≤ j → j < i + n → P (g j)) → P (seek p g z n i)
unfolding seek
seek-any P p g z zero i y h = y
seek-any P p g z (suc n) i y h = go (p i) (h i (omega arith) (omega arith)) (seek-any P p g z n (suc i) y (λ j a b. h j (omega arith) (omega arith)))
  where
    go : (b : Bool) → P (g i) → P (seek p g z n (suc i)) → P (cond b (g i) (seek p g z n (suc i)))
    go true x w = x
    go false x w = w

module _ (keys : List ℕ) (vals : List Float) (n : ℕ) (present : (j : ℕ) → j < n → ne (get_or vals j nan) zero64 ≡ true) where
  cell-plain : (key : ℕ) → Plain (cell_at keys vals n key)
  unfolding cell_at cell_in first
  cell-plain key = seek-any (λ (x : Float). Plain x) (λ j. eqb key (get_or keys j 0)) (λ j. get_or vals j nan) zero64 (n - 0) 0 zero-plain (λ j a b. present-plain (get_or vals j nan) (present j (omega (arith, b))))

  row_plain : (k i : ℕ) → All Plain (row_of keys vals n k i)
  unfolding row_of
  row_plain k i = all-tab (λ (x : Float). Plain x) (λ p. cell_at keys vals n (i * row_span + p)) 1 k (λ p a b. cell-plain (i * row_span + p))

pub form-plain : (t : Sparse) → Form t → PlainState (read t)
unfolding read basics_of basic_of
form-plain t f = all-tab (λ (b : Basic). PlainRow b.row) (basic_of t) 1 (row_count t) (λ i a b. row_plain t.keys t.values (cell_count t) f.cells.present (symbol_count t) i)

pub plain_of : (t : Sparse) → reads t ≡ true → PlainState (read t)
plain_of t h = form-plain t (reads-form t h)
