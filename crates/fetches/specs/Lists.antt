-- Entries put on the three lists of a fetch, one after the other: together they are the entries laid over the lists.
-- Assumes nothing.
use Rattle.std.specs.Prelude.{ℕ, ◌+◌, ◌≡◌, refl, List, [], ◌∷◌, Float, length, set}
use Rattle.std.proofs.Common.{◌∙◌, add-zero, suc-add, add-suc, add-one}
use Rattle.std.specs.Float.{nan}
use Rattle.steps.specs.Changes.{Change}
use Rattle.layout.specs.Layout.{bit_of, over}
use Rattle.layout.specs.Laying.{laid_nil, laid_cons}
use Rattle.fetches.specs.Fetch.{numbers_of, values_of, flags_of}

-- the three lists, and how many places of them are filled
pub record Lists : Type 0 where
  pub numbers : List ℕ
  pub values : List Float
  pub gone : List ℕ
  pub count : ℕ

abbrev pub lists : List ℕ → List Float → List ℕ → ℕ → Lists
lists n v g c = record { numbers = n; values = v; gone = g; count = c }

-- one more entry
unfoldable pub append : Change → Lists → Lists
append c l = lists (set l.numbers l.count c.variable) (set l.values l.count c.new) (set l.gone l.count (bit_of c.gone)) (l.count + 1)

unfoldable pub fill : List Change → Lists → Lists
fill [] l = l
fill (c ∷ cs) l = fill cs (append c l)

abbrev laid_on : List Change → Lists → Lists
laid_on cs l = lists (over l.count (numbers_of cs) l.numbers) (over l.count (values_of cs) l.values) (over l.count (flags_of cs) l.gone) (l.count + length cs)

pub filled : (cs : List Change) (l : Lists) → fill cs l ≡ laid_on cs l
unfolding fill append over numbers_of values_of flags_of
filled [] l = rw (laid_nil (λ (y _ : ℕ). y) l.count l.numbers, laid_nil (λ (y _ : Float). y) l.count l.values, laid_nil (λ (y _ : ℕ). y) l.count l.gone, add-zero l.count) refl
filled (c ∷ cs) l =
    filled cs (append c l)
    ∙ rw (
      laid_cons (λ y _. y) l.count c.variable (numbers_of cs) l.numbers 0,
      laid_cons (λ y _. y) l.count c.new (values_of cs) l.values nan,
      laid_cons (λ y _. y) l.count (bit_of c.gone) (flags_of cs) l.gone 0,
      add-one l.count,
      suc-add l.count (length cs),
      add-suc l.count (length cs),
    ) refl
