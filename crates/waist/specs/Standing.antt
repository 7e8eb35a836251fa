-- What the steps of a call may take for granted of its tables, and what each of them promises: the work of the exit is the step of the work of the entry, and the tables stand again.
use Rattle.std.specs.Prelude.{ℕ, ◌+◌, ◌<◌, ◌≡◌, Bool, get_or}
use Rattle.std.proofs.Math.Option.{Option, none, some}
use Rattle.steps.specs.Number.{Mark}
use Rattle.steps.specs.Symbol.{Symbol}
use Rattle.steps.specs.Work.{Work}
use Rattle.keeps.specs.Fits.{FitsW}
use Rattle.rows.specs.choose.Choose.{Found}
use Rattle.rows.specs.choose.Choose.{Within, on_found}
use Rattle.sparse.specs.Places.{variable_places_at}
use Rattle.sparse.specs.Sparse.{Sparse, variable_count, basic_of}
use Rattle.waist.specs.Working.{work_of, Sound}
pub use Rattle.waist.specs.Owning.{Inside, Owners}

-- `art` says whether an artificial objective stands, `a` is the mark of what the call wrote so far
pub record Standing (art : Bool) (a : Mark) (t : Sparse) : Type 0 where
  pub sound : Sound art t
  pub inside : Inside t
  pub owners : Owners t
  pub fits : FitsW (work_of art a 0 t)

-- a step f of the work, from the tables t to the tables u: `before` and `after` are the marks of what was written
pub record Makes (art b : Bool) (before after : Mark) (f : Work → Work) (t u : Sparse) : Type 0 where
  pub reads : (v : ℕ) → work_of b after v u ≡ f (work_of art before v t)
  pub stands : Standing b after u

-- no variable's symbol stands at place p
abbrev pub Unowned : ℕ → Sparse → Type 0
Unowned p t = (v : ℕ) → v < variable_count t → get_or t.bytes (variable_places_at + v) 0 ≡ p → ⊥

-- ---- choices

-- the symbol that row i is for
abbrev pub row_symbol : Sparse → ℕ → Symbol
row_symbol t i = (basic_of t i).symbol

-- what the steps choose on what the tables read as, by the place found: one of the first n
pub record Chooses (art : Bool) (c : Work → Option Symbol) (at : ℕ → Symbol) (n : ℕ) (t : Sparse) (r : Found) : Type 0 where
  pub is : (a : Mark) (v : ℕ) → c (work_of art a v t) ≡ on_found (λ i. some (at i)) none r
  pub within : Within n r
