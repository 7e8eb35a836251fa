-- How a step over tables ends: as the steps' Outcome of what the tables read as.
-- Assumes nothing.
use Rattle.std.specs.Prelude.{ℕ, ◌≡◌, refl, Bool, true, false, cond, eqb, Result, Ok, Err}
use Rattle.std.proofs.Common.{sym, ◌∙◌}
use Rattle.std.proofs.Math.Path.{ap}
use Rattle.std.proofs.lemmas.Bool.{false≢true}
use Rattle.laws.specs.Given.{Then}
use Rattle.steps.specs.Number.{not_finite, whole_if}
use Rattle.steps.specs.Work.{Work, Outcome, refused, going, ◌>>=◌, refuse, check_finite}
use Rattle.rows.specs.declared.number.Wrote.{Wrote}
use Rattle.rows.specs.Marks.{mark_of}
use Rattle.sparse.specs.Sparse.{Sparse}
use Rattle.sparse.specs.declared.refusal.Refusal.{Refusal}
use Rattle.sparse.specs.declared.refusal.Refusal.TheVariants.{NotFinite, NegativeStrength, TooManyTerms, ConstraintLive, NoConstraint, EditLive, RequiredEdit, NoEdit, VariablesFull, ConstraintsFull, IdsFull, CannotBeMet, StepNotFinite, BudgetUsed, NoLeavingRow, NoEnteringSymbol, NoRemovalRow, NoState, CutoffOutside, GoneFull, GroupZero, NoGroup}
use Rattle.sparse.specs.Refusals.{refusal_number}
use Rattle.waist.specs.declared.ending.Went.{Went}
use Rattle.waist.specs.declared.ending.Refused.{Refused}
use Rattle.waist.specs.Working.{work_of}
use Rattle.waist.specs.Standing.{Standing}

-- how a step ends, by its number
pub record Ended : Type 0 where
  pub number : ℕ
  pub pivots : ℕ
  pub wrote : Wrote

abbrev pub ended : ℕ → ℕ → Wrote → Ended
ended n p w = record { number = n; pivots = p; wrote = w }

-- of what the code returns: 0 goes on, a refusal has its own
abbrev pub ended_of : Result Went Refused → Ended
ended_of (Ok m) = ended 0 m.pivots m.wrote
ended_of (Err e) = ended (refusal_number e.why) e.pivots e.wrote

-- no refusal has the number 0
pub refuses : (k : Refusal) → eqb (refusal_number k) 0 ≡ false
refuses NotFinite = refl
refuses NegativeStrength = refl
refuses TooManyTerms = refl
refuses ConstraintLive = refl
refuses NoConstraint = refl
refuses EditLive = refl
refuses RequiredEdit = refl
refuses NoEdit = refl
refuses VariablesFull = refl
refuses ConstraintsFull = refl
refuses IdsFull = refl
refuses CannotBeMet = refl
refuses StepNotFinite = refl
refuses BudgetUsed = refl
refuses NoLeavingRow = refl
refuses NoEnteringSymbol = refl
refuses NoRemovalRow = refl
refuses NoState = refl
refuses CutoffOutside = refl
refuses GoneFull = refl
refuses GroupZero = refl
refuses NoGroup = refl

-- number 0 goes on with what the tables read as; any other number is a refusal
unfoldable pub outcome_of : Bool → Ended → Sparse → Outcome Work
outcome_of art r t = cond (eqb r.number 0) (going (work_of art (mark_of r.wrote) r.pivots t)) (refused r.number r.pivots (mark_of r.wrote))

-- where the step goes on, the tables stand; a refusal promises nothing of them: they are the working room
abbrev pub Goes : Bool → Ended → Sparse → Type 0
Goes art r u = Then (eqb r.number 0) (Standing art (mark_of r.wrote) u)

-- 13: "a step writes a cell, a row constant or a factor not finite"
unfoldable pub checked_of : ℕ → Wrote → Ended
checked_of p w = ended (cond w.finite 0 13) p w

pub goes_on : (art : Bool) (p : ℕ) (w : Wrote) (t : Sparse) → outcome_of art (ended 0 p w) t ≡ going (work_of art (mark_of w) p t)
unfolding outcome_of
goes_on art p w t = refl

pub checked-is : (art : Bool) (p : ℕ) (w : Wrote) (t : Sparse) → outcome_of art (checked_of p w) t ≡ check_finite (work_of art (mark_of w) p t)
unfolding outcome_of checked_of check_finite refuse work_of mark_of whole_if
checked-is art p w t = by w.finite w.whole
  where
    by : (f g : Bool) → cond (eqb (cond f 0 13) 0) (going (work_of art (cond f (whole_if g) not_finite) p t)) (refused (cond f 0 13) p (cond f (whole_if g) not_finite)) ≡ check_finite (work_of art (cond f (whole_if g) not_finite) p t)
    by true true = refl
    by true false = refl
    by false g = refl

pub is-refused : (art : Bool) (r : Ended) (t : Sparse) → eqb r.number 0 ≡ false → outcome_of art r t ≡ refused r.number r.pivots (mark_of r.wrote)
unfolding outcome_of
is-refused art r t e = rw e refl

pub is-going : (art : Bool) (r : Ended) (t : Sparse) → eqb r.number 0 ≡ true → outcome_of art r t ≡ going (work_of art (mark_of r.wrote) r.pivots t)
unfolding outcome_of
is-going art r t e = rw e refl

-- ---- one step after another

module _ {B : Type 0} (art : Bool) (r : Ended) (t : Sparse) (o : Outcome Work) (f : Work → Outcome B) where
  pub refused-then : eqb r.number 0 ≡ false → outcome_of art r t ≡ o → refused r.number r.pivots (mark_of r.wrote) ≡ (o >>= f)
  unfolding ◌>>=◌
  refused-then e q = ap (λ (x : Outcome Work). x >>= f) (sym (is-refused art r t e) ∙ q)

  pub going-then : eqb r.number 0 ≡ true → outcome_of art r t ≡ o → f (work_of art (mark_of r.wrote) r.pivots t) ≡ (o >>= f)
  unfolding ◌>>=◌
  going-then e q = ap (λ (x : Outcome Work). x >>= f) (sym (is-going art r t e) ∙ q)

-- a refusal promises nothing of the tables
pub none_then : (X : Type 0) (b : Bool) → b ≡ false → Then b X
none_then X false e = tt
none_then X true e = absurd (false≢true (sym e))
