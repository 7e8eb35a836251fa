-- One step after another: what both come to, by how the first ended.
-- Assumes nothing.
use Rattle.std.specs.Prelude.{ℕ, ◌≡◌, true, false, eqb}
use Rattle.std.proofs.Common.{ap, ◌∙◌}
use Rattle.laws.specs.Given.{then-given, then-of}
use Rattle.steps.specs.Number.{Mark}
use Rattle.steps.specs.Work.{Work, Outcome, going, ◌>>=◌, check_finite}
use Rattle.rows.specs.declared.number.Wrote.{Wrote}
use Rattle.rows.specs.Marks.{mark_of}
use Rattle.sparse.specs.Sparse.{Sparse}
use Rattle.waist.specs.Working.{work_of}
use Rattle.waist.specs.Standing.{Standing, Makes}
use Rattle.waist.specs.Ending.{Ended, outcome_of, Goes, checked_of, checked-is, is-refused, is-going, refused-then, going-then, none_then}

-- the outcome at the tables u is x, and where it goes on the tables stand
abbrev pub Reached : Outcome Work → Ended → Sparse → Type 0
Reached x r u = (outcome_of false r u ≡ x) × Goes false r u

pub reached-is : {x y : Outcome Work} (r : Ended) (u : Sparse) → x ≡ y → Reached x r u → Reached y r u
reached-is r u e c = (c.0 ∙ e, c.1)

module _ (r : Ended) (u : Sparse) where
  pub goes_given : eqb r.number 0 ≡ true → Goes false r u → Standing false (mark_of r.wrote) u
  goes_given e g = then-given (Standing false (mark_of r.wrote) u) e g

  module _ (f : Work → Outcome Work) {x : Outcome Work} (c : Reached x r u) where
    -- a refusal stays
    pub after-refused : eqb r.number 0 ≡ false → Reached (x >>= f) r u
    after-refused e = (is-refused false r u e ∙ refused-then false r u x f e c.0, none_then (Standing false (mark_of r.wrote) u) (eqb r.number 0) e)

    -- the next step goes on with what the tables read as
    pub after-going : (q : Ended) (v : Sparse) → eqb r.number 0 ≡ true → Reached (f (work_of false (mark_of r.wrote) r.pivots u)) q v → Reached (x >>= f) q v
    after-going q v e d = reached-is q v (going-then false r u x f e c.0) d

-- a step of the work, after which the same outcome goes on
pub reached-made : (r : Ended) (u v : Sparse) (f : Work → Work) → eqb r.number 0 ≡ true → Makes false false (mark_of r.wrote) (mark_of r.wrote) f u v → Reached (going (f (work_of false (mark_of r.wrote) r.pivots u))) r v
reached-made r u v f e m = (
  is-going false r v e ∙ ap (λ (x : Work). going x) (m.reads r.pivots),
  then-of (Standing false (mark_of r.wrote) v) (eqb r.number 0) (λ _. m.stands),
)

-- 13: "a step writes a cell, a row constant or a factor not finite"
pub reached-checked : (a : Mark) (w : Wrote) (n : ℕ) (r : Ended) (t u : Sparse) (f : Work → Work) → Makes false false a (mark_of w) f t u → r ≡ checked_of n w → Reached (check_finite (f (work_of false a n t))) r u
unfolding checked_of
reached-checked a w n r t u f m e = (
  (rw e (checked-is false n w u)) ∙ ap check_finite (m.reads n),
  then-of (Standing false (mark_of r.wrote) u) (eqb r.number 0) (λ _. rw wrote-is m.stands),
)
  where
    wrote-is : r.wrote ≡ w
    wrote-is = ap (λ (x : Ended). x.wrote) e
