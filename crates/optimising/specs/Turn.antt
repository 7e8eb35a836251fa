-- A turn of a pass over tables: the pass that is left after it, on what the tables then read as, is the pass that was left before. So a loop of turns makes the pass.
-- Assumes nothing.
use Prim.Native.Nat.{ℕ, ◌+◌, ◌-◌, ◌≤◌, ◌<◌}
use Rattle.std.specs.Prelude.{◌≡◌, Bool, eqb, Result, Ok, Err, Option, Some, None}
use Rattle.std.proofs.Math.Path.{refl}
use Rattle.std.proofs.Common.{◌∙◌}
use Rattle.std.proofs.Math.Bool.{true, false, cond}
use Rattle.std.proofs.Math.Numerals.{add-one}
use native.Mathlib.Omega.{arith}
use Rattle.laws.specs.Given.{Then, then-given, then-of}
use Rattle.steps.specs.Number.{not_finite, whole_if}
use Rattle.steps.specs.Work.{Work, Outcome, refused, going, ◌>>=◌, refuse, check_finite, count_pivot}
use Rattle.rows.specs.declared.number.Wrote.{Wrote}
use Rattle.rows.specs.Marks.{mark_of}
use Rattle.sparse.specs.Sparse.{Sparse}
use Rattle.waist.specs.Working.{work_of}
use Rattle.waist.specs.Standing.{Standing}
use Rattle.waist.specs.declared.ending.Went.{Went}
use Rattle.waist.specs.declared.ending.Refused.{Refused}
use Rattle.waist.specs.Ending.{Ended, outcome_of, Goes, ended, ended_of}

-- a pass by what is left of the budget
abbrev pub Pass : Type 0
Pass = ℕ → Work → Outcome Work

-- ---- how a turn ends

-- `more` says that the pass goes on, after the pivots and with the marks of `ended`
pub record Turn : Type 0 where
  pub more : Bool
  pub ended : Ended

-- of what the code returns for a pivot: it goes on after one
abbrev pub went_of : Result Went Refused → Turn
went_of (Ok m) = record { more = true; ended = ended_of (Ok m) }
went_of (Err e) = record { more = false; ended = ended_of (Err e) }

-- of what the code returns for a turn: with no pivot made the pass ends as it stood
abbrev pub turn_of : ℕ → Wrote → Result (Option Went) Refused → Turn
turn_of p w (Ok (Some m)) = went_of (Ok m)
turn_of p w (Ok None) = record { more = false; ended = ended 0 p w }
turn_of p w (Err e) = went_of (Err e)

abbrev pub stopped_of : ℕ → ℕ → Wrote → Turn
stopped_of n p w = record { more = false; ended = ended n p w }

-- a pivot counts once it is made: 13 counts none
unfoldable pub counted_of : ℕ → Wrote → Turn
counted_of p w = record { more = w.finite; ended = ended (cond w.finite 0 13) (cond w.finite (p + 1) p) w }

-- what is left to do after a turn
unfoldable pub rest_of : Bool → Pass → ℕ → Turn → Sparse → Outcome Work
rest_of art run budget r t = cond r.more (run (budget - r.ended.pivots) (work_of art (mark_of r.ended.wrote) r.ended.pivots t)) (outcome_of art r.ended t)

-- from the tables t to the tables u, after `pivots` pivots
pub record Turned (art : Bool) (run : Pass) (budget pivots : ℕ) (before : Wrote) (t : Sparse) (r : Turn) (u : Sparse) : Type 0 where
  pub rest : rest_of art run budget r u ≡ run (budget - pivots) (work_of art (mark_of before) pivots t)
  pub goes : Goes art r.ended u
  pub on : Then r.more ((r.ended.number ≡ 0) × (pivots < r.ended.pivots) × (r.ended.pivots ≤ budget))

module _ (art : Bool) (run : Pass) (budget pivots : ℕ) (before : Wrote) (t : Sparse) where
  pub stop-turned : (n : ℕ) (u : Sparse) {r : Turn} → r ≡ stopped_of n pivots before → outcome_of art (ended n pivots before) u ≡ run (budget - pivots) (work_of art (mark_of before) pivots t) → Goes art (ended n pivots before) u
      → Turned art run budget pivots before t r u
  unfolding rest_of
  stop-turned n u e q g = rw e (record { rest = q; goes = g; on = tt })

  -- 13: "a step writes a cell, a row constant or a factor not finite"
  counted-rest : (w : Wrote) (u : Sparse) → rest_of art run budget (counted_of pivots w) u ≡ (check_finite (work_of art (mark_of w) pivots u) >>= (λ v. going (count_pivot v))) >>= (λ v. run (budget - (pivots + 1)) v)
  unfolding rest_of counted_of outcome_of check_finite refuse count_pivot ◌>>=◌ work_of mark_of whole_if
  counted-rest w u = by w.finite w.whole
    where
      by : (f g : Bool)
          → cond f (run (budget - cond f (pivots + 1) pivots) (work_of art (cond f (whole_if g) not_finite) (cond f (pivots + 1) pivots) u))
          (cond (eqb (cond f 0 13) 0) (going (work_of art (cond f (whole_if g) not_finite) (cond f (pivots + 1) pivots) u)) (refused (cond f 0 13) (cond f (pivots + 1) pivots) (cond f (whole_if g) not_finite)))
          ≡ ((check_finite (work_of art (cond f (whole_if g) not_finite) pivots u) >>= (λ v. going (count_pivot v))) >>= (λ v. run (budget - (pivots + 1)) v))
      by true true = rw add-one refl
      by true false = rw add-one refl
      by false g = refl

  pub counted-turned : (w : Wrote) (u : Sparse) {r : Turn} → r ≡ counted_of pivots w → pivots < budget
      → (check_finite (work_of art (mark_of w) pivots u) >>= (λ v. going (count_pivot v))) >>= (λ v. run (budget - (pivots + 1)) v) ≡ run (budget - pivots) (work_of art (mark_of before) pivots t)
      → Standing art (mark_of w) u
      → Turned art run budget pivots before t r u
  unfolding counted_of
  counted-turned w u e less q s =
      rw e (record { rest = counted-rest w u ∙ q; goes = then-of _ (eqb (cond w.finite 0 13) 0) (λ _. s); on = then-of _ w.finite (λ f. rw f (refl, omega (arith, less), omega (arith, less))) })

-- a refusal leaves the tables to their owner
pub refused-is : (art : Bool) (n pivots : ℕ) (w : Wrote) (t : Sparse) → eqb n 0 ≡ false → outcome_of art (ended n pivots w) t ≡ refuse n (work_of art (mark_of w) pivots t)
unfolding outcome_of refuse work_of
refused-is art n pivots w t e = rw e refl

-- ---- a loop of turns: z is the whole pass

pub record Passing (art : Bool) (run : Pass) (budget : ℕ) (z : Outcome Work) (turn : Turn) (t : Sparse) : Type 0 where
  pub rest : rest_of art run budget turn t ≡ z
  pub goes : Goes art turn.ended t
  pub on : Then turn.more (turn.ended.number ≡ 0)

module _ (art : Bool) (run : Pass) (budget : ℕ) where
  pub pass-starts : (pivots : ℕ) (before : Wrote) (t : Sparse) → Standing art (mark_of before) t
      → Passing art run budget (run (budget - pivots) (work_of art (mark_of before) pivots t)) (record { more = true; ended = ended 0 pivots before }) t
  unfolding rest_of
  pass-starts pivots before t s = record { rest = refl; goes = s; on = refl }

  module _ {z : Outcome Work} {t : Sparse} {turn : Turn} (p : Passing art run budget z turn t) where
    pub pass-turns : turn.more ≡ true → {r : Turn} {u : Sparse} → Turned art run budget turn.ended.pivots turn.ended.wrote t r u → Passing art run budget z r u
    unfolding rest_of
    pass-turns m {r} {u} q = record { rest = q.rest ∙ (rw m at p.rest); goes = q.goes; on = then-of _ r.more (λ e. (then-given _ e q.on).0) }

    pub pass-ends : turn.more ≡ false → (outcome_of art turn.ended t ≡ z) × (Goes art turn.ended t)
    unfolding rest_of
    pass-ends m = (rw m at p.rest, p.goes)

  -- a loop goes on from what was made by its last turn
  module _ {z : Outcome Work} {t : Sparse} {m : Went} (p : Passing art run budget z (went_of (Ok m)) t) {u : Sparse} where
    pub pass-next : {o : Option Went} {n : Went} → o ≡ Some n → Turned art run budget m.pivots m.wrote t (turn_of m.pivots m.wrote (Ok o)) u → Passing art run budget z (went_of (Ok n)) u
    pass-next e q = pass-turns p refl (rw e at q)

    pub pass-over : {o : Option Went} → o ≡ None → Turned art run budget m.pivots m.wrote t (turn_of m.pivots m.wrote (Ok o)) u → (outcome_of art (ended_of (Ok m)) u ≡ z) × Goes art (ended_of (Ok m)) u
    pass-over e q = pass-ends (pass-turns p refl (rw e at q)) refl

    pub pass-refused : (e : Refused) → Turned art run budget m.pivots m.wrote t (turn_of m.pivots m.wrote (Err e)) u → (outcome_of art (ended_of (Err e)) u ≡ z) × Goes art (ended_of (Err e)) u
    pass-refused e q = pass-ends (pass-turns p refl q) refl
