-- A turn of either pass over tables that stand, by what it chose: the pass ends, is stuck, needs a pivot that the budget does not give, or makes one.
-- Assumes nothing.
use Rattle.std.specs.Prelude.{ℕ, zero, suc, ◌+◌, ◌-◌, ◌≤◌, ◌<◌, ◌≡◌, refl, Bool, eqb}
use Rattle.std.proofs.Common.{sym, ◌∙◌, arith}
use Rattle.std.proofs.Math.Path.{ap}
use Rattle.std.proofs.Math.Bool.{false}
use Rattle.std.proofs.Math.Option.{Option, none, some}
use Rattle.steps.specs.Number.{Mark}
use Rattle.steps.specs.Symbol.{Symbol}
use Rattle.steps.specs.State.{Basic}
use Rattle.steps.specs.Work.{Work, Outcome, going, ◌>>=◌, refuse, check_finite, count_pivot}
use Rattle.steps.specs.Substitute.{pivot}
use Rattle.steps.specs.Optimise.{Choice, ended, stuck, pivot_on, counted_pivot, get_entering_symbol, get_leaving_row, choose_pivot, optimise, get_dual_entering_symbol, choose_dual_pivot, dual_optimise}
use Rattle.rows.specs.declared.number.Wrote.{Wrote}
use Rattle.rows.specs.Marks.{mark_of}
use Rattle.rows.specs.choose.Choose.{Found}
use Rattle.std.specs.Prelude.{Some, None}
use Rattle.rows.specs.choose.Choose.{on_found}
use Rattle.rows.specs.choose.Steps.{picked}
use Rattle.sparse.specs.Sparse.{Sparse, symbol_count, row_count, symbol_at, basic_of}
use Rattle.waist.specs.Working.{work_of}
use Rattle.waist.specs.Standing.{Standing, Makes, row_symbol, Chooses}
use Rattle.waist.specs.Ending.{goes_on, none_then}
use Rattle.waist.specs.Choosing.{goal_of, dual_leaving_of, dual-leaving-reads}
use Rattle.optimising.specs.Turn.{Turn, Pass, stopped_of, counted_of, Turned, stop-turned, counted-turned, refused-is}

-- ---- a pass, by what there is to do: where it is stuck it refuses with n

pub record ByTurns (run : Pass) (choose : Work → Choice) (n : ℕ) : Type 0 where
  pub refuses : eqb n 0 ≡ false
  pub last : (w : Work) → run 0 w ≡ elim (choose w) [ ended ↦ going w | stuck ↦ refuse n w | pivot_on l e ↦ refuse 14 w ]
  pub next : (left : ℕ) (w : Work) → run (suc left) w ≡ elim (choose w) [ ended ↦ going w | stuck ↦ refuse n w | pivot_on l e ↦ counted_pivot l e w >>= λ v. run left v ]

module _ {run : Pass} {choose : Work → Choice} {n : ℕ} (turns : ByTurns run choose n) (w : Work) where
  abbrev at_limit : Choice → Outcome Work
  at_limit c = elim c [ ended ↦ going w | stuck ↦ refuse n w | pivot_on l e ↦ refuse 14 w ]

  abbrev onward : ℕ → Choice → Outcome Work
  onward left c = elim c [ ended ↦ going w | stuck ↦ refuse n w | pivot_on l e ↦ counted_pivot l e w >>= λ v. run left v ]

  ends-here : (left : ℕ) → choose w ≡ ended → run left w ≡ going w
  ends-here zero e = turns.last w ∙ ap at_limit e
  ends-here (suc left) e = turns.next left w ∙ ap (onward left) e

  stuck-here : (left : ℕ) → choose w ≡ stuck → run left w ≡ refuse n w
  stuck-here zero e = turns.last w ∙ ap at_limit e
  stuck-here (suc left) e = turns.next left w ∙ ap (onward left) e

  module _ {l e : Symbol} (c : choose w ≡ pivot_on l e) where
    -- "14 is tested after 15 and 16."
    limit-here : (left : ℕ) → left ≡ 0 → run left w ≡ refuse 14 w
    limit-here left z = ap (λ (k : ℕ). run k w) z ∙ turns.last w ∙ ap at_limit c

    pivots-here : (left k : ℕ) → left ≡ suc k → run left w ≡ (check_finite (pivot l.id e w) >>= (λ v. going (count_pivot v))) >>= (λ v. run k v)
    unfolding counted_pivot
    pivots-here left k z = ap (λ (k : ℕ). run k w) z ∙ turns.next k w ∙ ap (onward k) c

-- ---- over tables

module _ {run : Pass} {choose : Work → Choice} {k : ℕ} (turns : ByTurns run choose k) (art : Bool) (before : Wrote) (t : Sparse) (budget pivots : ℕ) where
  abbrev x : Work
  x = work_of art (mark_of before) pivots t

  -- "none ends the pass"
  pub turn-ends : Standing art (mark_of before) t → {r : Turn} → choose x ≡ ended → r ≡ stopped_of 0 pivots before → Turned art run budget pivots before t r t
  turn-ends s c e = stop-turned art run budget pivots before t 0 t e (goes_on art pivots before t ∙ sym (ends-here turns x (budget - pivots) c)) s

  -- 15: "an optimise pass finds no leaving row"
  -- 16: "a dual pass finds no entering symbol"
  pub turn-stuck : {r : Turn} → choose x ≡ stuck → r ≡ stopped_of k pivots before → Turned art run budget pivots before t r t
  turn-stuck c e =
      stop-turned art run budget pivots before t k t e (refused-is art k pivots before t turns.refuses ∙ sym (stuck-here turns x (budget - pivots) c)) (none_then _ (eqb k 0) turns.refuses)

  module _ {l n : Symbol} (c : choose x ≡ pivot_on l n) where
    -- 14: "a pass needs a pivot and the budget is used"
    pub turn-limit : {r : Turn} → budget ≤ pivots → r ≡ stopped_of 14 pivots before → Turned art run budget pivots before t r t
    turn-limit over e = stop-turned art run budget pivots before t 14 t e (refused-is art 14 pivots before t refl ∙ sym (limit-here turns x c (budget - pivots) (omega (arith, over)))) tt

    pub turn-pivots : (o : Wrote) {r : Turn} {u : Sparse} → pivots < budget → Makes art art (mark_of before) (mark_of o) (pivot l.id n) t u → r ≡ counted_of pivots o → Turned art run budget pivots before t r u
    turn-pivots o {r} {u} less m e =
        counted-turned art run budget pivots before t o u e less
        (ap (λ (y : Work). (check_finite y >>= (λ v. going (count_pivot v))) >>= (λ v. run (budget - (pivots + 1)) v)) (m.reads pivots)
        ∙ sym (pivots-here turns x c (budget - pivots) (budget - (pivots + 1)) (omega (arith, less))))
        m.stands

-- a turn of any pass that chose row i and place p
abbrev pub TurnedOn : Bool → ℕ → ℕ → ℕ → ℕ → Wrote → Sparse → Turn → Sparse → Type 0
TurnedOn art i p budget pivots before t r u =
    (run : Pass) (choose : Work → Choice) (n : ℕ) → ByTurns run choose n → choose (work_of art (mark_of before) pivots t) ≡ pivot_on (row_symbol t i) (symbol_at t p) → Turned art run budget pivots before t r u

-- ---- the optimise pass

abbrev pub optimise_on : Bool → Pass
optimise_on art = λ left w. optimise left (goal_of art) w

pub optimise-turns : (art : Bool) → ByTurns (optimise_on art) (choose_pivot (goal_of art)) 15
unfolding optimise
optimise-turns art = record { refuses = refl; last = λ w. refl; next = λ left w. refl }

module _ (art : Bool) (a : Mark) (v : ℕ) (t : Sparse) {f : Found} (h : Chooses art (get_entering_symbol (goal_of art)) (symbol_at t) (symbol_count t) t f) where
  abbrev w : Work
  w = work_of art a v t

  abbrev leaving_for : Symbol → Choice
  leaving_for e = picked (λ (l : Symbol). pivot_on l e) stuck (get_leaving_row e w)

  entered : {g : Found} → f ≡ g → choose_pivot (goal_of art) w ≡ picked leaving_for ended (on_found (λ p. some (symbol_at t p)) none g)
  unfolding choose_pivot
  entered e = ap (λ (o : Option Symbol). picked leaving_for ended o) (h.is a v ∙ ap (on_found (λ p. some (symbol_at t p)) none) e)

  pub optimise-ended : f ≡ None → choose_pivot (goal_of art) w ≡ ended
  optimise-ended e = entered e

  module _ {p : ℕ} (e : f ≡ Some p) {g : Found} (k : Chooses art (get_leaving_row (symbol_at t p)) (row_symbol t) (row_count t) t g) where
    left : {i : Found} → g ≡ i → choose_pivot (goal_of art) w ≡ picked (λ (l : Symbol). pivot_on l (symbol_at t p)) stuck (on_found (λ i. some (row_symbol t i)) none i)
    left d = entered e ∙ ap (λ (o : Option Symbol). picked (λ (l : Symbol). pivot_on l (symbol_at t p)) stuck o) (k.is a v ∙ ap (on_found (λ i. some (row_symbol t i)) none) d)

    pub optimise-stuck : g ≡ None → choose_pivot (goal_of art) w ≡ stuck
    optimise-stuck d = left d

    pub optimise-pivots : {i : ℕ} → g ≡ Some i → choose_pivot (goal_of art) w ≡ pivot_on (row_symbol t i) (symbol_at t p)
    optimise-pivots d = left d

-- ---- the dual pass

pub dual-turns : ByTurns dual_optimise choose_dual_pivot 16
unfolding dual_optimise
dual-turns = record { refuses = refl; last = λ w. refl; next = λ left w. refl }

module _ (a : Mark) (v : ℕ) (t : Sparse) {f : Found} (h : f ≡ dual_leaving_of t.words t.bytes t.reals) where
  abbrev d : Work
  d = work_of false a v t

  abbrev entering_for : Basic → Choice
  entering_for b = picked (λ (e : Symbol). pivot_on b.symbol e) stuck (get_dual_entering_symbol b.row d)

  leaves : {g : Found} → f ≡ g → choose_dual_pivot d ≡ picked entering_for ended (on_found (λ i. some (basic_of t i)) none g)
  unfolding choose_dual_pivot
  leaves e = ap (λ (o : Option Basic). picked entering_for ended o) (dual-leaving-reads t false a v ∙ ap (on_found (λ i. some (basic_of t i)) none) (sym h ∙ e))

  pub dual-ended : f ≡ None → choose_dual_pivot d ≡ ended
  dual-ended e = leaves e

  module _ {i : ℕ} (e : f ≡ Some i) {g : Found} (k : Chooses false (get_dual_entering_symbol (basic_of t i).row) (symbol_at t) (symbol_count t) t g) where
    enters : {p : Found} → g ≡ p → choose_dual_pivot d ≡ picked (λ (s : Symbol). pivot_on (row_symbol t i) s) stuck (on_found (λ p. some (symbol_at t p)) none p)
    enters q = leaves e ∙ ap (λ (o : Option Symbol). picked (λ (s : Symbol). pivot_on (row_symbol t i) s) stuck o) (k.is a v ∙ ap (on_found (λ p. some (symbol_at t p)) none) q)

    pub dual-stuck : g ≡ None → choose_dual_pivot d ≡ stuck
    dual-stuck q = enters q

    pub dual-pivots : {p : ℕ} → g ≡ Some p → choose_dual_pivot d ≡ pivot_on (row_symbol t i) (symbol_at t p)
    dual-pivots q = enters q
