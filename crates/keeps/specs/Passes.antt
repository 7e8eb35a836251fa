-- The two passes: from a tableau that reads to one that does, with the same symbols, variables and number of rows. Assumes nothing.
use Rattle.std.specs.Prelude.{◌≡◌, refl, List, [], ◌∷◌, Bool, true, false, not, cond, ◌&&◌, ℕ, zero, suc, length, Float}
use Rattle.std.proofs.Common.{◌∙◌, subst, inl, inr}
use Rattle.std.proofs.Math.Option.{Option, none, some}
use Rattle.std.specs.Float.Ieee.{lt}
use Rattle.steps.specs.Number.{zero64, ◌/₆₄◌, below_zero, Mark, all_whole, not_whole, not_finite}
use Rattle.steps.specs.Symbol.{Symbol, is_dummy, is_restricted, first_symbol}
use Rattle.steps.specs.Row.{Row}
use Rattle.steps.specs.State.{Basic}
use Rattle.steps.specs.Work.{Work, Outcome, refused, going, ◌>>=◌, refuse, check_finite, count_pivot}
use Rattle.steps.specs.Substitute.{pivot}
use Rattle.steps.specs.Optimise.{Candidate, better, smallest_from, smallest_ratio, Goal, the_objective, the_artificial, goal_cells, get_entering_symbol, get_leaving_row, Choice, ended, stuck, pivot_on, choose_pivot, counted_pivot, optimise, get_dual_leaving_row, dual_ratios, get_dual_entering_symbol, choose_dual_pivot, dual_optimise}
use Rattle.keeps.specs.Lists.{All, times, none_of, right, none≢some, some-injective}
use Rattle.keeps.specs.Along.{Along, Mem, Chosen, first-chosen}
use Rattle.keeps.specs.Cells.{Ok, Fine, below-held, above-held}
use Rattle.keeps.specs.RowOps.{RowOk}
use Rattle.keeps.specs.Fits.{bids, IsBasic, ArtOk, FitsW}
use Rattle.keeps.specs.Frame.{Frame, frame-refl, frame-trans, pivot-frame, pivot-count}
use Rattle.keeps.specs.Pivots.{pivot-fits}

-- ---- a step that goes on

abbrev pub Ends : {A : Type 0} → (A → Type 0) → Outcome A → Type 0
Ends P (refused n p m) = Unit
Ends P (going v) = P v

pub ends-bind : {A B : Type 0} (P : A → Type 0) (Q : B → Type 0) (o : Outcome A) (f : A → Outcome B) → Ends P o → ((v : A) → P v → Ends Q (f v)) → Ends Q (o >>= f)
unfolding ◌>>=◌
ends-bind P Q (refused n p m) f h g = tt
ends-bind P Q (going v) f h g = g v h

pub ends-to : {A : Type 0} (P Q : A → Type 0) (o : Outcome A) → Ends P o → ((v : A) → P v → Q v) → Ends Q o
ends-to P Q (refused n p m) h g = tt
ends-to P Q (going v) h g = g v h

pub check-ends : (P : Work → Type 0) (w : Work) → (Fine w.mark → P w) → Ends P (check_finite w)
unfolding check_finite refuse
check-ends P w h = go w.mark h
  where
    go : (m : Mark) → (Fine m → P w) → Ends P (elim m [ all_whole ↦ going w | not_whole ↦ going w | not_finite ↦ refused 13 w.pivots w.mark ])
    go all_whole h = h tt
    go not_whole h = h tt
    go not_finite h = tt

pub record After (w v : Work) : Type 0 where
  pub fits : FitsW v
  pub fine : Fine v.mark
  pub frame : Frame w v
  pub count : length v.tableau.rows ≡ length w.tableau.rows

pub after-refl : (w : Work) → FitsW w → Fine w.mark → After w w
after-refl w f m = record { fits = f; fine = m; frame = frame-refl w; count = refl }

pub after-trans : {w v u : Work} → After w v → After v u → After w u
after-trans a b = record { fits = b.fits; fine = b.fine; frame = frame-trans a.frame b.frame; count = b.count ∙ a.count }

-- a live symbol that isn't basic
pub record Free (w : Work) (e : Symbol) : Type 0 where
  pub live : Mem e w.tableau.symbols
  pub free : times e.id (bids w.tableau.rows) ≡ 0

pub held-free : (w : Work) (G : Type 0) (q : Float → Bool) → ((c : Float) → q c ≡ true → Rattle.steps.specs.Symbol.absent c ≡ true → ⊥) → (e : Symbol)
    → Chosen (Ok (IsBasic w.tableau.rows) G) q w.tableau.symbols e → Free w e
held-free w G q held e c = record { live = c.live; free = none_of _ (λ b. held c.cell c.passes (c.holds.0 b)) }

pub pivot-ends : (l : ℕ) (e : Symbol) (w : Work) → FitsW w → Free w e → Ends (After w) (check_finite (pivot l e w))
pivot-ends l e w f h =
    check-ends (After w) (pivot l e w) (λ m. record { fits = pivot-fits l e w f h.free h.live; fine = m; frame = pivot-frame l e w; count = pivot-count l e w })

pub counted-ends : (o : Outcome Work) (w : Work) → Ends (After w) o → Ends (After w) (o >>= λ v. going (count_pivot v))
unfolding count_pivot
counted-ends o w h =
    ends-bind (After w) (After w) o (λ v. going (count_pivot v)) h (λ v a. record { fits = a.fits; fine = a.fine; frame = again v a.frame; count = a.count })
  where
    again : (v : Work) → Frame w v → Frame w (count_pivot v)
    again v f = record { symbols = f.symbols; next = f.next; variables = f.variables; plain = f.plain; cutoff = f.cutoff; gone = f.gone }

-- ---- the optimise pass

no_cells : (p : Symbol → Bool) (q : Float → Bool) (xs : List Symbol) (e : Symbol) → first_symbol p q xs [] ≡ some e → ⊥
unfolding first_symbol
no_cells p q [] e h = none≢some h
no_cells p q (x ∷ xs) e h = none≢some h

pub entering-free : (g : Goal) (w : Work) → FitsW w → (e : Symbol) → get_entering_symbol g w ≡ some e → Free w e
unfolding get_entering_symbol goal_cells
entering-free the_objective w f e h =
    held-free w (Fine w.mark) below_zero below-held e
    (first-chosen _ (λ s. not (is_dummy s)) below_zero w.tableau.symbols w.tableau.objective e f.objective h)
entering-free the_artificial w f e h = go w.artificial f.artificial h
  where
    cells : Option Row → List Float
    cells a = elim a [ none ↦ [] | some r ↦ r.cells ]

    go : (a : Option Row) → ArtOk (IsBasic w.tableau.rows) (Fine w.mark) w.tableau.symbols a
        → first_symbol (λ s. not (is_dummy s)) below_zero w.tableau.symbols (cells a) ≡ some e → Free w e
    go none t h = absurd (no_cells _ below_zero w.tableau.symbols e h)
    go (some r) t h = held-free w (Fine w.mark) below_zero below-held e (first-chosen _ (λ s. not (is_dummy s)) below_zero w.tableau.symbols r.cells e t.1 h)

data Picked (w : Work) : Choice → Type 0 where
  at-end : Picked w ended
  stays : Picked w stuck
  picked : (l e : Symbol) → Free w e → Picked w (pivot_on l e)

pick : (g : Goal) (w : Work) → FitsW w → Picked w (choose_pivot g w)
unfolding choose_pivot
pick g w f = go (get_entering_symbol g w) refl
  where
    choice : Symbol → Option Symbol → Choice
    choice e l = elim l [ none ↦ stuck | some leaving ↦ pivot_on leaving e ]

    go : (o : Option Symbol) → get_entering_symbol g w ≡ o → Picked w (elim o [ none ↦ ended | some entering ↦ choice entering (get_leaving_row entering w) ])
    go none q = at-end
    go (some e) q = by (get_leaving_row e w)
      where
        by : (l : Option Symbol) → Picked w (choice e l)
        by none = stays
        by (some l) = picked l e (entering-free g w f e q)

-- a turn of either pass, with what it makes of the next work, and the number by which it refuses where it is stuck
turn-ends : (n : ℕ) (w : Work) (on : Work → Outcome Work) → FitsW w → Fine w.mark → (c : Choice) → Picked w c → ((v : Work) → After w v → Ends (After v) (on v))
    → Ends (After w) (elim c [ ended ↦ going w | stuck ↦ refuse n w | pivot_on l e ↦ counted_pivot l e w >>= on ])
unfolding refuse counted_pivot
turn-ends n w on f m c at-end ih = after-refl w f m
turn-ends n w on f m c stays ih = tt
turn-ends n w on f m c (picked l e h) ih =
    ends-bind (After w) (After w) (counted_pivot l e w) on (counted-ends (check_finite (pivot l.id e w)) w (pivot-ends l.id e w f h))
    (λ v a. ends-to (After v) (After w) (on v) (ih v a) (λ u b. after-trans a b))

-- a turn with no budget left
last-ends : (n : ℕ) (w : Work) → FitsW w → Fine w.mark → (c : Choice) → Ends (After w) (elim c [ ended ↦ going w | stuck ↦ refuse n w | pivot_on l e ↦ refuse 14 w ])
unfolding refuse
last-ends n w f m ended = after-refl w f m
last-ends n w f m stuck = tt
last-ends n w f m (pivot_on l e) = tt

pub optimise-ends : (left : ℕ) (g : Goal) (w : Work) → FitsW w → Fine w.mark → Ends (After w) (optimise left g w)
unfolding optimise
optimise-ends zero g w f m = last-ends 15 w f m (choose_pivot g w)
optimise-ends (suc left) g w f m = turn-ends 15 w (λ v. optimise left g v) f m (choose_pivot g w) (pick g w f) (λ v a. optimise-ends left g v a.fits a.fine)

-- ---- ratio tests: the winner is among the candidates

abbrev pub Best : (Symbol → Type 0) → Option Candidate → Type 0
Best P none = Unit
Best P (some c) = P c.symbol

smallest_from-all : (P : Symbol → Type 0) (best : Option Candidate) (cs : List Candidate) → Best P best → All (λ (c : Candidate). P c.symbol) cs
    → Best P (smallest_from best cs)
unfolding smallest_from
smallest_from-all P best [] b h = b
smallest_from-all P best (c ∷ cs) b h = smallest_from-all P (cond (better c best) (some c) best) cs (go (better c best)) h.1
  where
    go : (t : Bool) → Best P (cond t (some c) best)
    go true = h.0
    go false = b

pub smallest-all : (P : Symbol → Type 0) (cs : List Candidate) → All (λ (c : Candidate). P c.symbol) cs → (e : Symbol) → smallest_ratio cs ≡ some e → P e
unfolding smallest_ratio
smallest-all P cs h e q = go (smallest_from none cs) (smallest_from-all P none cs tt h) q
  where
    go : (b : Option Candidate) → Best P b → elim b [ none ↦ none | some c ↦ some c.symbol ] ≡ some e → P e
    go none b q = absurd (none≢some q)
    go (some c) b q = subst P (some-injective q) b

-- ---- the dual pass

dual-free : (P : Symbol → Type 0) (Q : ℕ → Float → Type 0) (xs : List Symbol) → ((x : Symbol) (c : Float) → Mem x xs → lt zero64 c ≡ true → Q x.id c → P x)
    → (cs os : List Float) → Along Q xs cs
    → All (λ (c : Candidate). P c.symbol) (dual_ratios xs cs os)
unfolding dual_ratios
dual-free P Q [] f [] os h = tt
dual-free P Q [] f (c ∷ cs) os h = absurd h
dual-free P Q (x ∷ xs) f [] os h = absurd h
dual-free P Q (x ∷ xs) f (c ∷ cs) [] h = tt
dual-free P Q (x ∷ xs) f (c ∷ cs) (o ∷ os) h = go (not (is_dummy x) && lt zero64 c) refl (dual-free P Q xs (λ y d m l q. f y d (inr m) l q) cs os h.1)
  where
    go : (t : Bool) → (not (is_dummy x) && lt zero64 c) ≡ t → All (λ (c : Candidate). P c.symbol) (dual_ratios xs cs os)
        → All (λ (c : Candidate). P c.symbol) (elim t [ true ↦ record { symbol = x; ratio = o /₆₄ c } ∷ dual_ratios xs cs os | false ↦ dual_ratios xs cs os ])
    go true e ih = (f x c (inl refl) (right (not (is_dummy x)) (lt zero64 c) e) h.0, ih)
    go false e ih = ih

-- what holds of all rows holds of the leaving one
pub dual-leaving : (P : Basic → Type 0) (bs : List Basic) → All P bs → (b : Basic) → get_dual_leaving_row bs ≡ some b → P b
unfolding get_dual_leaving_row
dual-leaving P [] h b e = absurd (none≢some e)
dual-leaving P (x ∷ bs) h b e = go (is_restricted x.symbol && below_zero x.row.constant) e (dual-leaving P bs h.1 b)
  where
    go : (t : Bool) → elim t [ true ↦ some x | false ↦ get_dual_leaving_row bs ] ≡ some b → (get_dual_leaving_row bs ≡ some b → P b) → P b
    go true q ih = subst P (some-injective q) h.0
    go false q ih = ih q

-- of a row that reads
pub dual-entering : (r : Row) (w : Work) → FitsW w → RowOk (IsBasic w.tableau.rows) (Fine w.mark) w.tableau.symbols r → (e : Symbol)
    → get_dual_entering_symbol r w ≡ some e → Free w e
unfolding get_dual_entering_symbol
dual-entering r w f k e h =
    smallest-all (Free w) (dual_ratios w.tableau.symbols r.cells w.tableau.objective)
    (dual-free (Free w) (Ok (IsBasic w.tableau.rows) (Fine w.mark)) w.tableau.symbols
    (λ x c m l k. record { live = m; free = none_of _ (λ d. above-held c l (k.0 d)) }) r.cells w.tableau.objective k.1) e h

dual-pick : (w : Work) → FitsW w → Picked w (choose_dual_pivot w)
unfolding choose_dual_pivot
dual-pick w f = go (get_dual_leaving_row w.tableau.rows) refl
  where
    choice : Basic → Option Symbol → Choice
    choice b o = elim o [ none ↦ stuck | some entering ↦ pivot_on b.symbol entering ]

    go : (t : Option Basic) → get_dual_leaving_row w.tableau.rows ≡ t
        → Picked w (elim t [ none ↦ ended | some b ↦ choice b (get_dual_entering_symbol b.row w) ])
    go none q = at-end
    go (some b) q = by (get_dual_entering_symbol b.row w) refl
      where
        by : (o : Option Symbol) → get_dual_entering_symbol b.row w ≡ o → Picked w (choice b o)
        by none r = stays
        by (some e) r = picked b.symbol e (dual-entering b.row w f (dual-leaving _ w.tableau.rows f.rows b q) e r)

pub dual-ends : (left : ℕ) (w : Work) → FitsW w → Fine w.mark → Ends (After w) (dual_optimise left w)
unfolding dual_optimise
dual-ends zero w f m = last-ends 16 w f m (choose_dual_pivot w)
dual-ends (suc left) w f m = turn-ends 16 w (λ v. dual_optimise left v) f m (choose_dual_pivot w) (dual-pick w f) (λ v a. dual-ends left v a.fits a.fine)
