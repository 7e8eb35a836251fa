-- The two passes and a suggestion tell. Assumes nothing.
use Rattle.std.specs.Prelude.{◌≡◌, refl, ◌≢◌, Bool, true, false, not, ◌&&◌, ℕ, zero, suc, Float}
use Rattle.std.proofs.Common.{sym, ap, ◌∙◌, inl, true≢false}
use Rattle.std.proofs.Math.Path.{subst}
use mathlib.Core.List.{List, [], ◌∷◌}
use Rattle.std.proofs.Math.Option.{Option, none, some}
use Rattle.std.specs.Float.Ieee.{neg}
use Rattle.steps.specs.Number.{constant_bound, Mark, below_zero, whole_if, ◌-₆₄◌, ◌/₆₄◌}
use Rattle.steps.specs.Symbol.{Symbol, is_external, is_restricted, coefficient_for}
use Rattle.steps.specs.Row.{Written}
use Rattle.steps.specs.State.{Tag, Basic, Edit}
use Rattle.steps.specs.Work.{Work, Outcome, refused, going, ◌>>=◌, refuse, check_finite, with_tableau, with_changes, with_rows, marking, count_pivot}
use Rattle.steps.specs.Changes.{all_changed}
use Rattle.steps.specs.Substitute.{Substituted, rows_of, noted_of, pivot}
use Rattle.steps.specs.Optimise.{Candidate, negative_ratios, Goal, get_entering_symbol, get_leaving_row, Choice, ended, stuck, pivot_on, choose_pivot, counted_pivot, optimise, get_dual_leaving_row, get_dual_entering_symbol, choose_dual_pivot, dual_optimise}
use Rattle.steps.specs.Add.{whole_within}
use Rattle.steps.specs.Edit.{shift_of, shift_constants, suggest_steps}
use Rattle.keeps.specs.Lists.{All, all-to, all-zip, left, none≢some, some-injective}
use Rattle.keeps.specs.Along.{Mem}
use Rattle.keeps.specs.Cells.{Fine, fine-l}
use Rattle.keeps.specs.Fits.{fits-worse}
use Rattle.keeps.specs.Passes.{Ends, ends-bind, check-ends, Free, entering-free, smallest-all, dual-leaving, dual-entering}
use Rattle.keeps.specs.Suggest.{shift_fits, shift-frame}
use Rattle.keeps.specs.suffices.Fresh.{Fresh, Aware, Owing, all_noted}
use Rattle.keeps.specs.suffices.Values.{Rounded, written, written-noted, written-rounded, shifted, shifted-is, shifted-writes, shifted-rounded}
use Rattle.keeps.specs.suffices.Placed.{var_id, Named, placed-flags, external-at, apart}
use Rattle.keeps.specs.suffices.Pivoting.{Ready, Told, Sees, sees-ready, owing, Spare, pivot-sees}

pub ends-both : {A : Type 0} (P Q : A → Type 0) (o : Outcome A) → Ends P o → Ends Q o → Ends (λ v. P v × Q v) o
ends-both P Q (refused n p m) h g = tt
ends-both P Q (going v) h g = (h, g)

-- ---- what leaves is no variable

pub others-spare : (s : Symbol) (w : Work) → Sees w → Mem s w.tableau.symbols → is_external s ≡ false → Spare s.id w
others-spare s w h m x = all-to (λ v. var_id v ≢ s.id) _ (λ v n. inl n) w.changes.variables (apart w.tableau.symbols h.fits.up s m x w.changes.variables h.placed.named)

pub not-external : (s : Symbol) → is_restricted s ≡ true → is_external s ≡ false
unfolding is_restricted
not-external s e = go (is_external s) e
  where
    go : (b : Bool) → not b ≡ true → b ≡ false
    go true q = absurd (true≢false (sym q))
    go false q = refl

-- a live symbol that isn't a variable's
abbrev Other : List Symbol → Symbol → Type 0
Other ys s = Mem s ys × (is_external s ≡ false)

restricted-all : (ys : List Symbol) (s : ℕ) (xs : List Symbol) (bs : List Basic) → All (λ (b : Basic). Mem b.symbol ys) bs → All (λ (c : Candidate). Other ys c.symbol) (negative_ratios s xs bs)
unfolding negative_ratios
restricted-all ys s xs [] h = tt
restricted-all ys s xs (b ∷ bs) h = go (is_restricted b.symbol && below_zero (coefficient_for s xs b.row.cells)) refl (restricted-all ys s xs bs h.1)
  where
    go : (t : Bool) → (is_restricted b.symbol && below_zero (coefficient_for s xs b.row.cells)) ≡ t → All (λ (c : Candidate). Other ys c.symbol) (negative_ratios s xs bs)
        → All (λ (c : Candidate). Other ys c.symbol)
        (elim t [
          | true ↦ record {
            symbol = b.symbol;
            ratio = neg b.row.constant /₆₄ coefficient_for s xs b.row.cells;
          } ∷ negative_ratios s xs bs
          | false ↦ negative_ratios s xs bs
        ])
    go true e ih = ((h.0, not-external b.symbol (left (is_restricted b.symbol) _ e)), ih)
    go false e ih = ih

dual-restricted : (bs : List Basic) (b : Basic) → get_dual_leaving_row bs ≡ some b → is_external b.symbol ≡ false
unfolding get_dual_leaving_row
dual-restricted [] b e = absurd (none≢some e)
dual-restricted (x ∷ bs) b e = go (is_restricted x.symbol && below_zero x.row.constant) refl e (dual-restricted bs b)
  where
    go : (t : Bool) → (is_restricted x.symbol && below_zero x.row.constant) ≡ t → elim t [ true ↦ some x | false ↦ get_dual_leaving_row bs ] ≡ some b → (get_dual_leaving_row bs ≡ some b → is_external b.symbol ≡ false) → is_external b.symbol ≡ false
    go true q e ih = ap (λ (y : Basic). is_external y.symbol) (sym (some-injective e)) ∙ not-external x.symbol (left (is_restricted x.symbol) _ q)
    go false q e ih = ih e

-- ---- a turn of either pass

data Picked (w : Work) : Choice → Type 0 where
  at-end : Picked w ended
  stays : Picked w stuck
  picked : (l e : Symbol) → Free w e → Spare l.id w → Picked w (pivot_on l e)

count-sees : (v : Work) → Sees v → Sees (count_pivot v)
unfolding count_pivot
count-sees v h = record { fits = h.fits; fine = h.fine; placed = h.placed; told = record { aware = h.told.aware; rounded = h.told.rounded } }

turn-sees : (n : ℕ) (w : Work) (on : Work → Outcome Work) → Sees w → (c : Choice) → Picked w c → ((v : Work) → Sees v → Ends Sees (on v))
    → Ends Sees (elim c [ ended ↦ going w | stuck ↦ refuse n w | pivot_on l e ↦ counted_pivot l e w >>= on ])
unfolding refuse counted_pivot
turn-sees n w on h c at-end ih = h
turn-sees n w on h c stays ih = tt
turn-sees n w on h c (picked l e f k) ih =
    ends-bind Sees Sees (counted_pivot l e w) on
    (ends-bind Sees Sees (check_finite (pivot l.id e w)) (λ v. going (count_pivot v)) (check-ends Sees (pivot l.id e w) (λ m. pivot-sees l.id e w h f k m)) (λ v g. count-sees v g)) ih

last-sees : (n : ℕ) (w : Work) → Sees w → (c : Choice) → Ends Sees (elim c [ ended ↦ going w | stuck ↦ refuse n w | pivot_on l e ↦ refuse 14 w ])
unfolding refuse
last-sees n w h ended = h
last-sees n w h stuck = tt
last-sees n w h (pivot_on l e) = tt

pick : (g : Goal) (w : Work) → Sees w → Picked w (choose_pivot g w)
unfolding choose_pivot
pick g w h = go (get_entering_symbol g w) refl
  where
    choice : Symbol → Option Symbol → Choice
    choice e l = elim l [ none ↦ stuck | some leaving ↦ pivot_on leaving e ]

    go : (o : Option Symbol) → get_entering_symbol g w ≡ o → Picked w (elim o [ none ↦ ended | some entering ↦ choice entering (get_leaving_row entering w) ])
    go none q = at-end
    go (some e) q = by (get_leaving_row e w) refl
      where
        by : (l : Option Symbol) → get_leaving_row e w ≡ l → Picked w (choice e l)
        by none r = stays
        by (some l) r =
            let o : Other w.tableau.symbols l = smallest-all (Other w.tableau.symbols) (negative_ratios e.id w.tableau.symbols w.tableau.rows) (restricted-all w.tableau.symbols e.id w.tableau.symbols w.tableau.rows h.fits.live) l (unfold get_leaving_row in r) in
            picked l e (entering-free g w h.fits e q) (others-spare l w h o.0 o.1)

pub optimise-sees : (left : ℕ) (g : Goal) (w : Work) → Sees w → Ends Sees (optimise left g w)
unfolding optimise
optimise-sees zero g w h = last-sees 15 w h (choose_pivot g w)
optimise-sees (suc left) g w h = turn-sees 15 w (λ v. optimise left g v) h (choose_pivot g w) (pick g w h) (λ v k. optimise-sees left g v k)

dual-pick : (w : Work) → Sees w → Picked w (choose_dual_pivot w)
unfolding choose_dual_pivot
dual-pick w h = go (get_dual_leaving_row w.tableau.rows) refl
  where
    choice : Basic → Option Symbol → Choice
    choice b o = elim o [ none ↦ stuck | some entering ↦ pivot_on b.symbol entering ]

    go : (t : Option Basic) → get_dual_leaving_row w.tableau.rows ≡ t → Picked w (elim t [ none ↦ ended | some b ↦ choice b (get_dual_entering_symbol b.row w) ])
    go none q = at-end
    go (some b) q = by (get_dual_entering_symbol b.row w) refl
      where
        by : (o : Option Symbol) → get_dual_entering_symbol b.row w ≡ o → Picked w (choice b o)
        by none r = stays
        by (some e) r =
            picked b.symbol e (dual-entering b.row w h.fits (dual-leaving _ w.tableau.rows h.fits.rows b q) e r)
            (others-spare b.symbol w h (dual-leaving (λ (b : Basic). Mem b.symbol w.tableau.symbols) w.tableau.rows h.fits.live b q) (dual-restricted w.tableau.rows b q))

pub dual-sees : (left : ℕ) (w : Work) → Sees w → Ends Sees (dual_optimise left w)
unfolding dual_optimise
dual-sees zero w h = last-sees 16 w h (choose_dual_pivot w)
dual-sees (suc left) w h = turn-sees 16 w (λ v. dual_optimise left v) h (choose_dual_pivot w) (dual-pick w h) (λ v k. dual-sees left v k)

-- ---- a suggestion

module _ (tag : Tag) (delta : Float) (w : Work) (h : Ready w) where
  abbrev bs : List Basic
  bs = w.tableau.rows

  abbrev shift : Basic → Written
  shift = shifted (shift_of tag delta w)

  noted : All (Owing (noted_of (written shift bs)) w.changes.should_clear (rows_of (written shift bs))) w.changes.variables
  noted =
      all-zip (Fresh w.changes.should_clear bs) (Named w.tableau.symbols) _
      (λ v f n. owing (noted_of (written shift bs)) w.changes.should_clear bs (rows_of (written shift bs)) v f (written-noted shift (shifted-writes (shift_of tag delta w)) (var_id v) bs (external-at w.tableau.symbols h.up v n bs h.live) h.numbered h.rounded))
      w.changes.variables h.aware h.placed.named

  shift-told : Told (shift_constants tag delta w)
  unfolding shift_constants marking with_changes with_rows with_tableau
  shift-told =
      record {
        aware = subst (λ (l : List Substituted). Aware (rows_of l) (all_changed (noted_of l) w.changes)) (sym (shifted-is (shift_of tag delta w) bs)) (all_noted (noted_of (written shift bs)) (rows_of (written shift bs)) w.changes noted);
        rounded = subst (λ (l : List Substituted). Rounded (rows_of l)) (sym (shifted-is (shift_of tag delta w) bs)) (written-rounded shift (shifted-rounded (shift_of tag delta w)) bs h.rounded);
      }

pub mark-sees : (m : Mark) (w : Work) → Sees w → Fine (marking m w).mark → Sees (marking m w)
unfolding marking
mark-sees m w h f = record { fits = fits-worse h.fits m; fine = f; placed = h.placed; told = record { aware = h.told.aware; rounded = h.told.rounded } }

pub suggest-sees : (budget : ℕ) (e : Edit) (new : Float) (w : Work) → Sees w → Ends Sees (suggest_steps budget e new w)
unfolding suggest_steps
suggest-sees budget e new w h = ends-bind Sees Sees (check_finite v) (dual_optimise budget) (check-ends Sees v shifted-sees) (λ u k. dual-sees budget u k)
  where
    delta : Float
    delta = new -₆₄ e.suggestion

    mark : Mark
    mark = whole_if (whole_within constant_bound new)

    marked : Work
    marked = marking mark w

    v : Work
    v = shift_constants e.tag delta marked

    shifted-sees : Fine v.mark → Sees v
    shifted-sees m =
        record {
          fits = shift_fits e.tag delta marked first.fits;
          fine = m;
          placed = rw (shift-frame e.tag delta marked).symbols (placed-flags marked.tableau.symbols marked.changes.variables v.changes.variables (shift-frame e.tag delta marked).variables first.placed);
          told = shift-told e.tag delta marked (sees-ready marked first);
        }
      where
        first : Sees marked
        first = mark-sees mark w h (unfold shift_constants marking with_changes with_rows with_tableau in fine-l marked.mark _ m)
