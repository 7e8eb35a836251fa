-- A suggestion's shift, steps and theory together: whichever of the three ways the steps take, the rows after it read as the theory's. Assumes nothing.
use Rattle.std.specs.Prelude.{◌≡◌, ◌≢◌, Bool, List, [], ◌∷◌, ℕ, ◌^◌, ◌<◌, ℤ, pos, neg_ℤ, ◌*ℤ◌}
use Rattle.std.proofs.Math.Path.{refl, ap}
use Rattle.std.proofs.Common.{sym, ◌∙◌, subst, inl, inr, true≢false, arith}
use Rattle.std.proofs.Math.Bool.{true, false}
use Rattle.std.proofs.Math.Option.{Option, none, some}
use Rattle.std.proofs.Math.Dec.{T}
use Rattle.std.specs.Float.Ieee.{Float, neg}
use Rattle.laws.specs.Z.{eq_zb→}
use Rattle.laws.specs.Ring.{ring, v, k as κ, ◌⊠◌, ⊟◌}
use Rattle.laws.specs.exact.Whole.{Zb, neg-b, mul-b, within}
use Rattle.simplex.specs.Ord.{0ℤ}
use Rattle.simplex.specs.Lin.{Vec, δ}
use Rattle.simplex.specs.At.{at, at_here, at_there}
use Rattle.simplex.specs.Choose.{All}
use Rattle.simplex.specs.Opt.{Kind as KindZ}
use Rattle.simplex.specs.Pass.{State, Good}
use Rattle.simplex.specs.Problem.{Con, Models}
use Rattle.simplex.specs.Run.{Foreign}
use Rattle.simplex.specs.Drag.{edit}
use Rattle.simplex.specs.Gone.{tag-foreign}
use Rattle.steps.specs.Number.{◌*₆₄◌}
use Rattle.steps.specs.Symbol.{Symbol, is_symbol, absent, coefficient_for}
use Rattle.steps.specs.Row.{Row}
use Rattle.steps.specs.State.{Basic, Tag}
use Rattle.steps.specs.Work.{Work, find_row}
use Rattle.steps.specs.Edit.{is_basic_row, own_shift, cell_shift, shift_of}
use Rattle.simplex.specs.bridge.Nums.{absent-z}
use Rattle.simplex.specs.bridge.Rows.{Sym?, is, isnt, sym?, zb-to, ReadsRow}
use Rattle.simplex.proofs.bridge.Rows.{row-cell}
use Rattle.simplex.specs.bridge.Table.{RowAt, ReadsWork}
use Rattle.run.specs.Shift.{Amount}
use Rattle.run.specs.Aims.{Aimed, by-marker, by-other, by-cells}

module _ (n : ℕ) (kind : ℕ → KindZ) (w : Work) (S : State) (z : Vec) (G : Good n kind S) (H : ReadsWork kind w S.B S.R S.o z) (in-n : 0 < n) where
  -- ---- is a symbol basic?
  data Basic? (s : Symbol) : Type 0 where
    yes : is_basic_row s w ≡ true → S.B s.id ≡ true → Basic? s
    no : is_basic_row s w ≡ false → S.B s.id ≡ false → Basic? s

  basic? : (s : Symbol) → Basic? s
  unfolding is_basic_row
  basic? s = go (find_row s.id w.tableau.rows) refl (H.rows s.id)
    where
      go : (t : Option Row) → find_row s.id w.tableau.rows ≡ t → RowAt w.tableau.symbols t (S.B s.id) (S.R s.id) → Basic? s
      go none e r = no (ap (λ (t : Option Row). elim t as (λ _. Bool) [ none ↦ false | some x ↦ true ]) e) r
      go (some x) e r = yes (ap (λ (t : Option Row). elim t as (λ _. Bool) [ none ↦ false | some x ↦ true ]) e) r.0

  module _ (a : Vec) (wt : ℤ) (tag : Tag) (o : Symbol) (two : tag.other ≡ some o) (cs : List Con) (D : Models n kind S.B S.R S.o (edit a wt tag.marker.id o.id ∷ cs))
      (delta : Float) (y : ℤ) (Y : Zb (2 ^ 31) delta y) where
    -- the steps' shift and the theory's
    pub record Drawn : Type 0 where
      pub d : ℕ → ℤ
      pub gets : (b : Basic) → S.B b.symbol.id ≡ true → ReadsRow w.tableau.symbols b.row (S.R b.symbol.id) → Amount (shift_of tag delta w b) (d b.symbol.id)
      pub aimed : Aimed n kind S d (edit (Rattle.simplex.specs.Lin.plus a (neg_ℤ y) (δ 0)) wt tag.marker.id o.id ∷ cs)

    -- ---- what each way gives a row
    own-amount : (s : Symbol) (t : Float) (x : ℤ) → Zb (2 ^ 31) t x → (b : Basic) → Amount (own_shift s t b) (at s.id x (λ _. 0ℤ) b.symbol.id)
    unfolding own_shift
    own-amount s t x T b = go (sym? s.id b.symbol)
      where
        go : Sym? s.id b.symbol → Amount (elim (is_symbol s.id b.symbol) [ true ↦ some t | false ↦ none ]) (at s.id x (λ _. 0ℤ) b.symbol.id)
        go (is e i f) = rw e (zb-to (within T (omega arith)) (sym (at_here s.id x (λ _. 0ℤ)) ∙ ap (at s.id x (λ _. 0ℤ)) i))
        go (isnt e i f) = rw e (at_there s.id x (λ _. 0ℤ) b.symbol.id (λ u. i (sym u)))

    cell-amount : S.B tag.marker.id ≡ false → (b : Basic) → S.B b.symbol.id ≡ true → ReadsRow w.tableau.symbols b.row (S.R b.symbol.id)
        → Amount (cell_shift tag.marker delta w.tableau.symbols b) (at tag.marker.id 0ℤ (λ j. S.R j tag.marker.id *ℤ y) b.symbol.id)
    unfolding cell_shift
    cell-amount f b t r = go (absent cell) refl
      where
        cell : Float
        cell = coefficient_for tag.marker.id w.tableau.symbols b.row.cells

        C : Zb 1024 cell (S.R b.symbol.id tag.marker.id)
        C = row-cell tag.marker.id w.tableau.symbols b.row (S.R b.symbol.id) marker≢0 r
          where
            marker≢0 : tag.marker.id ≢ 0
            marker≢0 e = Rattle.simplex.specs.Opt.slack≢const (sym D.sounds.0.marker-kind ∙ ap kind e ∙ G.zero)

        apart : b.symbol.id ≢ tag.marker.id
        apart e = true≢false (sym t ∙ ap S.B e ∙ f)

        here : at tag.marker.id 0ℤ (λ j. S.R j tag.marker.id *ℤ y) b.symbol.id ≡ S.R b.symbol.id tag.marker.id *ℤ y
        here = at_there tag.marker.id 0ℤ (λ j. S.R j tag.marker.id *ℤ y) b.symbol.id apart

        turn : y *ℤ S.R b.symbol.id tag.marker.id ≡ S.R b.symbol.id tag.marker.id *ℤ y
        turn = ring (y ∷ S.R b.symbol.id tag.marker.id ∷ []) (v 0 ⊠ v 1) (v 1 ⊠ v 0) tt

        go : (m : Bool) → absent cell ≡ m → Amount (elim (absent cell) [ true ↦ none | false ↦ some (delta *₆₄ cell) ]) (at tag.marker.id 0ℤ (λ j. S.R j tag.marker.id *ℤ y) b.symbol.id)
        go true e =
            rw e (here ∙ ap (λ (x : ℤ). x *ℤ y) (eq_zb→ (S.R b.symbol.id tag.marker.id) (pos 0) (subst T (sym (sym (absent-z C.isz) ∙ e)) tt)) ∙ ring (y ∷ []) (κ 0ℤ ⊠ v 0) (κ 0ℤ) tt)
        go false e = rw e (zb-to (within (mul-b Y C (omega arith)) (omega arith)) (turn ∙ sym here))

    -- ---- the way that the steps take
    by-own : is_basic_row tag.marker w ≡ true → (b : Basic) → shift_of tag delta w b ≡ own_shift tag.marker (neg delta) b
    unfolding shift_of
    by-own e b = rw (e, shift_of) refl

    by-second : is_basic_row tag.marker w ≡ false → is_basic_row o w ≡ true → (b : Basic) → shift_of tag delta w b ≡ own_shift o delta b
    unfolding shift_of
    by-second e f b = rw (e, two, f, shift_of) refl

    by-cell : is_basic_row tag.marker w ≡ false → is_basic_row o w ≡ false → (b : Basic) → shift_of tag delta w b ≡ cell_shift tag.marker delta w.tableau.symbols b
    unfolding shift_of
    by-cell e f b = rw (e, two, f, shift_of) refl

    Fp : All (Foreign tag.marker.id) cs
    Fp = tag-foreign n kind (edit a wt tag.marker.id o.id) cs D.sounds tag.marker.id (inl refl)

    Fq : All (Foreign o.id) cs
    Fq = tag-foreign n kind (edit a wt tag.marker.id o.id) cs D.sounds o.id (inr (refl, refl))

    pub drawn : Drawn
    drawn = go (basic? tag.marker) (basic? o)
      where
        go : Basic? tag.marker → Basic? o → Drawn
        go (yes e b) other = record {
          d = at tag.marker.id (neg_ℤ y) (λ _. 0ℤ);
          gets = λ x _ _. subst (λ (t : Option Float). Amount t (at tag.marker.id (neg_ℤ y) (λ _. 0ℤ) x.symbol.id)) (sym (by-own e x)) (own-amount tag.marker (neg delta) (neg_ℤ y) (neg-b Y) x);
          aimed = by-marker n kind S G in-n a wt tag.marker.id o.id cs D y Fp Fq b;
        }
        go (no e b) (yes f c) = record {
          d = at o.id (neg_ℤ (neg_ℤ y)) (λ _. 0ℤ);
          gets = λ x _ _. subst (λ (t : Option Float). Amount t (at o.id (neg_ℤ (neg_ℤ y)) (λ _. 0ℤ) x.symbol.id)) (sym (by-second e f x)) (own-amount o delta (neg_ℤ (neg_ℤ y)) (zb-to Y (ring (y ∷ []) (v 0) (⊟ (⊟ v 0)) tt)) x);
          aimed = by-other n kind S G in-n a wt tag.marker.id o.id cs D y Fp Fq c;
        }
        go (no e b) (no f c) = record {
          d = at tag.marker.id 0ℤ (λ j. S.R j tag.marker.id *ℤ y);
          gets = λ x t r. subst (λ (u : Option Float). Amount u (at tag.marker.id 0ℤ (λ j. S.R j tag.marker.id *ℤ y) x.symbol.id)) (sym (by-cell e f x)) (cell-amount b x t r);
          aimed = by-cells n kind S G in-n a wt tag.marker.id o.id cs D y Fp Fq b;
        }
