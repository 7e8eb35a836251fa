-- A variable's value in the rows, as rows are dropped, kept, cut, substituted into and shifted: it is the same number, or is noted. Assumes nothing.
use Rattle.std.specs.Prelude.{◌≡◌, ◌⊎◌, ◌≢◌, Bool, not, cond, ◌&&◌, ◌||◌, ℕ, eqb, ltb}
use Rattle.std.proofs.Math.Path.{refl, ap}
use Rattle.std.proofs.Common.{sym, ◌∙◌, arith}
use Rattle.std.proofs.Math.Logic.{inl, inr}
use mathlib.Core.List.{List, [], ◌∷◌, map}
use Rattle.std.proofs.Math.Option.{Option, none, some}
use Rattle.std.proofs.Math.Bool.{true, false}
use Rattle.std.proofs.Math.Dec.{T}
use Rattle.std.specs.Float.Ieee.{Float, eq, ne, binary64, fits}
use Rattle.std.specs.Float.Ieee.Fits.{add-fits}
use Rattle.steps.specs.Number.{zero64, is_finite, ◌+₆₄◌, ◌*₆₄◌}
use Rattle.steps.specs.Symbol.{Symbol, is_symbol, is_external, absent, coefficient_for, clear_cell}
use Rattle.steps.specs.Row.{Row, Written, untouched, insert_row}
use Rattle.steps.specs.State.{Basic}
use Rattle.steps.specs.Work.{find_row, drop_row, keep_row}
use Rattle.steps.specs.Changes.{member}
use Rattle.steps.specs.Substitute.{Substituted, substitute_in_row, substitute_in_rows, rows_of, noted_of}
use Rattle.steps.specs.Edit.{shift_row, shift_rows}
use Rattle.keeps.specs.Lists.{All, Same?, is, isnt, same, same?, times, no_both}
use Rattle.keeps.specs.Keys.{row_id}
use Rattle.keeps.specs.Cells.{zero-finite}
use Rattle.keeps.specs.Fits.{bids}
use Rattle.keeps.specs.suffices.Numbers.{Is, is-refl, zero-added}

-- the constant of the row of i, 0.0 if it has none
unfoldable pub value_at : ℕ → List Basic → Float
value_at i bs = elim (find_row i bs) [ none ↦ zero64 | some r ↦ r.constant ]

pub value-by : (i : ℕ) (bs : List Basic) (o : Option Row) → find_row i bs ≡ o → value_at i bs ≡ elim o as (λ _. Float) [ none ↦ zero64 | some r ↦ r.constant ]
unfolding value_at
value-by i bs o e = ap (λ (o : Option Row). elim o as (λ _. Float) [ none ↦ zero64 | some r ↦ r.constant ]) e

-- a row at the head
at_head : (i : ℕ) (b : Basic) (bs : List Basic) → value_at i (b ∷ bs) ≡ cond (eqb i (row_id b)) b.row.constant (value_at i bs)
unfolding value_at find_row is_symbol
at_head i b bs = go (eqb i (row_id b))
  where
    go : (t : Bool) → elim (elim t as (λ _. Option Row) [ true ↦ some b.row | false ↦ find_row i bs ]) as (λ _. Float) [ none ↦ zero64 | some r ↦ r.constant ] ≡ cond t b.row.constant (elim (find_row i bs) [ none ↦ zero64 | some r ↦ r.constant ])
    go true = refl
    go false = refl

at-hit : (i : ℕ) (b : Basic) (bs : List Basic) → eqb i (row_id b) ≡ true → value_at i (b ∷ bs) ≡ b.row.constant
at-hit i b bs e = at_head i b bs ∙ ap (λ (t : Bool). cond t b.row.constant (value_at i bs)) e

at-miss : (i : ℕ) (b : Basic) (bs : List Basic) → eqb i (row_id b) ≡ false → value_at i (b ∷ bs) ≡ value_at i bs
at-miss i b bs e = at_head i b bs ∙ ap (λ (t : Bool). cond t b.row.constant (value_at i bs)) e

-- ---- rows that come, go, or change no constant

pub value_none : (i : ℕ) (bs : List Basic) → times i (bids bs) ≡ 0 → value_at i bs ≡ zero64
unfolding times
value_none i [] z = unfold value_at find_row in refl
value_none i (b ∷ bs) z = go (same? i (row_id b)) (value_none i bs)
  where
    go : Same? i (row_id b) → (times i (bids bs) ≡ 0 → value_at i bs ≡ zero64) → value_at i (b ∷ bs) ≡ zero64
    go (is a p c) ih = absurd (omega arith)
    go (isnt a p c) ih = at-miss i b bs a ∙ ih (omega arith)

pub value-drop : (i l : ℕ) (bs : List Basic) → i ≢ l → value_at i (drop_row l bs) ≡ value_at i bs
unfolding drop_row is_symbol
value-drop i l [] d = refl
value-drop i l (b ∷ bs) d = go (same? l (row_id b)) (same? i (row_id b)) (value-drop i l bs d)
  where
    go : Same? l (row_id b) → Same? i (row_id b) → value_at i (drop_row l bs) ≡ value_at i bs → value_at i (elim (eqb l (row_id b)) [ true ↦ bs | false ↦ b ∷ drop_row l bs ]) ≡ value_at i (b ∷ bs)
    go (is a p c) (is q r s) ih = absurd (d (r ∙ sym p))
    go (is a p c) (isnt q r s) ih = rw a (sym (at-miss i b bs q))
    go (isnt a p c) (is q r s) ih = rw a (at-hit i b (drop_row l bs) q ∙ sym (at-hit i b bs q))
    go (isnt a p c) (isnt q r s) ih = rw a (at-miss i b (drop_row l bs) q ∙ ih ∙ sym (at-miss i b bs q))

pub value-keep : (i : ℕ) (r : Basic) (bs : List Basic) → i ≢ row_id r → value_at i (keep_row r bs) ≡ value_at i bs
unfolding keep_row
value-keep i r [] d = go (same? i (row_id r))
  where
    go : Same? i (row_id r) → value_at i (r ∷ []) ≡ value_at i []
    go (is a p c) = absurd (d p)
    go (isnt a p c) = at-miss i r [] a
value-keep i r (b ∷ bs) d = go (ltb (row_id r) (row_id b)) (same? i (row_id r)) (same? i (row_id b)) (value-keep i r bs d)
  where
    go : (t : Bool) → Same? i (row_id r) → Same? i (row_id b) → value_at i (keep_row r bs) ≡ value_at i bs → value_at i (elim t [ true ↦ r ∷ b ∷ bs | false ↦ b ∷ keep_row r bs ]) ≡ value_at i (b ∷ bs)
    go t (is a p c) w ih = absurd (d p)
    go true (isnt a p c) w ih = at-miss i r (b ∷ bs) a
    go false (isnt a p c) (is q x y) ih = at-hit i b (keep_row r bs) q ∙ sym (at-hit i b bs q)
    go false (isnt a p c) (isnt q x y) ih = at-miss i b (keep_row r bs) q ∙ ih ∙ sym (at-miss i b bs q)

pub value-kept : (r : Basic) (bs : List Basic) → times (row_id r) (bids bs) ≡ 0 → value_at (row_id r) (keep_row r bs) ≡ r.row.constant
unfolding keep_row times
value-kept r [] z = at-hit (row_id r) r [] (own (same? (row_id r) (row_id r)))
  where
    own : Same? (row_id r) (row_id r) → eqb (row_id r) (row_id r) ≡ true
    own (is a p c) = a
    own (isnt a p c) = absurd (p refl)
value-kept r (b ∷ bs) z = go (ltb (row_id r) (row_id b)) (same? (row_id r) (row_id r)) (same? (row_id r) (row_id b)) (value-kept r bs)
  where
    go : (t : Bool) → Same? (row_id r) (row_id r) → Same? (row_id r) (row_id b) → (times (row_id r) (bids bs) ≡ 0 → value_at (row_id r) (keep_row r bs) ≡ r.row.constant)
        → value_at (row_id r) (elim t [ true ↦ r ∷ b ∷ bs | false ↦ b ∷ keep_row r bs ]) ≡ r.row.constant
    go true (isnt a p c) w ih = absurd (p refl)
    go false (isnt a p c) w ih = absurd (p refl)
    go true (is a p c) w ih = at-hit (row_id r) r (b ∷ bs) a
    go false (is a p c) (is q x y) ih = absurd (omega arith)
    go false (is a p c) (isnt q x y) ih = at-miss (row_id r) b (keep_row r bs) q ∙ ih (omega arith)

pub value-rerow : (g : Row → Row) → ((r : Row) → (g r).constant ≡ r.constant) → (i : ℕ) (bs : List Basic) → value_at i (map (λ (b : Basic). record { symbol = b.symbol; row = g b.row }) bs) ≡ value_at i bs
value-rerow g same i [] = refl
value-rerow g same i (b ∷ bs) = go (eqb i (row_id b)) refl (value-rerow g same i bs)
  where
    new : Basic
    new = record { symbol = b.symbol; row = g b.row }

    others : List Basic
    others = map (λ (b : Basic). record { symbol = b.symbol; row = g b.row }) bs

    go : (t : Bool) → eqb i (row_id b) ≡ t → value_at i others ≡ value_at i bs → value_at i (new ∷ others) ≡ value_at i (b ∷ bs)
    go true e ih = at-hit i new others e ∙ same b.row ∙ sym (at-hit i b bs e)
    go false e ih = at-miss i new others e ∙ ih ∙ sym (at-miss i b bs e)

-- ---- rows written: the same number, or noted

-- rows with this basic symbol are External's
abbrev pub ExternalAt : ℕ → Basic → Type 0
ExternalAt i b = i ≡ row_id b → is_external b.symbol ≡ true

-- the constant is an f64
abbrev pub Numbered : Basic → Type 0
Numbered b = is_finite b.row.constant ≡ true

-- an External's is one that an operation gave
abbrev pub RoundedAt : Basic → Type 0
RoundedAt b = is_external b.symbol ≡ true → T (fits binary64 b.row.constant)

abbrev pub Rounded : List Basic → Type 0
Rounded bs = All RoundedAt bs

-- noted, or the same number
abbrev pub NotedOr : ℕ → List ℕ → Float → Float → Type 0
NotedOr i ns x y = (member i ns ≡ true) ⊎ Is x y

-- a row is written: its constant says so, or is the same number
abbrev pub Writes : Written → Basic → Type 0
Writes w b = (is_external b.symbol ≡ true → is_finite b.row.constant ≡ true → T (fits binary64 b.row.constant) → (w.constant_changed ≡ true) ⊎ Is w.row.constant b.row.constant)

-- each row as it is written
unfoldable pub written : (Basic → Written) → List Basic → List Substituted
written f [] = []
written f (b ∷ bs) = record { symbol = b.symbol; written = f b } ∷ written f bs

module _ (f : Basic → Written) (writes : (b : Basic) → Writes (f b) b) where
  pub written-noted : (i : ℕ) (bs : List Basic) → All (ExternalAt i) bs → All Numbered bs → Rounded bs → NotedOr i (noted_of (written f bs)) (value_at i (rows_of (written f bs))) (value_at i bs)
  unfolding written noted_of rows_of member
  written-noted i [] x n r = inr (unfold value_at find_row in is-refl zero64 zero-finite)
  written-noted i (b ∷ bs) x n r = go (same? i (row_id b)) (is_external b.symbol) refl (f b).constant_changed refl (written-noted i bs x.1 n.1 r.1)
    where
      new : Basic
      new = record { symbol = b.symbol; row = (f b).row }

      rest : List Basic
      rest = rows_of (written f bs)

      notes : Bool → List ℕ
      notes t = elim t [ true ↦ row_id b ∷ noted_of (written f bs) | false ↦ noted_of (written f bs) ]

      or-true : (a c : Bool) → c ≡ true → (a || c) ≡ true
      or-true true c e = refl
      or-true false c e = e

      later : (t : Bool) → member i (noted_of (written f bs)) ≡ true → member i (notes t) ≡ true
      later true e = or-true (eqb i (row_id b)) (member i (noted_of (written f bs))) e
      later false e = e

      go : Same? i (row_id b) → (e : Bool) → is_external b.symbol ≡ e → (c : Bool) → (f b).constant_changed ≡ c → NotedOr i (noted_of (written f bs)) (value_at i rest) (value_at i bs) → NotedOr i (notes (e && c)) (value_at i (new ∷ rest)) (value_at i (b ∷ bs))
      go (isnt a p q) e u c v (inl m) = inl (later (e && c) m)
      go (isnt a p q) e u c v (inr m) = inr (rw (at-miss i new rest a, at-miss i b bs a) m)
      go (is a p q) false u c v ih = absurd (no_both (x.0 p) u)
      go (is a p q) true u true v ih = inl (ap (λ (t : Bool). t || member i (noted_of (written f bs))) a)
      go (is a p q) true u false v ih = inr (same (writes b u n.0 (r.0 u)))
        where
          same : ((f b).constant_changed ≡ true) ⊎ Is (f b).row.constant b.row.constant → Is (value_at i (new ∷ rest)) (value_at i (b ∷ bs))
          same (inl w) = absurd (no_both w v)
          same (inr w) = rw (at-hit i new rest a, at-hit i b bs a) w

pub written-rounded : (f : Basic → Written) → ((b : Basic) → RoundedAt b → RoundedAt (record { symbol = b.symbol; row = (f b).row })) → (bs : List Basic) → Rounded bs → Rounded (rows_of (written f bs))
unfolding written rows_of
written-rounded f h [] r = tt
written-rounded f h (b ∷ bs) r = (h b r.0, written-rounded f h bs r.1)

-- ---- substitution

module _ (cut : Float) (s : ℕ) (xs : List Symbol) (other : Row) where
  abbrev pub substituted : Basic → Written
  substituted b = substitute_in_row cut s xs other b.row

  pub substituted-is : (bs : List Basic) → substitute_in_rows cut s xs other bs ≡ written substituted bs
  unfolding substitute_in_rows written
  substituted-is [] = refl
  substituted-is (b ∷ bs) = ap (λ (l : List Substituted). record { symbol = b.symbol; written = substituted b } ∷ l) (substituted-is bs)

  -- ""Constant changed" means that product is not zero."
  pub substituted-writes : (b : Basic) → Writes (substituted b) b
  unfolding substitute_in_row untouched insert_row
  substituted-writes b x n r = go (absent k)
    where
      k : Float
      k = coefficient_for s xs b.row.cells

      bare : Row
      bare = record { constant = b.row.constant; cells = clear_cell s xs b.row.cells }

      by : (z : Bool) → eq (other.constant *₆₄ k) zero64 ≡ z → (not z ≡ true) ⊎ Is (b.row.constant +₆₄ other.constant *₆₄ k) b.row.constant
      by true e = inr (zero-added b.row.constant (other.constant *₆₄ k) n r e)
      by false e = inl refl

      go : (t : Bool) → ((elim t as (λ _. Written) [ true ↦ untouched b.row | false ↦ insert_row cut other k bare ]).constant_changed ≡ true) ⊎ Is (elim t as (λ _. Written) [ true ↦ untouched b.row | false ↦ insert_row cut other k bare ]).row.constant b.row.constant
      go true = inr (is-refl b.row.constant n)
      go false = unfold ne in by (eq (other.constant *₆₄ k) zero64) refl

  pub substituted-rounded : (b : Basic) → RoundedAt b → RoundedAt (record { symbol = b.symbol; row = (substituted b).row })
  unfolding substitute_in_row untouched insert_row
  substituted-rounded b r e = go (absent k)
    where
      k : Float
      k = coefficient_for s xs b.row.cells

      bare : Row
      bare = record { constant = b.row.constant; cells = clear_cell s xs b.row.cells }

      go : (t : Bool) → T (fits binary64 (elim t as (λ _. Written) [ true ↦ untouched b.row | false ↦ insert_row cut other k bare ]).row.constant)
      go true = r e
      go false = add-fits binary64 b.row.constant (other.constant *₆₄ k)

-- ---- a suggestion's shifts

module _ (shift : Basic → Option Float) where
  abbrev pub shifted : Basic → Written
  shifted b = shift_row b.row (shift b)

  pub shifted-is : (bs : List Basic) → shift_rows shift bs ≡ written shifted bs
  unfolding shift_rows written
  shifted-is [] = refl
  shifted-is (b ∷ bs) = ap (λ (l : List Substituted). record { symbol = b.symbol; written = shifted b } ∷ l) (shifted-is bs)

  -- "A product that isn't zero notes an External."
  pub shifted-writes : (b : Basic) → Writes (shifted b) b
  unfolding shift_row untouched
  shifted-writes b x n r = go (shift b)
    where
      by : (d : Float) (z : Bool) → eq d zero64 ≡ z → (not z ≡ true) ⊎ Is (b.row.constant +₆₄ d) b.row.constant
      by d true e = inr (zero-added b.row.constant d n r e)
      by d false e = inl refl

      go : (o : Option Float) → ((shift_row b.row o).constant_changed ≡ true) ⊎ Is (shift_row b.row o).row.constant b.row.constant
      go none = inr (is-refl b.row.constant n)
      go (some d) = unfold ne in by d (eq d zero64) refl

  pub shifted-rounded : (b : Basic) → RoundedAt b → RoundedAt (record { symbol = b.symbol; row = (shifted b).row })
  unfolding shift_row untouched
  shifted-rounded b r e = go (shift b)
    where
      go : (o : Option Float) → T (fits binary64 (shift_row b.row o).row.constant)
      go none = r e
      go (some d) = add-fits binary64 b.row.constant d
