-- A suggestion's shift of constants, read as the theory's rows: each row that gets something gets a whole number more. Assumes nothing.
use Rattle.std.specs.Prelude.{◌≡◌, ◌≢◌, false, ℕ, ◌^◌, ℤ, ◌+ℤ◌, ◌*ℤ◌, Float}
use Rattle.std.proofs.Common.{sym, ap, ◌∙◌, arith}
use Rattle.std.proofs.Math.Path.{subst}
use Rattle.std.proofs.Math.Bool.{true}
use mathlib.Core.List.{List, [], ◌∷◌}
use Rattle.std.proofs.Math.Option.{Option, none, some}
use Rattle.laws.specs.Z.{abs-add}
use Rattle.laws.specs.Ring.{ring, v, k as κ, ◌⊞◌, ◌⊠◌}
use Rattle.laws.specs.exact.Whole.{IsZ, Zb, isz-to, add-z}
use Rattle.simplex.specs.Ord.{0ℤ, 1ℤ}
use Rattle.simplex.specs.Lin.{Vec, δ, δ-same, δ-other, plus}
use Rattle.simplex.specs.Choose.{All}
use Rattle.simplex.specs.Basis.{Mask}
use Rattle.simplex.specs.Opt.{Kind as KindZ}
use Rattle.steps.specs.Number.{all_whole}
use Rattle.steps.specs.Symbol.{Symbol, is_symbol}
use Rattle.steps.specs.Row.{Row, untouched}
use Rattle.steps.specs.State.{Basic}
use Rattle.steps.specs.Work.{find_row}
use Rattle.steps.specs.Substitute.{rows_of, marks_of}
use Rattle.steps.specs.Edit.{shift_row, shift_rows}
use Rattle.simplex.specs.bridge.Nums.{constant_bound-z, worse-l, worse-r, write-small}
use Rattle.simplex.specs.bridge.Rows.{Up, Sym?, is, isnt, sym?, ReadsRow, reads-to}
use Rattle.simplex.proofs.bridge.Rows.{row-to}
use Rattle.simplex.specs.bridge.Finds.{UpRows, find-hit, find-miss, find_none}
use Rattle.simplex.specs.bridge.Table.{RowAt, Live, ReadsTable, in-nonzero}

-- ---- along the rows

module _ (shift : Basic → Option Float) where
  abbrev after : List Basic → List Basic
  after bs = rows_of (shift_rows shift bs)

  -- what is found for a column, before and after
  data Found (j : ℕ) (bs : List Basic) : Option Row → Option Row → Type 0 where
    no_row : Found j bs none none
    a-row : (b : Basic) → b.symbol.id ≡ j → (shift_row b.row (shift b)).mark ≡ all_whole → Found j bs (some b.row) (some (shift_row b.row (shift b)).row)

  find-shift : (j : ℕ) (bs : List Basic) → marks_of (shift_rows shift bs) ≡ all_whole → Found j bs (find_row j bs) (find_row j (after bs))
  unfolding shift_rows rows_of marks_of
  find-shift j [] m = subst (λ (o : Option Row). Found j [] o o) (sym (find_none j)) no_row
  find-shift j (b ∷ bs) m = go (sym? j b.symbol) (find-shift j bs (worse-r (shift_row b.row (shift b)).mark (marks_of (shift_rows shift bs)) m))
    where
      at_head : is_symbol j b.symbol ≡ true → j ≡ b.symbol.id → Found j (b ∷ bs) (some b.row) (some (shift_row b.row (shift b)).row)
      at_head d p = a-row b (sym p) (worse-l (shift_row b.row (shift b)).mark (marks_of (shift_rows shift bs)) m)

      further : is_symbol j b.symbol ≡ false → {o q : Option Row} → Found j bs o q → Found j (b ∷ bs) o q
      further d no_row = no_row
      further d (a-row c p w) = a-row c p w

      go : Sym? j b.symbol → Found j bs (find_row j bs) (find_row j (after bs)) → Found j (b ∷ bs) (find_row j (b ∷ bs)) (find_row j (record { symbol = b.symbol; row = (shift_row b.row (shift b)).row } ∷ after bs))
      go (is e p d) ih =
          subst (λ (o : Option Row). Found j (b ∷ bs) o (find_row j (record { symbol = b.symbol; row = (shift_row b.row (shift b)).row } ∷ after bs))) (sym (find-hit j b bs e))
          (subst (λ (o : Option Row). Found j (b ∷ bs) (some b.row) o) (sym (find-hit j (record { symbol = b.symbol; row = (shift_row b.row (shift b)).row }) (after bs) e)) (at_head e p))
      go (isnt e p d) ih =
          subst (λ (o : Option Row). Found j (b ∷ bs) o (find_row j (record { symbol = b.symbol; row = (shift_row b.row (shift b)).row } ∷ after bs))) (sym (find-miss j b bs e))
          (subst (λ (o : Option Row). Found j (b ∷ bs) (find_row j bs) o) (sym (find-miss j (record { symbol = b.symbol; row = (shift_row b.row (shift b)).row }) (after bs) e)) (further e ih))

  pub shift-up : (i : ℕ) (bs : List Basic) → UpRows i bs → UpRows i (after bs)
  unfolding shift_rows rows_of
  shift-up i [] u = tt
  shift-up i (b ∷ bs) u = (u.0, shift-up b.symbol.id bs u.1)

  pub shift-all : (Q : Symbol → Type 0) (bs : List Basic) → All (λ (b : Basic). Q b.symbol) bs → All (λ (b : Basic). Q b.symbol) (after bs)
  unfolding shift_rows rows_of
  shift-all Q [] a = tt
  shift-all Q (b ∷ bs) a = (a.0, shift-all Q bs a.1)

-- ---- one row

-- what a row gets, as a whole number
abbrev pub Amount : Option Float → ℤ → Type 0
Amount none q = q ≡ 0ℤ
Amount (some t) q = Zb (2 ^ 42) t q

nothing-more : (f : Vec) (j : ℕ) (q : ℤ) → q ≡ 0ℤ → f j ≡ f j +ℤ q *ℤ δ 0 j
nothing-more f j q e = ring (f j ∷ δ 0 j ∷ []) (v 0) (v 0 ⊞ κ 0ℤ ⊠ v 1) tt ∙ ap (λ (z : ℤ). f j +ℤ z *ℤ δ 0 j) (sym e)

elsewhere : (f : Vec) (j : ℕ) (q : ℤ) → j ≢ 0 → f j ≡ f j +ℤ q *ℤ δ 0 j
elsewhere f j q n = ring (f j ∷ q ∷ []) (v 0) (v 0 ⊞ v 1 ⊠ κ 0ℤ) tt ∙ ap (λ (z : ℤ). f j +ℤ q *ℤ z) (sym (δ-other (λ e. n (sym e))))

pub shift-row : (xs : List Symbol) (r : Row) (f : Vec) (o : Option Float) (q : ℤ) → Up 0 xs → ReadsRow xs r f → Amount o q → (shift_row r o).mark ≡ all_whole → ReadsRow xs (shift_row r o).row (plus f q (δ 0))
unfolding shift_row untouched
shift-row xs r f none q u h a m = row-to xs r f (plus f q (δ 0)) (λ j. nothing-more f j q a) h
shift-row xs r f (some t) q u h a m = record {
  constant = record { isz = total; small = write-small constant_bound-z total m };
  cells = reads-to 1024 xs r.cells f (plus f q (δ 0)) (λ x i. elsewhere f x.id q (in-nonzero x.id xs u i)) h.cells;
  outside = λ i n x. sym (elsewhere f i q n) ∙ h.outside i n x;
}
  where
    total : IsZ (Rattle.steps.specs.Number.◌+₆₄◌ r.constant t) (f 0 +ℤ q *ℤ δ 0 0)
    total = isz-to (add-z h.constant.isz a.isz (omega (arith, abs-add (f 0) q, h.constant.small, a.small)))
        (ring (f 0 ∷ q ∷ []) (v 0 ⊞ v 1) (v 0 ⊞ v 1 ⊠ κ 1ℤ) tt ∙ ap (λ (z : ℤ). f 0 +ℤ q *ℤ z) (sym (δ-same 0)))

-- ---- the tableau

module _ (kind : ℕ → KindZ) (cut : Float) (xs : List Symbol) (bs : List Basic) (cs : List Float) (B : Mask) (R : ℕ → Vec) (o a : Vec) (H : ReadsTable kind cut xs bs cs none B R o a)
    (shift : Basic → Option Float) (d : ℕ → ℤ) (gets : (b : Basic) → B b.symbol.id ≡ true → ReadsRow xs b.row (R b.symbol.id) → Amount (shift b) (d b.symbol.id))
    (whole : marks_of (shift_rows shift bs) ≡ all_whole) (R' : ℕ → Vec) (is-shifted : (j : ℕ) → B j ≡ true → (i : ℕ) → R j i +ℤ d j *ℤ δ 0 i ≡ R' j i) where
  row-after : (j : ℕ) (o q : Option Row) → Found shift j bs o q → RowAt xs o (B j) (R j) → RowAt xs q (B j) (R' j)
  row-after j o q no_row r = r
  row-after j o q (a-row b p w) r = (
    r.0,
    subst (λ (t : ℕ). ReadsRow xs (shift_row b.row (shift b)).row (R' t)) p
        (row-to xs (shift_row b.row (shift b)).row (plus (R b.symbol.id) (d b.symbol.id) (δ 0)) (R' b.symbol.id) (is-shifted b.symbol.id basic)
        (shift-row xs b.row (R b.symbol.id) (shift b) (d b.symbol.id) H.up reads (gets b basic reads) w)),
  )
    where
      basic : B b.symbol.id ≡ true
      basic = ap B p ∙ r.0

      reads : ReadsRow xs b.row (R b.symbol.id)
      reads = subst (λ (t : ℕ). ReadsRow xs b.row (R t)) (sym p) r.1

  pub shift-table : ReadsTable kind cut xs (rows_of (shift_rows shift bs)) cs none B R' o a
  shift-table = record {
    up = H.up;
    kinds = H.kinds;
    unknown = H.unknown;
    rows-up = shift-up shift 0 bs H.rows-up;
    rows-live = shift-all shift (λ (s : Symbol). Live kind xs s) bs H.rows-live;
    rows = λ j. row-after j (find_row j bs) (find_row j (rows_of (shift_rows shift bs))) (find-shift shift j bs whole) (H.rows j);
    objective = H.objective;
    beyond = H.beyond;
    cutoff = H.cutoff;
    artificial = H.artificial;
  }
