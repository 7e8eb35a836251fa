-- A row of the steps that stands along the symbols reads as a Vec; cells that are inserted read as the sum. Assumes nothing.
use Rattle.std.specs.Prelude.{◌≡◌, refl, ◌⊎◌, ◌≢◌, List, [], ◌∷◌, ℕ, ◌+◌, ◌*◌, ◌^◌, ◌≤◌, ◌<◌, Bool, true, false, cond, T, eqb, ℤ, pos, nat_abs, ◌+ℤ◌, ◌-ℤ◌, ◌*ℤ◌, Float}
use Rattle.std.proofs.Common.{sym, ◌∙◌, subst, inl, inr, mul-le-mul, arith, eqb→eq}
use Rattle.std.proofs.Math.Path.{ap}
use Rattle.std.proofs.Math.Dec.{eqb_refl}
use Rattle.std.proofs.Math.IntN.{neg_ℤ}
use Rattle.laws.specs.Z.{abs-add, abs-mul}
use Rattle.laws.specs.exact.Whole.{IsZ, Zb, isz-to, add-z, mul-z}
use Rattle.laws.specs.Ring.{ring, v, k as κ, ◌⊞◌, ◌⊠◌}
use Rattle.simplex.specs.Ord.{0ℤ, 1ℤ}
use Rattle.simplex.specs.Lin.{Vec, δ, plus}
use Rattle.steps.specs.Number.{cutoff_fits, ◌+₆₄◌, ◌*₆₄◌, near_zero, all_whole}
use Rattle.steps.specs.Symbol.{Symbol, is_symbol, absent}
use Rattle.steps.specs.Row.{Row, Cell, kept, wrote, cell_value, cell_values, cell_mark, cell_marks, goes_if_near_zero, insert_cell, insert_symbol, insert_times, insert_cells, Written}
use Rattle.simplex.specs.bridge.Nums.{worse-l, worse-r, write-small, stored-z, goes-z, absent-yes, near_zero-yes}

-- ---- a list of cells along the symbols reads as f, each number at most b
abbrev pub Reads : ℕ → List Symbol → List Float → Vec → Type 0
Reads b [] [] f = Unit
Reads b [] (c ∷ cs) f = ⊥
Reads b (x ∷ xs) [] f = ⊥
Reads b (x ∷ xs) (c ∷ cs) f = Zb b c (f x.id) × Reads b xs cs f

abbrev pub NotIn : ℕ → List Symbol → Type 0
NotIn i [] = Unit
NotIn i (x ∷ xs) = (i ≢ x.id) × NotIn i xs

abbrev pub In : ℕ → List Symbol → Type 0
In i [] = ⊥
In i (x ∷ xs) = (i ≡ x.id) ⊎ In i xs

-- ascending ids, from 1
abbrev pub Up : ℕ → List Symbol → Type 0
Up i [] = Unit
Up i (x ∷ xs) = (i < x.id) × Up x.id xs

abbrev pub Outside : List Symbol → Vec → Type 0
Outside xs f = (i : ℕ) → i ≢ 0 → NotIn i xs → f i ≡ 0ℤ

pub zb-to : {b : ℕ} {x : Float} {z w : ℤ} → Zb b x z → z ≡ w → Zb b x w
zb-to {b} {x} h e = subst (λ (z : ℤ). Zb b x z) e h

-- the symbol asked for
pub data Sym? (s : ℕ) (x : Symbol) : Type 0 where
  is : is_symbol s x ≡ true → s ≡ x.id → δ s x.id ≡ 1ℤ → Sym? s x
  isnt : is_symbol s x ≡ false → s ≢ x.id → δ s x.id ≡ 0ℤ → Sym? s x

pub sym? : (s : ℕ) (x : Symbol) → Sym? s x
unfolding is_symbol δ
sym? s x = go (eqb s x.id) refl
  where
    go : (b : Bool) → eqb s x.id ≡ b → Sym? s x
    go true e = is e (eqb→eq s x.id (subst T (sym e) tt)) (ap (λ (b : Bool). cond b 1ℤ 0ℤ) e)
    go false e = isnt e (λ p. subst T e (subst (λ (y : ℕ). T (eqb s y)) p (eqb_refl s))) (ap (λ (b : Bool). cond b 1ℤ 0ℤ) e)

-- all above s are not s
pub up-not_in : (s i : ℕ) (xs : List Symbol) → s ≤ i → Up i xs → NotIn s xs
up-not_in s i [] l u = tt
up-not_in s i (x ∷ xs) l u = ((λ e. omega (arith, u.0)), up-not_in s x.id xs (omega (arith, u.0)) u.1)

pub reads-to : (b : ℕ) (xs : List Symbol) (cs : List Float) (f g : Vec) → ((x : Symbol) → In x.id xs → f x.id ≡ g x.id) → Reads b xs cs f → Reads b xs cs g
reads-to b [] [] f g e h = tt
reads-to b [] (c ∷ cs) f g e h = absurd h
reads-to b (x ∷ xs) [] f g e h = absurd h
reads-to b (x ∷ xs) (c ∷ cs) f g e h = (zb-to h.0 (e x (inl refl)), reads-to b xs cs f g (λ y m. e y (inr m)) h.1)

-- ---- one cell
abbrev pub CellZ : ℕ → Cell → ℤ → Type 0
CellZ b (kept c) z = Zb b c z
CellZ b (wrote c) z = IsZ c z

abbrev pub CellsZ : ℕ → List Symbol → List Cell → Vec → Type 0
CellsZ b [] [] f = Unit
CellsZ b [] (c ∷ cs) f = ⊥
CellsZ b (x ∷ xs) [] f = ⊥
CellsZ b (x ∷ xs) (c ∷ cs) f = CellZ b c (f x.id) × CellsZ b xs cs f

cell-written : (b : ℕ) (bound : Float) → IsZ bound (pos b) → (c : Cell) (z : ℤ) → CellZ b c z → cell_mark bound c ≡ all_whole → Zb b (cell_value c) z
unfolding cell_value cell_mark
cell-written b bound B (kept c) z h e = h
cell-written b bound B (wrote c) z h e = record { isz = stored-z h; small = write-small B h e }

pub written : (b : ℕ) (bound : Float) → IsZ bound (pos b) → (xs : List Symbol) (cs : List Cell) (f : Vec) → CellsZ b xs cs f → cell_marks bound cs ≡ all_whole → Reads b xs (cell_values cs) f
unfolding cell_values cell_marks
written b bound B [] [] f h e = tt
written b bound B [] (c ∷ cs) f h e = absurd h
written b bound B (x ∷ xs) [] f h e = absurd h
written b bound B (x ∷ xs) (c ∷ cs) f h e = (
  cell-written b bound B c (f x.id) h.0 (worse-l (cell_mark bound c) (cell_marks bound cs) e),
  written b bound B xs cs f h.1 (worse-r (cell_mark bound c) (cell_marks bound cs) e),
)

cell-to : (b : ℕ) (c : Cell) (z w : ℤ) → z ≡ w → CellZ b c z → CellZ b c w
cell-to b c z w e h = subst (CellZ b c) e h

insert_cell-z : (cut : Float) → cutoff_fits cut ≡ true → (b : ℕ) {c k : Float} {z q : ℤ} → Zb b c z → IsZ k q → nat_abs (z +ℤ q) ≤ 2 ^ 53 → CellZ b (insert_cell cut c k) (z +ℤ q)
unfolding insert_cell
insert_cell-z cut fits b {c} {k} {z} {q} h g l = go (absent c) refl (near_zero cut k) refl
  where
    go : (o : Bool) → absent c ≡ o → (r : Bool) → near_zero cut k ≡ r
        → CellZ b (elim (absent c) [ true ↦ elim (near_zero cut k) [ true ↦ kept c | false ↦ wrote k ] | false ↦ wrote (goes_if_near_zero cut (c +₆₄ k)) ]) (z +ℤ q)
    go true e true t = rw (e, t) (zb-to h (ring (z ∷ []) (v 0) (v 0 ⊞ κ 0ℤ) tt ∙ ap (λ (y : ℤ). z +ℤ y) (sym (near_zero-yes cut fits g t))))
    go true e false t = rw (e, t) (isz-to g (ring (q ∷ []) (v 0) (κ 0ℤ ⊞ v 0) tt ∙ ap (λ (y : ℤ). y +ℤ q) (sym (absent-yes h.isz e))))
    go false e r t = rw e (goes-z cut fits (add-z h.isz g l))

insert_times-z : (cut : Float) → cutoff_fits cut ≡ true → (b d w : ℕ) {c o k : Float} {z g q : ℤ} → Zb b c z → Zb d o g → Zb w k q → b + d * w ≤ 2 ^ 53 → CellZ b (insert_times cut k o c) (z +ℤ q *ℤ g)
unfolding insert_times
insert_times-z cut fits b d w {c} {o} {k} {z} {g} {q} h G K l = go (absent o) refl
  where
    small : nat_abs (g *ℤ q) ≤ d * w
    small = omega (arith, abs-mul g q, mul-le-mul G.small K.small)

    turn : z +ℤ g *ℤ q ≡ z +ℤ q *ℤ g
    turn = ring (z ∷ g ∷ q ∷ []) (v 0 ⊞ v 1 ⊠ v 2) (v 0 ⊞ v 2 ⊠ v 1) tt

    go : (t : Bool) → absent o ≡ t → CellZ b (elim (absent o) [ true ↦ kept c | false ↦ insert_cell cut c (o *₆₄ k) ]) (z +ℤ q *ℤ g)
    go true e = rw e (zb-to h (ring (z ∷ q ∷ []) (v 0) (v 0 ⊞ v 1 ⊠ κ 0ℤ) tt ∙ ap (λ (y : ℤ). z +ℤ q *ℤ y) (sym (absent-yes G.isz e))))
    go false e =
        rw e (cell-to b (insert_cell cut c (o *₆₄ k)) (z +ℤ g *ℤ q) (z +ℤ q *ℤ g) turn
        (insert_cell-z cut fits b h (mul-z G.isz K.isz (omega (arith, small))) (omega (arith, small, abs-add z (g *ℤ q), h.small))))

-- ---- along the symbols
pub insert_cells-z : (cut : Float) → cutoff_fits cut ≡ true → (b d w : ℕ) {k : Float} {q : ℤ} → Zb w k q → b + d * w ≤ 2 ^ 53 → (xs : List Symbol) (os cs : List Float) (g f : Vec)
    → Reads d xs os g → Reads b xs cs f → CellsZ b xs (insert_cells cut k os cs) (plus f q g)
unfolding insert_cells
insert_cells-z cut fits b d w K l [] [] [] g f G h = tt
insert_cells-z cut fits b d w K l [] [] (c ∷ cs) g f G h = absurd h
insert_cells-z cut fits b d w K l [] (o ∷ os) cs g f G h = absurd G
insert_cells-z cut fits b d w K l (x ∷ xs) [] cs g f G h = absurd G
insert_cells-z cut fits b d w K l (x ∷ xs) (o ∷ os) [] g f G h = absurd h
insert_cells-z cut fits b d w K l (x ∷ xs) (o ∷ os) (c ∷ cs) g f G h = (insert_times-z cut fits b d w h.0 G.0 K l, insert_cells-z cut fits b d w K l xs os cs g f G.1 h.1)

pub insert_symbol-z : (cut : Float) → cutoff_fits cut ≡ true → (b s : ℕ) {k : Float} {q : ℤ} → IsZ k q → b + nat_abs q ≤ 2 ^ 53 → (xs : List Symbol) (cs : List Float) (f : Vec)
    → Reads b xs cs f → CellsZ b xs (insert_symbol cut s k xs cs) (plus f q (δ s))
unfolding insert_symbol
insert_symbol-z cut fits b s K l [] [] f h = tt
insert_symbol-z cut fits b s K l [] (c ∷ cs) f h = absurd h
insert_symbol-z cut fits b s K l (x ∷ xs) [] f h = absurd h
insert_symbol-z cut fits b s {k} {q} K l (x ∷ xs) (c ∷ cs) f h = (go (sym? s x), insert_symbol-z cut fits b s K l xs cs f h.1)
  where
    go : Sym? s x → CellZ b (elim (is_symbol s x) [ true ↦ insert_cell cut c k | false ↦ kept c ]) (f x.id +ℤ q *ℤ δ s x.id)
    go (is e p u) =
        rw e (cell-to b (insert_cell cut c k) (f x.id +ℤ q) (f x.id +ℤ q *ℤ δ s x.id)
        (ring (f x.id ∷ q ∷ []) (v 0 ⊞ v 1) (v 0 ⊞ v 1 ⊠ κ 1ℤ) tt ∙ ap (λ (z : ℤ). f x.id +ℤ q *ℤ z) (sym u))
        (insert_cell-z cut fits b h.0 K (omega (arith, abs-add (f x.id) q, h.0.small))))
    go (isnt e p u) = rw e (zb-to h.0 (ring (f x.id ∷ q ∷ []) (v 0) (v 0 ⊞ v 1 ⊠ κ 0ℤ) tt ∙ ap (λ (z : ℤ). f x.id +ℤ q *ℤ z) (sym u)))

-- s's column goes
abbrev pub cleared : ℕ → Vec → Vec
cleared s f = λ j. f j -ℤ f s *ℤ δ s j

-- ---- a row: its constant is column 0
pub record ReadsRow (xs : List Symbol) (r : Row) (f : Vec) : Type 0 where
  pub constant : Zb (2 ^ 30) r.constant (f 0)
  pub cells : Reads 1024 xs r.cells f
  pub outside : Outside xs f

-- what was written reads as f, if the mark stays
abbrev pub Whole : List Symbol → Vec → Written → Type 0
Whole xs f w = w.mark ≡ all_whole → ReadsRow xs w.row f

pub record Solved (s : ℕ) (xs : List Symbol) (f : Vec) (w : Written) : Type 0 where
  pub unit : f s *ℤ f s ≡ 1ℤ
  pub row : ReadsRow xs w.row (λ j. neg_ℤ (f s) *ℤ cleared s f j)
