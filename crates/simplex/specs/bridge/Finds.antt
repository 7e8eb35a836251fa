-- Looking a row up by its basic symbol, after rows were dropped, kept or substituted in. Assumes nothing.
use Rattle.std.specs.Prelude.{◌≡◌, ◌≢◌, ℕ, ◌≤◌, ◌<◌, Bool, not, T, ltb, Float}
use Rattle.std.proofs.Math.Path.{refl, ap}
use Rattle.std.proofs.Common.{sym, ◌∙◌, inl, inr, arith, ltb→lt, nltb→le}
use mathlib.Core.List.{List, [], ◌∷◌}
use Rattle.std.proofs.Math.Option
use Rattle.std.proofs.Math.Option.{Option, none, some, none-ne-some}
use Rattle.std.proofs.Math.Bool.{true, false}
use Rattle.simplex.specs.Choose.{All}
use Rattle.steps.specs.Number.{all_whole}
use Rattle.steps.specs.Symbol.{Symbol, is_symbol}
use Rattle.steps.specs.Row.{Row}
use Rattle.steps.specs.State.{Basic}
use Rattle.steps.specs.Work.{find_row, drop_row, keep_row}
use Rattle.steps.specs.Substitute.{substitute_in_row, substitute_in_rows, rows_of, marks_of}
use Rattle.simplex.specs.bridge.Nums.{worse-l, worse-r}
use Rattle.simplex.specs.bridge.Rows.{Sym?, is, isnt, sym?}

pub none≢some : {A : Type 0} {a : A} → none ≡ some a → ⊥
none≢some {A} {a} e = none-ne-some a e

pub some-injective : {A : Type 0} {a b : A} → some a ≡ some b → a ≡ b
some-injective {A} {a} {b} e = Option.some-injective a b e

-- rows by ascending id, all above i
abbrev pub UpRows : ℕ → List Basic → Type 0
UpRows i [] = Unit
UpRows i (b ∷ bs) = (i < b.symbol.id) × UpRows b.symbol.id bs

pub up_from : (i k : ℕ) (bs : List Basic) → i ≤ k → UpRows k bs → UpRows i bs
up_from i k [] l u = tt
up_from i k (b ∷ bs) l u = (omega (arith, u.0), u.1)

-- ---- look up
abbrev pick : Bool → Row → Option Row → Option Row
pick t r o = elim t [ true ↦ some r | false ↦ o ]

pub find-hit : (j : ℕ) (b : Basic) (bs : List Basic) → is_symbol j b.symbol ≡ true → find_row j (b ∷ bs) ≡ some b.row
unfolding find_row
find-hit j b bs e = ap (λ (t : Bool). pick t b.row (find_row j bs)) e

pub find-miss : (j : ℕ) (b : Basic) (bs : List Basic) → is_symbol j b.symbol ≡ false → find_row j (b ∷ bs) ≡ find_row j bs
unfolding find_row
find-miss j b bs e = ap (λ (t : Bool). pick t b.row (find_row j bs)) e

pub find_none : (j : ℕ) → find_row j [] ≡ none
unfolding find_row
find_none j = refl

pub find-up : (j i : ℕ) (bs : List Basic) → j ≤ i → UpRows i bs → find_row j bs ≡ none
find-up j i [] l u = find_none j
find-up j i (b ∷ bs) l u = go (sym? j b.symbol) (find-up j b.symbol.id bs (omega (arith, u.0)) u.1)
  where
    go : Sym? j b.symbol → find_row j bs ≡ none → find_row j (b ∷ bs) ≡ none
    go (is e p d) ih = absurd (omega (arith, u.0))
    go (isnt e p d) ih = find-miss j b bs e ∙ ih

pub find-drop-same : (l i : ℕ) (bs : List Basic) → UpRows i bs → find_row l (drop_row l bs) ≡ none
unfolding drop_row
find-drop-same l i [] u = find_none l
find-drop-same l i (b ∷ bs) u = go (sym? l b.symbol) (find-drop-same l b.symbol.id bs u.1)
  where
    go : Sym? l b.symbol → find_row l (drop_row l bs) ≡ none → find_row l (elim (is_symbol l b.symbol) [ true ↦ bs | false ↦ b ∷ drop_row l bs ]) ≡ none
    go (is e p d) ih = rw e (find-up l b.symbol.id bs (omega arith) u.1)
    go (isnt e p d) ih = rw e (find-miss l b (drop_row l bs) e ∙ ih)

pub find-drop-other : (j l : ℕ) (bs : List Basic) → j ≢ l → find_row j (drop_row l bs) ≡ find_row j bs
unfolding drop_row
find-drop-other j l [] n = refl
find-drop-other j l (b ∷ bs) n = go (sym? l b.symbol) (sym? j b.symbol) (find-drop-other j l bs n)
  where
    go : Sym? l b.symbol → Sym? j b.symbol → find_row j (drop_row l bs) ≡ find_row j bs
        → find_row j (elim (is_symbol l b.symbol) [ true ↦ bs | false ↦ b ∷ drop_row l bs ]) ≡ find_row j (b ∷ bs)
    go (is e p d) (is e' p' d') ih = absurd (n (p' ∙ sym p))
    go (is e p d) (isnt e' p' d') ih = rw e (sym (find-miss j b bs e'))
    go (isnt e p d) (is e' p' d') ih = rw e (find-hit j b (drop_row l bs) e' ∙ sym (find-hit j b bs e'))
    go (isnt e p d) (isnt e' p' d') ih = rw e (find-miss j b (drop_row l bs) e' ∙ ih ∙ sym (find-miss j b bs e'))

pub find-keep-same : (j : ℕ) (r : Basic) (bs : List Basic) → j ≡ r.symbol.id → find_row j bs ≡ none → find_row j (keep_row r bs) ≡ some r.row
unfolding keep_row
find-keep-same j r [] q f = go (sym? j r.symbol)
  where
    go : Sym? j r.symbol → find_row j (r ∷ []) ≡ some r.row
    go (is e p d) = find-hit j r [] e
    go (isnt e p d) = absurd (p q)
find-keep-same j r (b ∷ bs) q f = go (ltb r.symbol.id b.symbol.id) (sym? j r.symbol) (sym? j b.symbol) (find-keep-same j r bs q)
  where
    go : (t : Bool) → Sym? j r.symbol → Sym? j b.symbol
        → (find_row j bs ≡ none → find_row j (keep_row r bs) ≡ some r.row)
        → find_row j (elim t [ true ↦ r ∷ b ∷ bs | false ↦ b ∷ keep_row r bs ]) ≡ some r.row
    go true (is e p d) w ih = find-hit j r (b ∷ bs) e
    go true (isnt e p d) w ih = absurd (p q)
    go false w (is e p d) ih = absurd (none≢some (sym f ∙ find-hit j b bs e))
    go false w (isnt e p d) ih = find-miss j b (keep_row r bs) e ∙ ih (sym (find-miss j b bs e) ∙ f)

pub find-keep-other : (j : ℕ) (r : Basic) (bs : List Basic) → j ≢ r.symbol.id → find_row j (keep_row r bs) ≡ find_row j bs
unfolding keep_row
find-keep-other j r [] n = go (sym? j r.symbol)
  where
    go : Sym? j r.symbol → find_row j (r ∷ []) ≡ find_row j []
    go (is e p d) = absurd (n p)
    go (isnt e p d) = find-miss j r [] e
find-keep-other j r (b ∷ bs) n = go (ltb r.symbol.id b.symbol.id) (sym? j r.symbol) (sym? j b.symbol) (find-keep-other j r bs n)
  where
    go : (t : Bool) → Sym? j r.symbol → Sym? j b.symbol → find_row j (keep_row r bs) ≡ find_row j bs
        → find_row j (elim t [ true ↦ r ∷ b ∷ bs | false ↦ b ∷ keep_row r bs ]) ≡ find_row j (b ∷ bs)
    go t (is e p d) w ih = absurd (n p)
    go true (isnt e p d) w ih = find-miss j r (b ∷ bs) e
    go false (isnt e p d) (is e' p' d') ih = find-hit j b (keep_row r bs) e' ∙ sym (find-hit j b bs e')
    go false (isnt e p d) (isnt e' p' d') ih = find-miss j b (keep_row r bs) e' ∙ ih ∙ sym (find-miss j b bs e')

-- ---- substituted rows
module _ (cut : Float) (s : ℕ) (xs : List Symbol) (other : Row) where
  unfoldable pub after-sub : Option Row → Option Row
  after-sub none = none
  after-sub (some r) = some (substitute_in_row cut s xs other r).row

  pub find-sub : (j : ℕ) (bs : List Basic) → find_row j (rows_of (substitute_in_rows cut s xs other bs)) ≡ after-sub (find_row j bs)
  unfolding find_row rows_of substitute_in_rows after-sub
  find-sub j [] = refl
  find-sub j (b ∷ bs) = go (is_symbol j b.symbol) (find-sub j bs)
    where
      go : (t : Bool) → find_row j (rows_of (substitute_in_rows cut s xs other bs)) ≡ after-sub (find_row j bs)
          → elim t [ true ↦ some (substitute_in_row cut s xs other b.row).row | false ↦ find_row j (rows_of (substitute_in_rows cut s xs other bs)) ] ≡ after-sub (elim t [ true ↦ some b.row | false ↦ find_row j bs ])
      go true ih = refl
      go false ih = ih

  pub find-mark : (j : ℕ) (bs : List Basic) (r : Row) → marks_of (substitute_in_rows cut s xs other bs) ≡ all_whole → find_row j bs ≡ some r → (substitute_in_row cut s xs other r).mark ≡ all_whole
  unfolding find_row marks_of substitute_in_rows
  find-mark j [] r m f = absurd (none≢some f)
  find-mark j (b ∷ bs) r m f = go (is_symbol j b.symbol) f (find-mark j bs r (worse-r (substitute_in_row cut s xs other b.row).mark (marks_of (substitute_in_rows cut s xs other bs)) m))
    where
      go : (t : Bool) → elim t [ true ↦ some b.row | false ↦ find_row j bs ] ≡ some r → (find_row j bs ≡ some r → (substitute_in_row cut s xs other r).mark ≡ all_whole) → (substitute_in_row cut s xs other r).mark ≡ all_whole
      go true f ih = ap (λ (r : Row). (substitute_in_row cut s xs other r).mark) (sym (some-injective f)) ∙ worse-l (substitute_in_row cut s xs other b.row).mark (marks_of (substitute_in_rows cut s xs other bs)) m
      go false f ih = ih f

  pub sub-up : (i : ℕ) (bs : List Basic) → UpRows i bs → UpRows i (rows_of (substitute_in_rows cut s xs other bs))
  unfolding rows_of substitute_in_rows
  sub-up i [] u = tt
  sub-up i (b ∷ bs) u = (u.0, sub-up b.symbol.id bs u.1)

  pub sub-all : (Q : Symbol → Type 0) (bs : List Basic) → All (λ (b : Basic). Q b.symbol) bs → All (λ (b : Basic). Q b.symbol) (rows_of (substitute_in_rows cut s xs other bs))
  unfolding rows_of substitute_in_rows
  sub-all Q [] a = tt
  sub-all Q (b ∷ bs) a = (a.0, sub-all Q bs a.1)

-- ---- order and symbols stay
pub drop-up : (l i : ℕ) (bs : List Basic) → UpRows i bs → UpRows i (drop_row l bs)
unfolding drop_row
drop-up l i [] u = tt
drop-up l i (b ∷ bs) u = go (is_symbol l b.symbol) (drop-up l b.symbol.id bs u.1)
  where
    go : (t : Bool) → UpRows b.symbol.id (drop_row l bs) → UpRows i (elim t [ true ↦ bs | false ↦ b ∷ drop_row l bs ])
    go true ih = up_from i b.symbol.id bs (omega (arith, u.0)) u.1
    go false ih = (u.0, ih)

pub drop_all : (Q : Symbol → Type 0) (l : ℕ) (bs : List Basic) → All (λ (b : Basic). Q b.symbol) bs → All (λ (b : Basic). Q b.symbol) (drop_row l bs)
unfolding drop_row
drop_all Q l [] a = tt
drop_all Q l (b ∷ bs) a = go (is_symbol l b.symbol) (drop_all Q l bs a.1)
  where
    go : (t : Bool) → All (λ (b : Basic). Q b.symbol) (drop_row l bs) → All (λ (b : Basic). Q b.symbol) (elim t [ true ↦ bs | false ↦ b ∷ drop_row l bs ])
    go true ih = a.1
    go false ih = (a.0, ih)

pub keep-up : (i : ℕ) (r : Basic) (bs : List Basic) → i < r.symbol.id → find_row r.symbol.id bs ≡ none → UpRows i bs → UpRows i (keep_row r bs)
unfolding keep_row
keep-up i r [] l f u = (l, tt)
keep-up i r (b ∷ bs) l f u = go (ltb r.symbol.id b.symbol.id) (ltb→lt r.symbol.id b.symbol.id) (nltb→le r.symbol.id b.symbol.id) (sym? r.symbol.id b.symbol) f (λ l f. keep-up b.symbol.id r bs l f u.1)
  where
    go : (t : Bool) → (T t → r.symbol.id < b.symbol.id) → (T (not t) → b.symbol.id ≤ r.symbol.id) → Sym? r.symbol.id b.symbol
        → find_row r.symbol.id (b ∷ bs) ≡ none
        → (b.symbol.id < r.symbol.id → find_row r.symbol.id bs ≡ none → UpRows b.symbol.id (keep_row r bs))
        → UpRows i (elim t [ true ↦ r ∷ b ∷ bs | false ↦ b ∷ keep_row r bs ])
    go true y n w f ih = (l, (y tt, u.1))
    go false y n (is e p d) f ih = absurd (none≢some (sym f ∙ find-hit r.symbol.id b bs e))
    go false y n (isnt e p d) f ih = (u.0, ih (lt_of (n tt) p) (sym (find-miss r.symbol.id b bs e) ∙ f))
      where
        lt_of : b.symbol.id ≤ r.symbol.id → r.symbol.id ≢ b.symbol.id → b.symbol.id < r.symbol.id
        lt_of h q = elim (native.Mathlib.Nat.eq-or-lt_of_le h) [ inl z ↦ absurd (q (sym z)) | inr z ↦ z ]

pub keep_all : (Q : Symbol → Type 0) (r : Basic) (bs : List Basic) → Q r.symbol → All (λ (b : Basic). Q b.symbol) bs → All (λ (b : Basic). Q b.symbol) (keep_row r bs)
unfolding keep_row
keep_all Q r [] q a = (q, tt)
keep_all Q r (b ∷ bs) q a = go (ltb r.symbol.id b.symbol.id) (keep_all Q r bs q a.1)
  where
    go : (t : Bool) → All (λ (b : Basic). Q b.symbol) (keep_row r bs) → All (λ (b : Basic). Q b.symbol) (elim t [ true ↦ r ∷ b ∷ bs | false ↦ b ∷ keep_row r bs ])
    go true ih = (q, a)
    go false ih = (a.0, ih)
