-- Rows counted as symbols: in a work that reads as a tableau, the rows on restricted symbols are the restricted symbols that are basic. Assumes nothing.
use Prim.Native.Nat.{ℕ, suc, ◌≤◌}
use native.Mathlib.Omega.{arith}
use mathlib.Core.Path.{◌≡◌, refl, sym, ap, ap₂, ◌∙◌, subst}
use mathlib.Core.Logic.{inl, inr, ◌≢◌}
use mathlib.Core.Bool.{Bool, true, false, not}
use mathlib.Core.List.{List, [], ◌∷◌, map}
use mathlib.Core.Option.{Option, none, some}
use lib.ListN.{length}
use Rattle.simplex.specs.Choose.{choose, trues, All}
use Rattle.simplex.specs.Basis.{Mask}
use Rattle.simplex.specs.Lin.{Vec}
use Rattle.simplex.specs.Opt.{Kind as KindZ, const, external, slack, dummy}
use Rattle.steps.specs.Symbol.{Kind, External, Slack, Error, Dummy, Symbol, is_external, is_restricted}
use Rattle.steps.specs.Row.{Row}
use Rattle.steps.specs.State.{Basic}
use Rattle.steps.specs.Work.{Work, find_row}
use Rattle.simplex.specs.bridge.Rows.{In, Up, Sym?, is, isnt, sym?}
use Rattle.simplex.specs.bridge.Finds.{UpRows, find-hit, find-miss, find-up}
use Rattle.simplex.specs.bridge.Table.{kind_of, Live, RowAt, ReadsWork, in-above}
use Rattle.run.specs.Steady.{Kinded}
use Rattle.run.specs.Passes.{restricted_ids, ways_of}
use Rattle.run.specs.stall.Stall.{is_basic, restricted_rows, restricted_symbols}

-- ---- n

pub symbols-are : (xs : List Symbol) → length (restricted_ids xs) ≡ restricted_symbols xs
unfolding restricted_ids restricted_symbols
symbols-are [] = refl
symbols-are (x ∷ xs) = go (is_restricted x) (symbols-are xs)
  where
    go : (b : Bool) → length (restricted_ids xs) ≡ restricted_symbols xs
        → length {A = ℕ} (elim b [ true ↦ x.id ∷ restricted_ids xs | false ↦ restricted_ids xs ]) ≡ elim b [ true ↦ suc (restricted_symbols xs) | false ↦ restricted_symbols xs ]
    go true ih = ap suc ih
    go false ih = ih

-- ---- r

-- the symbol j has a row
has : List Basic → ℕ → Bool
has bs j = elim (find_row j bs) [ none ↦ false | some r ↦ true ]

has-hit : (j : ℕ) (b : Basic) (bs : List Basic) → j ≡ b.symbol.id → has (b ∷ bs) j ≡ true
unfolding has
has-hit j b bs q = go (sym? j b.symbol)
  where
    go : Sym? j b.symbol → (elim (find_row j (b ∷ bs)) as (λ x. Bool) [ none ↦ false | some r ↦ true ]) ≡ true
    go (is e p d) = ap (λ (t : Option Row). elim t as (λ x. Bool) [ none ↦ false | some r ↦ true ]) (find-hit j b bs e)
    go (isnt e p d) = absurd (p q)

has-miss : (j : ℕ) (b : Basic) (bs : List Basic) → j ≢ b.symbol.id → has (b ∷ bs) j ≡ has bs j
unfolding has
has-miss j b bs n = go (sym? j b.symbol)
  where
    go : Sym? j b.symbol → ◌≡◌ {A = Bool} (elim (find_row j (b ∷ bs)) [ none ↦ false | some r ↦ true ]) (elim (find_row j bs) [ none ↦ false | some r ↦ true ])
    go (is e p d) = absurd (n p)
    go (isnt e p d) = ap (λ (t : Option Row). elim t as (λ x. Bool) [ none ↦ false | some r ↦ true ]) (find-miss j b bs e)

has-up : (j i : ℕ) (bs : List Basic) → j ≤ i → UpRows i bs → has bs j ≡ false
unfolding has
has-up j i bs l u = ap (λ (t : Option Row). elim t as (λ x. Bool) [ none ↦ false | some r ↦ true ]) (find-up j i bs l u)

-- how many restricted symbols of the list are on
on : (ℕ → Bool) → List Symbol → ℕ
on f xs = trues (map f (restricted_ids xs))

on_same : (f g : ℕ → Bool) (xs : List Symbol) → ((j : ℕ) → In j xs → f j ≡ g j) → on f xs ≡ on g xs
unfolding on restricted_ids
on_same f g xs h = ap trues (go xs h)
  where
    go : (xs : List Symbol) → ((j : ℕ) → In j xs → f j ≡ g j) → map f (restricted_ids xs) ≡ map g (restricted_ids xs)
    go [] h = refl
    go (x ∷ xs) h = by (is_restricted x) (go xs (λ j m. h j (inr m)))
      where
        by : (b : Bool) → map f (restricted_ids xs) ≡ map g (restricted_ids xs)
            → map f (elim b [ true ↦ x.id ∷ restricted_ids xs | false ↦ restricted_ids xs ]) ≡ map g (elim b [ true ↦ x.id ∷ restricted_ids xs | false ↦ restricted_ids xs ])
        by true ih = ap₂ (λ (t : Bool) (l : List Bool). t ∷ l) (h x.id (inl refl)) ih
        by false ih = ih

on-off : (f : ℕ → Bool) (x : Symbol) (xs : List Symbol) → f x.id ≡ false → on f (x ∷ xs) ≡ on f xs
unfolding on restricted_ids trues
on-off f x xs e = go (is_restricted x)
  where
    go : (b : Bool) → trues (map f (elim b [ true ↦ x.id ∷ restricted_ids xs | false ↦ restricted_ids xs ])) ≡ trues (map f (restricted_ids xs))
    go true = ap (λ (t : Bool). trues (t ∷ map f (restricted_ids xs))) e
    go false = refl

on-on : (f : ℕ → Bool) (x : Symbol) (xs : List Symbol) → f x.id ≡ true → on f (x ∷ xs) ≡ elim (is_restricted x) [ true ↦ suc (on f xs) | false ↦ on f xs ]
unfolding on restricted_ids trues
on-on f x xs e = go (is_restricted x)
  where
    go : (b : Bool) → trues (map f (elim b [ true ↦ x.id ∷ restricted_ids xs | false ↦ restricted_ids xs ])) ≡ elim b [ true ↦ suc (trues (map f (restricted_ids xs))) | false ↦ trues (map f (restricted_ids xs)) ]
    go true = ap (λ (t : Bool). trues (t ∷ map f (restricted_ids xs))) e
    go false = refl

-- a symbol is restricted by the theory's kind alone
restricted_z : KindZ → Bool
restricted_z const = true
restricted_z external = false
restricted_z slack = true
restricted_z dummy = true

by_kind : (x : Symbol) → is_restricted x ≡ restricted_z (kind_of x.kind)
unfolding is_restricted is_external restricted_z
by_kind x = go x.kind
  where
    go : (t : Kind) → not (elim t [ External ↦ true | Slack ↦ false | Error ↦ false | Dummy ↦ false ]) ≡ restricted_z (kind_of t)
    go External = refl
    go Slack = refl
    go Error = refl
    go Dummy = refl

module _ (kind : ℕ → KindZ) where
  abbrev Stands : List Symbol → List Basic → Type 0
  Stands xs bs = All (λ (b : Basic). Live kind xs b.symbol) bs

  -- rows beyond the first symbol are on later ones
  beyond : (x : Symbol) (xs : List Symbol) (i : ℕ) (bs : List Basic) → x.id ≤ i → UpRows i bs → Stands (x ∷ xs) bs → Stands xs bs
  beyond x xs i [] l u a = tt
  beyond x xs i (b ∷ bs) l u a = ((go a.0.0, a.0.1), beyond x xs b.symbol.id bs (omega (arith, u.0)) u.1 a.1)
    where
      go : In b.symbol.id (x ∷ xs) → In b.symbol.id xs
      go (inl e) = absurd (omega (arith, u.0))
      go (inr m) = m

  counted : (xs : List Symbol) (bs : List Basic) (i : ℕ) → Up i xs → UpRows i bs → All (Kinded kind) xs → Stands xs bs → on (has bs) xs ≡ restricted_rows bs
  unfolding restricted_rows
  counted [] [] i u r k a = unfold on restricted_ids trues in refl
  counted [] (b ∷ bs) i u r k a = absurd a.0.0
  counted (x ∷ xs) [] i u r k a = on-off (has []) x xs (has-up x.id x.id [] (omega arith) tt) ∙ counted xs [] x.id u.1 tt k.1 tt
  counted (x ∷ xs) (b ∷ bs) i u r k a = go a.0.0 (λ (v : UpRows x.id bs) (s : Stands xs bs). counted xs bs x.id u.1 v k.1 s) (λ (v : UpRows x.id (b ∷ bs)) (s : Stands xs (b ∷ bs)). counted xs (b ∷ bs) x.id u.1 v k.1 s)
    where
      -- the first row is the first symbol's
      alike : b.symbol.id ≡ x.id → is_restricted x ≡ is_restricted b.symbol
      alike e = by_kind x ∙ ap restricted_z (sym k.0 ∙ ap kind (sym e) ∙ a.0.1) ∙ sym (by_kind b.symbol)

      hit : b.symbol.id ≡ x.id → on (has bs) xs ≡ restricted_rows bs → on (has (b ∷ bs)) (x ∷ xs) ≡ elim (is_restricted b.symbol) [ true ↦ suc (restricted_rows bs) | false ↦ restricted_rows bs ]
      hit e ih =
          on-on (has (b ∷ bs)) x xs (has-hit x.id b bs (sym e))
          ∙ ap₂ (λ (t : Bool) (c : ℕ). elim t as (λ y. ℕ) [ true ↦ suc c | false ↦ c ]) (alike e)
          (on_same (has (b ∷ bs)) (has bs) xs (λ j m. has-miss j b bs (λ q. omega (arith, in-above x.id j xs u.1 m))) ∙ ih)

      go : In b.symbol.id (x ∷ xs) → (UpRows x.id bs → Stands xs bs → on (has bs) xs ≡ restricted_rows bs)
          → (UpRows x.id (b ∷ bs) → Stands xs (b ∷ bs) → on (has (b ∷ bs)) xs ≡ elim (is_restricted b.symbol) [ true ↦ suc (restricted_rows bs) | false ↦ restricted_rows bs ])
          → on (has (b ∷ bs)) (x ∷ xs) ≡ elim (is_restricted b.symbol) [ true ↦ suc (restricted_rows bs) | false ↦ restricted_rows bs ]
      go (inl e) here later = hit e (here (subst (λ (i : ℕ). UpRows i bs) e r.1) (beyond x xs b.symbol.id bs (omega (arith, e)) r.1 a.1))
      go (inr m) here later =
          let v : UpRows x.id (b ∷ bs) = (in-above x.id b.symbol.id xs u.1 m, r.1) in
          on-off (has (b ∷ bs)) x xs (has-up x.id x.id (b ∷ bs) (omega arith) v) ∙ later v (beyond x xs x.id (b ∷ bs) (omega arith) v a)

-- ---- the ways
module _ (kind : ℕ → KindZ) (w : Work) (B : Mask) (R : ℕ → Vec) (o a : Vec) (H : ReadsWork kind w B R o a) where
  -- a row is found where the theory's column is basic
  pub basic-is : (j : ℕ) → is_basic j w ≡ B j
  unfolding is_basic
  basic-is j = go (find_row j w.tableau.rows) (H.rows j)
    where
      go : (t : Option Row) → RowAt w.tableau.symbols t (B j) (R j) → elim t as (λ x. Bool) [ none ↦ false | some r ↦ true ] ≡ B j
      go none h = sym h
      go (some r) h = sym h.0

  pub rows_are : trues (map B (restricted_ids w.tableau.symbols)) ≡ restricted_rows w.tableau.rows
  unfolding on has is_basic
  rows_are =
      on_same B (has w.tableau.rows) w.tableau.symbols (λ j m. sym (basic-is j))
      ∙ counted kind w.tableau.symbols w.tableau.rows 0 H.up H.rows-up H.kinds H.rows-live

  pub ways-are : ways_of w.tableau.symbols B ≡ choose (restricted_symbols w.tableau.symbols) (restricted_rows w.tableau.rows)
  unfolding ways_of
  ways-are = ap₂ choose (symbols-are w.tableau.symbols) rows_are
