-- What is the same in two tables that read as the same symbols, or the same rows; one step of the work after another.
-- Assumes nothing.
use Rattle.std.specs.Prelude.{ℕ, ◌+◌, ◌-◌, ◌≤◌, ◌≡◌, refl, Bool, false, length}
use Rattle.std.proofs.Common.{sym, ◌∙◌, arith}
use Rattle.std.proofs.Math.Path.{ap}
use Rattle.std.proofs.lemmas.Bool.{false≢true}
use mathlib.Core.List.{List}
use Rattle.std.proofs.Math.ListN.{get_or}
use Rattle.laws.specs.Lists.{get_or-tab}
use Rattle.steps.specs.Number.{Mark}
use Rattle.steps.specs.Symbol.{Symbol, is_external}
use Rattle.steps.specs.State.{Basic}
use Rattle.steps.specs.Work.{Work}
use Rattle.layout.specs.Layout.{kind_of}
use Rattle.sparse.specs.Places.{kinds_at}
use Rattle.sparse.specs.Sparse.{Sparse, symbol_count, row_count, symbol_at, basic_of, symbols_of, basics_of}
use Rattle.sparse.specs.Widths.{symbols-read, rows-read, row_read}
use Rattle.waist.specs.Working.{work_of, work-parts}
use Rattle.waist.specs.Standing.{Owners, Standing, Makes, Unowned}

-- ---- what is read of tables

pub work-symbols : (art : Bool) (a : Mark) (v : ℕ) (t : Sparse) → (work_of art a v t).tableau.symbols ≡ symbols_of t
work-symbols art a v t = ap (λ (w : Work). w.tableau.symbols) (work-parts art a v t)

pub work-rows : (art : Bool) (a : Mark) (v : ℕ) (t : Sparse) → (work_of art a v t).tableau.rows ≡ basics_of t
work-rows art a v t = ap (λ (w : Work). w.tableau.rows) (work-parts art a v t)

module _ (t u : Sparse) where
  module _ (e : symbols_of u ≡ symbols_of t) where
    pub count_same : symbol_count u ≡ symbol_count t
    count_same = sym (symbols-read u) ∙ ap length e ∙ symbols-read t

    pub symbol-same : (p : ℕ) → 1 ≤ p → p ≤ symbol_count t → symbol_at u p ≡ symbol_at t p
    unfolding symbols_of
    symbol-same p low high =
        let c = count_same in
        let q : 1 + (p - 1) ≡ p = omega (arith, low) in
        let d : Symbol = symbol_at t 0 in
        let x : get_or (symbols_of u) (p - 1) d ≡ symbol_at u (1 + (p - 1)) = get_or-tab (symbol_at u) 1 (symbol_count u) (p - 1) d (omega (arith, low, high, c)) in
        let y : get_or (symbols_of t) (p - 1) d ≡ symbol_at t (1 + (p - 1)) = get_or-tab (symbol_at t) 1 (symbol_count t) (p - 1) d (omega (arith, low, high)) in
        rw q at (sym x ∙ ap (λ (l : List Symbol). get_or l (p - 1) d) e ∙ y)

  module _ (e : basics_of u ≡ basics_of t) where
    pub rows_same : row_count u ≡ row_count t
    rows_same = sym (rows-read u) ∙ ap length e ∙ rows-read t

    pub row_same : (i : ℕ) → 1 ≤ i → i ≤ row_count t → basic_of u i ≡ basic_of t i
    row_same i low high =
        let c = rows_same in
        let q : 1 + (i - 1) ≡ i = omega (arith, low) in
        let d : Basic = basic_of t 0 in
        rw q at (sym (row_read u (i - 1) d (omega (arith, low, high, c))) ∙ ap (λ (l : List Basic). get_or l (i - 1) d) e ∙ row_read t (i - 1) d (omega (arith, low, high)))

-- a symbol that is no External is no variable's
pub unowned : (t : Sparse) (p : ℕ) → Owners t → is_external (symbol_at t p) ≡ false → Unowned p t
unfolding symbol_at is_external kind_of
unowned t p o e v b q =
    let z : get_or t.bytes (kinds_at + p) 0 ≡ 0 = rw q at (o.external v b) in
    false≢true (sym (rw z at e))

-- ---- steps

pub makes-to : {art b : Bool} {a c : Mark} {f g : Work → Work} {t u : Sparse} → ((v : ℕ) → f (work_of art a v t) ≡ g (work_of art a v t)) → Makes art b a c f t u → Makes art b a c g t u
makes-to h m = record { reads = λ v. m.reads v ∙ h v; stands = m.stands }

pub makes-then : {art b c : Bool} {x y z : Mark} {f g : Work → Work} {t u v : Sparse} → Makes art b x y f t u → Makes b c y z g u v → Makes art c x z (λ w. g (f w)) t v
makes-then {g = g} m n = record { reads = λ k. n.reads k ∙ ap g (m.reads k); stands = n.stands }

pub makes-same : {a : Mark} {t : Sparse} → Standing false a t → Makes false false a a (λ w. w) t t
makes-same s = record { reads = λ v. refl; stands = s }
