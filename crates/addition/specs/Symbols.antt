-- Symbols by their places: what reads with the same symbols has them at the same places; the temporary slack stands past the others.
-- Assumes nothing.
use Rattle.std.specs.Prelude.{ℕ, ◌+◌, ◌-◌, ◌≤◌, Bool, cond, List, [], ◌∷◌, ◌++◌, eqb, length, get_or}
use Rattle.std.proofs.Math.Path.{◌≡◌, refl, ap}
use Rattle.std.proofs.Common.{sym, ◌∙◌, arith, length-append}
use Rattle.std.proofs.Math.Bool.{true, false}
use Rattle.std.proofs.Math.Option.{Option, none, some}
use Rattle.std.proofs.Math.Seq.{get_or-append_seam}
use Rattle.std.proofs.lemmas.Bool.{eqb-false}
use Rattle.laws.specs.Lists.{get_or-tab}
use Rattle.steps.specs.Number.{Mark}
use Rattle.steps.specs.Symbol.{Slack, External, Symbol}
use Rattle.steps.specs.Row.{Row}
use Rattle.steps.specs.State.{Tag}
use Rattle.steps.specs.Work.{Work, with_tableau, with_rows, with_artificial, new_symbol, append_symbol}
use Rattle.steps.specs.CreateRow.{Building, append_to}
use Rattle.steps.specs.Artificial.{stand_temporary}
use Rattle.layout.specs.Layout.{kind_of}
use Rattle.layout.specs.cells.Names.{last_place}
use Rattle.sparse.specs.Places.{kinds_at}
use Rattle.sparse.specs.Sparse.{Sparse, symbol_count, symbol_at, other_at, symbols_of, basics_of, read}
use Rattle.sparse.specs.Widths.{symbols-read}
use Rattle.waist.specs.Working.{work_of}
use Rattle.waist.specs.Entering.{Later, later-symbol, later-count}
use Rattle.waist.specs.Standing.{Owners, Makes, Unowned}
use Rattle.waist.specs.Tags.{tag_at}
use Rattle.addition.specs.Adding.{Temporary}

-- ---- places

pub symbols-are : (art : Bool) (a : Mark) (v : ℕ) (t : Sparse) → (work_of art a v t).tableau.symbols ≡ symbols_of t
unfolding work_of read
symbols-are art a v t = refl

pub rows_are : (art : Bool) (a : Mark) (v : ℕ) (t : Sparse) → (work_of art a v t).tableau.rows ≡ basics_of t
unfolding work_of read
rows_are art a v t = refl

pub record Alike (t u : Sparse) : Type 0 where
  pub count : symbol_count u ≡ symbol_count t
  pub at : (p : ℕ) → 1 ≤ p → p ≤ symbol_count t → symbol_at u p ≡ symbol_at t p

symbol-at : (t : Sparse) (p : ℕ) (d : Symbol) → 1 ≤ p → p ≤ symbol_count t → get_or (symbols_of t) (p - 1) d ≡ symbol_at t p
unfolding symbols_of
symbol-at t p d low high =
    let e : 1 + (p - 1) ≡ p = omega (arith, low) in
    get_or-tab (symbol_at t) 1 (symbol_count t) (p - 1) d (omega (arith, low, high)) ∙ ap (symbol_at t) e

pub alike-by : (t u : Sparse) → symbols_of u ≡ symbols_of t → Alike t u
alike-by t u e =
    let c : symbol_count u ≡ symbol_count t = sym (symbols-read u) ∙ ap length e ∙ symbols-read t in
    record {
      count = c;
      at = λ p low high.
          let d : Symbol = symbol_at t 0 in
          sym (symbol-at u p d low (omega (arith, high, c))) ∙ ap (λ (l : List Symbol). get_or l (p - 1) d) e ∙ symbol-at t p d low high;
    }

pub alike-later : (t u : Sparse) → Later t u → symbol_count t ≤ last_place → Alike t u
alike-later t u l few = record { count = later-count l; at = λ p low high. later-symbol l p (omega (arith, high, few)) }

-- the artificial objective is no part of the symbols
pub alike-closed : (a : Mark) (t u : Sparse) → Makes true false a a (with_artificial none) t u → Alike t u
alike-closed a t u m = alike-by t u (sym (symbols-are false a 0 u) ∙ ap (λ (w : Work). w.tableau.symbols) (m.reads 0) ∙ plain ∙ symbols-are true a 0 t)
  where
    plain : (with_artificial none (work_of true a 0 t)).tableau.symbols ≡ (work_of true a 0 t).tableau.symbols
    plain = unfold with_artificial in refl

pub tag-alike : (t u : Sparse) → Alike t u → (marker other : ℕ) → 1 ≤ marker → marker ≤ symbol_count t → other ≤ symbol_count t → tag_at u marker other ≡ tag_at t marker other
unfolding tag_at other_at
tag-alike t u s marker other low high near = rw (s.at marker low high) (ap (λ (o : Option Symbol). tag (symbol_at t marker) o) (by (eqb other 0) refl))
  where
    tag : Symbol → Option Symbol → Tag
    tag m o = record { marker = m; other = o }

    by : (b : Bool) → eqb other 0 ≡ b → cond b none (some (symbol_at u other)) ≡ cond b none (some (symbol_at t other))
    by true e = refl
    by false e = ap some (s.at other (let n = eqb-false other 0 e in omega (arith, n)) near)

-- ---- the temporary slack

pub temporary-unowned : (p : ℕ) (t : Sparse) → Owners t → Temporary p t → Unowned p t
temporary-unowned p t o s v h e = other (ap kind_of (sym (rw e at (o.external v h))) ∙ kind)
  where
    kind : kind_of (get_or t.bytes (kinds_at + p) 0) ≡ Slack
    kind = unfold symbol_at in s.slack

    other : kind_of 0 ≡ Slack → ⊥
    other q = let y : External ≡ Slack = unfold kind_of in q in let z : ◌≡◌ {A = ℕ} 0 1 = cc in omega (arith, z)

pub temporary-alike : (p : ℕ) (t u : Sparse) → Alike t u → Temporary p t → Temporary p u
temporary-alike p t u s x = record { low = x.low; high = rw s.count x.high; slack = ap (λ (y : Symbol). y.kind) (s.at p x.low x.high) ∙ x.slack }

pub stood-symbols : (s : Symbol) (b : Building) → (stand_temporary s b).tableau.symbols ≡ b.work.tableau.symbols ++ (s ∷ [])
unfolding stand_temporary append_to append_symbol with_artificial with_rows with_tableau
stood-symbols s b = refl

-- it stands past the others
pub temporary-at : (t u : Sparse) (s : Symbol) → s.kind ≡ Slack → symbols_of u ≡ symbols_of t ++ (s ∷ []) → Temporary (1 + symbol_count t) u × (symbol_at u (1 + symbol_count t) ≡ s)
temporary-at t u s k e =
    let n : length (symbols_of t) ≡ symbol_count t = symbols-read t in
    let m : length (symbols_of t ++ (s ∷ [])) ≡ length (symbols_of t) + 1 = length-append (symbols_of t) (s ∷ []) in
    let c : symbol_count u ≡ symbol_count t + 1 = sym (symbols-read u) ∙ ap length e ∙ omega (arith, m, n) in
    let x : 1 + symbol_count t - 1 ≡ length (symbols_of t) = omega (arith, n) in
    let own : symbol_at u (1 + symbol_count t) ≡ s =
    sym (symbol-at u (1 + symbol_count t) s (omega arith) (omega (arith, c))) ∙ ap (λ (l : List Symbol). get_or l (1 + symbol_count t - 1) s) e
    ∙ ap (λ (i : ℕ). get_or (symbols_of t ++ (s ∷ [])) i s) x ∙ get_or-append_seam (symbols_of t) s [] s in
    (record { low = omega arith; high = omega (arith, c); slack = ap (λ (y : Symbol). y.kind) own ∙ k }, own)

pub stood-temporary : (a : Mark) (v : ℕ) (t u : Sparse) (row : Row) → work_of true a v u ≡ stand_temporary (new_symbol Slack (work_of false a v t)) (record { work = work_of false a v t; row = row })
    → Temporary (1 + symbol_count t) u × (symbol_at u (1 + symbol_count t) ≡ new_symbol Slack (work_of false a v t))
stood-temporary a v t u row e =
    temporary-at t u (new_symbol Slack (work_of false a v t)) (unfold new_symbol in refl)
    (sym (symbols-are true a v u) ∙ ap (λ (w : Work). w.tableau.symbols) e ∙ stood-symbols _ _ ∙ rw (symbols-are false a v t) refl)
