-- Add's step 1 in a whole run, over all the terms. Assumes nothing.
use Prim.Native.Nat.{ℕ, ◌+◌, ◌≤◌}
use Rattle.std.proofs.Common.{arith, sym, ◌∙◌}
use Rattle.std.specs.Prelude.{◌≡◌, ◌≢◌, Bool, true, false, ℤ, ◌+ℤ◌, ◌*ℤ◌, Float}
use Rattle.std.proofs.Math.Path.{refl, ap, subst}
use mathlib.Core.List.{List, [], ◌∷◌}
use Rattle.std.proofs.Math.Option.{Option, none, some}
use Rattle.std.proofs.Math.ListN.{length}
use Rattle.laws.specs.Ring.{ring, v as ν, k as lit, ◌⊞◌}
use Rattle.laws.specs.exact.Whole.{Zb, val}
use Rattle.simplex.specs.Ord.{0ℤ}
use Rattle.simplex.specs.Lin.{Vec, dot, plus}
use Rattle.simplex.specs.At.{at}
use Rattle.simplex.specs.Choose.{All}
use Rattle.simplex.specs.Tab.{Solves}
use Rattle.simplex.specs.Opt.{Kind as KindZ}
use Rattle.simplex.specs.Pass.{State as StateZ}
use Rattle.simplex.specs.Change.{insert-term}
use Rattle.steps.specs.Number.{near_zero, all_whole, cutoff_fits}
use Rattle.steps.specs.Symbol.{Symbol, absent}
use Rattle.steps.specs.Row.{Row, Written, insert_symbol_in_row, insert_row}
use Rattle.steps.specs.State.{Term, Variable}
use Rattle.steps.specs.Work.{Work, with_tableau, with_changes, marking, find_row, append_symbol}
use Rattle.steps.specs.Changes.{find_variable}
use Rattle.steps.specs.CreateRow.{Building, written, append_to, insert_into, with_variables, add_variable, count_use, insert_variable, insert_term, insert_terms}
use Rattle.simplex.specs.bridge.Nums.{worse-l, near_zero-absent}
use Rattle.run.specs.Demand.{sum_of}
use Rattle.run.specs.Inv.{non_zero_terms}
use Rattle.run.specs.BuildVars.{stays-known, LiveAt, AgreesAt, Agrees, agrees_back}
use Rattle.run.specs.BuildTerms.{Stage, Grew, grew_refl, grew_trans, grew-more, variable-stage, variable-grew, variable-found, use-stage, use-grew, insert-stage, insert-grew}

-- ---- the marks only get worse
pub written-mark : (y : Written) (w : Work) → (written y w).work.mark ≡ all_whole → w.mark ≡ all_whole
unfolding written marking
written-mark y w m = worse-l w.mark y.mark m

insert-mark : (s : Symbol) (k : Float) (b : Building) → (insert_variable s k b).work.mark ≡ all_whole → b.work.mark ≡ all_whole
unfolding insert_variable insert_into
insert-mark s k b = go (find_row s.id b.work.tableau.rows)
  where
    go : (q : Option Row) → (elim q as (λ _. Building) [ none ↦ written (insert_symbol_in_row b.work.tableau.cutoff s.id k b.work.tableau.symbols b.row) b.work | some y ↦ written (insert_row b.work.tableau.cutoff y k b.row) b.work ]).work.mark ≡ all_whole → b.work.mark ≡ all_whole
    go none m = written-mark (insert_symbol_in_row b.work.tableau.cutoff s.id k b.work.tableau.symbols b.row) b.work m
    go (some y) m = written-mark (insert_row b.work.tableau.cutoff y k b.row) b.work m

variable-mark : (n : ℕ) (b : Building) → (add_variable n b).work.mark ≡ b.work.mark
unfolding add_variable append_to with_variables with_changes append_symbol with_tableau
variable-mark n b = refl

use-mark : (n : ℕ) (b : Building) → (count_use n b).work.mark ≡ b.work.mark
unfolding count_use with_variables with_changes
use-mark n b = refl

-- the three parts of a term
unfoldable pub knowing : ℕ → Building → Building
knowing n b = elim (find_variable n b.work.changes.variables) [ none ↦ add_variable n b | some v ↦ b ]

unfoldable pub putting : ℕ → Float → Building → Building
putting n k b = elim (find_variable n b.work.changes.variables) [ none ↦ b | some v ↦ insert_variable v.symbol k b ]

term_is : (t : Term) (b : Building) → insert_term t b ≡ putting t.variable t.coefficient (count_use t.variable (knowing t.variable b))
unfolding insert_term putting knowing
term_is t b = refl

knowing-mark : (n : ℕ) (b : Building) → (knowing n b).work.mark ≡ b.work.mark
unfolding knowing
knowing-mark n b = go (find_variable n b.work.changes.variables)
  where
    go : (q : Option Variable) → (elim q as (λ _. Building) [ none ↦ add_variable n b | some v ↦ b ]).work.mark ≡ b.work.mark
    go none = variable-mark n b
    go (some v) = refl

putting-mark : (n : ℕ) (k : Float) (b : Building) → (putting n k b).work.mark ≡ all_whole → b.work.mark ≡ all_whole
unfolding putting
putting-mark n k b = go (find_variable n b.work.changes.variables)
  where
    go : (q : Option Variable) → (elim q as (λ _. Building) [ none ↦ b | some v ↦ insert_variable v.symbol k b ]).work.mark ≡ all_whole → b.work.mark ≡ all_whole
    go none m = m
    go (some v) m = insert-mark v.symbol k b m

term-mark : (t : Term) (b : Building) → (insert_term t b).work.mark ≡ all_whole → b.work.mark ≡ all_whole
term-mark t b m =
    let n : ℕ = t.variable in
    sym (knowing-mark n b) ∙ sym (use-mark n (knowing n b)) ∙ putting-mark n t.coefficient (count_use n (knowing n b)) (sym (ap (λ (x : Building). x.work.mark) (term_is t b)) ∙ m)

pub terms-mark : (cut : Float) (ts : List Term) (b : Building) → (insert_terms cut ts b).work.mark ≡ all_whole → b.work.mark ≡ all_whole
unfolding insert_terms
terms-mark cut [] b m = m
terms-mark cut (t ∷ ts) b m = go (near_zero cut t.coefficient) (terms-mark cut ts) m
  where
    go : (q : Bool) → ((b : Building) → (insert_terms cut ts b).work.mark ≡ all_whole → b.work.mark ≡ all_whole)
        → (insert_terms cut ts (elim q [ true ↦ b | false ↦ insert_term t b ])).work.mark ≡ all_whole → b.work.mark ≡ all_whole
    go true ih m = ih b m
    go false ih m = term-mark t b (ih (insert_term t b) m)

-- ---- one term
module _ (n : ℕ) (kind : ℕ → KindZ) (S : StateZ) where
  -- a building x from b: it reads as vec, and a variable m is known
  record KnownAt (m : ℕ) (b x : Building) (r : Vec) : Type 0 where
    name : ℕ → ℕ
    stage : Stage n kind S name x.work x.row r
    grew : Grew 1 b.work x.work
    found : find_variable m x.work.changes.variables ≢ none

  known : (m : ℕ) (b : Building) (name : ℕ → ℕ) (r : Vec) → Stage n kind S name b.work b.row r → KnownAt m b (knowing m b) r
  unfolding knowing
  known m b name r A = go (find_variable m b.work.changes.variables) refl
    where
      is_some : Option Variable → Type 0
      is_some none = ⊥
      is_some (some v) = Unit

      go : (q : Option Variable) → find_variable m b.work.changes.variables ≡ q → KnownAt m b (elim q [ none ↦ add_variable m b | some v ↦ b ]) r
      go none e = record {
        name = at b.work.tableau.next_id m name;
        stage = variable-stage n kind S name b.work b.row r A m e;
        grew = variable-grew n kind S name b.work b.row r A m e;
        found = variable-found n kind S name b.work b.row r A m e;
      }
      go (some v) e = record { name = name; stage = A; grew = grew-more 0 1 b.work b.work (omega arith) (grew_refl b.work); found = λ p. subst is_some (sym e ∙ p) tt }

  -- the terms ts are in
  pub record Summed (ts : List Term) (b x : Building) (r : Vec) : Type 0 where
    pub name : ℕ → ℕ
    pub vec : Vec
    pub stage : Stage n kind S name x.work x.row vec
    pub grew : Grew (length ts) b.work x.work
    pub found : All (λ (t : Term). find_variable t.variable x.work.changes.variables ≢ none) (non_zero_terms ts)
    pub value : (column : ℕ → ℕ) → Agrees column x.work.changes.variables → (σ : Vec) → Solves n S.R σ → dot n vec σ ≡ dot n r σ +ℤ sum_of (non_zero_terms ts) (λ m. σ (column m))

  record Put (m : ℕ) (q : ℤ) (b x : Building) (r : Vec) : Type 0 where
    vec : Vec
    name : ℕ → ℕ
    stage : Stage n kind S name x.work x.row vec
    grew : Grew 0 b.work x.work
    value : (column : ℕ → ℕ) → Agrees column x.work.changes.variables → (σ : Vec) → Solves n S.R σ → dot n vec σ ≡ dot n r σ +ℤ q *ℤ σ (column m)

  put : (m : ℕ) {k : Float} {q : ℤ} → Zb 1024 k q → (b : Building) (name : ℕ → ℕ) (r : Vec) → Stage n kind S name b.work b.row r → b.work.tableau.next_id ≤ n → find_variable m b.work.changes.variables ≢ none
      → (putting m k b).work.mark ≡ all_whole → Put m q b (putting m k b) r
  unfolding putting
  put m {k} {q} K b name r A room f = go (find_variable m b.work.changes.variables) refl (A.vars m)
    where
      go : (u : Option Variable) → find_variable m b.work.changes.variables ≡ u → LiveAt kind b.work.tableau.symbols name m u
          → (elim u as (λ _. Building) [ none ↦ b | some v ↦ insert_variable v.symbol k b ]).work.mark ≡ all_whole → Put m q b (elim u [ none ↦ b | some v ↦ insert_variable v.symbol k b ]) r
      go none e l w = absurd (f e)
      go (some u) e l w = record {
        vec = plus r q (S.R u.symbol.id);
        name = name;
        stage = insert-stage n kind S name b.work b.row r A u.symbol l.1 K w;
        grew = grown;
        value = λ column a σ s. insert-term n S.R r q u.symbol.id σ (omega (arith, room, A.ids u.symbol.id l.1)) s
            ∙ ap (λ (j : ℕ). dot n r σ +ℤ q *ℤ σ j) (subst (λ (t : Option Variable). AgreesAt t (column m)) e (agrees_back column b.work.changes.variables (insert_variable u.symbol k b).work.changes.variables grown.vars a m));
      }
        where
          grown : Grew 0 b.work (insert_variable u.symbol k b).work
          grown = insert-grew n kind S name b.work b.row r A u.symbol k

  -- ---- a term: the variable is known, its use is counted, and its row or symbol is put in
  record Termed (t : Term) (b x : Building) (r : Vec) : Type 0 where
    vec : Vec
    name : ℕ → ℕ
    stage : Stage n kind S name x.work x.row vec
    grew : Grew 1 b.work x.work
    found : find_variable t.variable x.work.changes.variables ≢ none
    value : (column : ℕ → ℕ) → Agrees column x.work.changes.variables → (σ : Vec) → Solves n S.R σ → dot n vec σ ≡ dot n r σ +ℤ val t.coefficient *ℤ σ (column t.variable)

  use-row : (m : ℕ) (b : Building) (name : ℕ → ℕ) (r : Vec) → Stage n kind S name b.work b.row r → Stage n kind S name (count_use m b).work (count_use m b).row r
  unfolding count_use
  use-row m b name r A = use-stage n kind S name b.work b.row r A m

  module _ (t : Term) (K : Zb 1024 t.coefficient (val t.coefficient)) (b : Building) (name : ℕ → ℕ) (r : Vec) (A : Stage n kind S name b.work b.row r) (room : b.work.tableau.next_id + 1 ≤ n) where
    abbrev i : ℕ
    i = t.variable

    abbrev b₁ : Building
    b₁ = knowing i b

    abbrev b₂ : Building
    b₂ = count_use i b₁

    first : KnownAt i b b₁ r
    first = known i b name r A

    used-grew : Grew 0 b₁.work b₂.work
    used-grew = use-grew n kind S first.name b₁.work b₁.row r first.stage i

    grown : Grew 1 b.work b₂.work
    grown = grew_trans 1 0 b.work b₁.work b₂.work first.grew used-grew

    has : find_variable i b₂.work.changes.variables ≢ none
    has = stays-known b₁.work.changes.variables b₂.work.changes.variables used-grew.vars i first.found

    term : (insert_term t b).work.mark ≡ all_whole → Termed t b (insert_term t b) r
    term m = subst (λ (x : Building). Termed t b x r) (sym (term_is t b)) (record {
      vec = P.vec;
      name = P.name;
      stage = P.stage;
      grew = grew_trans 1 0 b.work b₂.work (putting i t.coefficient b₂).work grown P.grew;
      found = stays-known b₂.work.changes.variables (putting i t.coefficient b₂).work.changes.variables P.grew.vars i has;
      value = P.value;
    })
      where
        P : Put i (val t.coefficient) b₂ (putting i t.coefficient b₂) r
        P = put i K b₂ first.name r (use-row i b₁ first.name r first.stage) (omega (arith, room, grown.next)) has (sym (ap (λ (x : Building). x.work.mark) (term_is t b)) ∙ m)

  -- ---- all the terms
  sum-cons : (t : Term) (ts : List Term) (x : ℕ → ℤ) → sum_of (t ∷ ts) x ≡ val t.coefficient *ℤ x t.variable +ℤ sum_of ts x
  unfolding sum_of
  sum-cons t ts x = refl

  abbrev Sums : Float → List Term → Type 0
  Sums cut ts = (b : Building) (name : ℕ → ℕ) (r : Vec) → Stage n kind S name b.work b.row r → b.work.tableau.next_id + length ts ≤ n → (insert_terms cut ts b).work.mark ≡ all_whole → Summed ts b (insert_terms cut ts b) r

  one_more : (cut : Float) (t : Term) (ts : List Term) → Zb 1024 t.coefficient (val t.coefficient) → absent t.coefficient ≡ false → (b : Building) (name : ℕ → ℕ) (r : Vec) → Stage n kind S name b.work b.row r
      → b.work.tableau.next_id + length (t ∷ ts) ≤ n → Sums cut ts → (insert_terms cut ts (insert_term t b)).work.mark ≡ all_whole → Summed (t ∷ ts) b (insert_terms cut ts (insert_term t b)) r
  unfolding non_zero_terms
  one_more cut t ts K nz b name r A room ih m = record {
    name = U.name;
    vec = U.vec;
    stage = U.stage;
    grew = grew-more (1 + length ts) (length (t ∷ ts)) b.work (insert_terms cut ts (insert_term t b)).work (omega arith) (grew_trans 1 (length ts) b.work (insert_term t b).work (insert_terms cut ts (insert_term t b)).work P.grew U.grew);
    found = subst (All (λ (s : Term). find_variable s.variable (insert_terms cut ts (insert_term t b)).work.changes.variables ≢ none)) (sym kept)
        (stays-known (insert_term t b).work.changes.variables (insert_terms cut ts (insert_term t b)).work.changes.variables U.grew.vars t.variable P.found, U.found);
    value = λ column a σ s. U.value column a σ s
        ∙ ap (λ (z : ℤ). z +ℤ sum_of (non_zero_terms ts) (λ m. σ (column m))) (P.value column (agrees_back column (insert_term t b).work.changes.variables (insert_terms cut ts (insert_term t b)).work.changes.variables U.grew.vars a) σ s)
        ∙ ring (dot n r σ ∷ (val t.coefficient *ℤ σ (column t.variable)) ∷ sum_of (non_zero_terms ts) (λ m. σ (column m)) ∷ []) (ν 0 ⊞ ν 1 ⊞ ν 2) (ν 0 ⊞ (ν 1 ⊞ ν 2)) tt
        ∙ ap (λ (z : ℤ). dot n r σ +ℤ z) (sym (ap (λ (l : List Term). sum_of l (λ m. σ (column m))) kept ∙ sum-cons t (non_zero_terms ts) (λ m. σ (column m))));
  }
    where
      P : Termed t b (insert_term t b) r
      P = term t K b name r A (omega (arith, room)) (terms-mark cut ts (insert_term t b) m)

      U : Summed ts (insert_term t b) (insert_terms cut ts (insert_term t b)) P.vec
      U = ih (insert_term t b) P.name P.vec P.stage (omega (arith, room, P.grew.next)) m

      kept : non_zero_terms (t ∷ ts) ≡ t ∷ non_zero_terms ts
      kept = rw (nz, non_zero_terms)

  pub terms : (cut : Float) → cutoff_fits cut ≡ true → (ts : List Term) → All (λ (t : Term). Zb 1024 t.coefficient (val t.coefficient)) ts → Sums cut ts
  unfolding insert_terms
  terms cut fits [] K b name r A room m = record {
    name = name;
    vec = r;
    stage = A;
    grew = grew_refl b.work;
    found = unfold non_zero_terms in tt;
    value = λ column a σ s. ring (dot n r σ ∷ []) (ν 0) (ν 0 ⊞ lit 0ℤ) tt ∙ ap (λ (z : ℤ). dot n r σ +ℤ z) (sym (no-kept (λ m. σ (column m))));
  }
    where
      no-kept : (x : ℕ → ℤ) → sum_of (non_zero_terms []) x ≡ 0ℤ
      no-kept x = unfold non_zero_terms sum_of in refl
  terms cut fits (t ∷ ts) K b name r A room m = go (near_zero cut t.coefficient) refl (terms cut fits ts K.1) m
    where
      is_zero : near_zero cut t.coefficient ≡ absent t.coefficient
      is_zero = near_zero-absent cut fits K.0.isz

      skipped : near_zero cut t.coefficient ≡ true → non_zero_terms (t ∷ ts) ≡ non_zero_terms ts
      skipped e = unfold non_zero_terms in rw (sym is_zero ∙ e, non_zero_terms)

      go : (q : Bool) → near_zero cut t.coefficient ≡ q → Sums cut ts → (insert_terms cut ts (elim q [ true ↦ b | false ↦ insert_term t b ])).work.mark ≡ all_whole
          → Summed (t ∷ ts) b (insert_terms cut ts (elim q [ true ↦ b | false ↦ insert_term t b ])) r
      go true e ih w =
          let U = ih b name r A (omega (arith, room)) w in
          record {
            name = U.name;
            vec = U.vec;
            stage = U.stage;
            grew = grew-more (length ts) (length (t ∷ ts)) b.work (insert_terms cut ts b).work (omega arith) U.grew;
            found = subst (All (λ (s : Term). find_variable s.variable (insert_terms cut ts b).work.changes.variables ≢ none)) (sym (skipped e)) U.found;
            value = λ column a σ s. U.value column a σ s ∙ ap (λ (l : List Term). dot n r σ +ℤ sum_of l (λ m. σ (column m))) (sym (skipped e));
          }
      go false e ih w = one_more cut t ts K.0 (sym is_zero ∙ e) b name r A room ih w
