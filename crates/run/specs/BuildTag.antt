-- Add's step 2 in a whole run: the tag's symbols are new, stand in the row with 1 or -1, and the errors stand in the objective with the strength. Assumes nothing.
use Rattle.std.specs.Prelude.{ℕ, ◌^◌, ◌≤◌, ◌<◌, ◌≡◌, ◌≢◌, [], ◌∷◌, true, false, ℤ, nat_abs, ◌+ℤ◌, ◌*ℤ◌, Float}
use Rattle.std.proofs.Common.{arith, sym, ◌∙◌}
use Rattle.std.proofs.Math.Path.{refl, ap, ap₂}
use Rattle.std.proofs.Math.Option.{some}
use Rattle.std.proofs.Math.Bool.{true≢false}
use Rattle.laws.specs.Ring.{ring, v as ν, k as lit, ◌⊞◌, ◌⊠◌}
use Rattle.laws.specs.exact.Whole.{IsZ}
use Rattle.simplex.specs.Ord.{0ℤ, 1ℤ}
use Rattle.simplex.specs.Lin.{Vec, δ, δ-same, δ-other, dot, plus, dot-plus, dot-δ}
use Rattle.simplex.specs.At.{at}
use Rattle.simplex.specs.Basis.{Clear}
use Rattle.simplex.specs.Opt.{Kind as KindZ, external, slack, slack≢external}
use Rattle.simplex.specs.Pass.{State as StateZ, Good}
use Rattle.simplex.specs.Form.{Form, soft, resid, cost}
use Rattle.steps.specs.Number.{all_whole}
use Rattle.steps.specs.Symbol.{Kind, Symbol}
use Rattle.steps.specs.Row.{Row, insert_symbol_in_row}
use Rattle.steps.specs.Work.{Work, with_tableau, with_objective, marking, new_symbol, append_symbol}
use Rattle.steps.specs.CreateRow.{Building, Created, written, append_to, insert_into, add_symbol, insert_in_objective}
use Rattle.simplex.specs.bridge.Nums.{worse-l}
use Rattle.simplex.specs.bridge.Rows.{In}
use Rattle.simplex.proofs.bridge.Rows.{insert_symbol_in_row-z}
use Rattle.simplex.specs.bridge.Table.{kind_of}
use Rattle.simplex.proofs.bridge.Enter.{append-new, append-in}
use Rattle.simplex.specs.bridge.Columns.{objective-z}
use Rattle.run.specs.Inv.{other_id, Shaped}
use Rattle.run.specs.Build.{NewTag}
use Rattle.run.specs.BuildVars.{stays-refl}
use Rattle.run.specs.BuildTerms.{Stage, Grew, next≢0, next-new, next-dead, appended, written-stage, written-marks}

-- ---- one symbol more, in the row with q
module _ (n : ℕ) (kind : ℕ → KindZ) (S : StateZ) (name : ℕ → ℕ) (b : Building) (r : Vec) (A : Stage n kind S name b.work b.row r) (κ : Kind) where
  abbrev t : ℕ
  t = b.work.tableau.next_id

  abbrev s : Symbol
  s = record { id = b.work.tableau.next_id; kind = κ }

  pub symbol-stage : {k : Float} {q : ℤ} → IsZ k q → nat_abs q ≤ 1024 → (add_symbol (new_symbol κ b.work) k b).work.mark ≡ all_whole
      → Stage n (at t (kind_of κ) kind) S (at t 0 name) (add_symbol (new_symbol κ b.work) k b).work (add_symbol (new_symbol κ b.work) k b).row (plus r q (δ t))
  unfolding add_symbol insert_into new_symbol append_to append_symbol with_tableau
  symbol-stage {k} {q} K l m =
      let N = appended n kind S name b.work b.row r A κ 0 in
      let w : Work = (append_to s b).work in
      let row : Row = (append_to s b).row in
      written-stage n (at t (kind_of κ) kind) S (at t 0 name) w row r N (insert_symbol_in_row w.tableau.cutoff t k w.tableau.symbols row) (plus r q (δ t))
      (written-marks n (at t (kind_of κ) kind) S (at t 0 name) w row r N (insert_symbol_in_row w.tableau.cutoff t k w.tableau.symbols row) m).1
      (insert_symbol_in_row-z w.tableau.cutoff N.reads.cutoff t w.tableau.symbols row r (next≢0 n kind S name b.work b.row r A) (append-new b.work.tableau.symbols s) K l N.line) clear
    where
      clear : Clear S.B (plus r q (δ t))
      clear j h = ap₂ (λ (x y : ℤ). x +ℤ q *ℤ y) (A.clear j h) (δ-other away) ∙ ring (q ∷ []) (lit 0ℤ ⊞ ν 0 ⊠ lit 0ℤ) (lit 0ℤ) tt
        where
          away : t ≢ j
          away e = true≢false (sym h ∙ ap S.B (sym e) ∙ (next-dead n kind S name b.work b.row r A).free)

  pub symbol-grew : (k : Float) → Grew 1 b.work (add_symbol (new_symbol κ b.work) k b).work
  unfolding add_symbol insert_into new_symbol append_to append_symbol with_tableau written marking
  symbol-grew k = record { vars = stays-refl b.work.changes.variables; next = omega arith; pivots = refl }

  pub symbol-in : (k : Float) → In t (add_symbol (new_symbol κ b.work) k b).work.tableau.symbols
  unfolding add_symbol insert_into new_symbol append_to append_symbol with_tableau written marking
  symbol-in k = append-new b.work.tableau.symbols s

  pub symbol-more : (k : Float) (j : ℕ) → In j b.work.tableau.symbols → In j (add_symbol (new_symbol κ b.work) k b).work.tableau.symbols
  unfolding add_symbol insert_into new_symbol append_to append_symbol with_tableau written marking
  symbol-more k j m = append-in j b.work.tableau.symbols s m

  -- its own cell is q, any other is as before
  pub own-cell : (q : ℤ) → plus r q (δ t) t ≡ q
  own-cell q =
      ap₂ (λ (x y : ℤ). x +ℤ q *ℤ y) (A.line.outside t (next≢0 n kind S name b.work b.row r A) (next-new n kind S name b.work b.row r A)) (δ-same t)
      ∙ ring (q ∷ []) (lit 0ℤ ⊞ ν 0 ⊠ lit 1ℤ) (ν 0) tt

  pub other-cell : (q : ℤ) (j : ℕ) → t ≢ j → plus r q (δ t) j ≡ r j
  other-cell q j e = ap (λ (y : ℤ). r j +ℤ q *ℤ y) (δ-other e) ∙ ring (r j ∷ q ∷ []) (ν 0 ⊞ ν 1 ⊠ lit 0ℤ) (ν 0) tt

  pub symbol-dot : t < n → (q : ℤ) (σ : Vec) → dot n (plus r q (δ t)) σ ≡ dot n r σ +ℤ q *ℤ σ t
  symbol-dot l q σ = dot-plus n r q (δ t) σ ∙ ap (λ (z : ℤ). dot n r σ +ℤ q *ℤ z) (dot-δ n t σ l)

-- ---- an error in the objective
abbrev pub priced : StateZ → ℤ → ℕ → StateZ
priced S q s = record { B = S.B; R = S.R; o = plus S.o q (δ s) }

module _ (n : ℕ) (kind : ℕ → KindZ) (S : StateZ) (name : ℕ → ℕ) (w : Work) (row : Row) (r : Vec) (A : Stage n kind S name w row r) (s : ℕ) (i : In s w.tableau.symbols) (free : S.B s ≡ false) (sl : kind s ≡ slack) where
  priced-good : (q : ℤ) → Good n kind (priced S q s)
  priced-good q = record {
    zero = A.good.zero;
    consts = A.good.consts;
    shape = A.good.shape;
    clear = λ j h. same j (λ e. true≢false (sym h ∙ ap S.B (sym e) ∙ free)) ∙ A.good.clear j h;
    feasible = A.good.feasible;
    no-var = λ j e. same j (λ p. slack≢external (sym sl ∙ ap kind p ∙ e)) ∙ A.good.no-var j e;
    no-vars = A.good.no-vars;
    dummies = A.good.dummies;
    still-dummies = A.good.still-dummies;
  }
    where
      same : (j : ℕ) → s ≢ j → S.o j +ℤ q *ℤ δ s j ≡ S.o j
      same j e = ap (λ (y : ℤ). S.o j +ℤ q *ℤ y) (δ-other e) ∙ ring (S.o j ∷ q ∷ []) (ν 0 ⊞ ν 1 ⊠ lit 0ℤ) (ν 0) tt

  pub priced-stage : {k : Float} {q : ℤ} → IsZ k q → nat_abs q ≤ 2 ^ 40 → (insert_in_objective s k w).mark ≡ all_whole → Stage n kind (priced S q s) name (insert_in_objective s k w) row r
  unfolding insert_in_objective marking with_objective with_tableau
  priced-stage {k} {q} K l m = record {
    reads = (objective-z kind w S.B S.R S.o (λ _. 0ℤ) A.reads s i K l m).1;
    good = priced-good q;
    line = A.line;
    clear = A.clear;
    artificial = A.artificial;
    first = A.first;
    ids = A.ids;
    vars = A.vars;
  }

pub priced-mark : (s : ℕ) (k : Float) (w : Work) → (insert_in_objective s k w).mark ≡ all_whole → w.mark ≡ all_whole
unfolding insert_in_objective marking with_objective with_tableau
priced-mark s k w m = worse-l w.mark _ m

pub priced-grew : (s : ℕ) (k : Float) (w : Work) → Grew 0 w (insert_in_objective s k w)
unfolding insert_in_objective marking with_objective with_tableau
priced-grew s k w = record { vars = stays-refl w.changes.variables; next = omega arith; pivots = refl }

pub priced-symbols : (s : ℕ) (k : Float) (w : Work) → (insert_in_objective s k w).tableau.symbols ≡ w.tableau.symbols
unfolding insert_in_objective marking with_objective with_tableau
priced-symbols s k w = refl

-- ---- the tag
pub record Tagged (n : ℕ) (f : Form) (weight : ℤ) (kind : ℕ → KindZ) (S : StateZ) (w : Work) (r : Vec) (c : Created) : Type 0 where
  pub kinds : ℕ → KindZ
  pub name : ℕ → ℕ
  pub o : Vec
  pub vec : Vec
  pub stage : Stage n kinds (record { B = S.B; R = S.R; o = o }) name c.work c.row vec
  pub grew : Grew 2 w c.work
  pub older : (j : ℕ) → kind j ≢ external → kinds j ≡ kind j
  pub shaped : Shaped f c.tag
  pub marker : NewTag n kind kinds S c.work vec c.tag.marker
  pub other : (s : Symbol) → c.tag.other ≡ some s → NewTag n kind kinds S c.work vec s
  pub two : soft f ≡ true → other_id c.tag.other ≢ c.tag.marker.id
  pub row : (σ : Vec) → dot n vec σ ≡ resid f (dot n r σ) (σ c.tag.marker.id) (σ (other_id c.tag.other))
  pub worth : (σ : Vec) → dot n o σ ≡ weight *ℤ cost f (σ c.tag.marker.id) (σ (other_id c.tag.other)) +ℤ dot n S.o σ
