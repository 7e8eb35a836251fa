-- A removal's first step: the demand's strength is out of the objective, which is then worth what the other demands are. Assumes nothing.
use Rattle.std.specs.Prelude.{◌≡◌, refl, ◌⊎◌, List, [], ◌∷◌, ℕ, ◌^◌, ◌<◌, Bool, true, false, ℤ, neg_ℤ, ◌+ℤ◌, ◌*ℤ◌, Float}
use Rattle.std.proofs.Common.{sym, ap₂, ◌∙◌, inl, inr, arith, true≢false, lit≤}
use Rattle.std.proofs.Math.Path.{ap, subst}
use Rattle.std.proofs.Math.Option.{Option, none, some}
use Rattle.std.specs.Float.Ieee.{neg}
use Rattle.laws.specs.exact.Whole.{Zb, neg-b}
use Rattle.laws.specs.Ring.{ring, v, k as κ, ◌⊞◌, ◌⊠◌, ⊟◌}
use Rattle.simplex.specs.Ord.{0ℤ}
use Rattle.simplex.specs.Lin.{Vec, δ, dot, plus}
use Rattle.simplex.specs.Basis.{Mask}
use Rattle.simplex.specs.Opt.{Kind as KindZ}
use Rattle.simplex.specs.Form.{Form, le!, eq!, ge!, le, eq, ge, soft, cost}
use Rattle.simplex.specs.Problem.{Con, total, Sound, Models}
use Rattle.simplex.specs.Tab.{Solves}
use Rattle.simplex.specs.Change.{insert-term}
use Rattle.simplex.specs.Pass.{Good}
use Rattle.simplex.specs.Gone.{Halfway, tag-kind, not-variable}
use Rattle.steps.specs.Number.{objective_bound, all_whole}
use Rattle.steps.specs.Symbol.{Kind, External, Slack, Error, Dummy, Symbol, is_error}
use Rattle.steps.specs.Row.{Row, Cell, cell_values, cell_marks, insert_symbol, insert_cells}
use Rattle.steps.specs.State.{Tag}
use Rattle.steps.specs.Work.{Work, marking, with_objective, with_tableau, find_row}
use Rattle.steps.specs.CreateRow.{insert_in_objective}
use Rattle.steps.specs.Remove.{insert_row_in_objective, remove_marker_effects, remove_constraint_effects}
use Rattle.simplex.specs.bridge.Nums.{worse-l, worse-r, objective_bound-z}
use Rattle.simplex.specs.bridge.Rows.{In, ReadsRow, reads-to, written, insert_cells-z}
use Rattle.simplex.specs.bridge.Table.{RowAt, ReadsWork}
use Rattle.simplex.specs.bridge.Columns.{objective-z}
use Rattle.run.specs.Inv.{other_id, Shaped}
use Rattle.run.specs.Steady.{Kept, kept_refl, kept_trans}
use Rattle.run.specs.RemoveFrame.{kept-marking, kept-objective}

-- ---- in numbers: q is the strength, the rows are the marker's and the other's
abbrev pub less : Form → ℤ → Vec → Vec → Vec → Vec
less le! q m t o = o
less eq! q m t o = o
less ge! q m t o = o
less le q m t o = plus o (neg_ℤ q) t
less eq q m t o = plus (plus o (neg_ℤ q) m) (neg_ℤ q) t
less ge q m t o = plus o (neg_ℤ q) t

-- a cell that is 0 in the objective and in both rows stays 0
less-0 : (f : Form) (q : ℤ) (m t o : Vec) (i : ℕ) → o i ≡ 0ℤ → m i ≡ 0ℤ → (soft f ≡ true → t i ≡ 0ℤ) → less f q m t o i ≡ 0ℤ
less-0 le! q m t o i a b c = a
less-0 eq! q m t o i a b c = a
less-0 ge! q m t o i a b c = a
less-0 le q m t o i a b c = ap₂ (λ (x y : ℤ). x +ℤ neg_ℤ q *ℤ y) a (c refl) ∙ ring (q ∷ []) (κ 0ℤ ⊞ (⊟ v 0) ⊠ κ 0ℤ) (κ 0ℤ) tt
less-0 eq q m t o i a b c =
    ap₂ (λ (x y : ℤ). x +ℤ neg_ℤ q *ℤ y) (ap₂ (λ (x y : ℤ). x +ℤ neg_ℤ q *ℤ y) a b) (c refl)
    ∙ ring (q ∷ []) ((κ 0ℤ ⊞ (⊟ v 0) ⊠ κ 0ℤ) ⊞ (⊟ v 0) ⊠ κ 0ℤ) (κ 0ℤ) tt
less-0 ge q m t o i a b c = ap₂ (λ (x y : ℤ). x +ℤ neg_ℤ q *ℤ y) a (c refl) ∙ ring (q ∷ []) (κ 0ℤ ⊞ (⊟ v 0) ⊠ κ 0ℤ) (κ 0ℤ) tt

-- on every solution it is less by the demand's cost
less-dot : (n : ℕ) (R : ℕ → Vec) (f : Form) (q : ℤ) (m t : ℕ) (o σ : Vec) → m < n → (soft f ≡ true → t < n) → Solves n R σ
    → dot n (less f q (R m) (R t) o) σ ≡ dot n o σ +ℤ neg_ℤ q *ℤ cost f (σ m) (σ t)
less-dot n R le! q m t o σ hm ht s = ring (dot n o σ ∷ q ∷ []) (v 0) (v 0 ⊞ (⊟ v 1) ⊠ κ 0ℤ) tt
less-dot n R eq! q m t o σ hm ht s = ring (dot n o σ ∷ q ∷ []) (v 0) (v 0 ⊞ (⊟ v 1) ⊠ κ 0ℤ) tt
less-dot n R ge! q m t o σ hm ht s = ring (dot n o σ ∷ q ∷ []) (v 0) (v 0 ⊞ (⊟ v 1) ⊠ κ 0ℤ) tt
less-dot n R le q m t o σ hm ht s = insert-term n R o (neg_ℤ q) t σ (ht refl) s
less-dot n R eq q m t o σ hm ht s =
    insert-term n R (plus o (neg_ℤ q) (R m)) (neg_ℤ q) t σ (ht refl) s ∙ ap (λ (z : ℤ). z +ℤ neg_ℤ q *ℤ σ t) (insert-term n R o (neg_ℤ q) m σ hm s)
    ∙ ring (dot n o σ ∷ q ∷ σ m ∷ σ t ∷ []) (v 0 ⊞ (⊟ v 1) ⊠ v 2 ⊞ (⊟ v 1) ⊠ v 3) (v 0 ⊞ (⊟ v 1) ⊠ (v 2 ⊞ v 3)) tt
less-dot n R ge q m t o σ hm ht s = insert-term n R o (neg_ℤ q) t σ (ht refl) s

module _ (n : ℕ) (kind : ℕ → KindZ) (B : Mask) (R : ℕ → Vec) (o : Vec) (c : Con) (cs : List Con) where
  abbrev pub freed : Vec
  freed = less c.form c.weight (R c.marker) (R c.other) o

  pub effects-half : Models n kind B R o (c ∷ cs) → Halfway n kind B R freed c cs
  effects-half D = record {
    shape = D.shape;
    clear = λ b u. less-0 c.form c.weight (R c.marker) (R c.other) o b (D.clear b u) (D.shape.gone b u c.marker) (λ _. D.shape.gone b u c.other);
    sounds = D.sounds;
    solves = D.solves;
    worth = λ σ s.
        less-dot n R c.form c.weight c.marker c.other o σ D.sounds.0.marker-in D.sounds.0.other-in s
        ∙ ap (λ (z : ℤ). z +ℤ neg_ℤ c.weight *ℤ cost c.form (σ c.marker) (σ c.other)) (D.worth σ s)
        ∙ ring (c.weight ∷ cost c.form (σ c.marker) (σ c.other) ∷ total cs σ ∷ []) (v 0 ⊠ v 1 ⊞ v 2 ⊞ (⊟ v 0) ⊠ v 1) (v 2) tt;
  }

  pub effects-good : Sound n kind c → Good n kind (record { B = B; R = R; o = o }) → Good n kind (record { B = B; R = R; o = freed })
  effects-good S G = record {
    zero = G.zero;
    consts = G.consts;
    shape = G.shape;
    clear = λ b u. less-0 c.form c.weight (R c.marker) (R c.other) o b (G.clear b u) (G.shape.gone b u c.marker) (λ _. G.shape.gone b u c.other);
    feasible = G.feasible;
    no-var = λ i x. less-0 c.form c.weight (R c.marker) (R c.other) o i (G.no-var i x) (G.no-vars c.marker i (not-variable kind c.marker (tag-kind n kind c S c.marker (inl refl))) x)
        (λ b. G.no-vars c.other i (not-variable kind c.other (tag-kind n kind c S c.other (inr (b, refl)))) x);
    no-vars = G.no-vars;
    dummies = G.dummies;
    still-dummies = G.still-dummies;
  }

-- ---- the steps
pub record Freed (kind : ℕ → KindZ) (B : Mask) (R : ℕ → Vec) (o a : Vec) (w x : Work) : Type 0 where
  pub mark : w.mark ≡ all_whole
  pub reads : ReadsWork kind x B R o a

insert-z : (kind : ℕ → KindZ) (w : Work) (B : Mask) (R : ℕ → Vec) (o a : Vec) → ReadsWork kind w B R o a → (r : Row) (f : Vec) → ReadsRow w.tableau.symbols r f → {k : Float} {q : ℤ} → Zb (2 ^ 30) k q
    → (insert_row_in_objective r k w).mark ≡ all_whole → Freed kind B R (plus o q f) a w (insert_row_in_objective r k w)
unfolding insert_row_in_objective marking with_objective with_tableau
insert-z kind w B R o a H r f h {k} {q} K m = record {
  mark = worse-l w.mark (cell_marks objective_bound (insert_cells w.tableau.cutoff k r.cells w.tableau.objective)) m;
  reads = record {
    up = H.up;
    kinds = H.kinds;
    unknown = H.unknown;
    rows-up = H.rows-up;
    rows-live = H.rows-live;
    rows = H.rows;
    objective = written (2 ^ 40) objective_bound objective_bound-z w.tableau.symbols (insert_cells w.tableau.cutoff k r.cells w.tableau.objective) (plus o q f)
        (insert_cells-z w.tableau.cutoff H.cutoff (2 ^ 40) 1024 (2 ^ 30) K (lit≤ tt) w.tableau.symbols r.cells w.tableau.objective f o h.cells H.objective)
        (worse-r w.mark (cell_marks objective_bound (insert_cells w.tableau.cutoff k r.cells w.tableau.objective)) m);
    beyond = λ j n x. ap₂ (λ (y z : ℤ). y +ℤ q *ℤ z) (H.beyond j n x) (h.outside j n x) ∙ ring (q ∷ []) (κ 0ℤ ⊞ v 0 ⊠ κ 0ℤ) (κ 0ℤ) tt;
    cutoff = H.cutoff;
    artificial = H.artificial;
  };
}

objective-to : (kind : ℕ → KindZ) (w : Work) (B : Mask) (R : ℕ → Vec) (o p a : Vec) → ((j : ℕ) → o j ≡ p j) → ReadsWork kind w B R o a → ReadsWork kind w B R p a
objective-to kind w B R o p a e H = record {
  up = H.up;
  kinds = H.kinds;
  unknown = H.unknown;
  rows-up = H.rows-up;
  rows-live = H.rows-live;
  rows = H.rows;
  objective = reads-to (2 ^ 40) w.tableau.symbols w.tableau.objective o p (λ x _. e x.id) H.objective;
  beyond = λ j n x. sym (e j) ∙ H.beyond j n x;
  cutoff = H.cutoff;
  artificial = H.artificial;
}

is-error : (s : Symbol) → s.kind ≡ Error → is_error s ≡ true
unfolding is_error
is-error s e = ap (λ (t : Kind). elim t as (λ x. Bool) [ External ↦ false | Slack ↦ false | Error ↦ true | Dummy ↦ false ]) e

no-error : (s : Symbol) (t : Kind) → s.kind ≡ t → (t ≡ Slack) ⊎ (t ≡ Dummy) → is_error s ≡ false
unfolding is_error
no-error s t e (inl p) = ap (λ (t : Kind). elim t as (λ x. Bool) [ External ↦ false | Slack ↦ false | Error ↦ true | Dummy ↦ false ]) (e ∙ p)
no-error s t e (inr p) = ap (λ (t : Kind). elim t as (λ x. Bool) [ External ↦ false | Slack ↦ false | Error ↦ true | Dummy ↦ false ]) (e ∙ p)

-- any other symbol is not in the objective with a strength
skip-z : (s : Symbol) (k : Float) (w : Work) → is_error s ≡ false → remove_marker_effects s k w ≡ w
unfolding remove_marker_effects
skip-z s k w e =
    ap (λ (t : Bool). elim t as (λ x. Work) [ false ↦ w | true ↦ elim (find_row s.id w.tableau.rows) as (λ x. Work) [ none ↦ insert_in_objective s.id (neg k) w | some r ↦ insert_row_in_objective r (neg k) w ] ]) e

-- an error's strength goes
error-z : (kind : ℕ → KindZ) (w : Work) (B : Mask) (R : ℕ → Vec) (o a : Vec) → ReadsWork kind w B R o a → ((j : ℕ) → B j ≡ false → (i : ℕ) → R j i ≡ δ j i)
    → (s : Symbol) → s.kind ≡ Error → In s.id w.tableau.symbols → {k : Float} {q : ℤ} → Zb (2 ^ 30) k q
    → (remove_marker_effects s k w).mark ≡ all_whole → Freed kind B R (plus o (neg_ℤ q) (R s.id)) a w (remove_marker_effects s k w)
unfolding remove_marker_effects
error-z kind w B R o a H unit s e i {k} {q} K = go (is_error s) (is-error s e)
  where
    by : (t : Option Row) → RowAt w.tableau.symbols t (B s.id) (R s.id)
        → (elim t as (λ x. Work) [ none ↦ insert_in_objective s.id (neg k) w | some r ↦ insert_row_in_objective r (neg k) w ]).mark ≡ all_whole
        → Freed kind B R (plus o (neg_ℤ q) (R s.id)) a w (elim t as (λ x. Work) [ none ↦ insert_in_objective s.id (neg k) w | some r ↦ insert_row_in_objective r (neg k) w ])
    by none h = λ m.
        let t = objective-z kind w B R o a H s.id i (neg-b K).isz (omega (arith, (neg-b K).small)) m in record {
          mark = t.0;
          reads = objective-to kind (insert_in_objective s.id (neg k) w) B R (plus o (neg_ℤ q) (δ s.id)) (plus o (neg_ℤ q) (R s.id)) a (λ j. ap (λ (z : ℤ). o j +ℤ neg_ℤ q *ℤ z) (sym (unit s.id h j))) t.1;
        }
    by (some r) h = λ m. insert-z kind w B R o a H r (R s.id) h.1 (neg-b K) m

    go : (b : Bool) → b ≡ true
        → (elim b as (λ x. Work) [ false ↦ w | true ↦ elim (find_row s.id w.tableau.rows) as (λ x. Work) [ none ↦ insert_in_objective s.id (neg k) w | some r ↦ insert_row_in_objective r (neg k) w ] ]).mark ≡ all_whole
        → Freed kind B R (plus o (neg_ℤ q) (R s.id)) a w
        (elim b as (λ x. Work) [ false ↦ w | true ↦ elim (find_row s.id w.tableau.rows) as (λ x. Work) [ none ↦ insert_in_objective s.id (neg k) w | some r ↦ insert_row_in_objective r (neg k) w ] ])
    go true p = by (find_row s.id w.tableau.rows) (H.rows s.id)
    go false p = absurd (true≢false (sym p))

-- ---- the tag's two symbols
one_symbol : (tag : Tag) (k : Float) (w : Work) → tag.other ≡ none → remove_constraint_effects tag k w ≡ remove_marker_effects tag.marker k w
unfolding remove_constraint_effects
one_symbol tag k w e =
    ap (λ (t : Option Symbol). elim t as (λ x. Work) [ none ↦ remove_marker_effects tag.marker k w | some o ↦ remove_marker_effects o k (remove_marker_effects tag.marker k w) ]) e

two-symbols : (tag : Tag) (k : Float) (w : Work) (o : Symbol) → tag.other ≡ some o → remove_constraint_effects tag k w ≡ remove_marker_effects o k (remove_marker_effects tag.marker k w)
unfolding remove_constraint_effects
two-symbols tag k w o e =
    ap (λ (t : Option Symbol). elim t as (λ x. Work) [ none ↦ remove_marker_effects tag.marker k w | some o ↦ remove_marker_effects o k (remove_marker_effects tag.marker k w) ]) e

symbols-same : (s : Symbol) (k : Float) (w : Work) → Kept w (remove_marker_effects s k w)
unfolding remove_marker_effects insert_in_objective insert_row_in_objective
symbols-same s k w = go (is_error s)
  where
    cells : (cs : List Cell) → Kept w (marking (cell_marks objective_bound cs) (with_objective (cell_values cs) w))
    cells cs = kept_trans w (with_objective (cell_values cs) w) (marking (cell_marks objective_bound cs) (with_objective (cell_values cs) w)) (kept-objective (cell_values cs) w) (kept-marking (cell_marks objective_bound cs) (with_objective (cell_values cs) w))

    by : (t : Option Row) → Kept w (elim t as (λ x. Work) [ none ↦ insert_in_objective s.id (neg k) w | some r ↦ insert_row_in_objective r (neg k) w ])
    by none = cells (insert_symbol w.tableau.cutoff s.id (neg k) w.tableau.symbols w.tableau.objective)
    by (some r) = cells (insert_cells w.tableau.cutoff (neg k) r.cells w.tableau.objective)

    go : (b : Bool) → Kept w (elim b as (λ x. Work) [ false ↦ w | true ↦ elim (find_row s.id w.tableau.rows) as (λ x. Work) [ none ↦ insert_in_objective s.id (neg k) w | some r ↦ insert_row_in_objective r (neg k) w ] ])
    go true = by (find_row s.id w.tableau.rows)
    go false = kept_refl w

marks-same : (s : Symbol) (k : Float) (w : Work) → (remove_marker_effects s k w).mark ≡ all_whole → w.mark ≡ all_whole
unfolding remove_marker_effects insert_in_objective insert_row_in_objective marking with_objective with_tableau
marks-same s k w = go (is_error s)
  where
    by : (t : Option Row) → (elim t as (λ x. Work) [ none ↦ insert_in_objective s.id (neg k) w | some r ↦ insert_row_in_objective r (neg k) w ]).mark ≡ all_whole → w.mark ≡ all_whole
    by none = λ m. worse-l w.mark (cell_marks objective_bound (insert_symbol w.tableau.cutoff s.id (neg k) w.tableau.symbols w.tableau.objective)) m
    by (some r) = λ m. worse-l w.mark (cell_marks objective_bound (insert_cells w.tableau.cutoff (neg k) r.cells w.tableau.objective)) m

    go : (b : Bool) → (elim b as (λ x. Work) [ false ↦ w | true ↦ elim (find_row s.id w.tableau.rows) as (λ x. Work) [ none ↦ insert_in_objective s.id (neg k) w | some r ↦ insert_row_in_objective r (neg k) w ] ]).mark ≡ all_whole → w.mark ≡ all_whole
    go true = by (find_row s.id w.tableau.rows)
    go false = λ m. m

pub kept-effects : (tag : Tag) (k : Float) (w : Work) → Kept w (remove_constraint_effects tag k w)
kept-effects tag k w = go tag.other refl
  where
    go : (t : Option Symbol) → tag.other ≡ t → Kept w (remove_constraint_effects tag k w)
    go none e = subst (Kept w) (sym (one_symbol tag k w e)) (symbols-same tag.marker k w)
    go (some o) e = subst (Kept w) (sym (two-symbols tag k w o e)) (kept_trans w (remove_marker_effects tag.marker k w) (remove_marker_effects o k (remove_marker_effects tag.marker k w)) (symbols-same tag.marker k w) (symbols-same o k (remove_marker_effects tag.marker k w)))

module _ (kind : ℕ → KindZ) (w : Work) (B : Mask) (R : ℕ → Vec) (o a : Vec) (H : ReadsWork kind w B R o a) (unit : (j : ℕ) → B j ≡ false → (i : ℕ) → R j i ≡ δ j i)
    (tag : Tag) (k : Float) (q : ℤ) (marker-in : In tag.marker.id w.tableau.symbols) (other-in : (s : Symbol) → tag.other ≡ some s → In s.id w.tableau.symbols) where
  untouched : (x : Work) → x ≡ w → x.mark ≡ all_whole → Freed kind B R o a w x
  untouched x e = subst (λ (y : Work). y.mark ≡ all_whole → Freed kind B R o a w y) (sym e) (λ m. record { mark = m; reads = H })

  -- the marker is no error: the other alone is
  of_other : is_error tag.marker ≡ false → (s : Symbol) → tag.other ≡ some s → s.kind ≡ Error → Zb (2 ^ 30) k q
      → (remove_constraint_effects tag k w).mark ≡ all_whole → Freed kind B R (plus o (neg_ℤ q) (R (other_id tag.other))) a w (remove_constraint_effects tag k w)
  unfolding other_id
  of_other n s e x K =
      let p : remove_constraint_effects tag k w ≡ remove_marker_effects s k w = two-symbols tag k w s e ∙ ap (remove_marker_effects s k) (skip-z tag.marker k w n) in
      subst (λ (t : Option Symbol). (remove_constraint_effects tag k w).mark ≡ all_whole → Freed kind B R (plus o (neg_ℤ q) (R (other_id t))) a w (remove_constraint_effects tag k w)) (sym e)
      (subst (λ (y : Work). y.mark ≡ all_whole → Freed kind B R (plus o (neg_ℤ q) (R s.id)) a w y) (sym p) (error-z kind w B R o a H unit s x (other-in s e) K))

  of-both : tag.marker.kind ≡ Error → (s : Symbol) → tag.other ≡ some s → s.kind ≡ Error → Zb (2 ^ 30) k q
      → (remove_constraint_effects tag k w).mark ≡ all_whole → Freed kind B R (plus (plus o (neg_ℤ q) (R tag.marker.id)) (neg_ℤ q) (R (other_id tag.other))) a w (remove_constraint_effects tag k w)
  unfolding other_id
  of-both n s e x K =
      subst (λ (t : Option Symbol). (remove_constraint_effects tag k w).mark ≡ all_whole → Freed kind B R (plus (plus o (neg_ℤ q) (R tag.marker.id)) (neg_ℤ q) (R (other_id t))) a w (remove_constraint_effects tag k w)) (sym e)
      (subst (λ (y : Work). y.mark ≡ all_whole → Freed kind B R (plus (plus o (neg_ℤ q) (R tag.marker.id)) (neg_ℤ q) (R s.id)) a w y) (sym (two-symbols tag k w s e)) both)
    where
      first : Work
      first = remove_marker_effects tag.marker k w

      both : (remove_marker_effects s k (remove_marker_effects tag.marker k w)).mark ≡ all_whole
          → Freed kind B R (plus (plus o (neg_ℤ q) (R tag.marker.id)) (neg_ℤ q) (R s.id)) a w (remove_marker_effects s k (remove_marker_effects tag.marker k w))
      both m =
          let one = error-z kind w B R o a H unit tag.marker n marker-in K (marks-same s k first m) in
          let two = error-z kind first B R (plus o (neg_ℤ q) (R tag.marker.id)) a one.reads unit s x (subst (In s.id) (sym (symbols-same tag.marker k w).symbols) (other-in s e)) K m in
          record { mark = one.mark; reads = two.reads }

  pub effects-z : (f : Form) → Shaped f tag → (soft f ≡ true → Zb (2 ^ 30) k q) → (remove_constraint_effects tag k w).mark ≡ all_whole
      → Freed kind B R (less f q (R tag.marker.id) (R (other_id tag.other)) o) a w (remove_constraint_effects tag k w)
  effects-z le! h K = untouched (remove_constraint_effects tag k w) (one_symbol tag k w h.1 ∙ skip-z tag.marker k w (no-error tag.marker Slack h.0 (inl refl)))
  effects-z eq! h K = untouched (remove_constraint_effects tag k w) (one_symbol tag k w h.1 ∙ skip-z tag.marker k w (no-error tag.marker Dummy h.0 (inr refl)))
  effects-z ge! h K = untouched (remove_constraint_effects tag k w) (one_symbol tag k w h.1 ∙ skip-z tag.marker k w (no-error tag.marker Slack h.0 (inl refl)))
  effects-z le h K = of_other (no-error tag.marker Slack h.0 (inl refl)) h.1.0 h.1.1 h.1.2 (K refl)
  effects-z eq h K = of-both h.0 h.1.0 h.1.1 h.1.2 (K refl)
  effects-z ge h K = of_other (no-error tag.marker Slack h.0 (inl refl)) h.1.0 h.1.1 h.1.2 (K refl)
