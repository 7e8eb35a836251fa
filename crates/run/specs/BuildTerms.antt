-- Add's step 1 in a whole run: the terms inserted one by one give a row that, on every solution of the tableau, is worth the constant and the sum of the terms. Assumes nothing.
use Rattle.std.specs.Prelude.{ℕ, suc, ◌+◌, ◌≤◌, ◌<◌, ◌⊎◌, ◌≢◌, List, [], ◌∷◌, ◌++◌, Bool, true, false, ℤ, ◌+ℤ◌, ◌*ℤ◌, Float}
use Rattle.std.proofs.Common.{arith, sym, ap, ap₂, ◌∙◌, inl, inr, true≢false}
use Rattle.std.proofs.Math.Path.{◌≡◌, refl, subst}
use Rattle.std.proofs.Math.Option.{Option, none, some}
use Rattle.std.specs.Float.{nan}
use Rattle.laws.specs.Ring.{ring, v as ν, k as lit, ◌⊞◌, ◌⊠◌}
use Rattle.laws.specs.exact.Whole.{Zb}
use Rattle.simplex.specs.Ord.{0ℤ}
use Rattle.simplex.specs.Lin.{Vec, δ-other, plus}
use Rattle.simplex.specs.At.{at, At, here, there, at?, at_here, at_there}
use Rattle.simplex.specs.Basis.{Mask, Clear}
use Rattle.simplex.specs.Opt.{Kind as KindZ, const, external}
use Rattle.simplex.specs.Pass.{State as StateZ, Good}
use Rattle.simplex.specs.Temp.{Dead, rekind}
use Rattle.steps.specs.Number.{all_whole}
use Rattle.steps.specs.Symbol.{Kind, External, Slack, Error, Dummy, Symbol}
use Rattle.steps.specs.Row.{Row, Written, append_cell, insert_symbol_in_row, insert_row}
use Rattle.steps.specs.State.{Basic, Variable}
use Rattle.steps.specs.Work.{Work, with_tableau, with_changes, marking, find_row, new_symbol, append_symbol}
use Rattle.steps.specs.Changes.{find_variable}
use Rattle.steps.specs.CreateRow.{Building, written, append_to, insert_into, keep_variable, with_variables, add_variable, use_once, count_use, insert_variable}
use Rattle.simplex.specs.bridge.Nums.{worse-l, worse-r}
use Rattle.simplex.specs.bridge.Rows.{In, NotIn, ReadsRow, Whole}
use Rattle.simplex.specs.bridge.Finds.{none≢some}
use Rattle.simplex.specs.bridge.Table.{kind_of, RowAt, ReadsWork}
use Rattle.simplex.proofs.bridge.Table.{found_in}
use Rattle.simplex.proofs.bridge.Enter.{append-z, append-row, append-in, append-new, term-z}
use Rattle.simplex.proofs.bridge.Looks.{in-or-not}
use Rattle.simplex.specs.Choose.{all_map}
use Rattle.run.specs.BuildVars.{find-kept, find-kept-other, used_at, find-used, StaysAll, stays-refl, stays-trans, stays-used, stays-kept, LiveAt}

-- ---- kinds that agree everywhere
pub reads-kinds : (kind kind' : ℕ → KindZ) (w : Work) (B : Mask) (R : ℕ → Vec) (o a : Vec) → ((j : ℕ) → kind j ≡ kind' j) → ReadsWork kind w B R o a → ReadsWork kind' w B R o a
reads-kinds kind kind' w B R o a e H = record {
  up = H.up;
  kinds = all_map (λ (x : Symbol) h. sym (e x.id) ∙ h) w.tableau.symbols H.kinds;
  unknown = λ i n m. sym (e i) ∙ H.unknown i n m;
  rows-up = H.rows-up;
  rows-live = all_map (λ (b : Basic) h. (h.0, sym (e b.symbol.id) ∙ h.1)) w.tableau.rows H.rows-live;
  rows = H.rows;
  objective = H.objective;
  beyond = H.beyond;
  cutoff = H.cutoff;
  artificial = H.artificial;
}

-- ---- a row that is being built, beside the tableau
pub record Stage (n : ℕ) (kind : ℕ → KindZ) (S : StateZ) (name : ℕ → ℕ) (w : Work) (row : Row) (r : Vec) : Type 0 where
  pub reads : ReadsWork kind w S.B S.R S.o (λ _. 0ℤ)
  pub good : Good n kind S
  pub line : ReadsRow w.tableau.symbols row r
  pub clear : Clear S.B r
  pub artificial : w.artificial ≡ none
  pub first : 0 < w.tableau.next_id
  pub ids : (j : ℕ) → In j w.tableau.symbols → j < w.tableau.next_id
  pub vars : (m : ℕ) → LiveAt kind w.tableau.symbols name m (find_variable m w.changes.variables)

-- what else a step leaves, and by how much the next id grows
pub record Grew (k : ℕ) (w x : Work) : Type 0 where
  pub vars : StaysAll w.changes.variables x.changes.variables
  pub next : x.tableau.next_id ≤ w.tableau.next_id + k
  pub pivots : x.pivots ≡ w.pivots

pub grew_refl : (w : Work) → Grew 0 w w
grew_refl w = record { vars = stays-refl w.changes.variables; next = omega arith; pivots = refl }

pub grew_trans : (j k : ℕ) (u w x : Work) → Grew j u w → Grew k w x → Grew (j + k) u x
grew_trans j k u w x a b = record {
  vars = stays-trans u.changes.variables w.changes.variables x.changes.variables a.vars b.vars;
  next = omega (arith, a.next, b.next);
  pivots = b.pivots ∙ a.pivots;
}

pub grew-more : (j k : ℕ) (u w : Work) → j ≤ k → Grew j u w → Grew k u w
grew-more j k u w l a = record { vars = a.vars; next = omega (arith, a.next, l); pivots = a.pivots }

pub not-const : (κ : Kind) → kind_of κ ≢ const
not-const External e = let z : ◌≡◌ {A = ℕ} 0 1 = cc in omega arith
not-const Slack e = let z : ◌≡◌ {A = ℕ} 0 1 = cc in omega arith
not-const Error e = let z : ◌≡◌ {A = ℕ} 0 1 = cc in omega arith
not-const Dummy e = let z : ◌≡◌ {A = ℕ} 0 1 = cc in omega arith

module _ (n : ℕ) (kind : ℕ → KindZ) (S : StateZ) (name : ℕ → ℕ) (w : Work) (row : Row) (r : Vec) (A : Stage n kind S name w row r) where
  abbrev xs : List Symbol
  xs = w.tableau.symbols

  abbrev t : ℕ
  t = w.tableau.next_id

  pub next≢0 : t ≢ 0
  next≢0 e = omega (arith, A.first)

  pub next-new : NotIn t xs
  next-new = go (in-or-not t xs)
    where
      go : In t xs ⊎ NotIn t xs → NotIn t xs
      go (inl m) = absurd (omega (arith, A.ids t m))
      go (inr m) = m

  pub next-kind : kind t ≡ external
  next-kind = A.reads.unknown t next≢0 next-new

  pub basic-in : (j : ℕ) → S.B j ≡ true → In j xs
  basic-in j b = go (find_row j w.tableau.rows) refl (A.reads.rows j)
    where
      go : (q : Option Row) → find_row j w.tableau.rows ≡ q → RowAt xs q (S.B j) (S.R j) → In j xs
      go none e h = absurd (true≢false (sym b ∙ h))
      go (some y) e h = found_in (λ i. In i xs) j w.tableau.rows y (all_map (λ (b : Basic) h. h.0) w.tableau.rows A.reads.rows-live) e

  -- a symbol that is not live is in no row
  pub next-dead : Dead S t
  next-dead = record { free = free (S.B t) refl; not-0 = next≢0; rows = λ j ne. rows j ne (S.B j) refl (find_row j w.tableau.rows) (A.reads.rows j) }
    where
      free : (b : Bool) → S.B t ≡ b → S.B t ≡ false
      free true e = absurd (omega (arith, A.ids t (basic-in t e)))
      free false e = e

      rows : (j : ℕ) → j ≢ t → (b : Bool) → S.B j ≡ b → (q : Option Row) → RowAt xs q (S.B j) (S.R j) → S.R j t ≡ 0ℤ
      rows j ne true e none h = absurd (true≢false (sym e ∙ h))
      rows j ne true e (some y) h = h.1.outside t next≢0 next-new
      rows j ne false e q h = A.good.shape.unit j e t ∙ δ-other ne

  pub next-cost : S.o t ≡ 0ℤ
  next-cost = A.reads.beyond t next≢0 next-new

  -- ---- a new symbol, of any kind
  live_on : (xs' : List Symbol) (kind' : ℕ → KindZ) (name' : ℕ → ℕ) → ((j : ℕ) → In j xs → In j xs') → ((j : ℕ) → In j xs → kind' j ≡ kind j) → ((j : ℕ) → In j xs → name' j ≡ name j)
      → (m : ℕ) (q : Option Variable) → LiveAt kind xs name m q → LiveAt kind' xs' name' m q
  live_on xs' kind' name' f g h m none l = tt
  live_on xs' kind' name' f g h m (some u) l = (l.0, f u.symbol.id l.1, g u.symbol.id l.1 ∙ l.2, h u.symbol.id l.1 ∙ l.3)

  old-at : {X : Type 0} (y : X) (f : ℕ → X) (j : ℕ) → In j xs → at t y f j ≡ f j
  old-at y f j m = at_there t y f j (λ e. omega (arith, A.ids j m))

  pub appended : (κ : Kind) (m : ℕ) → Stage n (at t (kind_of κ) kind) S (at t m name) (append_symbol (new_symbol κ w) w) (append_cell row) r
  unfolding new_symbol append_symbol with_tableau
  appended κ m = record {
    reads = append-z kind w S.B S.R S.o (λ _. 0ℤ) A.reads s next≢0 A.ids A.artificial;
    good = rekind n kind S A.good t (kind_of κ) next-dead next-cost (not-const κ);
    line = append-row xs row r s next≢0 A.ids A.line;
    clear = A.clear;
    artificial = A.artificial;
    first = omega arith;
    ids = λ j h. ids j xs (λ i p. A.ids i p) h;
    vars = λ v. live_on (xs ++ (s ∷ [])) (at t (kind_of κ) kind) (at t m name) (λ j h. append-in j xs s h) (old-at (kind_of κ) kind) (old-at m name) v (find_variable v w.changes.variables) (A.vars v);
  }
    where
      s : Symbol
      s = record { id = w.tableau.next_id; kind = κ }

      ids : (j : ℕ) (ys : List Symbol) → ((i : ℕ) → In i ys → i < w.tableau.next_id) → In j (ys ++ (record { id = w.tableau.next_id; kind = κ } ∷ [])) → j < suc w.tableau.next_id
      ids j [] f (inl e) = omega arith
      ids j [] f (inr e) = absurd e
      ids j (y ∷ ys) f (inl e) = omega (arith, f j (inl e))
      ids j (y ∷ ys) f (inr h) = ids j ys (λ i p. f i (inr p)) h

  -- ---- a new variable: its symbol's kind was external all along
  same_kind : (j : ℕ) → at t external kind j ≡ kind j
  same_kind j = go (at? t external kind j)
    where
      go : At t external kind j → at t external kind j ≡ kind j
      go (here p e) = e ∙ sym (ap kind p ∙ next-kind)
      go (there p e) = e

  module _ (m : ℕ) (new : find_variable m w.changes.variables ≡ none) where
    abbrev fresh : Variable
    fresh = record { number = m; symbol = record { id = t; kind = External }; old = nan; uses = 0; changed = false }

    fresh-live : (v : ℕ) → LiveAt kind (xs ++ (record { id = w.tableau.next_id; kind = External } ∷ [])) (at t m name) v (find_variable v (keep_variable fresh w.changes.variables))
    fresh-live v = go (at? m true (λ _. false) v)
      where
        go : At m true (λ _. false) v → LiveAt kind (xs ++ (record { id = w.tableau.next_id; kind = External } ∷ [])) (at t m name) v (find_variable v (keep_variable fresh w.changes.variables))
        go (here p e) =
            subst (LiveAt kind (xs ++ (record { id = w.tableau.next_id; kind = External } ∷ [])) (at t m name) v) (sym (ap (λ (i : ℕ). find_variable i (keep_variable fresh w.changes.variables)) p ∙ find-kept fresh w.changes.variables new))
            (refl, append-new xs (record { id = w.tableau.next_id; kind = External }), next-kind, at_here t m name ∙ sym p)
        go (there p e) =
            subst (LiveAt kind (xs ++ (record { id = w.tableau.next_id; kind = External } ∷ [])) (at t m name) v) (sym (find-kept-other v fresh w.changes.variables p))
            (live_on (xs ++ (record { id = w.tableau.next_id; kind = External } ∷ [])) kind (at t m name) (λ j h. append-in j xs (record { id = w.tableau.next_id; kind = External }) h) (λ j h. refl) (old-at m name) v (find_variable v w.changes.variables) (A.vars v))

    pub variable-stage : Stage n kind S (at t m name) (add_variable m (record { work = w; row = row })).work (add_variable m (record { work = w; row = row })).row r
    unfolding add_variable append_to with_variables with_changes new_symbol append_symbol with_tableau
    variable-stage =
        let B = appended External m in
        record {
          reads = reads-kinds (at t external kind) kind (add_variable m (record { work = w; row = row })).work S.B S.R S.o (λ _. 0ℤ) same_kind B.reads;
          good = A.good;
          line = B.line;
          clear = A.clear;
          artificial = A.artificial;
          first = B.first;
          ids = B.ids;
          vars = fresh-live;
        }

    pub variable-grew : Grew 1 w (add_variable m (record { work = w; row = row })).work
    unfolding add_variable append_to with_variables with_changes new_symbol append_symbol with_tableau
    variable-grew = record { vars = stays-kept fresh w.changes.variables new; next = omega arith; pivots = refl }

    pub variable-found : find_variable m (add_variable m (record { work = w; row = row })).work.changes.variables ≢ none
    unfolding add_variable append_to with_variables with_changes new_symbol append_symbol with_tableau
    variable-found e = none≢some (sym e ∙ find-kept fresh w.changes.variables new)

  -- ---- a use is counted
  pub use-stage : (m : ℕ) → Stage n kind S name (count_use m (record { work = w; row = row })).work row r
  unfolding count_use with_variables with_changes use_once
  use-stage m = record {
    reads = A.reads;
    good = A.good;
    line = A.line;
    clear = A.clear;
    artificial = A.artificial;
    first = A.first;
    ids = A.ids;
    vars = λ v. subst (LiveAt kind xs name v) (sym (find-used v m w.changes.variables)) (used v (find_variable v w.changes.variables) (A.vars v));
  }
    where
      used : (v : ℕ) (q : Option Variable) → LiveAt kind xs name v q → LiveAt kind xs name v (used_at m q)
      used v none l = tt
      used v (some u) l = l

  pub use-grew : (m : ℕ) → Grew 0 w (count_use m (record { work = w; row = row })).work
  unfolding count_use with_variables with_changes
  use-grew m = record { vars = stays-used m w.changes.variables; next = omega arith; pivots = refl }

  -- ---- a variable's row, or its symbol, is inserted
  abbrev insertion : Symbol → Float → Written
  insertion s k = elim (find_row s.id w.tableau.rows) as (λ _. Written) [ none ↦ insert_symbol_in_row w.tableau.cutoff s.id k w.tableau.symbols row | some y ↦ insert_row w.tableau.cutoff y k row ]

  inserted-is : (s : Symbol) (k : Float) → insert_variable s k (record { work = w; row = row })
      ≡ written (insertion s k) w
  unfolding insert_variable insert_into
  inserted-is s k = go (find_row s.id w.tableau.rows)
    where
      go : (q : Option Row) → ◌≡◌ {A = Building} (elim q [ none ↦ written (insert_symbol_in_row w.tableau.cutoff s.id k w.tableau.symbols row) w | some y ↦ written (insert_row w.tableau.cutoff y k row) w ])
          (written (elim q as (λ _. Written) [ none ↦ insert_symbol_in_row w.tableau.cutoff s.id k w.tableau.symbols row | some y ↦ insert_row w.tableau.cutoff y k row ]) w)
      go none = refl
      go (some y) = refl

  clear-plus : (q : ℤ) (s : ℕ) → Clear S.B (plus r q (S.R s))
  clear-plus q s b h = ap₂ (λ (x y : ℤ). x +ℤ q *ℤ y) (A.clear b h) (A.good.shape.gone b h s) ∙ ring (q ∷ []) (lit 0ℤ ⊞ ν 0 ⊠ lit 0ℤ) (lit 0ℤ) tt

  -- a row written beside the same tableau
  pub written-stage : (y : Written) (f : Vec) → y.mark ≡ all_whole → Whole xs f y → Clear S.B f → Stage n kind S name (written y w).work (written y w).row f
  unfolding written marking
  written-stage y f m h c = record {
    reads = A.reads;
    good = A.good;
    line = h m;
    clear = c;
    artificial = A.artificial;
    first = A.first;
    ids = A.ids;
    vars = A.vars;
  }

  pub written-grew : (y : Written) → Grew 0 w (written y w).work
  unfolding written marking
  written-grew y = record { vars = stays-refl w.changes.variables; next = omega arith; pivots = refl }

  pub written-marks : (y : Written) → (written y w).work.mark ≡ all_whole → (w.mark ≡ all_whole) × (y.mark ≡ all_whole)
  unfolding written marking
  written-marks y m = (worse-l w.mark y.mark m, worse-r w.mark y.mark m)

  pub insert-stage : (s : Symbol) → In s.id xs → {k : Float} {q : ℤ} → Zb 1024 k q → (insert_variable s k (record { work = w; row = row })).work.mark ≡ all_whole
      → Stage n kind S name (insert_variable s k (record { work = w; row = row })).work (insert_variable s k (record { work = w; row = row })).row (plus r q (S.R s.id))
  insert-stage s i {k} {q} K m =
      subst (λ (b : Building). Stage n kind S name b.work b.row (plus r q (S.R s.id))) (sym (inserted-is s k))
      (written-stage (insertion s k) (plus r q (S.R s.id)) (written-marks (insertion s k) (sym (ap (λ (b : Building). b.work.mark) (inserted-is s k)) ∙ m)).1
      (term-z kind w S.B S.R S.o (λ _. 0ℤ) A.reads A.good.shape.unit s.id i K row r A.line) (clear-plus q s.id))

  pub insert-grew : (s : Symbol) (k : Float) → Grew 0 w (insert_variable s k (record { work = w; row = row })).work
  insert-grew s k = subst (λ (b : Building). Grew 0 w b.work) (sym (inserted-is s k)) (written-grew (insertion s k))
