-- Steps 1 to 3 over the sparse tables, as the steps' `create_row`; what they may take for granted.
-- Assumes nothing.
use Rattle.std.specs.Prelude.{ℕ, zero, suc, ◌+◌, ◌-◌, ◌≤◌, ◌<◌, ◌≡◌, Bool, true, cond, List, [], ◌∷◌, map, eqb, Float, length, get_or, set}
use Rattle.std.proofs.Math.Path.{refl, ap, subst}
use Rattle.std.proofs.Common.{sym, ◌∙◌, arith, get_or-set_same, get_or-set_other, eq-eqb, eqb-true}
use Rattle.std.proofs.Math.Bool.{false}
use Rattle.std.proofs.Math.Option.{none}
use Rattle.std.specs.Float.{nan}
use Rattle.std.proofs.lemmas.Bool.{eqb-false}
use Rattle.laws.specs.Loops.{map_in}
use Rattle.laws.specs.Lists.{tab, tab-ext, map-tab, length-tab, get_or-tab}
use Rattle.laws.specs.Places.{Every, every-at, length-map_in, map_in-at}
use Rattle.steps.specs.Number.{zero64, below_zero, is_finite, Mark}
use Rattle.steps.specs.Row.{Row, reverse_sign}
use Rattle.steps.specs.State.{Term, Variable, Relation}
use Rattle.steps.specs.CreateRow.{Building, Created, insert_terms, add_tag, create_row}
use Rattle.keeps.specs.Lists.{total}
use Rattle.keeps.specs.Uses.{uses_of}
use Rattle.keeps.specs.Cells.{Fine}
use Rattle.keeps.specs.RowOps.{RowOk}
use Rattle.keeps.specs.Fits.{IsBasic}
use Rattle.keeps.specs.Good.{Good}
use Rattle.keeps.specs.Creating.{create_row-tagged}
use Rattle.rows.specs.Marks.{mark_of}
use Rattle.rows.specs.Table.{reverse_sign_in}
use Rattle.rows.specs.Reading as dense
use Rattle.layout.specs.Layout.{cells_of, term_room}
use Rattle.layout.specs.cells.Names.{row_room, last_place}
use Rattle.sparse.specs.Sparse.{Sparse, symbol_count, row_count, variable_count, symbol_at, variable_of, symbols_of, basics_of, read}
use Rattle.sparse.specs.Places.{most_variables}
use Rattle.waist.specs.substituting.Loose.{SettledRow}
use Rattle.variables.specs.Found.{variables-are}
use Rattle.waist.specs.Working.{cutoff_of, work_of, artificial_of, dense-cells}
use Rattle.waist.specs.Standing.{Standing}
use Rattle.waist.specs.Growing.{next_id}
use Rattle.waist.specs.Tags.{tag_at}
use Rattle.addition.specs.declared.creation.tag.Tagged.{Tagged}
use Rattle.addition.specs.creation.Building.{building_of, Builds}
use Rattle.addition.specs.creation.Tags.{created_of, OwnTag, Tags}
use Rattle.addition.specs.creation.Steps.{Used}
use Rattle.addition.specs.creation.Going.{new_in, Ready}
use Rattle.addition.specs.creation.Settled.{Plain, create-plain}

-- ---- what may be taken for granted

-- use counts that can grow by 16 terms: a stored state's are at most those of 48 constraints
abbrev pub Spare : Sparse → Type 0
Spare t = (n : ℕ) → uses_of n (read t).changes.variables ≤ 4294900000

-- tables on which a constraint may be added: the tests before the steps left room for its row, its new variables and its tag
pub record Opening (a : Mark) (terms : List Term) (constant : Float) (t : Sparse) : Type 0 where
  pub standing : Standing false a t
  pub K : ℕ → ℕ
  pub U : ℕ → ℕ
  pub good : Good K U (work_of false a 0 t)
  pub finite : is_finite constant ≡ true
  pub few-terms : length terms ≤ term_room
  pub few-rows : row_count t ≤ 47
  pub few-variables : variable_count t + new_in terms t ≤ most_variables
  pub few-symbols : symbol_count t + new_in terms t ≤ 126
  pub few-ids : next_id t ≤ 4294900000

-- a part is at most the whole
total-at : {A : Type 0} (f : A → ℕ) (g : ℕ → A) (n i q : ℕ) → i ≤ q → q < i + n → f (g q) ≤ total f (tab g i n)
unfolding tab total
total-at f g zero i q low high = absurd (omega (arith, low, high))
total-at f g (suc n) i q low high = go (eqb i q) refl (λ d. total-at f g n (suc i) q d (omega (arith, high)))
  where
    go : (b : Bool) → eqb i q ≡ b → (suc i ≤ q → f (g q) ≤ total f (tab g (suc i) n)) → f (g q) ≤ f (g i) + total f (tab g (suc i) n)
    go true e r = let o = eqb-true i q e in rw (← o) (omega arith)
    go false e r =
        let d = eqb-false i q e in
        let l = r (omega (arith, low, d)) in
        omega (arith, l)

uses-total : (n : ℕ) (vs : List Variable) → uses_of n vs ≡ total (λ (v : Variable). cond (eqb n v.number) v.uses 0) vs
unfolding uses_of total
uses-total n [] = refl
uses-total n (v ∷ vs) = ap (λ (k : ℕ). cond (eqb n v.number) v.uses 0 + k) (uses-total n vs)

used-spare : (t : Sparse) → Spare t → Used 4294900000 t
unfolding variable_of
used-spare t s j h =
    let n : ℕ = (variable_of t j).number in
    let part : cond (eqb n n) (variable_of t j).uses 0 ≤ total (λ (v : Variable). cond (eqb n v.number) v.uses 0) (tab (variable_of t) 0 (variable_count t)) = total-at (λ (v : Variable). cond (eqb n v.number) v.uses 0) (variable_of t) (variable_count t) 0 j (omega arith) (omega (arith, h)) in
    let here : cond (eqb n n) (variable_of t j).uses 0 ≡ (variable_of t j).uses = ap (λ (b : Bool). cond b (variable_of t j).uses 0) (eq-eqb n n refl) in
    let whole : uses_of n (read t).changes.variables ≡ total (λ (v : Variable). cond (eqb n v.number) v.uses 0) (tab (variable_of t) 0 (variable_count t)) = rw (variables-are t) (uses-total n (tab (variable_of t) 0 (variable_count t))) in
    let l = s n in
    omega (arith, part, here, whole, l)

pub opening-ready : (a : Mark) (terms : List Term) (constant : Float) (t : Sparse) → Opening a terms constant t → Spare t → Ready a terms t
opening-ready a terms constant t o s = record { standing = o.standing; few-variables = o.few-variables; few-symbols = o.few-symbols; few-ids = o.few-ids; spare = used-spare t s }

-- ---- the row before the terms

-- "Row constant is the constraint's."
unfoldable pub started_row : Float → ℕ → List Float → List Float
started_row constant k row = set (map_in (λ _. zero64) 1 (k + 1) row) 0 constant

abbrev pub bare : Float → List Float → Row
bare constant cells = record { constant = constant; cells = cells }

-- the code's writes put together
pub started-is : (constant : Float) (k : ℕ) (row : List Float) {z : List Float} → z ≡ map_in (λ _. zero64) 1 (k + 1) row → set z 0 constant ≡ started_row constant k row
unfolding started_row
started-is constant k row e = rw e refl

pub start-reads : (constant : Float) (a : Mark) (t : Sparse) (row : List Float) → Standing false a t → length row ≡ row_room
    → building_of a t (started_row constant (symbol_count t) row) ≡ record { work = work_of false a 0 t; row = bare constant (map (λ _. zero64) (work_of false a 0 t).tableau.symbols) }
unfolding building_of started_row dense.row_of work_of read symbols_of
start-reads constant a t row s wide =
    let k : ℕ = symbol_count t in
    let l : List Float = map_in (λ _. zero64) 1 (k + 1) row in
    let f = s.sound.named.few-symbols in
    let m : length l ≡ length row = length-map_in (λ _. zero64) 1 (k + 1) row in
    let c : get_or (set l 0 constant) 0 nan ≡ constant = get_or-set_same l 0 constant nan (omega (arith, m, wide)) in
    let d : cells_of k (set l 0 constant) ≡ map (λ _. zero64) (tab (symbol_at t) 1 k) =
    dense-cells k (set l 0 constant)
    ∙ tab-ext (λ p. get_or (set l 0 constant) p nan) (λ _. zero64) 1 k (λ p x y. get_or-set_other l 0 p constant nan (λ e. omega (arith, e, x)) ∙ map_in-at (λ _. zero64) 1 (k + 1) row p nan x (omega (arith, y)) (omega (arith, y, f, wide)))
    ∙ sym (map-tab (λ _. zero64) (symbol_at t) 1 k) in
    rw (c, d) refl

-- ---- "If the constant is below 0, reverse all signs."

unfoldable pub reversed_if : ℕ → List Float → List Float
reversed_if k row = cond (below_zero (get_or row 0 nan)) (reverse_sign_in k row) row

pub reversed-taken : (k : ℕ) (row : List Float) {z : List Float} → below_zero (get_or row 0 nan) ≡ true → z ≡ reverse_sign_in k row → z ≡ reversed_if k row
unfolding reversed_if
reversed-taken k row q e = rw q e

pub reversed-left : (k : ℕ) (row : List Float) → below_zero (get_or row 0 nan) ≡ false → row ≡ reversed_if k row
unfolding reversed_if
reversed-left k row q = rw q refl

unfoldable pub reversed_by : Created → Created
reversed_by c = elim (below_zero c.row.constant) [ false ↦ c | true ↦ record { work = c.work; row = reverse_sign c.row; tag = c.tag } ]

reverse-reads : (r : Tagged) (u : Sparse) (row : List Float) → symbol_count u < length row → created_of r u (reversed_if (symbol_count u) row) ≡ reversed_by (created_of r u row)
unfolding created_of reversed_if reversed_by dense.row_of
reverse-reads r u row h = go (below_zero (get_or row 0 nan)) (dense.reverse-read (symbol_count u) row h)
  where
    made : Row → Created
    made x = record { work = work_of false (mark_of r.wrote) 0 u; row = x; tag = tag_at u r.marker r.other }

    go : (b : Bool) → dense.row_of (symbol_count u) (reverse_sign_in (symbol_count u) row) ≡ reverse_sign (dense.row_of (symbol_count u) row)
        → made (dense.row_of (symbol_count u) (cond b (reverse_sign_in (symbol_count u) row) row)) ≡ elim b [ false ↦ made (dense.row_of (symbol_count u) row) | true ↦ made (reverse_sign (dense.row_of (symbol_count u) row)) ]
    go false e = refl
    go true e = ap made e

pub closed-tags : (relation : Relation) (a : Mark) (t u : Sparse) (row row₁ : List Float) {row₂ : List Float} (r : Tagged) → Tags (add_tag relation) a t u row row₁ r → length row₁ ≡ row_room → row₂ ≡ reversed_if (symbol_count u) row₁
    → Tags (λ b. reversed_by (add_tag relation b)) a t u row row₂ r
closed-tags relation a t u row row₁ r h wide e =
    let f = h.stands.sound.named.few-symbols in
    record {
      reads = rw e (reverse-reads r u row₁ (omega (arith, f, wide)) ∙ ap reversed_by h.reads);
      stands = h.stands;
      symbols = h.symbols;
      ids = h.ids;
      rows = h.rows;
      own = h.own;
    }

-- ---- the whole

pub record Creates (terms : List Term) (constant : Float) (relation : Relation) (a : Mark) (t u : Sparse) (row : List Float) (r : Tagged) : Type 0 where
  pub reads : created_of r u row ≡ create_row terms constant relation (work_of false a 0 t)
  pub stands : Standing false (mark_of r.wrote) u
  pub few-symbols : symbol_count u < last_place
  pub few-rows : row_count u ≤ 47
  pub few-ids : next_id u ≤ 4294900018
  pub own : OwnTag r u
  pub settled : SettledRow (symbol_count u) row
  pub row_ok : RowOk (IsBasic (basics_of u)) (Fine (mark_of r.wrote)) (symbols_of u) (dense.row_of (symbol_count u) row)

module _ (terms : List Term) (constant : Float) (relation : Relation) (a b : Mark) (t u v : Sparse) (row₀ row row₁ row₂ : List Float) (r : Tagged) (o : Opening a terms constant t) (wide : length row₀ ≡ row_room)
    (e : row ≡ started_row constant (symbol_count t) row₀) (h : Builds a b (insert_terms (cutoff_of t) terms) t u row row₁) (few : (symbol_count u ≤ 126) × (row_count u ≡ row_count t) × (next_id u ≤ 4294900016))
    (g : Tags (λ b. reversed_by (add_tag relation b)) b u v row₁ row₂ r) where
  created : created_of r v row₂ ≡ create_row terms constant relation (work_of false a 0 t)
  unfolding create_row reversed_by work_of read
  created =
      let s : building_of a t row ≡ record { work = work_of false a 0 t; row = bare constant (map (λ _. zero64) (work_of false a 0 t).tableau.symbols) } = rw e (start-reads constant a t row₀ o.standing wide) in
      g.reads ∙ ap (λ (x : Building). reversed_by (add_tag relation x)) (h.reads ∙ ap (insert_terms (cutoff_of t) terms) s)

  plain : (work_of false a 0 t).artificial ≡ none
  unfolding work_of artificial_of
  plain = refl

  cells-plain : Every Plain (cells_of (symbol_count v) row₂)
  unfolding created_of dense.row_of
  cells-plain = subst (λ (c : Created). Every Plain c.row.cells) (sym created) (create-plain terms constant relation (work_of false a 0 t))

  settles : SettledRow (symbol_count v) row₂
  settles p low high =
      let k : ℕ = symbol_count v in
      let d : Every Plain (tab (λ q. get_or row₂ q nan) 1 k) = subst (Every Plain) (dense-cells k row₂) cells-plain in
      let n : length (tab (λ q. get_or row₂ q nan) 1 k) ≡ k = length-tab (λ q. get_or row₂ q nan) 1 k in
      let o₁ : 1 + (p - 1) ≡ p = omega (arith, low) in
      let y : get_or (tab (λ q. get_or row₂ q nan) 1 k) (p - 1) nan ≡ get_or row₂ p nan = get_or-tab (λ q. get_or row₂ q nan) 1 k (p - 1) nan (omega (arith, low, high)) ∙ ap (λ (q : ℕ). get_or row₂ q nan) o₁ in
      subst Plain y (every-at Plain (tab (λ q. get_or row₂ q nan) 1 k) nan d (p - 1) (omega (arith, low, high, n)))

  pub creates : Creates terms constant relation a t v row₂ r
  unfolding created_of work_of read
  creates =
      let s = g.symbols in
      let i = g.ids in
      let q = g.rows in
      let f = o.few-rows in
      let ok = (create_row-tagged o.K o.U terms constant relation (work_of false a 0 t) o.good plain o.finite).row in
      record {
        reads = created;
        stands = g.stands;
        few-symbols = omega (arith, s, few);
        few-rows = omega (arith, q, few, f);
        few-ids = omega (arith, i, few);
        own = g.own;
        settled = settles;
        row_ok = subst (λ (c : Created). RowOk (IsBasic c.work.tableau.rows) (Fine c.work.mark) c.work.tableau.symbols c.row) (sym created) ok;
      }
