-- Add's steps with another cutoff: the same, while the mark stays whole. Assumes nothing.
use Rattle.std.specs.Prelude.{◌≡◌, ℕ}
use Rattle.std.proofs.Math.Path.{refl, ap, subst}
use Rattle.std.proofs.Common.{sym, ◌∙◌}
use mathlib.Core.List.{List, [], ◌∷◌, map}
use Rattle.std.proofs.Math.Option.{Option, none, some}
use Rattle.std.proofs.Math.Bool.{Bool, true, false}
use Rattle.std.specs.Float.Ieee.{Float, lt, neg}
use Rattle.simplex.specs.Choose.{All}
use Rattle.laws.specs.exact.Unbroken.{Unbroken, neg-unbroken}
use Rattle.steps.specs.Number.{zero64, one64, minus_one64, objective_bound, near_zero, cutoff_fits, below_zero, Mark}
use Rattle.steps.specs.Strength.{required}
use Rattle.steps.specs.Symbol.{Slack, Error, Symbol}
use Rattle.steps.specs.Row.{Row, Cell, cell_values, cell_marks, insert_symbol, Written, insert_symbol_in_row, insert_row, reverse_sign, append_cell}
use Rattle.steps.specs.State.{Term, Relation, at_most, equal, at_least, strength_of, Basic, Variable}
use Rattle.steps.specs.Work.{Work, with_tableau, with_changes, marking, with_objective, find_row, drop_row, new_symbol, append_symbol, purge}
use Rattle.steps.specs.Changes.{find_variable}
use Rattle.steps.specs.CreateRow.{Building, Created, written, append_to, insert_into, with_variables, add_variable, count_use, insert_variable, insert_term, insert_terms, tagged, add_symbol, insert_in_objective, add_error, inequality, soft_equality, required_equality, add_tag, create_row}
use Rattle.run.specs.RecutRows.{RowU, one-unbroken, minus-one-unbroken, values-u, delete-u, append-u, bare-u, reverse-u, insert_symbol-u, insert_symbol_in_row-u, insert_row-u, near_same, insert_symbol-same, insert_symbol_in_row-same, insert_row-same}
use Rattle.run.specs.Recut.{recut, ArtU, RowsU, Plain, drop-u, find-u}

-- ---- a row that is being built

abbrev recut_b : Float → Building → Building
recut_b z b = record { work = recut z b.work; row = b.row }

abbrev pub recut_c : Float → Created → Created
recut_c z c = record { work = recut z c.work; row = c.row; tag = c.tag }

abbrev PlainB : Building → Type 0
PlainB b = Plain b.work × RowU b.row

abbrev pub PlainC : Created → Type 0
PlainC c = Plain c.work × RowU c.row

-- the building c, and the same with another cutoff
abbrev TwinB : Float → Building → Building → Type 0
TwinB z c d = (d ≡ recut_b z c) × PlainB c

abbrev TwinC : Float → Created → Created → Type 0
TwinC z c d = (d ≡ recut_c z c) × PlainC c

abbrev pub TermsU : List Term → Type 0
TermsU ts = All (λ (t : Term). Unbroken t.coefficient) ts

appended-rows : (bs : List Basic) → RowsU bs → RowsU (map (λ (b : Basic). record { symbol = b.symbol; row = append_cell b.row }) bs)
unfolding append_cell
appended-rows [] h = tt
appended-rows (b ∷ bs) h = ((h.0.0, append-u b.row.cells h.0.1), appended-rows bs h.1)

pub plain-append : (s : Symbol) (w : Work) → Plain w → Plain (append_symbol s w)
unfolding append_symbol with_tableau
plain-append s w p = record { rows = appended-rows w.tableau.rows p.rows; objective = append-u w.tableau.objective p.objective; artificial = p.artificial; fits = p.fits }

pub plain-mark : (m : Mark) (w : Work) → Plain w → Plain (marking m w)
unfolding marking
plain-mark m w p = record { rows = p.rows; objective = p.objective; artificial = p.artificial; fits = p.fits }

plain-vars : (vs : List Variable) (w : Work) → Plain w → Plain (with_variables vs w)
unfolding with_variables with_changes
plain-vars vs w p = record { rows = p.rows; objective = p.objective; artificial = p.artificial; fits = p.fits }

pub plain-objective : (cs : List Cell) (m : Mark) (w : Work) → Plain w → All Unbroken (cell_values cs) → Plain (marking m (with_objective (cell_values cs) w))
unfolding marking with_objective with_tableau
plain-objective cs m w p h = record { rows = p.rows; objective = h; artificial = p.artificial; fits = p.fits }

purged-rows : (s : ℕ) (xs : List Symbol) (bs : List Basic) → RowsU bs → RowsU (map (λ (b : Basic). record { symbol = b.symbol; row = record { constant = b.row.constant; cells = Rattle.steps.specs.Symbol.delete_cell s xs b.row.cells } }) bs)
purged-rows s xs [] h = tt
purged-rows s xs (b ∷ bs) h = ((h.0.0, delete-u s xs b.row.cells h.0.1), purged-rows s xs bs h.1)

pub plain-purge : (s : ℕ) (w : Work) → Plain w → Plain (purge s w)
unfolding purge with_tableau
plain-purge s w p = record {
  rows = purged-rows s w.tableau.symbols (drop_row s w.tableau.rows) (drop-u s w.tableau.rows p.rows);
  objective = delete-u s w.tableau.symbols w.tableau.objective p.objective;
  artificial = p.artificial;
  fits = p.fits;
}

module _ (z : Float) (fz : cutoff_fits z ≡ true) where
  then : (g : Building → Building) → ((b : Building) → PlainB b → TwinB z (g b) (g (recut_b z b))) → {c d : Building} → TwinB z c d → TwinB z (g c) (g d)
  then g h {c} {d} t = subst (λ (x : Building). TwinB z (g c) (g x)) (sym t.0) (h c t.1)

  then_c : (g : Building → Created) → ((b : Building) → PlainB b → TwinC z (g b) (g (recut_b z b))) → {c d : Building} → TwinB z c d → TwinC z (g c) (g d)
  then_c g h {c} {d} t = subst (λ (x : Building). TwinC z (g c) (g x)) (sym t.0) (h c t.1)

  -- ---- steps 1 to 3

  written-twin : (r : Written) (w : Work) → Plain w → RowU r.row → TwinB z (written r w) (written r (recut z w))
  unfolding written marking
  written-twin r w p h = (refl, (plain-mark r.mark w p, h))

  append-twin : (s : Symbol) (b : Building) → PlainB b → TwinB z (append_to s b) (append_to s (recut_b z b))
  unfolding append_to append_symbol with_tableau append_cell
  append-twin s b p = (refl, (plain-append s b.work p.0, (p.1.0, append-u b.row.cells p.1.1)))

  insert_into-twin : (s : ℕ) (k : Float) → Unbroken k → (b : Building) → PlainB b → TwinB z (insert_into s k b) (insert_into s k (recut_b z b))
  unfolding insert_into
  insert_into-twin s k hk b p =
      let y : Float = b.work.tableau.cutoff in
      let xs : List Symbol = b.work.tableau.symbols in
      subst (λ (r : Written). TwinB z (written (insert_symbol_in_row y s k xs b.row) b.work) (written r (recut z b.work))) (sym (insert_symbol_in_row-same y z p.0.fits fz s k hk xs b.row p.1))
      (written-twin (insert_symbol_in_row y s k xs b.row) b.work p.0 (insert_symbol_in_row-u y s k hk xs b.row p.1))

  add_variable-twin : (n : ℕ) (b : Building) → PlainB b → TwinB z (add_variable n b) (add_variable n (recut_b z b))
  unfolding add_variable new_symbol append_to append_symbol with_variables with_changes with_tableau append_cell
  add_variable-twin n b p = (refl, (plain-vars _ _ (plain-append _ b.work p.0), (p.1.0, append-u b.row.cells p.1.1)))

  count_use-twin : (n : ℕ) (b : Building) → PlainB b → TwinB z (count_use n b) (count_use n (recut_b z b))
  unfolding count_use with_variables with_changes
  count_use-twin n b p = (refl, (plain-vars _ b.work p.0, p.1))

  insert_variable-twin : (s : Symbol) (k : Float) → Unbroken k → (b : Building) → PlainB b → TwinB z (insert_variable s k b) (insert_variable s k (recut_b z b))
  unfolding insert_variable
  insert_variable-twin s k hk b p = go (find_row s.id b.work.tableau.rows) (find-u s.id b.work.tableau.rows p.0.rows)
    where
      at : Option Row → Building → Building
      at o b = elim o as (λ _. Building) [ none ↦ insert_into s.id k b | some r ↦ written (insert_row b.work.tableau.cutoff r k b.row) b.work ]

      go : (o : Option Row) → ArtU o → TwinB z (at o b) (at o (recut_b z b))
      go none a = insert_into-twin s.id k hk b p
      go (some r) a =
          let y : Float = b.work.tableau.cutoff in
          subst (λ (x : Written). TwinB z (written (insert_row y r k b.row) b.work) (written x (recut z b.work))) (sym (insert_row-same y z p.0.fits fz r k b.row a hk p.1))
          (written-twin (insert_row y r k b.row) b.work p.0 (insert_row-u y r k b.row a hk p.1))

  -- a variable that is known, and its row or symbol put in
  knowing : ℕ → Building → Building
  knowing n b = elim (find_variable n b.work.changes.variables) as (λ _. Building) [ none ↦ add_variable n b | some v ↦ b ]

  putting : ℕ → Float → Building → Building
  putting n k b = elim (find_variable n b.work.changes.variables) as (λ _. Building) [ none ↦ b | some v ↦ insert_variable v.symbol k b ]

  knowing-twin : (n : ℕ) (b : Building) → PlainB b → TwinB z (knowing n b) (knowing n (recut_b z b))
  unfolding knowing
  knowing-twin n b p = go (find_variable n b.work.changes.variables)
    where
      at : Option Variable → Building → Building
      at o b = elim o as (λ _. Building) [ none ↦ add_variable n b | some v ↦ b ]

      go : (o : Option Variable) → TwinB z (at o b) (at o (recut_b z b))
      go none = add_variable-twin n b p
      go (some v) = (refl, p)

  putting-twin : (n : ℕ) (k : Float) → Unbroken k → (b : Building) → PlainB b → TwinB z (putting n k b) (putting n k (recut_b z b))
  unfolding putting
  putting-twin n k hk b p = go (find_variable n b.work.changes.variables)
    where
      at : Option Variable → Building → Building
      at o b = elim o as (λ _. Building) [ none ↦ b | some v ↦ insert_variable v.symbol k b ]

      go : (o : Option Variable) → TwinB z (at o b) (at o (recut_b z b))
      go none = (refl, p)
      go (some v) = insert_variable-twin v.symbol k hk b p

  insert_term-twin : (t : Term) → Unbroken t.coefficient → (b : Building) → PlainB b → TwinB z (insert_term t b) (insert_term t (recut_b z b))
  unfolding insert_term knowing putting
  insert_term-twin t hk b p = then (putting t.variable t.coefficient) (putting-twin t.variable t.coefficient hk) (then (count_use t.variable) (count_use-twin t.variable) (knowing-twin t.variable b p))

  insert_terms-twin : (y : Float) → cutoff_fits y ≡ true → (ts : List Term) → TermsU ts → (b : Building) → PlainB b → TwinB z (insert_terms y ts b) (insert_terms z ts (recut_b z b))
  unfolding insert_terms
  insert_terms-twin y fy [] h b p = (refl, p)
  insert_terms-twin y fy (t ∷ ts) h b p =
      subst (λ (q : Bool). TwinB z (insert_terms y ts (at (near_zero y t.coefficient) b)) (insert_terms z ts (at q (recut_b z b)))) (sym (near_same y z fy fz t.coefficient h.0))
      (go (near_zero y t.coefficient) (insert_terms-twin y fy ts h.1))
    where
      at : Bool → Building → Building
      at q b = elim q as (λ _. Building) [ true ↦ b | false ↦ insert_term t b ]

      go : (q : Bool) → ((b : Building) → PlainB b → TwinB z (insert_terms y ts b) (insert_terms z ts (recut_b z b))) → TwinB z (insert_terms y ts (at q b)) (insert_terms z ts (at q (recut_b z b)))
      go true ih = ih b p
      go false ih = let i = insert_term-twin t h.0 b p in subst (λ (x : Building). TwinB z (insert_terms y ts (insert_term t b)) (insert_terms z ts x)) (sym i.0) (ih (insert_term t b) i.1)

  add_symbol-twin : (s : Symbol) (k : Float) → Unbroken k → (b : Building) → PlainB b → TwinB z (add_symbol s k b) (add_symbol s k (recut_b z b))
  unfolding add_symbol
  add_symbol-twin s k hk b p = then (insert_into s.id k) (insert_into-twin s.id k hk) (append-twin s b p)

  pub objective-twin : (s : ℕ) (k : Float) → Unbroken k → (w : Work) → Plain w → (insert_in_objective s k (recut z w) ≡ recut z (insert_in_objective s k w)) × Plain (insert_in_objective s k w)
  unfolding insert_in_objective
  objective-twin s k hk w p = (
    ap (λ (cells : List Cell). marking (cell_marks objective_bound cells) (with_objective (cell_values cells) (recut z w))) (insert_symbol-same w.tableau.cutoff z p.fits fz s k hk w.tableau.symbols w.tableau.objective p.objective)
        ∙ recut-objective (insert_symbol w.tableau.cutoff s k w.tableau.symbols w.tableau.objective),
    plain-objective _ _ w p (values-u _ (insert_symbol-u w.tableau.cutoff s k hk w.tableau.symbols w.tableau.objective p.objective)),
  )
    where
      recut-objective : (cells : List Cell) → marking (cell_marks objective_bound cells) (with_objective (cell_values cells) (recut z w)) ≡ recut z (marking (cell_marks objective_bound cells) (with_objective (cell_values cells) w))
      recut-objective cells = unfold marking with_objective with_tableau in refl

  add_error-twin : (s : Symbol) (k strength : Float) → Unbroken k → Unbroken strength → (b : Building) → PlainB b → TwinB z (add_error s k strength b) (add_error s k strength (recut_b z b))
  unfolding add_error
  add_error-twin s k strength hk hs b p = then (λ b. record { work = insert_in_objective s.id strength b.work; row = b.row }) (λ b p. let t = objective-twin s.id strength hs b.work p.0 in (ap (λ (w : Work). record { work = w; row = b.row }) t.0, (t.1, p.1))) (add_symbol-twin s k hk b p)

  tagged-twin : (m : Symbol) (o : Option Symbol) (b : Building) → PlainB b → TwinC z (tagged m o b) (tagged m o (recut_b z b))
  unfolding tagged
  tagged-twin m o b p = (refl, p)

  -- the second symbol's id is the one after the first's
  inequality-twin : (sign strength : Float) → Unbroken sign → Unbroken strength → (b : Building) → PlainB b → TwinC z (inequality sign strength b) (inequality sign strength (recut_b z b))
  unfolding inequality new_symbol
  inequality-twin sign strength hk hs b p =
      let slack : Symbol = new_symbol Slack b.work in
      then_c (λ b₁. elim (lt strength required) as (λ _. Created) [ true ↦ tagged slack (some (new_symbol Error b₁.work)) (add_error (new_symbol Error b₁.work) (neg sign) strength b₁) | false ↦ tagged slack none b₁ ])
      (λ b₁ q. go slack (lt strength required) b₁ q) (add_symbol-twin slack sign hk b p)
    where
      at : Symbol → Bool → Building → Created
      at slack t b₁ = elim t as (λ _. Created) [ true ↦ tagged slack (some (new_symbol Error b₁.work)) (add_error (new_symbol Error b₁.work) (neg sign) strength b₁) | false ↦ tagged slack none b₁ ]

      go : (slack : Symbol) (t : Bool) (b₁ : Building) → PlainB b₁ → TwinC z (at slack t b₁) (at slack t (recut_b z b₁))
      go slack true b₁ q = then_c (tagged slack (some _)) (tagged-twin slack (some _)) (add_error-twin _ (neg sign) strength (neg-unbroken sign hk) hs b₁ q)
      go slack false b₁ q = tagged-twin slack none b₁ q

  soft-twin : (strength : Float) → Unbroken strength → (b : Building) → PlainB b → TwinC z (soft_equality strength b) (soft_equality strength (recut_b z b))
  unfolding soft_equality new_symbol
  soft-twin strength hs b p =
      let plus : Symbol = record { id = b.work.tableau.next_id; kind = Error } in
      then_c (λ b₁. tagged plus (some (record { id = b₁.work.tableau.next_id; kind = Error })) (add_error (record { id = b₁.work.tableau.next_id; kind = Error }) one64 strength b₁))
      (λ b₁ q. then_c (tagged plus (some _)) (tagged-twin plus (some _)) (add_error-twin _ one64 strength one-unbroken hs b₁ q)) (add_error-twin plus minus_one64 strength minus-one-unbroken hs b p)

  dummy-twin : (b : Building) → PlainB b → TwinC z (required_equality b) (required_equality (recut_b z b))
  unfolding required_equality new_symbol
  dummy-twin b p = then_c (tagged _ none) (tagged-twin _ none) (add_symbol-twin _ one64 one-unbroken b p)

  add_tag-twin : (r : Relation) → Unbroken (strength_of r) → (b : Building) → PlainB b → TwinC z (add_tag r b) (add_tag r (recut_b z b))
  unfolding add_tag strength_of
  add_tag-twin (at_most s) hs b p = inequality-twin one64 s one-unbroken hs b p
  add_tag-twin (at_least s) hs b p = inequality-twin minus_one64 s minus-one-unbroken hs b p
  add_tag-twin (equal s) hs b p = go (lt s required)
    where
      at : Bool → Building → Created
      at t b = elim t as (λ _. Created) [ true ↦ soft_equality s b | false ↦ required_equality b ]

      go : (t : Bool) → TwinC z (at t b) (at t (recut_b z b))
      go true = soft-twin s hs b p
      go false = dummy-twin b p

  pub create_row-twin : (ts : List Term) (k : Float) (r : Relation) → TermsU ts → Unbroken k → Unbroken (strength_of r) → (w : Work) → Plain w → TwinC z (create_row ts k r w) (create_row ts k r (recut z w))
  unfolding create_row
  create_row-twin ts k r ht hk hs w p =
      subst (λ (d : Created). TwinC z (at c) (at d)) (sym made.0) (go (below_zero c.row.constant))
    where
      c : Created
      c = add_tag r (insert_terms w.tableau.cutoff ts (record { work = w; row = record { constant = k; cells = map (λ _. zero64) w.tableau.symbols } }))

      made : TwinC z c (add_tag r (insert_terms z ts (record { work = recut z w; row = record { constant = k; cells = map (λ _. zero64) w.tableau.symbols } })))
      made = then_c (add_tag r) (add_tag-twin r hs) (insert_terms-twin w.tableau.cutoff p.fits ts ht (record { work = w; row = record { constant = k; cells = map (λ _. zero64) w.tableau.symbols } }) (p, (hk, bare-u w.tableau.symbols)))

      turned : Bool → Created → Created
      turned t c = elim t as (λ _. Created) [ false ↦ c | true ↦ record { work = c.work; row = reverse_sign c.row; tag = c.tag } ]

      at : Created → Created
      at c = turned (below_zero c.row.constant) c

      go : (t : Bool) → TwinC z (turned t c) (turned t (recut_c z c))
      go false = (refl, made.1)
      go true = (refl, (made.1.0, reverse-u c.row made.1.1))
