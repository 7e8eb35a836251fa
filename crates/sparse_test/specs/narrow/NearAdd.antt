-- What Add's steps do to the next id and to the variables' numbers: an id for each new variable, two for the tag, one for the temporary. Assumes nothing.
use Rattle.std.specs.Prelude.{ℕ, suc, ◌+◌, ◌-◌, ◌≡◌, length, Float}
use Rattle.std.proofs.Math.Path.{refl}
use Rattle.std.proofs.Math.Bool.{Bool, true, false}
use mathlib.Core.List.{List, [], ◌∷◌, map}
use Rattle.std.proofs.Math.Option.{Option, none, some}
use Rattle.std.proofs.Common.{arith}
use Rattle.std.specs.Float.Ieee.{lt, neg}
use Rattle.std.specs.Float.{nan}
use Rattle.steps.specs.Number.{zero64, one64, minus_one64, near_zero, below_zero, whole_if}
use Rattle.steps.specs.Strength.{required}
use Rattle.steps.specs.Symbol.{External, Slack, Error, Symbol}
use Rattle.steps.specs.Row.{Row, insert_row, reverse_sign}
use Rattle.steps.specs.State.{Term, Relation, at_most, equal, at_least, Variable}
use Rattle.steps.specs.Work.{Work, Outcome, refused, going, ◌>>=◌, refuse, check_finite, with_tableau, with_rows, with_objective, with_changes, with_artificial, marking, find_row, append_symbol, purge, new_symbol}
use Rattle.steps.specs.Changes.{find_variable}
use Rattle.steps.specs.CreateRow.{Building, Created, written, append_to, insert_into, with_variables, add_variable, use_once, count_use, insert_variable, insert_term, insert_terms, tagged, add_symbol, insert_in_objective, add_error, inequality, soft_equality, required_equality, add_tag, create_row, choose_subject, all_dummies}
use Rattle.steps.specs.Substitute.{pivot}
use Rattle.steps.specs.Optimise.{optimise, the_objective, the_artificial}
use Rattle.steps.specs.Artificial.{stand_temporary, remove_temporary, is_empty_row, any_pivotable_symbol, artificial_constant_near_zero, add_with_artificial_variable}
use Rattle.steps.specs.Add.{Added, add_with_subject, add_created, add_steps, whole_inputs}
use Rattle.keeps.specs.Lists.{All}
use Rattle.keeps.specs.Keys.{keep_all, keep_variable-is}
use Rattle.keeps.specs.Fits.{all_map}
use Rattle.keeps.specs.Frame.{enter-frame, mark-frame, pivot-frame}
use Rattle.keeps.specs.Passes.{Ends, ends-bind, ends-to, check-ends}
use Rattle.sparse_test.specs.narrow.Near.{Near, near_same, near-refl, near-then, near_on, near-frame, optimise-near, purged}

module _ (p : ℕ → Bool) where
  -- a term of a number that passes p
  abbrev pub TermNamed : Term → Type 0
  TermNamed t = p t.variable ≡ true

  abbrev At : ℕ → Building → Building → Type 0
  At k b c = Near p k b.work c.work

  inserted : (s : ℕ) (k : Float) (b : Building) → At 0 b (insert_into s k b)
  unfolding insert_into written marking
  inserted s k b = near_same p b.work (insert_into s k b).work refl refl refl

  appended : (s : Symbol) (b : Building) → At 1 b (append_to s b)
  unfolding append_to append_symbol with_tableau
  appended s b = record { next = omega arith; numbers = λ h. h }

  variable-added : (n : ℕ) (b : Building) → p n ≡ true → At 1 b (add_variable n b)
  unfolding add_variable append_to append_symbol with_variables with_changes with_tableau
  variable-added n b e = record {
    next = omega arith;
    numbers = λ h. (rw keep_variable-is (keep_all (λ (v : Variable). v.number) (λ (v : Variable). p v.number ≡ true) (record { number = n; symbol = new_symbol External b.work; old = nan; uses = 0; changed = false }) b.work.changes.variables e h.0), h.1);
  }

  counted : (n : ℕ) (b : Building) → At 0 b (count_use n b)
  unfolding count_use with_variables with_changes use_once
  counted n b = record { next = omega arith; numbers = λ h. (all_map (use_once n) (λ (v : Variable). p v.number ≡ true) b.work.changes.variables h.0, h.1) }

  variable-inserted : (s : Symbol) (k : Float) (b : Building) → At 0 b (insert_variable s k b)
  unfolding insert_variable
  variable-inserted s k b = go (find_row s.id b.work.tableau.rows)
    where
      row : (r : Row) → At 0 b (written (insert_row b.work.tableau.cutoff r k b.row) b.work)
      row r = unfold written marking in near_same p b.work (written (insert_row b.work.tableau.cutoff r k b.row) b.work).work refl refl refl

      go : (o : Option Row) → At 0 b (elim o [ none ↦ insert_into s.id k b | some r ↦ written (insert_row b.work.tableau.cutoff r k b.row) b.work ])
      go none = inserted s.id k b
      go (some r) = row r

  term-inserted : (t : Term) (b : Building) → TermNamed t → At 1 b (insert_term t b)
  unfolding insert_term
  term-inserted t b e = near-then p known last (omega arith)
    where
      now : Building
      now = elim (find_variable t.variable b.work.changes.variables) [ none ↦ add_variable t.variable b | some v ↦ b ]

      used : Building
      used = count_use t.variable now

      known : At 1 b now
      known = go (find_variable t.variable b.work.changes.variables)
        where
          go : (o : Option Variable) → At 1 b (elim o [ none ↦ add_variable t.variable b | some v ↦ b ])
          go none = variable-added t.variable b e
          go (some v) = record { next = omega arith; numbers = λ h. h }

      last : At 0 now (elim (find_variable t.variable used.work.changes.variables) [ none ↦ used | some v ↦ insert_variable v.symbol t.coefficient used ])
      last = go (find_variable t.variable used.work.changes.variables)
        where
          go : (o : Option Variable) → At 0 now (elim o [ none ↦ used | some v ↦ insert_variable v.symbol t.coefficient used ])
          go none = counted t.variable now
          go (some v) = near_on p (counted t.variable now) (variable-inserted v.symbol t.coefficient used)

  terms-inserted : (cutoff : Float) (ts : List Term) (b : Building) → All TermNamed ts → At (length ts) b (insert_terms cutoff ts b)
  unfolding insert_terms
  terms-inserted cutoff [] b h = near-refl p b.work
  terms-inserted cutoff (t ∷ ts) b h = go (near_zero cutoff t.coefficient) (terms-inserted cutoff ts b h.1) (terms-inserted cutoff ts (insert_term t b) h.1)
    where
      go : (z : Bool) → At (length ts) b (insert_terms cutoff ts b) → At (length ts) (insert_term t b) (insert_terms cutoff ts (insert_term t b)) → At (suc (length ts)) b (insert_terms cutoff ts (elim z [ true ↦ b | false ↦ insert_term t b ]))
      go true a c = near-then p (near-refl p b.work) a (omega arith)
      go false a c = near-then p (term-inserted t b h.0) c (omega arith)

  -- ---- the tag

  symbol-added : (s : Symbol) (k : Float) (b : Building) → At 1 b (add_symbol s k b)
  unfolding add_symbol
  symbol-added s k b = near-then p (appended s b) (inserted s.id k (append_to s b)) (omega arith)

  error-added : (s : Symbol) (k strength : Float) (b : Building) → At 1 b (add_error s k strength b)
  unfolding add_error
  error-added s k strength b = near-then p (symbol-added s k b) (objective (add_symbol s k b).work) (omega arith)
    where
      objective : (w : Work) → Near p 0 w (insert_in_objective s.id strength w)
      objective w = unfold insert_in_objective marking with_objective with_tableau in near_same p w (insert_in_objective s.id strength w) refl refl refl

  abbrev Tagged : Building → Created → Type 0
  Tagged b c = Near p 2 b.work c.work

  inequality-tagged : (sign strength : Float) (b : Building) → Tagged b (inequality sign strength b)
  unfolding inequality tagged
  inequality-tagged sign strength b = go (lt strength required)
    where
      slack : Symbol
      slack = new_symbol Slack b.work

      b₁ : Building
      b₁ = add_symbol slack sign b

      error : Symbol
      error = new_symbol Error b₁.work

      go : (z : Bool) → Tagged b (elim z [ true ↦ tagged slack (some error) (add_error error (neg sign) strength b₁) | false ↦ tagged slack none b₁ ])
      go true = near-then p (symbol-added slack sign b) (error-added error (neg sign) strength b₁) (omega arith)
      go false = near-then p (symbol-added slack sign b) (near-refl p b₁.work) (omega arith)

  equality-tagged : (strength : Float) (b : Building) → (z : Bool) → Tagged b (elim z [ true ↦ soft_equality strength b | false ↦ required_equality b ])
  unfolding soft_equality required_equality tagged
  equality-tagged strength b true = near-then p (error-added _ minus_one64 strength b) (error-added _ one64 strength _) (omega arith)
  equality-tagged strength b false = near-then p (symbol-added _ one64 b) (near-refl p _) (omega arith)

  tag-added : (r : Relation) (b : Building) → Tagged b (add_tag r b)
  unfolding add_tag
  tag-added (at_most s) b = inequality-tagged one64 s b
  tag-added (at_least s) b = inequality-tagged minus_one64 s b
  tag-added (equal s) b = equality-tagged s b (lt s required)

  row-created : (ts : List Term) (constant : Float) (r : Relation) (w : Work) → All TermNamed ts → Near p (length ts + 2) w (create_row ts constant r w).work
  unfolding create_row
  row-created ts constant r w h = go (below_zero c.row.constant)
    where
      start : Building
      start = record { work = w; row = record { constant = constant; cells = map (λ _. zero64) w.tableau.symbols } }

      c : Created
      c = add_tag r (insert_terms w.tableau.cutoff ts start)

      made : Near p (length ts + 2) w c.work
      made = near-then p (terms-inserted w.tableau.cutoff ts start h) (tag-added r (insert_terms w.tableau.cutoff ts start)) (omega arith)

      go : (z : Bool) → Near p (length ts + 2) w (elim z as (λ _. Created) [ false ↦ c | true ↦ record { work = c.work; row = reverse_sign c.row; tag = c.tag } ]).work
      go true = made
      go false = made

  -- ---- with a subject, with a temporary

  subject-added : (s : Symbol) (c : Created) → Ends (Near p 1 c.work) (add_with_subject s c)
  unfolding add_with_subject
  subject-added s c = check-ends (Near p 1 c.work) _ (λ _. near-then p (near_on p (near-frame p (mark-frame _ c.work)) (near-frame p (enter-frame s _ (marking _ c.work)))) (near-refl p _) (omega arith))

  stood : (t : Symbol) (b : Building) → Near p 1 b.work (stand_temporary t b)
  unfolding stand_temporary with_artificial with_rows with_tableau append_to append_symbol
  stood t b = record { next = omega arith; numbers = λ h. h }

  temporary-gone : (t : Symbol) (w : Work) → Ends (Near p 0 w) (remove_temporary t w)
  unfolding remove_temporary refuse
  temporary-gone t w = go (find_row t.id w.tableau.rows)
    where
      pivots : Option Symbol → Outcome Work
      pivots o = elim o [ none ↦ refused 12 w.pivots w.mark | some e ↦ check_finite (pivot t.id e w) >>= λ v. going (purge t.id v) ]

      by : (o : Option Symbol) → Ends (Near p 0 w) (pivots o)
      by none = tt
      by (some e) =
          ends-bind (Near p 0 w) (Near p 0 w) (check_finite (pivot t.id e w)) (λ v. going (purge t.id v))
          (check-ends (Near p 0 w) (pivot t.id e w) (λ _. near-frame p (pivot-frame t.id e w))) (λ v a. near_on p a (purged p t.id v))

      empty : (z : Bool) (o : Option Symbol) → Ends (Near p 0 w) (elim z [ true ↦ going (purge t.id w) | false ↦ pivots o ])
      empty true o = purged p t.id w
      empty false o = by o

      go : (o : Option Row) → Ends (Near p 0 w) (elim o [ none ↦ going (purge t.id w) | some r ↦ elim (is_empty_row r w) [ true ↦ going (purge t.id w) | false ↦ pivots (any_pivotable_symbol r w) ] ])
      go none = purged p t.id w
      go (some r) = empty (is_empty_row r w) (any_pivotable_symbol r w)

  copy-gone : (w : Work) → Near p 0 w (with_artificial none w)
  unfolding with_artificial
  copy-gone w = near_same p w (with_artificial none w) refl refl refl

  artificial-added : (budget : ℕ) (c : Created) → Ends (Near p 1 c.work) (add_with_artificial_variable budget c)
  unfolding add_with_artificial_variable refuse
  artificial-added budget c =
      ends-bind (Near p 0 standing) (Near p 1 c.work) (optimise (budget - standing.pivots) the_artificial standing)
      (λ w. elim (artificial_constant_near_zero w) [ false ↦ refused 12 w.pivots w.mark | true ↦ remove_temporary t (with_artificial none w) ])
      (optimise-near p (budget - standing.pivots) the_artificial standing) (λ w a. go w a (artificial_constant_near_zero w))
    where
      t : Symbol
      t = new_symbol Slack c.work

      standing : Work
      standing = stand_temporary t (record { work = c.work; row = c.row })

      go : (w : Work) → Near p 0 standing w → (z : Bool) → Ends (Near p 1 c.work) (elim z [ false ↦ refused 12 w.pivots w.mark | true ↦ remove_temporary t (with_artificial none w) ])
      go w a false = tt
      go w a true =
          ends-to (Near p 0 (with_artificial none w)) (Near p 1 c.work) (remove_temporary t (with_artificial none w)) (temporary-gone t (with_artificial none w))
          (λ u b. near-then p (stood t (record { work = c.work; row = c.row })) (near_on p a (near_on p (copy-gone w) b)) (omega arith))

  created-added : (budget : ℕ) (c : Created) → Ends (Near p 1 c.work) (add_created budget c)
  unfolding add_created refuse
  created-added budget c = go (choose_subject c)
    where
      dummies : Bool → Bool → Outcome Work
      dummies d z = elim d [ false ↦ add_with_artificial_variable budget c | true ↦ elim z [ false ↦ refused 12 c.work.pivots c.work.mark | true ↦ add_with_subject c.tag.marker c ] ]

      by : (d z : Bool) → Ends (Near p 1 c.work) (dummies d z)
      by false z = artificial-added budget c
      by true false = tt
      by true true = subject-added c.tag.marker c

      go : (o : Option Symbol) → Ends (Near p 1 c.work) (elim o [ some s ↦ add_with_subject s c | none ↦ dummies (all_dummies c) (near_zero c.work.tableau.cutoff c.row.constant) ])
      go (some s) = subject-added s c
      go none = by (all_dummies c) (near_zero c.work.tableau.cutoff c.row.constant)

  pub add-near : (budget : ℕ) (ts : List Term) (constant : Float) (r : Relation) (w : Work) → All TermNamed ts → Ends (λ (a : Added). Near p (length ts + 3) w a.work) (add_steps budget ts constant r w)
  unfolding add_steps
  add-near budget ts constant r w h =
      ends-bind N (λ (a : Added). N a.work) (check_finite c.work >>= (λ _. add_created budget c) >>= (λ v. optimise (budget - v.pivots) the_objective v)) (λ v. going (record { work = v; tag = c.tag }))
      (ends-bind N N (check_finite c.work >>= (λ _. add_created budget c)) (λ v. optimise (budget - v.pivots) the_objective v)
      (ends-bind (λ _. Unit {0}) N (check_finite c.work) (λ _. add_created budget c) (check-ends (λ _. Unit {0}) c.work (λ _. tt))
      (λ _ _. ends-to (Near p 1 c.work) N (add_created budget c) (created-added budget c) (λ v a. near-then p made a (omega arith))))
      (λ v a. ends-to (Near p 0 v) N (optimise (budget - v.pivots) the_objective v) (optimise-near p (budget - v.pivots) the_objective v) (λ u b. near-then p a b (omega arith))))
      (λ v a. a)
    where
      c : Created
      c = create_row ts constant r (marking (whole_if (whole_inputs ts constant r)) w)

      N : Work → Type 0
      N = Near p (length ts + 3) w

      made : Near p (length ts + 2) w c.work
      made = near_on p (near-frame p (mark-frame (whole_if (whole_inputs ts constant r)) w)) (row-created ts constant r (marking (whole_if (whole_inputs ts constant r)) w) h)
