-- The steps after a row's creation leave the symbols as they were: a pass moves none, and the temporary goes as it came.
-- Assumes nothing.
use Rattle.std.specs.Prelude.{ℕ, zero, suc, ◌-◌, ◌<◌, ◌≡◌, refl, Bool, List, [], ◌∷◌, ◌++◌, eqb}
use Rattle.std.proofs.Math.Path.{ap}
use Rattle.std.proofs.Common.{◌∙◌, sym, subst, arith, eq-eqb, ne_eqb}
use Rattle.std.proofs.Math.Bool.{true, false}
use Rattle.std.proofs.Math.Option.{Option, none, some}
use Rattle.steps.specs.Number.{near_zero}
use Rattle.steps.specs.Symbol.{Slack, Symbol, is_symbol, delete_symbol}
use Rattle.steps.specs.Row.{Row, Written, solve_for_symbol}
use Rattle.steps.specs.Work.{Work, Outcome, going, ◌>>=◌, refuse, check_finite, with_tableau, with_artificial, marking, count_pivot, find_row, new_symbol, purge}
use Rattle.steps.specs.CreateRow.{Created, choose_subject, all_dummies}
use Rattle.steps.specs.Substitute.{enter_basis, pivot}
use Rattle.steps.specs.Optimise.{Goal, Choice, ended, stuck, pivot_on, the_artificial, the_objective, choose_pivot, counted_pivot, optimise}
use Rattle.steps.specs.Artificial.{any_pivotable_symbol, is_empty_row, stand_temporary, remove_temporary, artificial_constant_near_zero, add_with_artificial_variable}
use Rattle.steps.specs.Add.{add_with_subject, add_created}
use Rattle.keeps.specs.Lists.{All}
use Rattle.keeps.specs.Frame.{frame-trans, mark-frame, enter-frame, pivot-frame}
use Rattle.keeps.specs.Passes.{Ends, ends-bind, ends-to, check-ends}
use Rattle.rows.specs.Marks.{mark_of}
use Rattle.sparse.specs.Sparse.{Sparse, symbols_of}
use Rattle.waist.specs.Ending.{Ended, outcome_of, is-going}
use Rattle.addition.specs.Symbols.{symbols-are, stood-symbols}

abbrev pub Kept : Work → Work → Type 0
Kept w v = v.tableau.symbols ≡ w.tableau.symbols

checked-kept : (w v : Work) → Kept w v → Ends (Kept w) (check_finite v)
checked-kept w v k = check-ends (Kept w) v (λ _. k)

counted-kept : (l e : Symbol) (w : Work) → Ends (Kept w) (counted_pivot l e w)
unfolding counted_pivot
counted-kept l e w =
    ends-bind (Kept w) (Kept w) (check_finite (pivot l.id e w)) (λ v. going (count_pivot v)) (checked-kept w (pivot l.id e w) (pivot-frame l.id e w).symbols) (λ v k. unfold count_pivot in k)

turn-kept : (w : Work) (next : Work → Outcome Work) → ((v : Work) → Ends (Kept v) (next v)) → (c : Choice)
    → Ends (Kept w) (elim c [ ended ↦ going w | stuck ↦ refuse 15 w | pivot_on l e ↦ counted_pivot l e w >>= next ])
unfolding refuse
turn-kept w next f ended = refl
turn-kept w next f stuck = tt
turn-kept w next f (pivot_on l e) =
    ends-bind (Kept w) (Kept w) (counted_pivot l e w) next (counted-kept l e w) (λ v k. ends-to (Kept v) (Kept w) (next v) (f v) (λ u m. m ∙ k))

last-kept : (w : Work) (c : Choice) → Ends (Kept w) (elim c [ ended ↦ going w | stuck ↦ refuse 15 w | pivot_on l e ↦ refuse 14 w ])
unfolding refuse
last-kept w ended = refl
last-kept w stuck = tt
last-kept w (pivot_on l e) = tt

pub optimise-kept : (left : ℕ) (g : Goal) (w : Work) → Ends (Kept w) (optimise left g w)
unfolding optimise
optimise-kept zero g w = last-kept w (choose_pivot g w)
optimise-kept (suc left) g w = turn-kept w (λ v. optimise left g v) (λ v. optimise-kept left g v) (choose_pivot g w)

-- ---- the temporary comes and goes

delete-last : (s : Symbol) (xs : List Symbol) → All (λ (x : Symbol). x.id < s.id) xs → delete_symbol s.id (xs ++ (s ∷ [])) ≡ xs
unfolding delete_symbol is_symbol
delete-last s [] h = rw (eq-eqb s.id s.id refl, delete_symbol) refl
delete-last s (x ∷ xs) h = rw (ne_eqb s.id x.id (λ e. omega (arith, e, h.0)), delete_symbol) (ap (λ (l : List Symbol). x ∷ l) (delete-last s xs h.1))

module _ (s : Symbol) (xs : List Symbol) (under : All (λ (x : Symbol). x.id < s.id) xs) where
  abbrev Gone : Work → Type 0
  Gone v = v.tableau.symbols ≡ xs

  purged : (v : Work) → v.tableau.symbols ≡ xs ++ (s ∷ []) → Gone (purge s.id v)
  unfolding purge with_tableau
  purged v e = ap (delete_symbol s.id) e ∙ delete-last s xs under

  abbrev pivoted : Work → Symbol → Outcome Work
  pivoted w e = check_finite (pivot s.id e w) >>= λ v. going (purge s.id v)

  removed-kept : (w : Work) → w.tableau.symbols ≡ xs ++ (s ∷ []) → Ends Gone (remove_temporary s w)
  unfolding remove_temporary refuse
  removed-kept w e = go (find_row s.id w.tableau.rows)
    where
      out : (o : Option Symbol) → Ends Gone (elim o [ none ↦ refuse 12 w | some x ↦ pivoted w x ])
      out none = tt
      out (some x) =
          ends-bind (Kept w) Gone (check_finite (pivot s.id x w)) (λ v. going (purge s.id v)) (checked-kept w (pivot s.id x w) (pivot-frame s.id x w).symbols) (λ v k. purged v (k ∙ e))

      by : (r : Row) (b : Bool) → Ends Gone (elim b [ true ↦ going (purge s.id w) | false ↦ elim (any_pivotable_symbol r w) [ none ↦ refuse 12 w | some x ↦ pivoted w x ] ])
      by r true = purged w e
      by r false = out (any_pivotable_symbol r w)

      go : (o : Option Row)
          → Ends Gone (elim o [ none ↦ going (purge s.id w) | some r ↦ elim (is_empty_row r w) [ true ↦ going (purge s.id w) | false ↦ elim (any_pivotable_symbol r w) [ none ↦ refuse 12 w | some x ↦ pivoted w x ] ] ])
      go none = purged w e
      go (some r) = by r (is_empty_row r w)

-- ---- a row created, with a subject or without

module _ (c : Created) (under : All (λ (x : Symbol). x.id < c.work.tableau.next_id) c.work.tableau.symbols) where
  subject-kept : (s : Symbol) → Ends (Kept c.work) (add_with_subject s c)
  unfolding add_with_subject
  subject-kept s = checked-kept c.work (enter_basis s solved.row w) (frame-trans (mark-frame solved.mark c.work) (enter-frame s solved.row w)).symbols
    where
      solved : Written
      solved = solve_for_symbol s.id c.work.tableau.symbols c.row

      w : Work
      w = marking solved.mark c.work

  artificial-kept : (budget : ℕ) → Ends (Kept c.work) (add_with_artificial_variable budget c)
  unfolding add_with_artificial_variable refuse
  artificial-kept budget =
      ends-bind (Kept standing) (Kept c.work) (optimise (budget - standing.pivots) the_artificial standing)
      (λ w. elim (artificial_constant_near_zero w) [ false ↦ refuse 12 w | true ↦ remove_temporary temporary (with_artificial none w) ])
      (optimise-kept (budget - standing.pivots) the_artificial standing) (λ w k. by w k (artificial_constant_near_zero w))
    where
      temporary : Symbol
      temporary = new_symbol Slack c.work

      standing : Work
      standing = stand_temporary temporary (record { work = c.work; row = c.row })

      by : (w : Work) → Kept standing w → (b : Bool) → Ends (Kept c.work) (elim b [ false ↦ refuse 12 w | true ↦ remove_temporary temporary (with_artificial none w) ])
      by w k false = tt
      by w k true = removed-kept temporary c.work.tableau.symbols (unfold new_symbol in under) (with_artificial none w) (unfold with_artificial in k ∙ stood-symbols temporary (record { work = c.work; row = c.row }))

  pub created-kept : (budget : ℕ) → Ends (Kept c.work) (add_created budget c)
  unfolding add_created refuse
  created-kept budget = go (choose_subject c)
    where
      by : (d z : Bool) → Ends (Kept c.work) (elim d [ false ↦ add_with_artificial_variable budget c | true ↦ elim z [ false ↦ refuse 12 c.work | true ↦ add_with_subject c.tag.marker c ] ])
      by false z = artificial-kept budget
      by true false = tt
      by true true = subject-kept c.tag.marker

      go : (o : Option Symbol)
          → Ends (Kept c.work) (elim o [ some s ↦ add_with_subject s c | none ↦ elim (all_dummies c) [ false ↦ add_with_artificial_variable budget c | true ↦ elim (near_zero c.work.tableau.cutoff c.row.constant) [ false ↦ refuse 12 c.work | true ↦ add_with_subject c.tag.marker c ] ] ])
      go (some s) = subject-kept s
      go none = by (all_dummies c) (near_zero c.work.tableau.cutoff c.row.constant)

  pub row_kept : (budget : ℕ) → Ends (Kept c.work) (check_finite c.work >>= (λ _. add_created budget c) >>= (λ v. optimise (budget - v.pivots) the_objective v))
  row_kept budget =
      ends-bind (Kept c.work) (Kept c.work) (check_finite c.work >>= (λ _. add_created budget c)) (λ v. optimise (budget - v.pivots) the_objective v)
      (ends-bind (Kept c.work) (Kept c.work) (check_finite c.work) (λ _. add_created budget c) (checked-kept c.work c.work refl) (λ _ k. created-kept budget))
      (λ v k. ends-to (Kept v) (Kept c.work) (optimise (budget - v.pivots) the_objective v) (optimise-kept (budget - v.pivots) the_objective v) (λ u m. m ∙ k))

-- ---- over tables

pub kept_at : (art : Bool) (x : Ended) (z : Sparse) (w : Work) (o : Outcome Work) → outcome_of art x z ≡ o → Ends (Kept w) o → eqb x.number 0 ≡ true → symbols_of z ≡ w.tableau.symbols
kept_at art x z w o q k on = sym (symbols-are art (mark_of x.wrote) x.pivots z) ∙ subst (Ends (Kept w)) (sym q ∙ is-going art x z on) k
