-- No step of an add writes a cell that is -0.0. Assumes nothing.
use Rattle.std.specs.Prelude.{List, [], ◌∷◌, map, Bool, false, ℕ, ◌-◌, Float}
use Rattle.std.proofs.Math.Option.{Option, none, some}
use Rattle.std.proofs.Math.Bool.{true}
use Rattle.std.specs.Float.Ieee.{lt, neg}
use Rattle.steps.specs.Number.{zero64, one64, minus_one64, near_zero, below_zero, Mark, whole_if}
use Rattle.steps.specs.Strength.{required}
use Rattle.steps.specs.Symbol.{External, Slack, Error, Dummy, Symbol}
use Rattle.steps.specs.Row.{Row, Written, insert_symbol_in_row, insert_row, solve_for_symbol, reverse_sign}
use Rattle.steps.specs.State.{Term, Relation, at_most, equal, at_least, Variable}
use Rattle.steps.specs.Work.{Work, going, ◌>>=◌, refuse, check_finite, with_tableau, with_changes, with_artificial, with_rows, with_objective, marking, find_row, new_symbol, purge}
use Rattle.steps.specs.Changes.{find_variable}
use Rattle.steps.specs.Substitute.{enter_basis, pivot}
use Rattle.steps.specs.Optimise.{optimise, the_objective, the_artificial}
use Rattle.steps.specs.CreateRow.{Building, written, append_to, insert_into, with_variables, add_variable, count_use, use_once, insert_variable, insert_term, insert_terms, Created, tagged, add_symbol, insert_in_objective, add_error, inequality, soft_equality, required_equality, add_tag, create_row, choose_subject, all_dummies}
use Rattle.steps.specs.Artificial.{any_pivotable_symbol, is_empty_row, stand_temporary, remove_temporary, artificial_constant_near_zero, add_with_artificial_variable}
use Rattle.steps.specs.Add.{whole_inputs, add_with_subject, add_created, Added, add_steps}
use Rattle.keeps.specs.Passes.{Ends, ends-bind}
use Rattle.sparse_test.specs.zeros.Plain.{PlainRow, PlainWork, zeros-plain, symbol-in-plain, insert-row-plain, solve-plain, append-plain, reverse-plain, keep-plain, enter-plain, pivot-plain, append-work-plain, purge-plain, checked-plain, optimise-plain}

-- ---- what leaves the rows as they are

pub marked : (m : Mark) (w : Work) → PlainWork w → PlainWork (marking m w)
unfolding marking
marked m w h = record { rows = h.rows; artificial = h.artificial }

pub revalued : (vs : List Variable) (w : Work) → PlainWork w → PlainWork (with_variables vs w)
unfolding with_variables with_changes
revalued vs w h = record { rows = h.rows; artificial = h.artificial }

pub aimed : (os : List Float) (w : Work) → PlainWork w → PlainWork (with_objective os w)
unfolding with_objective with_tableau
aimed os w h = record { rows = h.rows; artificial = h.artificial }

-- ---- a row that is built

pub record PlainBuilding (b : Building) : Type 0 where
  pub work : PlainWork b.work
  pub row : PlainRow b.row

pub record PlainCreated (c : Created) : Type 0 where
  pub work : PlainWork c.work
  pub row : PlainRow c.row

written-plain : (r : Written) (w : Work) → PlainRow r.row → PlainWork w → PlainBuilding (written r w)
unfolding written
written-plain r w p h = record { work = marked r.mark w h; row = p }

append-to-plain : (s : Symbol) (b : Building) → PlainBuilding b → PlainBuilding (append_to s b)
unfolding append_to
append-to-plain s b h = record { work = append-work-plain s b.work h.work; row = append-plain b.row h.row }

insert-into-plain : (s : ℕ) (k : Float) (b : Building) → PlainBuilding b → PlainBuilding (insert_into s k b)
unfolding insert_into
insert-into-plain s k b h = written-plain (insert_symbol_in_row b.work.tableau.cutoff s k b.work.tableau.symbols b.row) b.work (symbol-in-plain b.work.tableau.cutoff s k b.work.tableau.symbols b.row h.row) h.work

add-variable-plain : (n : ℕ) (b : Building) → PlainBuilding b → PlainBuilding (add_variable n b)
unfolding add_variable
add-variable-plain n b h =
    let g = append-to-plain (new_symbol External b.work) b h in
    record { work = revalued _ (append_to (new_symbol External b.work) b).work g.work; row = g.row }

count-use-plain : (n : ℕ) (b : Building) → PlainBuilding b → PlainBuilding (count_use n b)
unfolding count_use
count-use-plain n b h = record { work = revalued (map (use_once n) b.work.changes.variables) b.work h.work; row = h.row }

insert-variable-plain : (s : Symbol) (k : Float) (b : Building) → PlainBuilding b → PlainBuilding (insert_variable s k b)
unfolding insert_variable
insert-variable-plain s k b h = go (find_row s.id b.work.tableau.rows)
  where
    go : (o : Option Row) → PlainBuilding (elim o [ none ↦ insert_into s.id k b | some r ↦ written (insert_row b.work.tableau.cutoff r k b.row) b.work ])
    go none = insert-into-plain s.id k b h
    go (some r) = written-plain (insert_row b.work.tableau.cutoff r k b.row) b.work (insert-row-plain b.work.tableau.cutoff r k b.row h.row) h.work

insert-term-plain : (t : Term) (b : Building) → PlainBuilding b → PlainBuilding (insert_term t b)
unfolding insert_term
insert-term-plain t b h = by (find_variable n used.work.changes.variables)
  where
    n : ℕ
    n = t.variable

    known : Building
    known = elim (find_variable n b.work.changes.variables) [ none ↦ add_variable n b | some v ↦ b ]

    known-plain : PlainBuilding known
    known-plain = go (find_variable n b.work.changes.variables)
      where
        go : (o : Option Variable) → PlainBuilding (elim o [ none ↦ add_variable n b | some v ↦ b ])
        go none = add-variable-plain n b h
        go (some v) = h

    used : Building
    used = count_use n known

    used-plain : PlainBuilding used
    used-plain = count-use-plain n known known-plain

    by : (o : Option Variable) → PlainBuilding (elim o [ none ↦ used | some v ↦ insert_variable v.symbol t.coefficient used ])
    by none = used-plain
    by (some v) = insert-variable-plain v.symbol t.coefficient used used-plain

insert-terms-plain : (u : Float) (ts : List Term) (b : Building) → PlainBuilding b → PlainBuilding (insert_terms u ts b)
unfolding insert_terms
insert-terms-plain u [] b h = h
insert-terms-plain u (t ∷ ts) b h = insert-terms-plain u ts (elim (near_zero u t.coefficient) [ true ↦ b | false ↦ insert_term t b ]) (go (near_zero u t.coefficient))
  where
    go : (z : Bool) → PlainBuilding (elim z [ true ↦ b | false ↦ insert_term t b ])
    go true = h
    go false = insert-term-plain t b h

tagged-plain : (m : Symbol) (o : Option Symbol) (b : Building) → PlainBuilding b → PlainCreated (tagged m o b)
unfolding tagged
tagged-plain m o b h = record { work = h.work; row = h.row }

add-symbol-plain : (s : Symbol) (k : Float) (b : Building) → PlainBuilding b → PlainBuilding (add_symbol s k b)
unfolding add_symbol
add-symbol-plain s k b h = insert-into-plain s.id k (append_to s b) (append-to-plain s b h)

pub objective-plain : (s : ℕ) (k : Float) (w : Work) → PlainWork w → PlainWork (insert_in_objective s k w)
unfolding insert_in_objective
objective-plain s k w h = marked _ _ (aimed _ w h)

add-error-plain : (s : Symbol) (k x : Float) (b : Building) → PlainBuilding b → PlainBuilding (add_error s k x b)
unfolding add_error
add-error-plain s k x b h = let a = add-symbol-plain s k b h in record { work = objective-plain s.id x (add_symbol s k b).work a.work; row = a.row }

inequality-plain : (sign x : Float) (b : Building) → PlainBuilding b → PlainCreated (inequality sign x b)
unfolding inequality
inequality-plain sign x b h = go (lt x required)
  where
    slack : Symbol
    slack = new_symbol Slack b.work

    b₁ : Building
    b₁ = add_symbol slack sign b

    h₁ : PlainBuilding b₁
    h₁ = add-symbol-plain slack sign b h

    error : Symbol
    error = new_symbol Error b₁.work

    go : (z : Bool) → PlainCreated (elim z [ true ↦ tagged slack (some error) (add_error error (neg sign) x b₁) | false ↦ tagged slack none b₁ ])
    go true = tagged-plain slack (some error) (add_error error (neg sign) x b₁) (add-error-plain error (neg sign) x b₁ h₁)
    go false = tagged-plain slack none b₁ h₁

soft-plain : (x : Float) (b : Building) → PlainBuilding b → PlainCreated (soft_equality x b)
unfolding soft_equality
soft-plain x b h =
    let plus : Symbol = new_symbol Error b.work in
    let b₁ : Building = add_error plus minus_one64 x b in
    let minus : Symbol = new_symbol Error b₁.work in
    tagged-plain plus (some minus) (add_error minus one64 x b₁) (add-error-plain minus one64 x b₁ (add-error-plain plus minus_one64 x b h))

required-plain : (b : Building) → PlainBuilding b → PlainCreated (required_equality b)
unfolding required_equality
required-plain b h = let dummy : Symbol = new_symbol Dummy b.work in tagged-plain dummy none (add_symbol dummy one64 b) (add-symbol-plain dummy one64 b h)

add-tag-plain : (r : Relation) (b : Building) → PlainBuilding b → PlainCreated (add_tag r b)
unfolding add_tag
add-tag-plain (at_most x) b h = inequality-plain one64 x b h
add-tag-plain (at_least x) b h = inequality-plain minus_one64 x b h
add-tag-plain (equal x) b h = go (lt x required)
  where
    go : (z : Bool) → PlainCreated (elim z [ true ↦ soft_equality x b | false ↦ required_equality b ])
    go true = soft-plain x b h
    go false = required-plain b h

create-plain : (ts : List Term) (k : Float) (r : Relation) (w : Work) → PlainWork w → PlainCreated (create_row ts k r w)
unfolding create_row
create-plain ts k r w h = go (below_zero c.row.constant)
  where
    bare : Row
    bare = record { constant = k; cells = map (λ _. zero64) w.tableau.symbols }

    c : Created
    c = add_tag r (insert_terms w.tableau.cutoff ts (record { work = w; row = bare }))

    p : PlainCreated c
    p = add-tag-plain r (insert_terms w.tableau.cutoff ts (record { work = w; row = bare })) (insert-terms-plain w.tableau.cutoff ts (record { work = w; row = bare }) (record { work = h; row = zeros-plain w.tableau.symbols }))

    go : (z : Bool) → PlainCreated (elim z [ false ↦ c | true ↦ record { work = c.work; row = reverse_sign c.row; tag = c.tag } ])
    go false = p
    go true = record { work = p.work; row = reverse-plain c.row }

-- ---- Add's steps

stand-plain : (t : Symbol) (b : Building) → PlainBuilding b → PlainWork (stand_temporary t b)
unfolding stand_temporary with_artificial with_rows with_tableau
stand-plain t b h =
    let g = append-to-plain t b h in
    record { rows = keep-plain (record { symbol = t; row = (append_to t b).row }) (append_to t b).work.tableau.rows g.row g.work.rows; artificial = g.row }

gone-plain : (s : ℕ) (w : Work) → PlainWork w → Ends PlainWork (going (purge s w))
gone-plain s w h = purge-plain s w h

remove-temporary-plain : (t : Symbol) (w : Work) → PlainWork w → Ends PlainWork (remove_temporary t w)
unfolding remove_temporary
remove-temporary-plain t w h = go (find_row t.id w.tableau.rows)
  where
    picked : (o : Option Symbol) → Ends PlainWork (elim o [ none ↦ refuse 12 w | some e ↦ check_finite (pivot t.id e w) >>= λ v. going (purge t.id v) ])
    picked none = unfold refuse in tt
    picked (some e) = ends-bind PlainWork PlainWork (check_finite (pivot t.id e w)) (λ v. going (purge t.id v)) (checked-plain (pivot t.id e w) (pivot-plain t.id e w h)) (λ v p. gone-plain t.id v p)

    by : (r : Row) (z : Bool)
        → Ends PlainWork (elim z [ true ↦ going (purge t.id w) | false ↦ elim (any_pivotable_symbol r w) [ none ↦ refuse 12 w | some e ↦ check_finite (pivot t.id e w) >>= λ v. going (purge t.id v) ] ])
    by r true = gone-plain t.id w h
    by r false = picked (any_pivotable_symbol r w)

    go : (o : Option Row)
        → Ends PlainWork (elim o [ none ↦ going (purge t.id w) | some r ↦ elim (is_empty_row r w) [ true ↦ going (purge t.id w) | false ↦ elim (any_pivotable_symbol r w) [ none ↦ refuse 12 w | some e ↦ check_finite (pivot t.id e w) >>= λ v. going (purge t.id v) ] ] ])
    go none = gone-plain t.id w h
    go (some r) = by r (is_empty_row r w)

artificial-plain : (budget : ℕ) (c : Created) → PlainCreated c → Ends PlainWork (add_with_artificial_variable budget c)
unfolding add_with_artificial_variable
artificial-plain budget c h =
    ends-bind PlainWork PlainWork (optimise (budget - standing.pivots) the_artificial standing)
    (λ w. elim (artificial_constant_near_zero w) [ false ↦ refuse 12 w | true ↦ remove_temporary t (with_artificial none w) ])
    (optimise-plain (budget - standing.pivots) the_artificial standing (stand-plain t (record { work = c.work; row = c.row }) (record { work = h.work; row = h.row })))
    (λ w p. by w p (artificial_constant_near_zero w))
  where
    t : Symbol
    t = new_symbol Slack c.work

    standing : Work
    standing = stand_temporary t (record { work = c.work; row = c.row })

    by : (w : Work) → PlainWork w → (z : Bool) → Ends PlainWork (elim z [ false ↦ refuse 12 w | true ↦ remove_temporary t (with_artificial none w) ])
    by w p false = unfold refuse in tt
    by w p true = remove-temporary-plain t (with_artificial none w) (unfold with_artificial in record { rows = p.rows; artificial = tt })

subject-plain : (s : Symbol) (c : Created) → PlainCreated c → Ends PlainWork (add_with_subject s c)
unfolding add_with_subject
subject-plain s c h =
    let solved : Written = solve_for_symbol s.id c.work.tableau.symbols c.row in
    checked-plain (enter_basis s solved.row (marking solved.mark c.work))
    (enter-plain s solved.row (marking solved.mark c.work) (solve-plain s.id c.work.tableau.symbols c.row h.row) (marked solved.mark c.work h.work))

created-plain : (budget : ℕ) (c : Created) → PlainCreated c → Ends PlainWork (add_created budget c)
unfolding add_created
created-plain budget c h = go (choose_subject c)
  where
    near : (z : Bool) → Ends PlainWork (elim z [ false ↦ refuse 12 c.work | true ↦ add_with_subject c.tag.marker c ])
    near false = unfold refuse in tt
    near true = subject-plain c.tag.marker c h

    by : (z : Bool) → Ends PlainWork (elim z [ false ↦ add_with_artificial_variable budget c | true ↦ elim (near_zero c.work.tableau.cutoff c.row.constant) [ false ↦ refuse 12 c.work | true ↦ add_with_subject c.tag.marker c ] ])
    by false = artificial-plain budget c h
    by true = near (near_zero c.work.tableau.cutoff c.row.constant)

    go : (o : Option Symbol)
        → Ends PlainWork (elim o [ some s ↦ add_with_subject s c | none ↦ elim (all_dummies c) [ false ↦ add_with_artificial_variable budget c | true ↦ elim (near_zero c.work.tableau.cutoff c.row.constant) [ false ↦ refuse 12 c.work | true ↦ add_with_subject c.tag.marker c ] ] ])
    go (some s) = subject-plain s c h
    go none = by (all_dummies c)

pub add-steps-plain : (budget : ℕ) (ts : List Term) (k : Float) (r : Relation) (w : Work) → PlainWork w → Ends (λ (a : Added). PlainWork a.work) (add_steps budget ts k r w)
unfolding add_steps
add-steps-plain budget ts k r w h =
    ends-bind PlainWork (λ (a : Added). PlainWork a.work) (check_finite c.work >>= (λ _. add_created budget c) >>= (λ v. optimise (budget - v.pivots) the_objective v))
    (λ v. going (record { work = v; tag = c.tag }))
    (ends-bind PlainWork PlainWork (check_finite c.work >>= (λ _. add_created budget c)) (λ v. optimise (budget - v.pivots) the_objective v)
    (ends-bind PlainWork PlainWork (check_finite c.work) (λ _. add_created budget c) (checked-plain c.work p.work) (λ v q. created-plain budget c p))
    (λ v q. optimise-plain (budget - v.pivots) the_objective v q))
    (λ v q. q)
  where
    c : Created
    c = create_row ts k r (marking (whole_if (whole_inputs ts k r)) w)

    p : PlainCreated c
    p = create-plain ts k r (marking (whole_if (whole_inputs ts k r)) w) (marked (whole_if (whole_inputs ts k r)) w h)
