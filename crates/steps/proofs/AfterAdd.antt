-- The same of Add's steps 1 to 3 and of the temporary's standing. Assumes nothing.
use Prim.Native.Nat.{ℕ}
use mathlib.Core.Path.{◌≡◌, refl}
use mathlib.Core.Bool.{Bool, true, false}
use mathlib.Core.List.{List, [], ◌∷◌}
use mathlib.Core.Option.{Option, none, some}
use lib.Ieee.{Float, lt, eq, ne, neg}
use Rattle.steps.specs.Number.{one64, minus_one64, near_zero, below_zero}
use Rattle.steps.specs.Strength.{required}
use Rattle.steps.specs.Symbol.{Symbol}
use Rattle.steps.specs.Row.{Row, Written, reverse_sign}
use Rattle.steps.specs.State.{Term, Relation, at_most, equal, at_least, Variable}
use Rattle.steps.specs.Work.{Work, with_tableau, with_changes, marking, with_objective, find_row}
use Rattle.steps.specs.Changes.{find_variable, never_reported}
use Rattle.steps.specs.CreateRow.{Building, Created, written, append_to, insert_into, with_variables, add_variable, use_once, count_use, insert_variable, insert_term, insert_terms, tagged, add_symbol, insert_in_objective, add_error, inequality, soft_equality, required_equality, add_tag, create_row}
use Rattle.steps.specs.Artificial.{stand_temporary}
use Rattle.steps.proofs.Told.{told_as, reported_count, shed-refl, same-shed, told-map, count_map, told-keep, count-keep}
use Rattle.steps.proofs.After.{After, after-refl, after-trans, worse-first, same, marking-after, rows-after, artificial-after, append-after}

-- the same of the work beside a row
abbrev Builds : Building → Building → Type 0
Builds b c = After b.work c.work

abbrev Creates : Work → Created → Type 0
Creates w c = After w c.work

written_after : (r : Written) (w : Work) → After w (written r w).work
unfolding written
written_after r w = marking-after r.mark w

append_to-after : (s : Symbol) (b : Building) → After b.work (append_to s b).work
unfolding append_to
append_to-after s b = append-after s b.work

into-after : (s : ℕ) (k : Float) (b : Building) → After b.work (insert_into s k b).work
unfolding insert_into
into-after s k b = written_after _ b.work

-- other variables, of which the same was told
variables-after : (vs : List Variable) (w : Work) → ((n : ℕ) → told_as n vs ≡ told_as n w.changes.variables) → reported_count vs ≡ reported_count w.changes.variables → After w (with_variables vs w)
unfolding with_variables with_changes
variables-after vs w t k = same w (with_variables vs w) refl refl refl (same-shed w.changes vs w.changes.should_clear t k)

-- one that comes has not been reported
add_variable-after : (n : ℕ) (b : Building) → After b.work (add_variable n b).work
unfolding add_variable never_reported ne eq
add_variable-after n b = after-trans (append_to-after _ b) (variables-after _ _ (λ m. told-keep m _ _ refl) (count-keep _ _ refl))

count_use-after : (n : ℕ) (b : Building) → After b.work (count_use n b).work
unfolding count_use use_once
count_use-after n b = variables-after _ b.work (λ m. told-map (use_once n) (λ v. refl) (λ v. refl) m _) (count_map (use_once n) (λ v. refl) (λ v. refl) _)

insert_variable-after : (s : Symbol) (k : Float) (b : Building) → After b.work (insert_variable s k b).work
unfolding insert_variable
insert_variable-after s k b = go (find_row s.id b.work.tableau.rows) refl
  where
    go : (o : Option Row) → find_row s.id b.work.tableau.rows ≡ o → After b.work (insert_variable s k b).work
    go none e = rw (e, insert_variable) (into-after s.id k b)
    go (some r) e = rw (e, insert_variable) (written_after _ b.work)

-- the variable is live from here on
known-after : (n : ℕ) (b : Building) (o : Option Variable) → Builds b (elim o [ none ↦ add_variable n b | some v ↦ b ])
known-after n b none = add_variable-after n b
known-after n b (some v) = after-refl b.work

used-after : (k : Float) (b : Building) (o : Option Variable) → Builds b (elim o [ none ↦ b | some v ↦ insert_variable v.symbol k b ])
used-after k b none = after-refl b.work
used-after k b (some v) = insert_variable-after v.symbol k b

insert_term-after : (t : Term) (b : Building) → After b.work (insert_term t b).work
unfolding insert_term
insert_term-after t b =
    after-trans (known-after t.variable b (find_variable t.variable b.work.changes.variables))
    (after-trans (count_use-after t.variable _) (used-after t.coefficient _ (find_variable t.variable _)))

-- a term, or nothing where it is skipped
term-after : (t : Term) (b : Building) (skipped : Bool) → Builds b (elim skipped [ true ↦ b | false ↦ insert_term t b ])
term-after t b true = after-refl b.work
term-after t b false = insert_term-after t b

insert_terms-after : (cutoff : Float) (ts : List Term) (b : Building) → After b.work (insert_terms cutoff ts b).work
unfolding insert_terms
insert_terms-after cutoff [] b = after-refl b.work
insert_terms-after cutoff (t ∷ ts) b = after-trans (term-after t b (near_zero cutoff t.coefficient)) (insert_terms-after cutoff ts _)

add_symbol-after : (s : Symbol) (k : Float) (b : Building) → After b.work (add_symbol s k b).work
unfolding add_symbol
add_symbol-after s k b = after-trans (append_to-after s b) (into-after s.id k _)

pub objective-after : (s : ℕ) (k : Float) (w : Work) → After w (insert_in_objective s k w)
unfolding insert_in_objective with_objective with_tableau marking
objective-after s k w = record { pivots = refl; mark = worse-first w.mark _; cutoff = refl; told = shed-refl w.changes }

add_error-after : (s : Symbol) (k strength : Float) (b : Building) → After b.work (add_error s k strength b).work
unfolding add_error
add_error-after s k strength b = after-trans (add_symbol-after s k b) (objective-after s.id strength _)

inequality-after : (sign strength : Float) (b : Building) → After b.work (inequality sign strength b).work
unfolding inequality tagged
inequality-after sign strength b = go (lt strength required) refl
  where
    go : (o : Bool) → lt strength required ≡ o → After b.work (inequality sign strength b).work
    go true e = rw (e, inequality) (after-trans (add_symbol-after _ sign b) (add_error-after _ (neg sign) strength _))
    go false e = rw (e, inequality) (add_symbol-after _ sign b)

equality-after : (strength : Float) (b : Building) (o : Bool) → Creates b.work (elim o [ true ↦ soft_equality strength b | false ↦ required_equality b ])
unfolding soft_equality required_equality tagged
equality-after strength b true = after-trans (add_error-after _ minus_one64 strength b) (add_error-after _ one64 strength _)
equality-after strength b false = add_symbol-after _ one64 b

add_tag-after : (r : Relation) (b : Building) → After b.work (add_tag r b).work
unfolding add_tag
add_tag-after (at_most s) b = inequality-after one64 s b
add_tag-after (at_least s) b = inequality-after minus_one64 s b
add_tag-after (equal s) b = equality-after s b (lt s required)

pub create_row-after : (ts : List Term) (k : Float) (r : Relation) (w : Work) → After w (create_row ts k r w).work
unfolding create_row
create_row-after ts k r w = after-trans (after-trans (insert_terms-after w.tableau.cutoff ts _) (add_tag-after r _)) (reversed _ (below_zero _))
  where
    reversed : (c : Created) (o : Bool) → Creates c.work (elim o [ false ↦ c | true ↦ record { work = c.work; row = reverse_sign c.row; tag = c.tag } ])
    reversed c false = after-refl c.work
    reversed c true = after-refl c.work

pub stand_temporary-after : (t : Symbol) (b : Building) → After b.work (stand_temporary t b)
unfolding stand_temporary
stand_temporary-after t b = after-trans (append_to-after t b) (after-trans (rows-after _ _) (artificial-after _ _))
