-- Add's first step, term by term: the tableau reads on, uses grow by the terms kept, and the variables by the new ones among them. Assumes nothing.
use Rattle.std.specs.Prelude.{◌≡◌, List, [], ◌∷◌, map, Bool, true, false, cond, ℕ, suc, ◌+◌, ◌≤◌, length, Float}
use Rattle.std.proofs.Math.Path.{refl}
use Rattle.std.proofs.Common.{sym, ap, ◌∙◌, subst, arith}
use Rattle.std.proofs.Math.Option.{Option, none, some}
use Rattle.std.proofs.lemmas.List.{length-map}
use Rattle.steps.specs.Number.{near_zero}
use Rattle.steps.specs.Symbol.{Symbol}
use Rattle.steps.specs.Row.{Row, insert_row}
use Rattle.steps.specs.State.{Term, Variable}
use Rattle.steps.specs.Work.{with_tableau, with_changes, marking, find_row, new_symbol, append_symbol}
use Rattle.steps.specs.Changes.{find_variable}
use Rattle.steps.specs.CreateRow.{Building, written, append_to, insert_into, with_variables, add_variable, use_once, count_use, insert_variable, insert_term, insert_terms}
use Rattle.steps.specs.Tests.{kept_terms, member, new_variables}
use Rattle.steps.specs.Readable.{uses_in}
use Rattle.keeps.specs.Lists.{Same?, is, isnt, same, same?, times, member-in, member-out, no_both}
use Rattle.keeps.specs.Keys.{find_none, find-times, keep-length, keep-times, keep_variable-is, find_variable-is}
use Rattle.keeps.specs.Uses.{var_number}
use Rattle.keeps.specs.Good.{numbers-map, good-to}
use Rattle.keeps.specs.Building.{Built, insert_variable-built, add_variable-built, once-vars, once-waits}

-- ---- is the variable n live
pub live-some : (n : ℕ) (vs : List Variable) (v : Variable) → find_variable n vs ≡ some v → 1 ≤ times n (map var_number vs)
live-some n vs v e = find-times var_number n vs v (sym (find_variable-is n vs) ∙ e)

pub live-none : (n : ℕ) (vs : List Variable) → find_variable n vs ≡ none → times n (map var_number vs) ≡ 0
live-none n vs e = find_none var_number n vs (sym (find_variable-is n vs) ∙ e)

-- ---- one term

count_use-built : (K U : ℕ → ℕ) (N n : ℕ) (b : Building) → 1 ≤ times n (map var_number b.work.changes.variables) → Built K U N b
    → Built K (λ m. same m n + U m) N (count_use n b)
unfolding count_use with_variables with_changes
count_use-built K U N n b l h =
    record {
      good =
          record {
            fits = h.good.fits;
            C = h.good.C;
            vars = once-vars n h.good.C U b.work.changes.variables l h.good.vars;
            owns = h.good.owns;
            cutoff = h.good.cutoff;
            waits = once-waits n b.work.changes.gone b.work.changes.variables h.good.waits;
          };
      row = h.row;
      plain = h.plain;
      count = h.count;
    }

-- the variable n is live, or comes to be
known : ℕ → Building → Option Variable → Building
known n b o = elim o [ none ↦ add_variable n b | some v ↦ b ]

last : Term → Building → Building
last t b = elim (find_variable t.variable b.work.changes.variables) [ none ↦ b | some v ↦ insert_variable v.symbol t.coefficient b ]

add-numbers : (n m : ℕ) (b : Building)
    → times m (map var_number (add_variable n b).work.changes.variables) ≡ same m n + times m (map var_number b.work.changes.variables)
unfolding add_variable append_to new_symbol append_symbol with_tableau with_variables with_changes
add-numbers n m b = rw keep_variable-is (keep-times var_number m _ b.work.changes.variables)

add-length : (n : ℕ) (b : Building) → length (add_variable n b).work.changes.variables ≡ suc (length b.work.changes.variables)
unfolding add_variable append_to new_symbol append_symbol with_tableau with_variables with_changes
add-length n b = rw keep_variable-is (keep-length var_number _ b.work.changes.variables)

pub insert_term-built : (K U : ℕ → ℕ) (N : ℕ) (t : Term) (b : Building) → Built K U N b → Built K (λ m. same m t.variable + U m) N (insert_term t b)
unfolding insert_term known last
insert_term-built K U N t b h = go (find_variable n b.work.changes.variables) refl
  where
    n : ℕ
    n = t.variable

    end : (x : Building) → Built K (λ m. same m n + U m) N x → Built K (λ m. same m n + U m) N (last t x)
    end x hx = by (find_variable n x.work.changes.variables)
      where
        by : (o : Option Variable) → Built K (λ m. same m n + U m) N (elim o [ none ↦ x | some v ↦ insert_variable v.symbol t.coefficient x ])
        by none = hx
        by (some v) = insert_variable-built K (λ m. same m n + U m) N x hx v.symbol t.coefficient

    go : (o : Option Variable) → find_variable n b.work.changes.variables ≡ o → Built K (λ m. same m n + U m) N (last t (count_use n (known n b o)))
    go none e =
        end (count_use n (add_variable n b))
        (count_use-built K U N n (add_variable n b) (here (same? n n)) (add_variable-built K U N n b (live-none n b.work.changes.variables e) h))
      where
        here : Same? n n → 1 ≤ times n (map var_number (add_variable n b).work.changes.variables)
        here (is p q r) = omega (arith, add-numbers n n b)
        here (isnt p q r) = absurd (q refl)
    go (some v) e = end (count_use n b) (count_use-built K U N n b (live-some n b.work.changes.variables v e) h)

-- ---- all terms

pub insert_terms-built : (cut : Float) (K U : ℕ → ℕ) (N : ℕ) (ts : List Term) (b : Building) → Built K U N b → Built K (λ m. uses_in m (kept_terms cut ts) + U m) N (insert_terms cut ts b)
unfolding insert_terms kept_terms uses_in same
insert_terms-built cut K U N [] b h = record { good = good-to K K U _ b.work (λ n. refl) (λ n. omega arith) h.good; row = h.row; plain = h.plain; count = h.count }
insert_terms-built cut K U N (t ∷ ts) b h =
    go (near_zero cut t.coefficient) (insert_terms-built cut K U N ts b h)
    (insert_terms-built cut K (λ m. same m t.variable + U m) N ts (insert_term t b) (insert_term-built K U N t b h))
  where
    next : Bool → Building
    next z = insert_terms cut ts (elim z [ true ↦ b | false ↦ insert_term t b ])

    terms : Bool → List Term
    terms z = elim z [ true ↦ kept_terms cut ts | false ↦ t ∷ kept_terms cut ts ]

    go : (z : Bool) → Built K (λ m. uses_in m (kept_terms cut ts) + U m) N (insert_terms cut ts b)
        → Built K (λ m. uses_in m (kept_terms cut ts) + (same m t.variable + U m)) N (insert_terms cut ts (insert_term t b))
        → Built K (λ m. uses_in m (terms z) + U m) N (next z)
    go true a c = a
    go false a c =
        record {
          good = good-to K K _ _ (insert_terms cut ts (insert_term t b)).work (λ n. refl) (λ n. omega arith) c.good;
          row = c.row;
          plain = c.plain;
          count = c.count;
        }

-- ---- how many variables there are then

-- inserting into the row leaves the variables alone
insert-vars : (s : Symbol) (k : Float) (b : Building) → (insert_variable s k b).work.changes.variables ≡ b.work.changes.variables
unfolding insert_variable insert_into written marking
insert-vars s k b = go (find_row s.id b.work.tableau.rows)
  where
    next : Option Row → Building
    next o = elim o [ none ↦ insert_into s.id k b | some r ↦ written (insert_row b.work.tableau.cutoff r k b.row) b.work ]

    go : (o : Option Row) → (next o).work.changes.variables ≡ b.work.changes.variables
    go none = refl
    go (some r) = refl

term-vars : (t : Term) (b : Building)
    → (insert_term t b).work.changes.variables ≡ map (use_once t.variable) (known t.variable b (find_variable t.variable b.work.changes.variables)).work.changes.variables
unfolding insert_term known last
term-vars t b = end (count_use n x) ∙ counted
  where
    n : ℕ
    n = t.variable

    x : Building
    x = known n b (find_variable n b.work.changes.variables)

    counted : (count_use n x).work.changes.variables ≡ map (use_once n) x.work.changes.variables
    counted = unfold count_use with_variables with_changes in refl

    end : (y : Building) → (last t y).work.changes.variables ≡ y.work.changes.variables
    end y = by (find_variable n y.work.changes.variables)
      where
        after : Option Variable → Building
        after o = elim o [ none ↦ y | some v ↦ insert_variable v.symbol t.coefficient y ]

        by : (o : Option Variable) → (after o).work.changes.variables ≡ y.work.changes.variables
        by none = refl
        by (some v) = insert-vars v.symbol t.coefficient y

-- the variables are those of vs and the ones found so far
record Grown (vs : List Variable) (found : List ℕ) (b : Building) : Type 0 where
  size : length b.work.changes.variables ≡ length vs + length found
  names : (m : ℕ) → times m (map var_number b.work.changes.variables) ≡ times m (map var_number vs) + times m found

same_names : (t : Term) (b : Building) (m : ℕ)
    → times m (map var_number (insert_term t b).work.changes.variables) ≡ times m (map var_number (known t.variable b (find_variable t.variable b.work.changes.variables)).work.changes.variables)
unfolding use_once
same_names t b m =
    ap (λ (vs : List Variable). times m (map var_number vs)) (term-vars t b) ∙ ap (λ (ns : List ℕ). times m ns)
    (numbers-map (use_once t.variable) (λ v. refl) (known t.variable b (find_variable t.variable b.work.changes.variables)).work.changes.variables)

same_size : (t : Term) (b : Building)
    → length (insert_term t b).work.changes.variables ≡ length (known t.variable b (find_variable t.variable b.work.changes.variables)).work.changes.variables
same_size t b =
    ap length (term-vars t b) ∙ length-map (known t.variable b (find_variable t.variable b.work.changes.variables)).work.changes.variables
    (use_once t.variable)

is_known : ℕ → List ℕ → Option Variable → Bool
is_known n found o = elim o [ none ↦ member n found | some v ↦ true ]

grown-step : (vs : List Variable) (found : List ℕ) (t : Term) (b : Building) → Grown vs found b
    → Grown vs (cond (is_known t.variable found (find_variable t.variable vs)) found (t.variable ∷ found)) (insert_term t b)
unfolding is_known known
grown-step vs found t b g = go (find_variable n vs) refl (member n found) refl (find_variable n now) refl
  where
    n : ℕ
    n = t.variable

    now : List Variable
    now = b.work.changes.variables

    old : (v : Variable) → find_variable n now ≡ some v → Grown vs found (insert_term t b)
    old v e =
        record {
          size = same_size t b ∙ subst (λ (o : Option Variable). length (known n b o).work.changes.variables ≡ length vs + length found) (sym e) g.size;
          names = λ m. same_names t b m ∙ subst
              (λ (o : Option Variable). times m (map var_number (known n b o).work.changes.variables) ≡ times m (map var_number vs) + times m found) (sym e)
              (g.names m);
        }

    new : find_variable n now ≡ none → Grown vs (n ∷ found) (insert_term t b)
    new e =
        record {
          size = same_size t b ∙ subst (λ (o : Option Variable). length (known n b o).work.changes.variables ≡ length vs + suc (length found)) (sym e)
              (omega (arith, add-length n b, g.size));
          names = λ m. same_names t b m ∙ subst
              (λ (o : Option Variable). times m (map var_number (known n b o).work.changes.variables) ≡ times m (map var_number vs) + times m (n ∷ found)) (sym e)
              (unfold times in omega (arith, add-numbers n m b, g.names m));
        }

    go : (o : Option Variable) → find_variable n vs ≡ o → (k : Bool) → member n found ≡ k → (p : Option Variable) → find_variable n now ≡ p
        → Grown vs (cond (elim o [ none ↦ k | some v ↦ true ]) found (n ∷ found)) (insert_term t b)
    go (some v) e k f (some x) q = old x q
    go (some v) e k f none q = absurd (omega (arith, live-some n vs v e, live-none n now q, g.names n))
    go none e true f (some x) q = old x q
    go none e true f none q = absurd (omega (arith, member-in n found f, live-none n now q, g.names n))
    go none e false f (some x) q = absurd (no_both (member-out n found (omega (arith, live-some n now x q, live-none n vs e, g.names n))) f)
    go none e false f none q = new q

grown-terms : (cut : Float) (vs : List Variable) (ts : List Term) (found : List ℕ) (b : Building) → Grown vs found b
    → length (insert_terms cut ts b).work.changes.variables ≡ length vs + length (new_variables vs found (kept_terms cut ts))
unfolding insert_terms kept_terms new_variables is_known
grown-terms cut vs [] found b g = g.size
grown-terms cut vs (t ∷ ts) found b g =
    go (near_zero cut t.coefficient) (grown-terms cut vs ts found b g)
    (grown-terms cut vs ts (cond (is_known t.variable found (find_variable t.variable vs)) found (t.variable ∷ found)) (insert_term t b) (grown-step vs found t b g))
  where
    next : Bool → Building
    next z = insert_terms cut ts (elim z [ true ↦ b | false ↦ insert_term t b ])

    terms : Bool → List Term
    terms z = elim z [ true ↦ kept_terms cut ts | false ↦ t ∷ kept_terms cut ts ]

    more : List ℕ
    more = cond (is_known t.variable found (find_variable t.variable vs)) found (t.variable ∷ found)

    go : (z : Bool) → length (insert_terms cut ts b).work.changes.variables ≡ length vs + length (new_variables vs found (kept_terms cut ts))
        → length (insert_terms cut ts (insert_term t b)).work.changes.variables ≡ length vs + length (new_variables vs more (kept_terms cut ts))
        → length (next z).work.changes.variables ≡ length vs + length (new_variables vs found (terms z))
    go true a c = a
    go false a c = c

pub insert_terms-length : (cut : Float) (ts : List Term) (b : Building)
    → length (insert_terms cut ts b).work.changes.variables ≡ length b.work.changes.variables + length (new_variables b.work.changes.variables [] (kept_terms cut ts))
unfolding times
insert_terms-length cut ts b = grown-terms cut b.work.changes.variables ts [] b (record { size = omega arith; names = λ m. omega arith })
