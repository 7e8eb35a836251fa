-- The stored constraint at place i, by the tables' places, is the steps' constraint there. Assumes nothing.
use Prim.Native.Nat.{ℕ, ◌+◌, ◌≤◌, ◌<◌}
use Rattle.std.specs.Prelude.{◌≡◌, true, List, [], ◌∷◌, map, leb, length}
use Rattle.std.proofs.Math.Path.{refl}
use Rattle.std.proofs.Common.{◌∙◌, arith}
use Rattle.std.proofs.Math.ListN.{get_or}
use Rattle.std.specs.Float.Ieee.{Float, nan}
use Rattle.laws.specs.Lists.{list_of, length-tab, map-tab, tab-ext}
use Rattle.steps.specs.Number.{zero64}
use Rattle.steps.specs.State.{Comparison, no_more, exactly, no_less, strength_of, comparison_of, related, Term}
use Rattle.steps.specs.Shown.{given_of}
use Rattle.steps.specs.Readable as steps
use Rattle.keeps.specs.Clauses.{and3, clauses-in}
use Rattle.layout.specs.Layout.{comparison_in, term_room}
use Rattle.layout.proofs.Written.{comparison-read}
use Rattle.sparse.specs.Places.{most_variables, most_constraints, variable_count_at, variable_numbers_at, constraint_groups_at, term_counts_at, terms_at, relations_at, constraint_strengths_at, coefficients_at, constraint_constants_at}
use Rattle.sparse.specs.Sparse.{Sparse, variable_count, constraint_count, terms_from, term_of, constraint_of, read}
use Rattle.sparse_test.specs.Stretch.{most_in, in-most}
use Rattle.sparse_test.specs.Tested.{number_in, term_count}
use Rattle.sparse_test.specs.Uses.{number_is}
use Rattle.sparse_test.specs.Reads.{reads, greatest_u32}
use Rattle.sparse_test.specs.Meaning.{reads-readable, reads-parts, reads-form, few-in, few_terms}
use Rattle.fetches.specs.shown.Shown.{Line, line, said}
use Rattle.fetches.specs.shown.Filled.{filled}

-- the variable and the coefficient of the term j behind `from`
abbrev pub variable_at : List ℕ → List ℕ → ℕ → ℕ → ℕ
variable_at w b from j = number_in w b (get_or w variable_count_at 0) (get_or b (terms_at + (from + j)) 0)

abbrev pub coefficient_at : List Float → ℕ → ℕ → Float
coefficient_at f from j = get_or f (coefficients_at + (from + j)) nan

unfoldable pub line_in : List ℕ → List ℕ → List Float → ℕ → Line
line_in w b f i =
    line
    (0 ∷ 0 ∷ 0 ∷ get_or b (relations_at + i) 0 ∷ get_or b (term_counts_at + i) 0 ∷ get_or w (constraint_groups_at + i) 0 ∷ [])
    (get_or f (constraint_constants_at + i) nan ∷ get_or f (constraint_strengths_at + i) nan ∷ [])
    (filled 0 (variable_at w b (term_count b i)) (get_or b (term_counts_at + i) 0))
    (filled zero64 (coefficient_at f (term_count b i)) (get_or b (term_counts_at + i) 0))

-- ---- the relation, in two parts

comparison-of : (c : Comparison) (s : Float) → comparison_of (related c s) ≡ c
unfolding comparison_of related
comparison-of no_more s = refl
comparison-of exactly s = refl
comparison-of no_less s = refl

strength-of : (c : Comparison) (s : Float) → strength_of (related c s) ≡ s
unfolding strength_of related
strength-of no_more s = refl
strength-of exactly s = refl
strength-of no_less s = refl

-- ---- what the code needs of tables that read

module _ (t : Sparse) (ok : reads t ≡ true) where
  few : (i : ℕ) → i < constraint_count t → get_or t.bytes (term_counts_at + i) 0 ≤ term_room
  unfolding steps.counts_in_range
  few = few-in t (and3 (leb (length (read t).changes.variables) most_variables) (leb (length (steps.tags (read t))) most_constraints) (steps.all (few_terms t) (read t).constraints) (clauses-in (read t) (reads-readable t ok)).counts).2

  pub few-variables : variable_count t ≤ most_variables
  few-variables = (reads-form t ok).counts.variables

  pub few-constraints : constraint_count t ≤ most_constraints
  few-constraints = (reads-form t ok).counts.constraints

  pub narrow-numbers : most_in t.words variable_numbers_at (variable_count t) greatest_u32 ≡ true
  narrow-numbers = (reads-parts t ok).numbers

  pub few-counts : (i : ℕ) → i < constraint_count t → most_in t.bytes term_counts_at (i + 1) term_room ≡ true
  few-counts i h = in-most t.bytes term_counts_at (i + 1) term_room λ j k. few j (omega (arith, h, k))

  -- ---- the constraint

  from_is : (i : ℕ) → terms_from t i ≡ term_count t.bytes i
  unfolding terms_from term_count
  from_is i = refl

  length-of : (n from : ℕ) → length (list_of n (term_of t from)) ≡ n
  unfolding list_of
  length-of n from = length-tab (term_of t from) 0 n

  variables-of : (n from : ℕ) → map (λ (x : Term). x.variable) (list_of n (term_of t from)) ≡ list_of n (variable_at t.words t.bytes from)
  unfolding list_of term_of
  variables-of n from = map-tab (λ (x : Term). x.variable) (term_of t from) 0 n ∙ tab-ext _ _ 0 n λ j a b. number_is t (get_or t.bytes (terms_at + (from + j)) 0)

  coefficients-of : (n from : ℕ) → map (λ (x : Term). x.coefficient) (list_of n (term_of t from)) ≡ list_of n (coefficient_at t.reals from)
  unfolding list_of term_of
  coefficients-of n from = map-tab (λ (x : Term). x.coefficient) (term_of t from) 0 n

  pub stored-said : (i : ℕ) → i < constraint_count t → line_in t.words t.bytes t.reals i ≡ said (given_of (constraint_of t i))
  unfolding line_in given_of constraint_of filled
  stored-said i h =
      let n : ℕ = get_or t.bytes (term_counts_at + i) 0 in
      let from : ℕ = terms_from t i in
      let s : Float = get_or t.reals (constraint_strengths_at + i) nan in
      rw (
        comparison-of (comparison_in (get_or t.bytes (relations_at + i) 0)) s,
        strength-of (comparison_in (get_or t.bytes (relations_at + i) 0)) s,
        comparison-read (get_or t.bytes (relations_at + i) 0) ((reads-form t ok).relations i h),
        length-of n from,
        variables-of n from,
        coefficients-of n from,
        from_is i,
      )
      refl
