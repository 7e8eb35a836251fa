use Prim.Native.Nat.{ℕ, ◌+◌, ◌≤◌}
use mathlib.Core.Path.{◌≡◌, refl}
use mathlib.Core.Bool.{true}
use mathlib.Core.List.{List, [], ◌∷◌}
use native.Mathlib.Omega.{arith}
use lib.ListN.{get_or}
use lib.Ieee.{Float, nan}
use Rattle.steps.specs.Number.{zero64}
use Rattle.layout.specs.Layout.{term_room}
use Rattle.sparse.specs.Places.{constraint_groups_at, term_counts_at, relations_at, constraint_strengths_at, constraint_constants_at}
use Rattle.sparse_test.specs.Stretch.{most_in, most}
use Rattle.sparse_test.specs.Tested.{term_count}
use Rattle.fetches.specs.shown.Shown.{line}
use Rattle.fetches.specs.shown.Filled.{filled}
use Rattle.fetches.specs.shown.Stored.{variable_at, coefficient_at, line_in}
use Rattle.fetches.proofs.shown.hand_over.Goals as goal

-- a constraint has few terms
few : (b : List ℕ) (i : ℕ) {n : ℕ} → most_in b term_counts_at (i + 1) term_room ≡ true → n ≡ get_or b (term_counts_at + i) 0 → n ≤ term_room
few b i h e = let q = most b term_counts_at (i + 1) term_room h i (omega arith) in omega (arith, q, e)

module _ (w b : List ℕ) (f : List Float) (i : ℕ) where
  joined : {kind n from : ℕ} {v : List ℕ} {k : List Float} → kind ≡ get_or b (relations_at + i) 0 → n ≡ get_or b (term_counts_at + i) 0 → from ≡ term_count b i → v ≡ filled {A = ℕ} 0 (variable_at w b from) n → k ≡ filled zero64 (coefficient_at f from) n
      → line (0 ∷ 0 ∷ 0 ∷ kind ∷ n ∷ get_or w (constraint_groups_at + i) 0 ∷ []) (get_or f (constraint_constants_at + i) nan ∷ get_or f (constraint_strengths_at + i) nan ∷ []) v k ≡ line_in w b f i
  unfolding line_in
  joined p q r x y = rw (x, y, p, q, r) refl

pub variables_of-requires : goal.variables_of-requires
variables_of-requires c = record { n_le_term_room = few _ _ c.requires.term_room_value c.wide-n.ensures.value; term_room_bound = c.terms_before-from.ensures.term_room_bound; variable_count_at_bound = c.requires.variable_count_at_bound; greatest_u32_value = c.requires.greatest_u32_value }

pub coefficients_of-requires : goal.coefficients_of-requires
coefficients_of-requires c = record { n_le_term_room = few _ _ c.requires.term_room_value c.wide-n.ensures.value; term_room_bound = c.terms_before-from.ensures.term_room_bound }

pub returns : goal.returns
returns c =
    joined c.args.words.now c.args.bytes.now c.args.reals.now c.args.i
    c.wide-kind.ensures.value
    c.wide-n.ensures.value
    c.terms_before-from.ensures.value
    c.variables_of.ensures
    c.coefficients_of.ensures
