-- A set that a fetch has reported is cleared: the tables with its flags cleared hold the variables without them, and the same values.
-- Assumes nothing.
use Prim.Native.Nat.{ℕ, zero, suc, ◌+◌, ◌≤◌, ◌<◌}
use Rattle.std.specs.Prelude.{◌≡◌, Bool, cond, List, [], ◌∷◌, map, get_or}
use Rattle.std.proofs.Math.Path.{refl, sym, ap}
use Rattle.std.proofs.Common.{◌∙◌, map-id, not-suc-le-zero, le_of_suc-le-suc, arith}
use Rattle.std.proofs.Math.Bool.{true, false}
use Rattle.std.proofs.Math.Dec.{eqb}
use Rattle.laws.specs.Loops.{map_in}
use Rattle.laws.specs.Places.{map_in-before}
use Rattle.laws.specs.Lists.{list_of}
use Rattle.layout.specs.Laying.{list_ext}
use Rattle.steps.specs.State.{Variable}
use Rattle.steps.specs.Changes.{with_flag, clear_changed, value_of}
use Rattle.rows.specs.places.Finding.{place_in}
use Rattle.rows.specs.places.Listed.{map-list}
use Rattle.layout.specs.cells.Seek.{first-within}
use Rattle.sparse.specs.Places.{should_clear_at, variable_count_at, kinds_at, row_places_at, variable_places_at, changed_at}
use Rattle.sparse.specs.Lookup.{place_from}
use Rattle.sparse.specs.Sparse.{Sparse, row_count, variable_count, symbol_at, variable_of, basics_of}
use Rattle.sparse.specs.Form.{Form}
use Rattle.sparse_test.specs.Asked.{constant_of, row-value}
use Rattle.sparse_test.specs.Whole.{tables}

-- the bytes that a fetch lists by: cleared, or as they stand
abbrev pub cleared_if : Bool → ℕ → List ℕ → List ℕ
cleared_if c k b = cond c (map_in (λ _. 0) changed_at (changed_at + k) b) b

unfoldable pub cleared_by : List ℕ → List ℕ → List ℕ
cleared_by w b = cleared_if (eqb (get_or w should_clear_at 0) 1) (get_or w variable_count_at 0) b

module _ (w b : List ℕ) where
  pub cleared : {d : List ℕ} → eqb (get_or w should_clear_at 0) 1 ≡ true → d ≡ map_in (λ _. 0) changed_at (changed_at + get_or w variable_count_at 0) b → d ≡ cleared_by w b
  unfolding cleared_by
  cleared e h = h ∙ rw e refl

  pub not-cleared : eqb (get_or w should_clear_at 0) 1 ≡ false → b ≡ cleared_by w b
  unfolding cleared_by
  not-cleared e = rw e refl

-- the variable that a fetch lists by
abbrev pub seen : Bool → Variable → Variable
seen c v = cond c (with_flag false v) v

pub seen_all : (c : Bool) (vs : List Variable) → cond c (clear_changed vs) vs ≡ map (seen c) vs
unfolding clear_changed
seen_all true vs = refl
seen_all false vs = sym (map-id vs)

off_at : (a e : ℕ) (l : List ℕ) (j : ℕ) → a ≤ j → j < e → get_or (map_in (λ _. 0) a e l) j 0 ≡ 0
unfolding map_in
off_at a e [] j h k = refl
off_at a zero (x ∷ l) j h k = absurd (not-suc-le-zero k)
off_at zero (suc e) (x ∷ l) zero h k = refl
off_at zero (suc e) (x ∷ l) (suc j) h k = off_at zero e l j (omega arith) (le_of_suc-le-suc k)
off_at (suc a) (suc e) (x ∷ l) zero h k = absurd (not-suc-le-zero h)
off_at (suc a) (suc e) (x ∷ l) (suc j) h k = off_at a e l j (le_of_suc-le-suc h) (le_of_suc-le-suc k)

module _ (t : Sparse) (form : Form t) (c : Bool) where
  abbrev bytes : List ℕ
  bytes = cleared_if c (variable_count t) t.bytes

  abbrev pub under : Sparse
  under = tables t.words t.keys (cleared_if c (variable_count t) t.bytes) t.reals t.values

  -- kinds, rows and owners stand before the flags
  stays : (j : ℕ) → j < changed_at → get_or bytes j 0 ≡ get_or t.bytes j 0
  stays j h = go c
    where
      go : (b : Bool) → get_or (cleared_if b (variable_count t) t.bytes) j 0 ≡ get_or t.bytes j 0
      go true = map_in-before (λ _. 0) changed_at (changed_at + variable_count t) t.bytes j 0 h
      go false = refl

  flag_is : (i : ℕ) → i < variable_count t → eqb (get_or bytes (changed_at + i) 0) 1 ≡ (seen c (variable_of t i)).changed
  unfolding variable_of with_flag
  flag_is i h = go c
    where
      go : (b : Bool) → eqb (get_or (cleared_if b (variable_count t) t.bytes) (changed_at + i) 0) 1 ≡ (seen b (variable_of t i)).changed
      go true = ap (λ (x : ℕ). eqb x 1) (off_at changed_at (changed_at + variable_count t) t.bytes (changed_at + i) (omega arith) (omega (arith, h)))
      go false = refl

  owner-stays : (i : ℕ) → i < variable_count t → get_or bytes (variable_places_at + i) 0 ≡ get_or t.bytes (variable_places_at + i) 0
  owner-stays i h = let k = form.counts.variables in stays (variable_places_at + i) (omega (arith, h, k))

  kind-stays : (i : ℕ) → i < variable_count t → get_or bytes (kinds_at + get_or t.bytes (variable_places_at + i) 0) 0 ≡ get_or t.bytes (kinds_at + get_or t.bytes (variable_places_at + i) 0) 0
  kind-stays i h =
      let k = form.counts.symbols in
      let o = (form.owners i h).1 in
      stays (kinds_at + get_or t.bytes (variable_places_at + i) 0) (omega (arith, o, k))

  variable-seen : (i : ℕ) → i < variable_count t → variable_of under i ≡ seen c (variable_of t i)
  unfolding variable_of symbol_at with_flag
  variable-seen i h = rw (flag_is i h, owner-stays i h, kind-stays i h) (go c)
    where
      go : (b : Bool) → record { number = (variable_of t i).number; symbol = (variable_of t i).symbol; old = (variable_of t i).old; uses = (variable_of t i).uses; changed = (seen b (variable_of t i)).changed } ≡ seen b (variable_of t i)
      go true = refl
      go false = refl

  pub variables-seen : list_of (variable_count t) (variable_of under) ≡ map (seen c) (list_of (variable_count t) (variable_of t))
  variables-seen = list_ext (variable_count t) (variable_of under) (λ i. seen c (variable_of t i)) variable-seen ∙ sym (map-list (seen c) (variable_count t) (variable_of t))

  constant-stays : (p : ℕ) → constant_of bytes t.reals (row_count t) p ≡ constant_of t.bytes t.reals (row_count t) p
  unfolding constant_of
  constant-stays p = rw place-stays refl
    where
      place-stays : place_from bytes (row_places_at + 1) (row_count t) p ≡ place_from t.bytes (row_places_at + 1) (row_count t) p
      place-stays =
          let n : ℕ = row_count t in
          let r = form.counts.rows in
          unfold place_from place_in in
          first-within (λ j. eqb p (get_or bytes (row_places_at + 1 + j) 0)) (λ j. eqb p (get_or t.bytes (row_places_at + 1 + j) 0)) (λ j. j) (λ j. j) n 0 0 n n (omega arith) (omega arith) (omega arith)
          (λ j a b. ap (eqb p) (stays (row_places_at + 1 + j) (omega (arith, b, r)))) (λ j a b. refl) (λ j a b. absurd (omega (arith, b))) (λ j a b. absurd (omega (arith, a, b)))

  value-seen : (b : Bool) (i : ℕ) → value_of (seen b (variable_of t i)) (basics_of t) ≡ value_of (variable_of t i) (basics_of t)
  unfolding value_of with_flag
  value-seen true i = refl
  value-seen false i = refl

  pub value_there : (i : ℕ) → i < variable_count t → value_of (variable_of under i) (basics_of t) ≡ constant_of bytes t.reals (row_count t) (get_or bytes (variable_places_at + i) 0)
  value_there i h =
      ap (λ (v : Variable). value_of v (basics_of t)) (variable-seen i h)
      ∙ value-seen c i
      ∙ row-value t 0 form (variable_of t i) (get_or t.bytes (variable_places_at + i) 0) (form.owners i h) (unfold variable_of in refl)
      ∙ sym (rw (owner-stays i h) (constant-stays (get_or t.bytes (variable_places_at + i) 0)))
