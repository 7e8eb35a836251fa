-- A tag's kinds by the codes that its places are claimed with.
-- Assumes nothing.
use Prim.Native.Nat.{ℕ, zero, suc, ◌+◌, ◌≤◌}
use Rattle.std.specs.Prelude.{◌≡◌, Bool, ◌&&◌, ◌||◌, Float}
use Rattle.std.proofs.Math.Path.{refl}
use Rattle.std.proofs.Common.{sym, ◌∙◌, true≢false, suc-ne-zero, not-suc-le-zero, le_of_suc-le-suc, eqb-true, eq-eqb, ne_eqb}
use Rattle.std.proofs.Math.Bool.{true, false, not, cond}
use Rattle.std.proofs.Math.Option.{none, some}
use Rattle.std.proofs.Math.Dec.{eqb}
use Rattle.std.specs.Float.Ieee.{lt}
use Rattle.layout.specs.Rooms.{both}
use Rattle.layout.specs.Layout.{kind_of, comparison_in}
use Rattle.steps.specs.State.{Tag, no_more, exactly, no_less}
use Rattle.steps.specs.Symbol.{Error, Slack, Dummy, External, is_error}
use Rattle.steps.specs.Strength.{required}
use Rattle.steps.specs.Readable.{is_equality, tag_kinds, marker_fits}
use Rattle.rows.specs.places.Listed.{join}
use Rattle.sparse_test.specs.Tested.{kind_symbol, tag_of_kinds, marker_code, softly}

equality-is : (r : ℕ) → is_equality (comparison_in r) ≡ eqb r 1
unfolding is_equality comparison_in
equality-is zero = refl
equality-is (suc r) = go (eqb (suc r) 0) refl (eqb (suc r) 1)
  where
    go : (a : Bool) → eqb (suc r) 0 ≡ a → (b : Bool) → is_equality (cond a no_more (cond b exactly no_less)) ≡ b
    go true e b = absurd (true≢false (sym e ∙ ne_eqb (suc r) 0 (suc-ne-zero r)))
    go false e true = refl
    go false e false = refl

-- an Error by its number
error-is : (q : ℕ) → is_error (kind_symbol q) ≡ eqb q 2
unfolding is_error kind_of
error-is q = go (eqb q 2) (eqb q 1) (eqb q 3)
  where
    go : (a b c : Bool) → is_error (record { id = 0; kind = cond a Error (cond b Slack (cond c Dummy External)) }) ≡ a
    go true b c = refl
    go false true c = refl
    go false false true = refl
    go false false false = refl

many : {A : Type 0} (m : ℕ) → suc (suc (suc (suc m))) ≤ 3 → A
many m h = absurd (not-suc-le-zero (le_of_suc-le-suc (le_of_suc-le-suc (le_of_suc-le-suc h))))

-- a constraint's tag: a marker of kind m, an other symbol at place o, of kind q
unfoldable pub tag_test : Float → ℕ → ℕ → ℕ → ℕ → Bool
tag_test s relation m o q = eqb (m + 1) (marker_code relation o) && softly s o && (eqb o 0 || eqb q 2)

pub tag-parts : (s : Float) (relation m o q : ℕ) → tag_test s relation m o q ≡ true → (m + 1 ≡ marker_code relation o) × (softly s o ≡ true) × ((eqb o 0 || eqb q 2) ≡ true)
unfolding tag_test
tag-parts s relation m o q h =
    let a = both (eqb (m + 1) (marker_code relation o) && softly s o) (eqb o 0 || eqb q 2) h in
    let b = both (eqb (m + 1) (marker_code relation o)) (softly s o) a.0 in
    (eqb-true (m + 1) (marker_code relation o) b.0, b.1, a.1)

pub tag-join : (s : Float) (relation m o q : ℕ) → m + 1 ≡ marker_code relation o → softly s o ≡ true → (eqb o 0 || eqb q 2) ≡ true → tag_test s relation m o q ≡ true
unfolding tag_test
tag-join s relation m o q e f g = join (join (eq-eqb (m + 1) (marker_code relation o) e) f) g

module _ (s : Float) (relation q : ℕ) where
  abbrev below : Bool
  below = lt s required

  abbrev tag_of : ℕ → Bool → Tag
  tag_of m b = record { marker = kind_symbol m; other = cond b none (some (kind_symbol q)) }

  abbrev told : ℕ → Bool → Bool
  told m b = eqb (m + 1) (cond (eqb relation 1) (cond b 4 3) 2) && cond b (not below) below && (b || eqb q 2)

  external : (b : Bool) → told 0 b ≡ tag_kinds s (tag_of 0 b) && marker_fits (comparison_in relation) (kind_symbol 0)
  unfolding tag_kinds kind_of
  external b = go b (eqb relation 1)
    where
      go : (b r : Bool) → eqb 1 (cond r (cond b 4 3) 2) && cond b (not below) below && (b || eqb q 2) ≡ false
      go true true = refl
      go true false = refl
      go false true = refl
      go false false = refl

  slack : (b : Bool) → told 1 b ≡ tag_kinds s (tag_of 1 b) && marker_fits (comparison_in relation) (kind_symbol 1)
  unfolding tag_kinds marker_fits kind_of
  slack true = rw (equality-is relation) (go (eqb relation 1) below)
    where
      go : (r l : Bool) → eqb 2 (cond r 4 2) && not l && true ≡ not l && not r
      go true true = refl
      go true false = refl
      go false true = refl
      go false false = refl
  slack false = rw (equality-is relation, error-is q) (go (eqb relation 1) below (eqb q 2))
    where
      go : (r l e : Bool) → eqb 2 (cond r 3 2) && l && e ≡ (l && e) && not r
      go true true true = refl
      go true true false = refl
      go true false e = refl
      go false true true = refl
      go false true false = refl
      go false false e = refl

  error : (b : Bool) → told 2 b ≡ tag_kinds s (tag_of 2 b) && marker_fits (comparison_in relation) (kind_symbol 2)
  unfolding tag_kinds marker_fits kind_of
  error true = go (eqb relation 1) below
    where
      go : (r l : Bool) → eqb 3 (cond r 4 2) && not l && true ≡ false
      go true l = refl
      go false l = refl
  error false = rw (equality-is relation, error-is q) (go (eqb relation 1) below (eqb q 2))
    where
      go : (r l e : Bool) → eqb 3 (cond r 3 2) && l && e ≡ (l && e) && r
      go true true true = refl
      go true true false = refl
      go true false e = refl
      go false true true = refl
      go false true false = refl
      go false false e = refl

  dummy : (b : Bool) → told 3 b ≡ tag_kinds s (tag_of 3 b) && marker_fits (comparison_in relation) (kind_symbol 3)
  unfolding tag_kinds marker_fits kind_of
  dummy true = rw (equality-is relation) (go (eqb relation 1) below)
    where
      go : (r l : Bool) → eqb 4 (cond r 4 2) && not l && true ≡ not l && r
      go true true = refl
      go true false = refl
      go false true = refl
      go false false = refl
  dummy false = go (eqb relation 1)
    where
      go : (r : Bool) → eqb 4 (cond r 3 2) && below && eqb q 2 ≡ false
      go true = refl
      go false = refl

  pub tag-test : (m o : ℕ) → m ≤ 3 → tag_test s relation m o q ≡ tag_kinds s (tag_of_kinds m o q) && marker_fits (comparison_in relation) (kind_symbol m)
  unfolding tag_test tag_of_kinds marker_code softly
  tag-test zero o h = external (eqb o 0)
  tag-test (suc zero) o h = slack (eqb o 0)
  tag-test (suc (suc zero)) o h = error (eqb o 0)
  tag-test (suc (suc (suc zero))) o h = dummy (eqb o 0)
  tag-test (suc (suc (suc (suc m)))) o h = many m h

-- an edit's
unfoldable pub edit_test : Float → ℕ → ℕ → ℕ → Bool
edit_test s m o q = eqb (m + 1) 3 && (lt s required && not (eqb o 0)) && (eqb o 0 || eqb q 2)

pub edit-parts : (s : Float) (m o q : ℕ) → edit_test s m o q ≡ true → (m + 1 ≡ 3) × ((lt s required && not (eqb o 0)) ≡ true) × ((eqb o 0 || eqb q 2) ≡ true)
unfolding edit_test
edit-parts s m o q h =
    let a = both (eqb (m + 1) 3 && (lt s required && not (eqb o 0))) (eqb o 0 || eqb q 2) h in
    let b = both (eqb (m + 1) 3) (lt s required && not (eqb o 0)) a.0 in
    (eqb-true (m + 1) 3 b.0, b.1, a.1)

pub edit-join : (s : Float) (m o q : ℕ) → m + 1 ≡ 3 → (lt s required && not (eqb o 0)) ≡ true → (eqb o 0 || eqb q 2) ≡ true → edit_test s m o q ≡ true
unfolding edit_test
edit-join s m o q e f g = join (join (eq-eqb (m + 1) 3 e) f) g

pub edit-test : (s : Float) (q m o : ℕ) → m ≤ 3 → edit_test s m o q ≡ eqb m 2 && tag_kinds s (tag_of_kinds m o q)
unfolding edit_test tag_kinds tag_of_kinds kind_of
edit-test s q zero o h = refl
edit-test s q (suc zero) o h = refl
edit-test s q (suc (suc zero)) o h = go (eqb o 0)
  where
    go : (b : Bool) → (lt s required && not b) && (b || eqb q 2) ≡ tag_kinds s (record { marker = kind_symbol 2; other = cond b none (some (kind_symbol q)) })
    go true = off (lt s required)
      where
        off : (l : Bool) → (l && false) && true ≡ false
        off true = refl
        off false = refl
    go false = rw (error-is q) (on (lt s required) (eqb q 2))
      where
        on : (l e : Bool) → (l && true) && e ≡ l && e
        on true e = refl
        on false e = refl
edit-test s q (suc (suc (suc zero))) o h = refl
edit-test s q (suc (suc (suc (suc m)))) o h = many m h
