-- A new variable in the sparse tables: they read as the steps' `keep_variable`, and stand.
-- Assumes nothing.
use Prim.Native.Nat.{ℕ, suc, ◌+◌, ◌-◌, ◌≤◌, ◌<◌}
use Rattle.std.specs.Prelude.{◌≡◌, Bool, true, false, length, get_or}
use Rattle.std.proofs.Math.Path.{refl}
use Rattle.std.proofs.Common.{sym, ◌∙◌, subst, zero-add, ltb-true, ltb-false}
use Rattle.std.proofs.Math.Numerals.{add-one}
use native.Mathlib.Omega.{arith}
use Rattle.std.proofs.Math.Dec.{ltb}
use Rattle.std.specs.Float.{nan}
use Rattle.laws.specs.Lists.{tab}
use Rattle.steps.specs.Number.{Mark}
use Rattle.steps.specs.Symbol.{Symbol}
use Rattle.steps.specs.State.{Variable}
use Rattle.steps.specs.CreateRow.{keep_variable, with_variables}
use Rattle.std.specs.Prelude.{None}
use Rattle.rows.specs.choose.Chosen.{as-cond}
use Rattle.layout.specs.cells.Names.{last_place}
use Rattle.rows.specs.moves.Walk.{keep-walk}
use Rattle.sparse.specs.Places.{most_variables, should_clear_at, variable_numbers_at, variable_uses_at, kinds_at, variable_places_at, changed_at, old_values_at, words_size, bytes_size, reals_size}
use Rattle.sparse.specs.Sparse.{Sparse, symbol_count, variable_count, symbol_at, variable_of, read}
use Rattle.waist.specs.Working.{Sound}
use Rattle.waist.specs.Standing.{Owners, Standing, Makes, Unowned}
use Rattle.variables.specs.Variables.{found_in, spot_in}
use Rattle.variables.specs.Found.{variables-are, found_none}
use Rattle.variables.specs.Alone.{VariablesAlone, Live, symbol-same, symbols-count, makes-variables}
use Rattle.variables.specs.Came.{Came, came-each, came-pairs}
use Rattle.variables.specs.Stretches.{Between, spot-between, kept_in, kept-count, numbers-came, uses-came, places-came, changed-came, olds-came, kept-gone, kept-alone}

-- "The old value of a new variable is NaN."
abbrev pub new_variable : ℕ → Symbol → Variable
new_variable n s = record { number = n; symbol = s; old = nan; uses = 0; changed = false }

module _ (art : Bool) (n p : ℕ) (t : Sparse) (so : Sound art t) (o : Owners t) (room : variable_count t < most_variables) (first_one : 1 ≤ p) (last_one : p ≤ symbol_count t)
    (external : get_or t.bytes (kinds_at + p) 0 ≡ 0) (unowned : Unowned p t) (none : found_in n t.words ≡ None) where
  abbrev long : length t.words ≡ words_size
  long = so.named.long

  abbrev wide : length t.bytes ≡ bytes_size
  wide = so.named.wide

  abbrev deep : length t.reals ≡ reals_size
  deep = so.long

  abbrev k : ℕ
  k = variable_count t

  abbrev z : ℕ
  z = spot_in n t.words

  abbrev u : Sparse
  u = kept_in n p t

  low : z ≤ k
  low = (spot-between n t.words).low

  alone : VariablesAlone t u
  alone = kept-alone n p t long wide deep room

  count : variable_count u ≡ k + 1
  count = kept-count n p t long wide deep room

  named-place : (j : ℕ) → j < k → get_or t.bytes (variable_places_at + j) 0 ≤ last_place
  named-place j h = let l = so.named.variables j h in let f = so.named.few-symbols in omega (arith, l, f)

  five : (j i q : ℕ) → q ≤ last_place → get_or t.bytes (variable_places_at + i) 0 ≡ q → get_or u.words (variable_numbers_at + j) 0 ≡ get_or t.words (variable_numbers_at + i) 0
      → get_or u.words (variable_uses_at + j) 0 ≡ get_or t.words (variable_uses_at + i) 0 → get_or u.bytes (variable_places_at + j) 0 ≡ get_or t.bytes (variable_places_at + i) 0
      → get_or u.bytes (changed_at + j) 0 ≡ get_or t.bytes (changed_at + i) 0 → get_or u.reals (old_values_at + j) nan ≡ get_or t.reals (old_values_at + i) nan → variable_of u j ≡ variable_of t i
  unfolding variable_of
  five j i q h e a b c d f = rw (a, b, c, d, f, e, symbol-same t u alone q h) refl

  variables-came : Came k z (new_variable n (symbol_at t p)) (variable_of t) (variable_of u)
  variables-came =
      let a = numbers-came n p t long wide deep room in
      let b = uses-came n p t long wide deep room in
      let c = places-came n p t long wide deep room in
      let d = changed-came n p t long wide deep room in
      let f = olds-came n p t long wide deep room in
      let l = low in
      record {
        before = λ j h. five j j _ (named-place j (omega (arith, h, l))) refl (a.before j h) (b.before j h) (c.before j h) (d.before j h) (f.before j h);
        at = new a.at b.at c.at d.at f.at;
        inside = λ j h m. five (suc j) j _ (named-place j m) refl (a.inside j h m) (b.inside j h m) (c.inside j h m) (d.inside j h m) (f.inside j h m);
      }
    where
      new : get_or u.words (variable_numbers_at + z) 0 ≡ n → get_or u.words (variable_uses_at + z) 0 ≡ 0 → get_or u.bytes (variable_places_at + z) 0 ≡ p → get_or u.bytes (changed_at + z) 0 ≡ 0 → get_or u.reals (old_values_at + z) nan ≡ nan
          → variable_of u z ≡ new_variable n (symbol_at t p)
      new a b c d f = let s = so.named.few-symbols in unfold variable_of in rw (a, b, c, d, f, symbol-same t u alone p (omega (arith, last_one, s))) refl

  -- "in its place by ascending number"
  variables-kept : (read u).changes.variables ≡ keep_variable (new_variable n (symbol_at t p)) (read t).changes.variables
  unfolding keep_variable variable_of tab spot_in
  variables-kept =
      let y : Variable = new_variable n (symbol_at t p) in
      let c = variables-came in
      let e : z - 0 ≡ z = omega arith in
      let m : variable_count u ≡ suc k = count ∙ add-one k in
      rw (variables-are u, variables-are t, m)
      (sym (keep-walk 0 (λ i. ltb n (get_or t.words (variable_numbers_at + i) 0)) (variable_of t) (variable_of u) (λ i m. keep_variable y (tab (variable_of t) i m)) y
      (λ i. refl)
      (λ i m. rw (zero-add i) (as-cond (ltb n (get_or t.words (variable_numbers_at + i) 0)) _ _))
      k z (rw (zero-add k) refl)
      (λ j h. c.before j (omega (arith, h)))
      (rw e c.at)
      λ j h l. c.inside j (omega (arith, h)) l))

  live : Live u
  live =
      let c = count in
      let s = symbols-count t u alone in
      record {
        few = omega (arith, c, room);
        places = λ v h. rw s (came-each low (places-came n p t long wide deep room) (λ x. (1 ≤ x) × (x ≤ symbol_count t)) (first_one, last_one) so.named.variables v (rw c at h));
      }

  owners : Owners u
  owners =
      let c = count in
      let f = so.named.few-symbols in
      let b = spot-between n t.words in
      let d = symbols-count t u alone in
      let kind : (q : ℕ) → q ≤ symbol_count t → get_or u.bytes (kinds_at + q) 0 ≡ get_or t.bytes (kinds_at + q) 0 = λ q h. alone.bytes (kinds_at + q) (omega (arith, h, f)) in
      record {
        up = λ i j h l.
            came-pairs low (numbers-came n p t long wide deep room) (λ x y. x < y) o.up
            (λ j g m. past b j g m)
            (λ i g. let e = found_none n t.words none i (omega (arith, g, b.low)) in let r = b.before i g in omega (arith, e, r))
            i j h (rw c at l);
        external = λ v h. came-each low (places-came n p t long wide deep room) (λ x. get_or u.bytes (kinds_at + x) 0 ≡ 0) (kind p last_one ∙ external) (λ j m. kind _ (so.named.variables j m).1 ∙ o.external j m) v (rw c at h);
        apart = λ i j h l. came-pairs low (places-came n p t long wide deep room) (λ x y. x ≡ y → ⊥) o.apart (λ j g m e. unowned j m (sym e)) (λ i g e. unowned i (omega (arith, g, b.low)) e) i j h (rw c at l);
        kinds = λ q a h. let h' : q ≤ symbol_count t = rw d at h in rw (kind q h') (o.kinds q a h');
        changed = λ v h. came-each low (changed-came n p t long wide deep room) (λ x. x ≤ 1) (omega arith) o.changed v (rw c at h);
        clear = rw (alone.words should_clear_at (omega arith) (λ e. omega (arith, e)) (λ e. omega (arith, e))) o.clear;
      }
    where
      past : Between n t.words z → (j : ℕ) → z ≤ j → j < k → n < get_or t.words (variable_numbers_at + j) 0
      past b j g m = go (ltb z j) refl
        where
          go : (x : Bool) → ltb z j ≡ x → n < get_or t.words (variable_numbers_at + j) 0
          go true e = let r = b.past (omega (arith, g, m)) in let v = o.up z j (ltb-true z j e) m in omega (arith, r, v)
          go false e = let q : z ≡ j = omega (arith, g, ltb-false z j e) in subst (λ (x : ℕ). n < get_or t.words (variable_numbers_at + x) 0) q (b.past (omega (arith, g, m)))

  -- a new variable of the symbol at place p
  pub keep-makes : (a : Mark) → Standing art a t → Makes art art a a (λ w. with_variables (keep_variable (new_variable n (symbol_at t p)) w.changes.variables) w) t u
  keep-makes a s = makes-variables t u alone art a (keep_variable (new_variable n (symbol_at t p))) s live owners variables-kept (kept-gone n p t long wide deep room) (alone.words should_clear_at (omega arith) (λ e. omega (arith, e)) (λ e. omega (arith, e)))
