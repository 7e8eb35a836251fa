-- A variable that is gone, told in the sparse tables: its number waits, they read as before but for that, and stand.
-- Assumes nothing.
use Rattle.std.specs.Prelude.{ℕ, ◌+◌, ◌≤◌, ◌<◌, ◌≡◌, Bool, length, get_or}
use Rattle.std.proofs.Math.Path.{refl}
use Rattle.std.proofs.Common.{sym, ap, ◌∙◌, arith}
use Rattle.laws.specs.Lists.{tab-ext}
use Rattle.steps.specs.Number.{Mark}
use Rattle.steps.specs.Work.{with_changes}
use Rattle.sparse.specs.Places.{most_gone, variable_count_at, should_clear_at, gone_count_at, variable_numbers_at, variable_uses_at, gone_numbers_at, variable_places_at}
use Rattle.sparse.specs.Sparse.{Sparse, symbol_count, variable_count, symbol_at, variable_of, gone_of, read}
use Rattle.waist.specs.Working.{sparse, Sound}
use Rattle.waist.specs.Standing.{Owners, Standing, Makes, Unowned}
use Rattle.variables.specs.Found.{variables-are}
use Rattle.variables.specs.Alone.{VariablesAlone, Live, with_gone, symbols-count, symbol-same, makes-gone}
use Rattle.variables.specs.Told.{gone_in, told_of, told_words, Told, told-words}

-- the numbers that wait are those of the words
pub gone-in : (t : Sparse) → gone_in t.words ≡ gone_of t
unfolding gone_in gone_of
gone-in t = refl

-- the tables after
abbrev pub told_in : Bool → ℕ → Sparse → Sparse
told_in unreported n t = sparse (told_words unreported n t.words) t.keys t.bytes t.reals t.values

module _ (unreported : Bool) (n : ℕ) (t : Sparse) (art : Bool) (so : Sound art t) (o : Owners t) (room : length (told_of unreported n (gone_in t.words)) ≤ most_gone) where
  abbrev u : Sparse
  u = told_in unreported n t

  told : Told n t.words (told_of unreported n (gone_in t.words)) u.words
  told = told-words n t.words so.named.long unreported room

  word : (q : ℕ) → q < gone_numbers_at → (q ≡ gone_count_at → ⊥) → get_or u.words q 0 ≡ get_or t.words q 0
  word = told.others

  alone : VariablesAlone t u
  alone =
      record {
        words = λ q h _ d. word q (omega (arith, h)) d;
        long = told.long;
        bytes = λ q h. refl;
        wide = refl;
        low = λ q h. refl;
        high = λ q h. refl;
        deep = refl;
        keys = refl;
        values = refl;
      }

  count : variable_count u ≡ variable_count t
  count = word variable_count_at (omega arith) (λ e. omega (arith, e))

  number : (j : ℕ) → j < variable_count t → get_or u.words (variable_numbers_at + j) 0 ≡ get_or t.words (variable_numbers_at + j) 0
  number j h = let f = so.named.few-variables in word (variable_numbers_at + j) (omega (arith, h, f)) (λ e. omega (arith, e))

  variable : (j : ℕ) → j < variable_count t → variable_of u j ≡ variable_of t j
  unfolding variable_of
  variable j h =
      let f = so.named.few-variables in
      let l = so.named.variables j h in
      let s = so.named.few-symbols in
      rw (number j h, word (variable_uses_at + j) (omega (arith, h, f)) (λ e. omega (arith, e)), symbol-same t u alone (get_or t.bytes (variable_places_at + j) 0) (omega (arith, l, s))) refl

  variables-same : (read u).changes.variables ≡ (read t).changes.variables
  variables-same = rw (variables-are u, variables-are t, count) (tab-ext (variable_of u) (variable_of t) 0 (variable_count t) λ j a b. variable j (omega (arith, b)))

  live : Live u
  live = record { few = rw count so.named.few-variables; places = λ j h. rw (symbols-count t u alone) (so.named.variables j (rw count at h)) }

  owners : Owners u
  owners =
      record {
        up = λ i j a h. let h' : j < variable_count t = rw count at h in rw (number i (omega (arith, a, h')), number j h') (o.up i j a h');
        external = λ j h. o.external j (rw count at h);
        apart = λ i j a h. o.apart i j a (rw count at h);
        kinds = λ p a h. o.kinds p a (rw (symbols-count t u alone) at h);
        changed = λ j h. o.changed j (rw count at h);
        clear = rw (word should_clear_at (omega arith) (λ e. omega (arith, e))) o.clear;
      }

  gone-is : gone_of u ≡ told_of unreported n (gone_of t)
  gone-is = sym (gone-in u) ∙ told.is ∙ ap (told_of unreported n) (gone-in t)

  -- "A variable that goes is listed once as gone in the next fetch of either kind, unless it was never reported."
  pub tell-makes : (a : Mark) → Standing art a t → Makes art art a a (λ w. with_changes (with_gone (told_of unreported n) w.changes) w) t u
  tell-makes a s = makes-gone t u alone art a (told_of unreported n) s live owners variables-same gone-is (word should_clear_at (omega arith) (λ e. omega (arith, e)))

  -- a symbol that no variable names is still there
  pub tell-place : (p : ℕ) → 1 ≤ p → p ≤ symbol_count t → Unowned p t → (p ≤ symbol_count u) × (symbol_at u p ≡ symbol_at t p) × Unowned p u
  tell-place p low high un =
      let s = so.named.few-symbols in
      (rw (symbols-count t u alone) high, symbol-same t u alone p (omega (arith, high, s)), λ j h e. un j (rw count at h) e)
