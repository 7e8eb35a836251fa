-- A variable's uses counted up: the tables read as the steps' `use_once` of their variables, and stand.
-- Assumes nothing.
use Rattle.std.specs.Prelude.{ℕ, suc, ◌+◌, ◌≤◌, ◌<◌, ◌≡◌, Bool, true, false, cond, map, eqb, ltb, length, get_or}
use Rattle.std.proofs.Math.Path.{refl}
use Rattle.std.proofs.Common.{sym, ◌∙◌, arith, ltb-true, ltb-false, eqb-true, eq-eqb, ne_eqb}
use Rattle.std.proofs.Math.Numerals.{add-one}
use Rattle.std.proofs.Math.ListN.{length-set}
use Rattle.std.proofs.Math.Seq.{get_or-set_same, get_or-set_other}
use Rattle.std.proofs.lemmas.Bool.{eqb-false}
use Rattle.laws.specs.Lists.{tab-ext, map-tab}
use Rattle.steps.specs.Number.{Mark}
use Rattle.steps.specs.CreateRow.{with_variables, use_once}
use Rattle.std.specs.Prelude.{Some, None}
use Rattle.sparse.specs.Places.{most_variables, variable_count_at, should_clear_at, gone_count_at, variable_numbers_at, variable_uses_at, gone_numbers_at, variable_places_at, words_size}
use Rattle.sparse.specs.Sparse.{Sparse, variable_count, variable_of, gone_of, read}
use Rattle.waist.specs.substituting.Gone.{gone-kept}
use Rattle.waist.specs.Working.{sparse, Sound}
use Rattle.waist.specs.Standing.{Owners, Standing, Makes}
use Rattle.variables.specs.Variables.{found_in, used_words}
use Rattle.variables.specs.Found.{variables-are, found_at, found_none}
use Rattle.variables.specs.Alone.{VariablesAlone, Live, symbol-same, symbols-count, makes-variables}

-- no variable has the number: none is used
pub unused : (t : Sparse) (n : ℕ) → found_in n t.words ≡ None → map (use_once n) (read t).changes.variables ≡ (read t).changes.variables
unfolding use_once variable_of
unused t n none =
    rw (variables-are t) (map-tab (use_once n) (variable_of t) 0 (variable_count t) ∙ tab-ext _ (variable_of t) 0 (variable_count t) λ j a b.
    rw (ne_eqb n (get_or t.words (variable_numbers_at + j) 0) (found_none n t.words none j (omega (arith, b)))) refl)

-- the tables after
abbrev pub used_in : ℕ → Sparse → Sparse
used_in v t = sparse (used_words v t.words) t.keys t.bytes t.reals t.values

module _ (n v : ℕ) (t : Sparse) (long : length t.words ≡ words_size) (few : variable_count t ≤ most_variables) (o : Owners t) (found : found_in n t.words ≡ Some v) where
  abbrev u : Sparse
  u = used_in v t

  high : v < variable_count t
  high = (found_at n t.words found).0

  is-n : n ≡ get_or t.words (variable_numbers_at + v) 0
  is-n = (found_at n t.words found).1

  pub used-word : (q : ℕ) → (q ≡ variable_uses_at + v → ⊥) → get_or u.words q 0 ≡ get_or t.words q 0
  unfolding used_words
  used-word q d = get_or-set_other t.words (variable_uses_at + v) q (get_or t.words (variable_uses_at + v) 0 + 1) 0 d

  pub used-here : get_or u.words (variable_uses_at + v) 0 ≡ suc (get_or t.words (variable_uses_at + v) 0)
  unfolding used_words
  used-here = let h = high in get_or-set_same t.words (variable_uses_at + v) (get_or t.words (variable_uses_at + v) 0 + 1) 0 (omega (arith, h, few, long)) ∙ add-one (get_or t.words (variable_uses_at + v) 0)

  used-gone : gone_of u ≡ gone_of t
  used-gone = let h = high in gone-kept t u (used-word gone_count_at (λ e. omega (arith, e))) (λ j. used-word (gone_numbers_at + j) (λ e. omega (arith, e, h, few)))

  pub used-alone : VariablesAlone t u
  unfolding used_words
  used-alone =
      record {
        words = λ q h d _. used-word q (λ e. omega (arith, e, h));
        long = length-set t.words (variable_uses_at + v) (get_or t.words (variable_uses_at + v) 0 + 1);
        bytes = λ q h. refl;
        wide = refl;
        low = λ q h. refl;
        high = λ q h. refl;
        deep = refl;
        keys = refl;
        values = refl;
      }

  count : variable_count u ≡ variable_count t
  count = used-word variable_count_at (λ e. omega (arith, e))

  apart : (j : ℕ) → j < variable_count t → (j ≡ v → ⊥) → n ≡ get_or t.words (variable_numbers_at + j) 0 → ⊥
  apart j h d e = go (ltb j v) refl
    where
      go : (b : Bool) → ltb j v ≡ b → ⊥
      go true q = let r = o.up j v (ltb-true j v q) high in let m = is-n in omega (arith, r, m, e)
      go false q = let l = ltb-false j v q in let r = o.up v j (omega (arith, l, d)) h in let m = is-n in omega (arith, r, m, e)

  uses-at : (j : ℕ) → j < variable_count t → get_or u.words (variable_uses_at + j) 0 ≡ cond (eqb n (get_or t.words (variable_numbers_at + j) 0)) (suc (get_or t.words (variable_uses_at + j) 0)) (get_or t.words (variable_uses_at + j) 0)
  uses-at j h = go (eqb j v) refl
    where
      go : (b : Bool) → eqb j v ≡ b → get_or u.words (variable_uses_at + j) 0 ≡ cond (eqb n (get_or t.words (variable_numbers_at + j) 0)) (suc (get_or t.words (variable_uses_at + j) 0)) (get_or t.words (variable_uses_at + j) 0)
      go true e = let q = eqb-true j v e in rw (q, eq-eqb n (get_or t.words (variable_numbers_at + v) 0) is-n) used-here
      go false e =
          let d = eqb-false j v e in
          rw (ne_eqb n (get_or t.words (variable_numbers_at + j) 0) (apart j h d)) (used-word (variable_uses_at + j) (λ z. omega (arith, z, d)))

  module _ (art : Bool) (so : Sound art t) where
    used-at : (j : ℕ) → j < variable_count t → variable_of u j ≡ use_once n (variable_of t j)
    unfolding variable_of use_once
    used-at j h =
        let l = so.named.variables j h in
        let f = so.named.few-symbols in
        rw (used-word (variable_numbers_at + j) (λ e. omega (arith, e, h, few)), uses-at j h, symbol-same t u used-alone (get_or t.bytes (variable_places_at + j) 0) (omega (arith, l, f))) refl

    variables-used : (read u).changes.variables ≡ map (use_once n) (read t).changes.variables
    variables-used =
        rw (variables-are u, variables-are t, count)
        (tab-ext (variable_of u) (λ j. use_once n (variable_of t j)) 0 (variable_count t) (λ j a b. used-at j (omega (arith, b))) ∙ sym (map-tab (use_once n) (variable_of t) 0 (variable_count t)))

    live : Live u
    live = record { few = rw count few; places = λ j h. rw (symbols-count t u used-alone) (so.named.variables j (rw count at h)) }

    owners : Owners u
    owners =
        record {
          up = λ i j h l.
              let l' : j < variable_count t = rw count at l in
              rw (used-word (variable_numbers_at + i) (λ e. omega (arith, e, h, l', few)), used-word (variable_numbers_at + j) (λ e. omega (arith, e, l', few))) (o.up i j h l');
          external = λ j h. o.external j (rw count at h);
          apart = λ i j h l. o.apart i j h (rw count at l);
          kinds = λ p a h. o.kinds p a (rw (symbols-count t u used-alone) at h);
          changed = λ j h. o.changed j (rw count at h);
          clear = rw (used-word should_clear_at (λ e. omega (arith, e))) o.clear;
        }

    -- "its use count grows by one"
    pub use-makes : (a : Mark) → Standing art a t → Makes art art a a (λ w. with_variables (map (use_once n) w.changes.variables) w) t u
    use-makes a s = makes-variables t u used-alone art a (map (use_once n)) s live owners variables-used used-gone (used-word should_clear_at (λ e. omega (arith, e)))
