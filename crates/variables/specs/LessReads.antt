-- A variable that goes, or has one use less, in tables that stand: what they read as then, and what they keep.
-- Assumes nothing.
use Prim.Native.Nat.{ℕ, suc, ◌+◌, ◌-◌, ◌≤◌, ◌<◌}
use Rattle.std.specs.Prelude.{◌≡◌, false, List, length, get_or}
use Rattle.std.proofs.Math.Path.{refl, sym, ap}
use Rattle.std.proofs.Common.{◌∙◌}
use native.Mathlib.Omega.{arith}
use Rattle.std.specs.Float.Ieee.{nan}
use Rattle.std.proofs.Math.ListN.{length-set}
use Rattle.std.proofs.Math.Seq.{get_or-set_same, get_or-set_other}
use Rattle.laws.specs.Loops.{first}
use Rattle.laws.specs.Lists.{tab}
use Rattle.std.specs.Prelude.{Some}
use Rattle.rows.specs.moves.Close.{closed}
use Rattle.rows.specs.moves.Moved.{closed-before, closed_after, length-closed}
use Rattle.sparse.specs.Places.{most_variables, variable_count_at, should_clear_at, gone_count_at, variable_numbers_at, variable_uses_at, gone_numbers_at, kinds_at, variable_places_at, changed_at, words_size, bytes_size, old_values_at}
use Rattle.sparse.specs.Sparse.{Sparse, symbol_count, variable_count, symbol_at, variable_of, gone_of, read}
use Rattle.waist.specs.substituting.Gone.{gone-kept}
use Rattle.waist.specs.Working.{sparse, Sound}
use Rattle.waist.specs.Standing.{Owners, Unowned}
use Rattle.variables.specs.Variables.{found_in}
use Rattle.variables.specs.Found.{variables-are}
use Rattle.variables.specs.Alone.{VariablesAlone, Live, symbols-count, symbol-same}
use Rattle.variables.specs.Less.{went_words, went_bytes, went_reals, less_words}
use Rattle.variables.specs.Went.{past, past_by, past-before, past_after, past-under, past_up, closed-past}
use Rattle.variables.specs.UseLess.{one_less, without, lessened, less-tab, gone-tab}

-- ---- the variable at v goes

module _ (t : Sparse) (so : Sound false t) (o : Owners t) (v : ℕ) (high : v < variable_count t) where
  abbrev e : ℕ
  e = variable_count t - 1

  abbrev pub gone : Sparse
  gone = sparse (went_words v t.words) t.keys (went_bytes v t.words t.bytes) (went_reals v t.words t.reals) t.values

  few : variable_count t ≤ most_variables
  few = so.named.few-variables

  low : v ≤ e
  low = omega (arith, high)

  long : length t.words ≡ words_size
  long = so.named.long

  wide : length t.bytes ≡ bytes_size
  wide = so.named.wide

  -- the words with the number gone, and with the uses gone too
  abbrev w₁ : List ℕ
  w₁ = closed 0 (variable_numbers_at + v) (variable_numbers_at + e) t.words

  long₁ : length w₁ ≡ words_size
  long₁ = length-closed 0 (variable_numbers_at + v) (variable_numbers_at + e) t.words (omega (arith, low)) (omega (arith, few, long)) 0 ∙ long

  abbrev w₂ : List ℕ
  w₂ = closed 0 (variable_uses_at + v) (variable_uses_at + e) w₁

  long₂ : length w₂ ≡ words_size
  long₂ = length-closed 0 (variable_uses_at + v) (variable_uses_at + e) w₁ (omega (arith, low)) (omega (arith, few, long₁)) 0 ∙ long₁

  abbrev b₁ : List ℕ
  b₁ = closed 0 (variable_places_at + v) (variable_places_at + e) t.bytes

  wide₁ : length b₁ ≡ bytes_size
  wide₁ = length-closed 0 (variable_places_at + v) (variable_places_at + e) t.bytes (omega (arith, low)) (omega (arith, few, wide)) 0 ∙ wide

  count-gone : variable_count gone ≡ e
  unfolding went_words
  count-gone = get_or-set_same w₂ variable_count_at e 0 (omega (arith, long₂))

  word-before : (q : ℕ) → q < variable_numbers_at → (q ≡ variable_count_at → ⊥) → get_or gone.words q 0 ≡ get_or t.words q 0
  unfolding went_words
  word-before q a d =
      get_or-set_other w₂ variable_count_at q e 0 d
      ∙ closed-before 0 (variable_uses_at + v) (variable_uses_at + e) w₁ (omega (arith, low)) (omega (arith, few, long₁)) 0 q (omega (arith, a))
      ∙ closed-before 0 (variable_numbers_at + v) (variable_numbers_at + e) t.words (omega (arith, low)) (omega (arith, few, long)) 0 q (omega (arith, a))

  word_after : (q : ℕ) → gone_numbers_at ≤ q → get_or gone.words q 0 ≡ get_or t.words q 0
  unfolding went_words
  word_after q a =
      get_or-set_other w₂ variable_count_at q e 0 (λ z. omega (arith, z, a))
      ∙ closed_after 0 (variable_uses_at + v) (variable_uses_at + e) w₁ (omega (arith, low)) (omega (arith, few, long₁)) 0 q (omega (arith, a, few, high))
      ∙ closed_after 0 (variable_numbers_at + v) (variable_numbers_at + e) t.words (omega (arith, low)) (omega (arith, few, long)) 0 q (omega (arith, a, few, high))

  pub gone-told : gone_of gone ≡ gone_of t
  gone-told = gone-kept t gone (word-before gone_count_at (omega arith) (λ z. omega (arith, z))) (λ j. word_after (gone_numbers_at + j) (omega arith))

  pub alone : VariablesAlone t gone
  unfolding went_words went_bytes went_reals
  alone =
      let l = so.long in
      record {
        words = λ q a d _. word-before q a d;
        long = length-set w₂ variable_count_at e ∙ long₂ ∙ sym long;
        bytes = λ q a.
            closed-before 0 (changed_at + v) (changed_at + e) b₁ (omega (arith, low)) (omega (arith, few, wide₁)) 0 q (omega (arith, a))
            ∙ closed-before 0 (variable_places_at + v) (variable_places_at + e) t.bytes (omega (arith, low)) (omega (arith, few, wide)) 0 q (omega (arith, a));
        wide = length-closed 0 (changed_at + v) (changed_at + e) b₁ (omega (arith, low)) (omega (arith, few, wide₁)) 0 ∙ wide₁ ∙ sym wide;
        low = λ q a. closed-before nan (old_values_at + v) (old_values_at + e) t.reals (omega (arith, low)) (omega (arith, few, l)) nan q (omega (arith, a));
        high = λ q a. closed_after nan (old_values_at + v) (old_values_at + e) t.reals (omega (arith, low)) (omega (arith, few, l)) nan q (omega (arith, a, few, high));
        deep = length-closed nan (old_values_at + v) (old_values_at + e) t.reals (omega (arith, low)) (omega (arith, few, l)) nan;
        keys = refl;
        values = refl;
      }

  -- ---- the five stretches: what is left stood at its place, or one after it

  module _ (j : ℕ) (h : j < e) where
    number_is : get_or gone.words (variable_numbers_at + j) 0 ≡ get_or t.words (variable_numbers_at + past v j) 0
    unfolding went_words
    number_is =
        get_or-set_other w₂ variable_count_at (variable_numbers_at + j) e 0 (λ z. omega (arith, z))
        ∙ closed-before 0 (variable_uses_at + v) (variable_uses_at + e) w₁ (omega (arith, low)) (omega (arith, few, long₁)) 0 (variable_numbers_at + j) (omega (arith, h, few))
        ∙ closed-past t.words variable_numbers_at e v j 0 low (omega (arith, few, long)) h

    uses-is : get_or gone.words (variable_uses_at + j) 0 ≡ get_or t.words (variable_uses_at + past v j) 0
    unfolding went_words
    uses-is =
        get_or-set_other w₂ variable_count_at (variable_uses_at + j) e 0 (λ z. omega (arith, z))
        ∙ closed-past w₁ variable_uses_at e v j 0 low (omega (arith, few, long₁)) h
        ∙ closed_after 0 (variable_numbers_at + v) (variable_numbers_at + e) t.words (omega (arith, low)) (omega (arith, few, long)) 0 (variable_uses_at + past v j) (omega (arith, few, high))

    place_is : get_or gone.bytes (variable_places_at + j) 0 ≡ get_or t.bytes (variable_places_at + past v j) 0
    unfolding went_bytes
    place_is =
        closed-before 0 (changed_at + v) (changed_at + e) b₁ (omega (arith, low)) (omega (arith, few, wide₁)) 0 (variable_places_at + j) (omega (arith, h, few))
        ∙ closed-past t.bytes variable_places_at e v j 0 low (omega (arith, few, wide)) h

    flag_is : get_or gone.bytes (changed_at + j) 0 ≡ get_or t.bytes (changed_at + past v j) 0
    unfolding went_bytes
    flag_is =
        closed-past b₁ changed_at e v j 0 low (omega (arith, few, wide₁)) h
        ∙ closed_after 0 (variable_places_at + v) (variable_places_at + e) t.bytes (omega (arith, low)) (omega (arith, few, wide)) 0 (changed_at + past v j) (omega (arith, few, high))

    old-is : get_or gone.reals (old_values_at + j) nan ≡ get_or t.reals (old_values_at + past v j) nan
    unfolding went_reals
    old-is = let l = so.long in closed-past t.reals old_values_at e v j nan low (omega (arith, few, l)) h

    inside : past v j < variable_count t
    inside = let p = past-under v j e h in omega (arith, p, high)

    variable-is : variable_of gone j ≡ variable_of t (past v j)
    unfolding variable_of
    variable-is =
        let l = so.named.variables (past v j) inside in
        let f = so.named.few-symbols in
        rw (number_is, uses-is, place_is, flag_is, old-is, symbol-same t gone alone (get_or t.bytes (variable_places_at + past v j) 0) (omega (arith, l, f))) refl

  pub gone-live : Live gone
  gone-live =
      record {
        few = let c = count-gone in omega (arith, c, few);
        places = λ j h. let h' : j < e = rw count-gone at h in rw (place_is j h', symbols-count t gone alone) (so.named.variables (past v j) (inside j h'));
      }

  pub gone-owners : Owners gone
  gone-owners =
      let f = so.named.few-symbols in
      record {
        up = λ i j a h. let h' : j < e = rw count-gone at h in rw (number_is i (omega (arith, a, h')), number_is j h') (o.up (past v i) (past v j) (past_up v i j a) (inside j h'));
        external = λ j h.
            let h' : j < e = rw count-gone at h in
            let l = so.named.variables (past v j) (inside j h') in
            rw (place_is j h', alone.bytes (kinds_at + get_or t.bytes (variable_places_at + past v j) 0) (omega (arith, l, f))) (o.external (past v j) (inside j h'));
        apart = λ i j a h q. let h' : j < e = rw count-gone at h in o.apart (past v i) (past v j) (past_up v i j a) (inside j h') (sym (place_is i (omega (arith, a, h'))) ∙ q ∙ place_is j h');
        kinds = λ p a b. let b' : p ≤ symbol_count t = rw (symbols-count t gone alone) at b in rw (alone.bytes (kinds_at + p) (omega (arith, b', f))) (o.kinds p a b');
        changed = λ j h. let h' : j < e = rw count-gone at h in rw (flag_is j h') (o.changed (past v j) (inside j h'));
        clear = rw (word-before should_clear_at (omega arith) (λ z. omega (arith, z))) o.clear;
      }

  -- "a variable at zero goes": no other names its symbol
  pub gone-unowned : Unowned (get_or t.bytes (variable_places_at + v) 0) gone
  gone-unowned j h q =
      let h' : j < e = rw count-gone at h in
      past_by v (λ x. x < variable_count t → get_or t.bytes (variable_places_at + x) 0 ≡ get_or t.bytes (variable_places_at + v) 0 → ⊥) j (λ a b z. o.apart j v a high z) (λ a b z. o.apart v (suc j) (omega (arith, a)) b (sym z)) (inside j h') (sym (place_is j h') ∙ q)

  pub gone-variables : (n : ℕ) → found_in n t.words ≡ Some v → (read gone).changes.variables ≡ without n (read t).changes.variables
  unfolding found_in first variable_of
  gone-variables n found =
      let c : variable_count t ≡ suc e = omega (arith, high) in
      let d : variable_count t - 0 ≡ suc e = omega (arith, high) in
      variables-are gone
      ∙ ap (tab (variable_of gone) 0) count-gone
      ∙ sym (gone-tab n (variable_of t) (variable_of gone) e v (rw d at found)
      (λ j a. variable-is j (omega (arith, a, low)) ∙ ap (variable_of t) (past-before v j a))
      (λ j a b. variable-is j b ∙ ap (variable_of t) (past_after v j a)))
      ∙ ap (λ (k : ℕ). without n (tab (variable_of t) 0 k)) (sym c)
      ∙ ap (without n) (sym (variables-are t))

  -- ---- it stays, with one use less

  abbrev pub stays : Sparse
  stays = sparse (less_words v t.words) t.keys t.bytes t.reals t.values

  word : (q : ℕ) → (q ≡ variable_uses_at + v → ⊥) → get_or stays.words q 0 ≡ get_or t.words q 0
  unfolding less_words
  word q d = get_or-set_other t.words (variable_uses_at + v) q _ 0 d

  count-stays : variable_count stays ≡ variable_count t
  count-stays = word variable_count_at (λ z. omega (arith, z))

  pub stays-alone : VariablesAlone t stays
  unfolding less_words
  stays-alone =
      record {
        words = λ q a d _. word q (λ z. omega (arith, z, a));
        long = length-set t.words (variable_uses_at + v) _;
        bytes = λ q a. refl;
        wide = refl;
        low = λ q a. refl;
        high = λ q a. refl;
        deep = refl;
        keys = refl;
        values = refl;
      }

  pub stays-told : gone_of stays ≡ gone_of t
  stays-told = gone-kept t stays (word gone_count_at (λ z. omega (arith, z))) (λ j. word (gone_numbers_at + j) (λ z. omega (arith, z, high, few)))

  pub stays-live : Live stays
  stays-live =
      record {
        few = rw count-stays few;
        places = λ j h. rw (symbols-count t stays stays-alone) (so.named.variables j (rw count-stays at h));
      }

  stays-number : (j : ℕ) → j < variable_count t → get_or stays.words (variable_numbers_at + j) 0 ≡ get_or t.words (variable_numbers_at + j) 0
  stays-number j h = word (variable_numbers_at + j) (λ z. omega (arith, z, h, few))

  pub stays-owners : Owners stays
  stays-owners =
      record {
        up = λ i j a h. let h' : j < variable_count t = rw count-stays at h in rw (stays-number i (omega (arith, a, h')), stays-number j h') (o.up i j a h');
        external = λ j h. o.external j (rw count-stays at h);
        apart = λ i j a h. o.apart i j a (rw count-stays at h);
        kinds = λ p a b. o.kinds p a (rw (symbols-count t stays stays-alone) at b);
        changed = λ j h. o.changed j (rw count-stays at h);
        clear = rw (word should_clear_at (λ z. omega (arith, z))) o.clear;
      }

  stays-symbol : (j : ℕ) → j < variable_count t → symbol_at stays (get_or t.bytes (variable_places_at + j) 0) ≡ symbol_at t (get_or t.bytes (variable_places_at + j) 0)
  stays-symbol j h = let l = so.named.variables j h in let f = so.named.few-symbols in symbol-same t stays stays-alone (get_or t.bytes (variable_places_at + j) 0) (omega (arith, l, f))

  stays-other : (j : ℕ) → j < variable_count t → (j ≡ v → ⊥) → variable_of stays j ≡ variable_of t j
  unfolding variable_of
  stays-other j h d = rw (stays-number j h, word (variable_uses_at + j) (λ z. d (omega (arith, z))), stays-symbol j h) refl

  stays-less : get_or stays.words (variable_uses_at + v) 0 ≡ get_or t.words (variable_uses_at + v) 0 - 1
  unfolding less_words
  stays-less = get_or-set_same t.words (variable_uses_at + v) _ 0 (omega (arith, few, high, long))

  stays_here : variable_of stays v ≡ one_less (variable_of t v)
  unfolding variable_of
  stays_here = rw (stays-number v high, stays-less, stays-symbol v high) refl

  pub stays-variables : (n : ℕ) → found_in n t.words ≡ Some v → (read stays).changes.variables ≡ lessened n (read t).changes.variables
  unfolding found_in first variable_of
  stays-variables n found =
      let d : variable_count t - 0 ≡ variable_count t = omega arith in
      variables-are stays
      ∙ ap (tab (variable_of stays) 0) count-stays
      ∙ sym (less-tab n (variable_of t) (variable_of stays) (variable_count t) v stays_here stays-other (variable_count t) 0 (omega arith) (rw d at found))
      ∙ ap (lessened n) (sym (variables-are t))
