-- Stretches of one list put into another: a part, and two parts around a gap. Laws that know nothing of the solver.
-- Assumes nothing.
use Rattle.std.specs.Prelude.{ℕ, ◌+◌, ◌-◌, ◌≤◌, ◌<◌, ◌≡◌, refl, Bool, true, false, cond, List, ltb, length, get_or, set}
use Rattle.std.proofs.Common.{◌∙◌, subst, arith, length-set, get_or-set_same, get_or-set_other, ltb-true, ltb-false, lt-ltb, le-ltb}
use Rattle.stored.specs.declared.parts.Plan.{Plan}

-- n places of `from` from a on, each by f, are the places of u from b on; elsewhere u is w
pub record Part {A : Type 0} (z : A) (f : A → A) (a b n : ℕ) (from w u : List A) : Type 0 where
  pub inside : (k : ℕ) → k < n → get_or u (b + k) z ≡ f (get_or from (a + k) z)
  pub before : (q : ℕ) → q < b → get_or u q z ≡ get_or w q z
  pub after : (q : ℕ) → b + n ≤ q → get_or u q z ≡ get_or w q z
  pub long : length u ≡ length w

module _ {A : Type 0} (z : A) (f : A → A) (a b : ℕ) (from w : List A) where
  pub part_none : Part z f a b 0 from w w
  part_none = record { inside = λ k h. absurd (omega (arith, h)); before = λ q h. refl; after = λ q h. refl; long = refl }

  pub part-next : (k : ℕ) (u : List A) {x : A} → b + k < length u → x ≡ f (get_or from (a + k) z) → Part z f a b k from w u → Part z f a b (k + 1) from w (set u (b + k) x)
  part-next k u {x} l e p =
      record {
        inside = λ j h. go j h (ltb j k) refl;
        before = λ q h. get_or-set_other u (b + k) q x z (λ e. omega (arith, h, e)) ∙ p.before q h;
        after = λ q h. get_or-set_other u (b + k) q x z (λ e. omega (arith, h, e)) ∙ p.after q (omega (arith, h));
        long = length-set u (b + k) x ∙ p.long;
      }
    where
      go : (j : ℕ) → j < k + 1 → (t : Bool) → ltb j k ≡ t → get_or (set u (b + k) x) (b + j) z ≡ f (get_or from (a + j) z)
      go j h true q =
          let l = ltb-true j k q in
          get_or-set_other u (b + k) (b + j) x z (λ e. omega (arith, l, e)) ∙ p.inside j l
      go j h false q =
          let m = ltb-false j k q in
          let o : j ≡ k = omega (arith, h, m) in
          rw o (get_or-set_same u (b + k) x z l ∙ e)

  pub part-last : (k n : ℕ) (u : List A) → n ≤ k → k ≤ n → Part z f a b k from w u → Part z f a b n from w u
  part-last k n u h l p =
      let o : k ≡ n = omega (arith, h, l) in
      subst (λ (i : ℕ). Part z f a b i from w u) o p

-- k, past a gap of g places that begins at s
unfoldable pub past : ℕ → ℕ → ℕ → ℕ
past s g k = cond (ltb k s) k (k + g)

pub past-low : (s g k : ℕ) → k < s → past s g k ≡ k
unfolding past
past-low s g k h = rw (lt-ltb k s h) refl

pub past-high : (s g k : ℕ) → s ≤ k → past s g k ≡ k + g
unfolding past
past-high s g k h = rw (le-ltb k s h) refl

-- where the k-th of those kept comes from, and where it goes; how many are kept, and how many there are before and afterwards
abbrev pub source : Plan → ℕ → ℕ
source p k = past p.at p.drop k

abbrev pub target : Plan → ℕ → ℕ
target p k = past p.at p.free k

abbrev pub size : Plan → ℕ
size p = p.at + p.rest

abbrev pub source_size : Plan → ℕ
source_size p = p.at + p.drop + p.rest

abbrev pub target_size : Plan → ℕ
target_size p = p.at + p.free + p.rest

-- those kept stand in u as they stood in `from`, each by f; the gap is as it was in w
pub record Region {A : Type 0} (z : A) (f : A → A) (at : ℕ) (p : Plan) (from w u : List A) : Type 0 where
  pub kept : (k : ℕ) → k < size p → get_or u (at + target p k) z ≡ f (get_or from (at + source p k) z)
  pub gap : (k : ℕ) → k < p.free → get_or u (at + (p.at + k)) z ≡ get_or w (at + (p.at + k)) z

-- u is w but for n places from `at` on
pub record Rest {A : Type 0} (z : A) (at n : ℕ) (w u : List A) : Type 0 where
  pub before : (q : ℕ) → q < at → get_or u q z ≡ get_or w q z
  pub after : (q : ℕ) → at + n ≤ q → get_or u q z ≡ get_or w q z
  pub long : length u ≡ length w

module _ {A : Type 0} (z : A) (f : A → A) (at : ℕ) (p : Plan) (from w : List A) {v u : List A} where
  pub split-region : Part z f at at p.at from w v → Part z f (at + (p.at + p.drop)) (at + (p.at + p.free)) p.rest from v u → Region z f at p from w u
  split-region x y = record { kept = λ k h. go k h (ltb k p.at) refl; gap = λ k h. y.before (at + (p.at + k)) (omega (arith, h)) ∙ x.after (at + (p.at + k)) (omega (arith, h)) }
    where
      go : (k : ℕ) → k < size p → (t : Bool) → ltb k p.at ≡ t → get_or u (at + target p k) z ≡ f (get_or from (at + source p k) z)
      go k h true q =
          let l = ltb-true k p.at q in
          rw (past-low p.at p.free k l, past-low p.at p.drop k l) (y.before (at + k) (omega (arith, l)) ∙ x.inside k l)
      go k h false q =
          let l = ltb-false k p.at q in
          let o : at + (k + p.free) ≡ at + (p.at + p.free) + (k - p.at) = omega (arith, l) in
          let d : at + (k + p.drop) ≡ at + (p.at + p.drop) + (k - p.at) = omega (arith, l) in
          rw (past-high p.at p.free k l, past-high p.at p.drop k l, o, d) (y.inside (k - p.at) (omega (arith, h, l)))

  pub split_rest : (n : ℕ) → target_size p ≤ n → Part z f at at p.at from w v → Part z f (at + (p.at + p.drop)) (at + (p.at + p.free)) p.rest from v u → Rest z at n w u
  split_rest n h x y =
      record {
        before = λ q l. y.before q (omega (arith, l)) ∙ x.before q l;
        after = λ q l. y.after q (omega (arith, h, l)) ∙ x.after q (omega (arith, h, l));
        long = y.long ∙ x.long;
      }

-- ---- a region among others

module _ {A : Type 0} (z : A) (f : A → A) (at n : ℕ) (p : Plan) (fits : target_size p ≤ n) (from : List A) where
  target-within : (k : ℕ) → k < size p → target p k < n
  target-within k h = go (ltb k p.at) refl
    where
      go : (t : Bool) → ltb k p.at ≡ t → target p k < n
      go true q = let l = ltb-true k p.at q in rw (past-low p.at p.free k l) (omega (arith, l, fits))
      go false q = let l = ltb-false k p.at q in rw (past-high p.at p.free k l) (omega (arith, l, h, fits))

  -- other places were changed before, and others are changed afterwards
  pub region-among : {w v u x : List A} → ((q : ℕ) → at ≤ q → q < at + n → get_or v q z ≡ get_or w q z) → Region z f at p from v u → ((q : ℕ) → at ≤ q → q < at + n → get_or x q z ≡ get_or u q z) → Region z f at p from w x
  region-among e r l =
      record {
        kept = λ k h. let b = target-within k h in l (at + target p k) (omega arith) (omega (arith, b)) ∙ r.kept k h;
        gap = λ k h. l (at + (p.at + k)) (omega arith) (omega (arith, h, fits)) ∙ r.gap k h ∙ e (at + (p.at + k)) (omega arith) (omega (arith, h, fits));
      }

  -- places after it are changed afterwards; places before it were changed before
  pub later : {w v u : List A} (b m : ℕ) → at + n ≤ b → Region z f at p from w v → Rest z b m v u → Region z f at p from w u
  later b m h r x = region-among (λ q a l. refl) r (λ q a l. x.before q (omega (arith, l, h)))

  pub earlier : {w v u : List A} (b m : ℕ) → b + m ≤ at → Rest z b m w v → Region z f at p from v u → Region z f at p from w u
  earlier b m h x r = region-among (λ q a l. x.after q (omega (arith, a, h))) r (λ q a l. refl)

module _ {A : Type 0} (z : A) {w v u : List A} where
  pub rest-join : (a n b m l : ℕ) → a + n ≤ b → b + m ≤ a + l → Rest z a n w v → Rest z b m v u → Rest z a l w u
  rest-join a n b m l h k x y =
      record {
        before = λ q i. y.before q (omega (arith, i, h)) ∙ x.before q i;
        after = λ q i. y.after q (omega (arith, i, k)) ∙ x.after q (omega (arith, i, h, k));
        long = y.long ∙ x.long;
      }

pub set_rest : {A : Type 0} (z : A) (i : ℕ) (x : A) (w : List A) → Rest z i 1 w (set w i x)
set_rest z i x w =
    record {
      before = λ q h. get_or-set_other w i q x z (λ e. omega (arith, h, e));
      after = λ q h. get_or-set_other w i q x z (λ e. omega (arith, h, e));
      long = length-set w i x;
    }

-- ---- plans

-- all n stay
abbrev pub all_of : ℕ → Plan
all_of n = record { at = n; drop = 0; free = 0; rest = 0 }

-- all n but the j-th
abbrev pub without : ℕ → ℕ → Plan
without j n = record { at = j; drop = 1; free = 0; rest = n - (j + 1) }

-- all n, and one at the j-th place
abbrev pub opened : ℕ → ℕ → Plan
opened j n = record { at = j; drop = 0; free = 1; rest = n - j }
