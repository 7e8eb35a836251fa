-- Lists that stand one after the other: where an element of one of them stands, and such a list read out of a table. Laws that know nothing of the solver.
-- Assumes nothing.
use Prim.Native.Nat.{ℕ, zero, suc, ◌+◌, ◌*◌, ◌≤◌, ◌<◌}
use Rattle.std.specs.Prelude.{◌≡◌, get_or}
use Rattle.std.proofs.Math.Path.{refl, sym, ap}
use Rattle.std.proofs.Common.{◌∙◌, not-suc-le-zero, le_of_suc-le-suc}
use mathlib.Core.List.{List, [], ◌∷◌, ◌++◌, map}
use Rattle.std.proofs.Math.Nat.{sub-zero, zero-add, add-zero}
use native.Mathlib.Omega.{arith}
use Rattle.std.proofs.Math.ListN.{length, length-append}
use Rattle.laws.specs.Lists.{tab, list_of, sum_from, sum_in}
use Rattle.layout.specs.Laying.{tab-from}
use Rattle.steps.specs.Readable.{concat}

sum-shift : (g : ℕ → ℕ) (i n : ℕ) → sum_from (λ j. g (suc j)) i n ≡ sum_from g (suc i) n
unfolding sum_from
sum-shift g i zero = refl
sum-shift g i (suc n) = ap (λ (x : ℕ). g (suc i) + x) (sum-shift g (suc i) n)

pub sum-ext : (f g : ℕ → ℕ) (i n : ℕ) → ((j : ℕ) → j < i + n → f j ≡ g j) → sum_from f i n ≡ sum_from g i n
unfolding sum_from
sum-ext f g i zero h = refl
sum-ext f g i (suc n) h = rw (h i (omega arith), sum-ext f g (suc i) n (λ j k. h j (omega arith))) refl

sum-some : (g : ℕ → ℕ) (a i n j : ℕ) → i < n → j < g (a + i) → sum_from g a i + j < sum_from g a n
unfolding sum_from
sum-some g a i zero j h k = absurd (not-suc-le-zero h)
sum-some g a zero (suc n) j h k = omega (arith, rw (add-zero a) at k)
sum-some g a (suc i) (suc n) j h k =
    let o : a + suc i ≡ suc a + i = omega arith in
    let r = sum-some g (suc a) i n j (le_of_suc-le-suc h) (rw o at k) in
    omega (arith, r)

-- what the first of n counts come to, and some of the next one, lies within what all come to
pub sum-le : (g : ℕ → ℕ) (i n j : ℕ) → i < n → j < g i → sum_from g 0 i + j < sum_from g 0 n
sum-le g i n j h k = sum-some g 0 i n j h (rw (zero-add i) k)

pub sum-in : (g : ℕ → ℕ) (n : ℕ) → sum_in g 0 n ≡ sum_from g 0 n
unfolding sum_in
sum-in g n = rw (sub-zero n) refl

sum-each : (g : ℕ → ℕ) (i n : ℕ) → ((j : ℕ) → i ≤ j → j < i + n → g j ≤ 16) → sum_from g i n ≤ n * 16
unfolding sum_from
sum-each g i zero h = omega arith
sum-each g i (suc n) h =
    let r = sum-each g (suc i) n (λ j a c. h j (omega arith) (omega arith)) in
    let q = h i (omega arith) (omega arith) in
    omega (arith, r, q)

-- n counts of at most 16 each
pub sum-most : (g : ℕ → ℕ) (n : ℕ) → ((j : ℕ) → j < n → g j ≤ 16) → sum_in g 0 n ≤ n * 16
sum-most g n h = rw (sum-in g n) (sum-each g 0 n λ j a c. h j (omega (arith, c)))

module _ {A : Type 0} where
  get_or-left : (l m : List A) (j : ℕ) (d : A) → j < length l → get_or (l ++ m) j d ≡ get_or l j d
  get_or-left [] m j d h = absurd (not-suc-le-zero h)
  get_or-left (x ∷ l) m zero d h = refl
  get_or-left (x ∷ l) m (suc j) d h = get_or-left l m j d (le_of_suc-le-suc h)

  get_or-right : (l m : List A) (j : ℕ) (d : A) → get_or (l ++ m) (length l + j) d ≡ get_or m j d
  get_or-right [] m j d = rw (zero-add j) refl
  get_or-right (x ∷ l) m j d =
      let o : length (x ∷ l) + j ≡ suc (length l + j) = omega arith in
      rw o (get_or-right l m j d)

module _ {A B : Type 0} where
  -- how many there are in those before the i-th
  abbrev pub before : (B → List A) → List B → B → ℕ → ℕ
  before f cs e i = sum_from (λ c. length (f (get_or cs c e))) 0 i

  pub concat-at : (f : B → List A) (cs : List B) (e : B) (i j : ℕ) (d : A) → i < length cs → j < length (f (get_or cs i e)) → get_or (concat (map f cs)) (before f cs e i + j) d ≡ get_or (f (get_or cs i e)) j d
  unfolding concat sum_from
  concat-at f [] e i j d h k = absurd (not-suc-le-zero h)
  concat-at f (c ∷ cs) e zero j d h k = rw (zero-add j) (get_or-left (f c) (concat (map f cs)) j d k)
  concat-at f (c ∷ cs) e (suc i) j d h k =
      let g : ℕ → ℕ = λ n. length (f (get_or (c ∷ cs) n e)) in
      let s : sum_from g 1 i ≡ before f cs e i = sym (sum-shift g 0 i) in
      let o : length (f c) + sum_from g 1 i + j ≡ length (f c) + (before f cs e i + j) = omega (arith, s) in
      rw o (get_or-right (f c) (concat (map f cs)) (before f cs e i + j) d ∙ concat-at f cs e i j d (le_of_suc-le-suc h) k)

  pub concat-length : (f : B → List A) (cs : List B) (e : B) → length (concat (map f cs)) ≡ before f cs e (length cs)
  unfolding concat sum_from
  concat-length f [] e = refl
  concat-length f (c ∷ cs) e =
      let g : ℕ → ℕ = λ n. length (f (get_or (c ∷ cs) n e)) in
      let s : sum_from g 1 (length cs) ≡ before f cs e (length cs) = sym (sum-shift g 0 (length cs)) in
      length-append (f c) (concat (map f cs)) ∙ (rw (s, concat-length f cs e) refl)

module _ {A : Type 0} where
  tab-append : (g : ℕ → A) (i n m : ℕ) → tab g i n ++ tab g (i + n) m ≡ tab g i (n + m)
  unfolding tab
  tab-append g i zero m = rw (add-zero i, zero-add m) refl
  tab-append g i (suc n) m =
      let o : suc n + m ≡ suc (n + m) = omega arith in
      let q : i + suc n ≡ suc i + n = omega arith in
      rw (o, q) (ap (λ (r : List A). g i ∷ r) (tab-append g (suc i) n m))

  from-concat : (g : ℕ → A) (n : ℕ → ℕ) (i c b : ℕ) (at : ℕ → ℕ) → ((j : ℕ) → j < c → at (i + j) ≡ b + sum_from n i j) → concat (tab (λ q. tab g (at q) (n q)) i c) ≡ tab g b (sum_from n i c)
  unfolding concat tab sum_from
  from-concat g n i zero b at h = refl
  from-concat g n i (suc c) b at h =
      let o : at i ≡ b = (rw (add-zero i) at (h 0 (omega arith))) ∙ add-zero b in
      rw o (ap (λ (r : List A). tab g b (n i) ++ r) (from-concat g n (suc i) c (b + n i) at rest) ∙ tab-append g b (n i) (sum_from n (suc i) c))
    where
      rest : (j : ℕ) → j < c → at (suc i + j) ≡ b + n i + sum_from n (suc i) j
      rest j k =
          let q : i + suc j ≡ suc i + j = omega arith in
          let e : at (i + suc j) ≡ b + (n i + sum_from n (suc i) j) = h (suc j) (omega arith) in
          (rw q at e) ∙ omega arith

  same : (g : ℕ → A) (n : ℕ → ℕ) (i m : ℕ) → tab (λ q. tab (λ j. g (sum_in n 0 q + j)) 0 (n q)) i m ≡ tab (λ q. tab g (sum_in n 0 q) (n q)) i m
  unfolding tab
  same g n i zero = refl
  same g n i (suc m) =
      let one : tab (λ j. g (sum_in n 0 i + j)) 0 (n i) ≡ tab g (sum_in n 0 i) (n i) = rw (add-zero (sum_in n 0 i)) at (tab-from g (sum_in n 0 i) 0 (n i)) in
      rw (one, same g n (suc i) m) refl

  -- c lists read one after the other out of g, the i-th of n i elements
  pub listed-concat : (g : ℕ → A) (n : ℕ → ℕ) (c : ℕ) → concat (list_of c λ i. list_of (n i) λ j. g (sum_in n 0 i + j)) ≡ list_of (sum_in n 0 c) g
  unfolding list_of
  listed-concat g n c = ap concat (same g n 0 c) ∙ (rw (sum-in n c) (from-concat g n 0 c 0 (λ i. sum_in n 0 i) λ j h. rw (zero-add j) (sum-in n j ∙ sym (zero-add _))))
