-- The numbers of the variables that are gone, over the words' places: one more in its place by ascending number, once.
-- Assumes nothing.
use Prim.Native.Nat.{ℕ, zero, suc, ◌+◌, ◌-◌, ◌≤◌, ◌<◌}
use Rattle.std.specs.Prelude.{◌≡◌, Bool, ltb, set}
use Rattle.std.proofs.Math.Path.{refl, ap, subst}
use Rattle.std.proofs.Common.{sym, ◌∙◌}
use Rattle.std.proofs.Math.Bool.{true, false, cond}
use mathlib.Core.List.{List, [], ◌∷◌}
use Rattle.std.proofs.Math.Numerals.{add-one}
use native.Mathlib.Omega.{arith}
use Rattle.std.proofs.Math.Dec.{eqb, leb}
use Rattle.std.proofs.Math.ListN.{length, get_or, length-set}
use Rattle.std.proofs.Math.Seq.{get_or-set_same, get_or-set_other}
use borrow.Author.Tests.{leb-true, leb-false, eqb-true, eqb-false, eq-eqb, ne_eqb, lt-ltb, le-ltb}
use Rattle.laws.specs.Loops.{first}
use Rattle.laws.specs.Lists.{tab, list_of, length-tab}
use Rattle.steps.specs.Changes.{keep_number}
use Rattle.rows.specs.choose.Choose.{Found}
use Rattle.std.specs.Prelude.{Some, None}
use Rattle.rows.specs.choose.Choose.{on_found}
use Rattle.layout.specs.cells.Seek.{first-elim}
use Rattle.rows.specs.moves.Close.{opened}
use Rattle.rows.specs.moves.Moved.{opened-before, opened-at, opened_inside, length-opened}
use Rattle.sparse.specs.Places.{most_gone, gone_count_at, gone_numbers_at, words_size}

-- the numbers that wait, as words hold them
unfoldable pub gone_in : List ℕ → List ℕ
gone_in words = list_of (get_or words gone_count_at 0) λ j. get_or words (gone_numbers_at + j) 0

-- those that wait once the variable n went
abbrev pub told_of : Bool → ℕ → List ℕ → List ℕ
told_of unreported n gone = cond unreported gone (keep_number n gone)

-- where a number comes by ascending number; nowhere if it is one of them
unfoldable pub gone_spot : ℕ → List ℕ → Found
gone_spot n words =
    first (λ j. leb n (get_or words (gone_numbers_at + j) 0)) (λ j. cond (eqb n (get_or words (gone_numbers_at + j) 0)) None (Some j)) (Some (get_or words gone_count_at 0)) 0
    (get_or words gone_count_at 0)

-- the words with the number at place j of them
unfoldable pub more_gone : ℕ → List ℕ → ℕ → List ℕ
more_gone n words j = set (opened (gone_numbers_at + j) (gone_numbers_at + get_or words gone_count_at 0) n words) gone_count_at (get_or words gone_count_at 0 + 1)

unfoldable pub kept_gone : ℕ → List ℕ → List ℕ
kept_gone n words = on_found (more_gone n words) words (gone_spot n words)

unfoldable pub told_words : Bool → ℕ → List ℕ → List ℕ
told_words unreported n words = cond unreported words (kept_gone n words)

-- ---- the steps' keep_number, of numbers that are read one by one

-- by the two tests of a number x of them
abbrev kept : ℕ → ℕ → List ℕ → Bool → Bool → List ℕ
kept n x xs t r = elim t [ true ↦ n ∷ x ∷ xs | false ↦ elim r [ true ↦ x ∷ xs | false ↦ x ∷ keep_number n xs ] ]

-- one that is below is passed; the same stays; one that is above comes after
keep-past : (n x : ℕ) (xs : List ℕ) → x < n → keep_number n (x ∷ xs) ≡ x ∷ keep_number n xs
unfolding keep_number
keep-past n x xs h = ap (λ (t : Bool). kept n x xs t (eqb n x)) (le-ltb n x (omega (arith, h))) ∙ ap (kept n x xs false) (ne_eqb n x (λ e. omega (arith, e, h)))

keep-here : (n x : ℕ) (xs : List ℕ) → n ≡ x → keep_number n (x ∷ xs) ≡ x ∷ xs
unfolding keep_number
keep-here n x xs q = ap (λ (t : Bool). kept n x xs t (eqb n x)) (le-ltb n x (omega (arith, q))) ∙ ap (kept n x xs false) (eq-eqb n x q)

keep-first : (n x : ℕ) (xs : List ℕ) → n < x → keep_number n (x ∷ xs) ≡ n ∷ x ∷ xs
unfolding keep_number
keep-first n x xs h = ap (λ (t : Bool). kept n x xs t (eqb n x)) (lt-ltb n x h)

keep-more : (n : ℕ) (xs : List ℕ) → length xs ≤ length (keep_number n xs)
unfolding keep_number
keep-more n [] = omega arith
keep-more n (x ∷ xs) = go (ltb n x) (eqb n x) (keep-more n xs)
  where
    go : (t r : Bool) → length xs ≤ length (keep_number n xs) → suc (length xs) ≤ length (kept n x xs t r)
    go true r ih = omega arith
    go false true ih = omega arith
    go false false ih = omega (arith, ih)

module _ (n : ℕ) (g : ℕ → ℕ) where
  -- one of them is the number
  keep_same : (m i z : ℕ) → i ≤ z → z < i + m → ((j : ℕ) → i ≤ j → j < z → g j < n) → n ≡ g z → keep_number n (tab g i m) ≡ tab g i m
  unfolding tab
  keep_same zero i z a b low e = absurd (omega (arith, a, b))
  keep_same (suc m) i z a b low e = go (eqb i z) refl (λ d. keep_same m (suc i) z (omega (arith, a, d)) (omega (arith, b)) (λ j c. low j (omega (arith, c))) e)
    where
      go : (x : Bool) → eqb i z ≡ x → ((i ≡ z → ⊥) → keep_number n (tab g (suc i) m) ≡ tab g (suc i) m) → keep_number n (g i ∷ tab g (suc i) m) ≡ g i ∷ tab g (suc i) m
      go true q r = keep-here n (g i) (tab g (suc i) m) (e ∙ ap g (sym (eqb-true i z q)))
      go false q r = let d = eqb-false i z q in keep-past n (g i) (tab g (suc i) m) (low i (omega arith) (omega (arith, a, d))) ∙ ap (λ (l : List ℕ). g i ∷ l) (r d)

  -- it comes to place z, and those from there on move up by one
  keep_opened : (g' : ℕ → ℕ) (m i z : ℕ) → i ≤ z → z ≤ i + m → ((j : ℕ) → i ≤ j → j < z → g j < n) → (z < i + m → n < g z)
      → ((j : ℕ) → i ≤ j → j < z → g' j ≡ g j) → g' z ≡ n → ((j : ℕ) → z ≤ j → j < i + m → g' (suc j) ≡ g j) → keep_number n (tab g i m) ≡ tab g' i (suc m)
  unfolding tab
  keep_opened g' zero i z a b low high before at after = unfold keep_number in let q : z ≡ i = omega (arith, a, b) in ap (λ (x : ℕ). x ∷ []) (sym at ∙ ap g' q)
  keep_opened g' (suc m) i z a b low high before at after =
      go (eqb i z) refl (λ d. keep_opened g' m (suc i) z (omega (arith, a, d)) (omega (arith, b)) (λ j c. low j (omega (arith, c))) (λ h. high (omega (arith, h))) (λ j c. before j (omega (arith, c))) at (λ j c h. after j c (omega (arith, h))))
    where
      up : (k p : ℕ) → ((j : ℕ) → p ≤ j → j < p + k → g' (suc j) ≡ g j) → tab g p k ≡ tab g' (suc p) k
      up zero p f = refl
      up (suc k) p f = rw (f p (omega arith) (omega arith)) (ap (λ (l : List ℕ). g p ∷ l) (up k (suc p) (λ j c h. f j (omega (arith, c)) (omega (arith, h)))))

      go : (x : Bool) → eqb i z ≡ x → ((i ≡ z → ⊥) → keep_number n (tab g (suc i) m) ≡ tab g' (suc i) (suc m)) → keep_number n (g i ∷ tab g (suc i) m) ≡ g' i ∷ tab g' (suc i) (suc m)
      go true q r =
          let e : z ≡ i = sym (eqb-true i z q) in
          let f : n ≡ g' i = sym at ∙ ap g' e in
          keep-first n (g i) (tab g (suc i) m) (subst (λ (x : ℕ). n < g x) e (high (omega (arith, e)))) ∙ rw f (ap (λ (l : List ℕ). g' i ∷ l) (up (suc m) i (λ j c h. after j (omega (arith, c, e)) h)))
      go false q r =
          let d = eqb-false i z q in
          keep-past n (g i) (tab g (suc i) m) (low i (omega arith) (omega (arith, a, d))) ∙ rw (before i (omega arith) (omega (arith, a, d))) (ap (λ (l : List ℕ). g i ∷ l) (r d))

  -- one more then
  keep-longer : (m i z : ℕ) → i ≤ z → z ≤ i + m → ((j : ℕ) → i ≤ j → j < z → g j < n) → (z < i + m → n < g z) → length (keep_number n (tab g i m)) ≡ suc m
  keep-longer m i z a b low high =
      ap length (keep_opened g' m i z a b low high (λ j c h. rw (lt-ltb j z h) refl) (rw (le-ltb z z (omega arith), eq-eqb z z refl) refl) (λ j c h. past j c)) ∙ length-tab g' i (suc m)
    where
      g' : ℕ → ℕ
      g' j = cond (ltb j z) (g j) (cond (eqb j z) n (g (j - 1)))

      past : (j : ℕ) → z ≤ j → g' (suc j) ≡ g j
      past j c = let q : suc j - 1 ≡ j = omega arith in rw (le-ltb (suc j) z (omega (arith, c)), ne_eqb (suc j) z (λ e. omega (arith, e, c))) (ap g q)

-- ---- in the words

module _ (n : ℕ) (words : List ℕ) where
  abbrev g : ℕ → ℕ
  g j = get_or words (gone_numbers_at + j) 0

  abbrev k : ℕ
  k = get_or words gone_count_at 0

  -- what is known of the place
  record Comes (z : ℕ) : Type 0 where
    low : z ≤ k
    before : (j : ℕ) → 0 ≤ j → j < z → g j < n
    past : z < 0 + k → n < g z

  record Waits (z : ℕ) : Type 0 where
    low : z < 0 + k
    before : (j : ℕ) → 0 ≤ j → j < z → g j < n
    is : n ≡ g z

  Spot : Found → Type 0
  Spot (Some z) = Comes z
  Spot None = (z : ℕ) × Waits z

  spot : Spot (gone_spot n words)
  unfolding gone_spot Spot
  spot =
      first-elim (λ j. leb n (g j)) (λ j. cond (eqb n (g j)) None (Some j)) (Some k) Spot 0 k (omega arith)
      (λ r a b t f. by r b (leb-true n (g r) t) (λ j c h. leb-false n (g j) (f j (omega arith) h)) (eqb n (g r)) refl)
      λ f. record { low = omega arith; before = λ j c h. leb-false n (g j) (f j (omega arith) h); past = λ h. absurd (omega (arith, h)) }
    where
      by : (r : ℕ) → r < k → n ≤ g r → ((j : ℕ) → 0 ≤ j → j < r → g j < n) → (x : Bool) → eqb n (g r) ≡ x → Spot (cond x None (Some r))
      by r b l f true e = (r, record { low = omega (arith, b); before = f; is = eqb-true n (g r) e })
      by r b l f false e = let d = eqb-false n (g r) e in record { low = omega (arith, b); before = f; past = λ h. omega (arith, l, d) }

  -- what the code asks for: room for all of them, and for one more where one comes
  module _ (room : length (keep_number n (gone_in words)) ≤ most_gone) where
    pub gone-few : k ≤ most_gone
    unfolding gone_in list_of
    gone-few = let l = keep-more n (tab g 0 k) in let e = length-tab g 0 k in omega (arith, room, l, e)

    pub spot-room : {f : Found} {z : ℕ} → f ≡ gone_spot n words → f ≡ Some z → (z ≤ k) × (k < most_gone)
    unfolding gone_in list_of Spot
    spot-room {f} {z} e q =
        let c : Comes z = subst Spot (sym e ∙ q) spot in
        let l = c.low in
        let m = keep-longer n g k 0 z (omega arith) (omega (arith, l)) c.before c.past in
        (l, omega (arith, room, m))

  -- ---- the branches of the code

  pub kept-none : {f : Found} → f ≡ gone_spot n words → f ≡ None → words ≡ kept_gone n words
  unfolding kept_gone
  kept-none e q = rw (← e, q) refl

  pub kept_at : {f : Found} {z : ℕ} {w₁ : List ℕ} → f ≡ gone_spot n words → f ≡ Some z → w₁ ≡ opened (gone_numbers_at + z) (gone_numbers_at + k) n words → set w₁ gone_count_at (k + 1) ≡ kept_gone n words
  unfolding kept_gone more_gone
  kept_at e q h = rw (← e, q, h) refl

  -- ---- the words after

  -- all but the gone numbers and their count stay
  pub record Told (gone : List ℕ) (after : List ℕ) : Type 0 where
    pub is : gone_in after ≡ gone
    pub others : (q : ℕ) → q < gone_numbers_at → (q ≡ gone_count_at → ⊥) → get_or after q 0 ≡ get_or words q 0
    pub long : length after ≡ length words

  module _ (long : length words ≡ words_size) where
    told_same : Told (gone_in words) words
    told_same = record { is = refl; others = λ q h d. refl; long = refl }

    module _ (room : length (keep_number n (gone_in words)) ≤ most_gone) where
      told_more : (z : ℕ) → gone_spot n words ≡ Some z → Told (keep_number n (gone_in words)) (more_gone n words z)
      unfolding more_gone gone_in list_of Spot
      told_more z e =
          let c : Comes z = subst Spot e spot in
          let l = c.low in
          let m : k < most_gone = (spot-room room (sym e) refl).1 in
          let w₁ : List ℕ = opened (gone_numbers_at + z) (gone_numbers_at + k) n words in
          let s : length w₁ ≡ length words = length-opened (gone_numbers_at + z) (gone_numbers_at + k) n words (omega (arith, l)) (omega (arith, long, m)) 0 in
          let count : get_or (set w₁ gone_count_at (k + 1)) gone_count_at 0 ≡ suc k = get_or-set_same w₁ gone_count_at (k + 1) 0 (omega (arith, s, long)) ∙ add-one k in
          let other : (q : ℕ) → (q ≡ gone_count_at → ⊥) → get_or (set w₁ gone_count_at (k + 1)) q 0 ≡ get_or w₁ q 0 = λ q d. get_or-set_other w₁ gone_count_at q (k + 1) 0 d in
          record {
            is =
                rw count
                (sym (keep_opened n g (λ j. get_or (set w₁ gone_count_at (k + 1)) (gone_numbers_at + j) 0) k 0 z (omega arith) (omega (arith, l)) c.before c.past
                (λ j a h. other (gone_numbers_at + j) (λ q. omega (arith, q)) ∙ opened-before (gone_numbers_at + z) (gone_numbers_at + k) n words (omega (arith, l)) (omega (arith, long, m)) 0 (gone_numbers_at + j) (omega (arith, h)))
                (other (gone_numbers_at + z) (λ q. omega (arith, q)) ∙ opened-at (gone_numbers_at + z) (gone_numbers_at + k) n words (omega (arith, l)) (omega (arith, long, m)) 0)
                (λ j a h.
                let p : suc (gone_numbers_at + j) ≡ gone_numbers_at + suc j = omega arith in
                other (gone_numbers_at + suc j) (λ q. omega (arith, q)) ∙ rw p at (opened_inside (gone_numbers_at + z) (gone_numbers_at + k) n words (omega (arith, l)) (omega (arith, long, m)) 0 (gone_numbers_at + j) (omega (arith, a)) (omega (arith, h))))));
            others = λ q h d. other q d ∙ opened-before (gone_numbers_at + z) (gone_numbers_at + k) n words (omega (arith, l)) (omega (arith, long, m)) 0 q (omega (arith, h));
            long = length-set w₁ gone_count_at (k + 1) ∙ s;
          }

      told-waits : gone_spot n words ≡ None → Told (keep_number n (gone_in words)) words
      unfolding gone_in list_of Spot
      told-waits e =
          let c : (z : ℕ) × Waits z = subst Spot e spot in
          let w = c.1 in
          subst (λ (l : List ℕ). Told l words) (sym (keep_same n g k 0 c.0 (omega arith) w.low w.before w.is)) told_same

      told-kept : Told (keep_number n (gone_in words)) (kept_gone n words)
      unfolding kept_gone
      told-kept = go (gone_spot n words) refl
        where
          go : (f : Found) → gone_spot n words ≡ f → Told (keep_number n (gone_in words)) (on_found (more_gone n words) words f)
          go (Some z) e = told_more z e
          go None e = told-waits e

    pub told-words : (unreported : Bool) → length (told_of unreported n (gone_in words)) ≤ most_gone → Told (told_of unreported n (gone_in words)) (told_words unreported n words)
    unfolding told_words
    told-words true room = told_same
    told-words false room = told-kept room
