-- Which of n numbers from a place on is x: by walking; and that halving finds the same where they ascend.
-- Assumes nothing.
use Rattle.std.specs.Prelude.{ℕ, ◌+◌, ◌≤◌, ◌<◌, ◌≡◌, Bool, List, length, get_or, take, drop}
use Rattle.std.proofs.Math.Path.{refl, sym, ap, subst}
use Rattle.std.proofs.Common.{◌∙◌, arith}
use Rattle.std.proofs.Math.ListN.{length-drop}
use Rattle.std.proofs.Math.Seq.{length-take-le, get_or-take, get_or-drop}
use Rattle.std.proofs.Math.Bool.{true, false}
use Rattle.std.proofs.Math.Dec.{ltb}
use borrow.Author.Tests.{ltb-true, ltb-false}
use Rattle.layout.specs.cells.Search.{same-at}
use Rattle.rows.specs.places.Finding.{place_in, place-le, place_is, place-live}

-- which of the n numbers from place a on is x, n if none is: "finding a variable's place by walking the table"
unfoldable pub place_from : List ℕ → ℕ → ℕ → ℕ → ℕ
place_from l a n x = place_in (λ j. get_or l (a + j) 0) n x

-- the n numbers from place a on ascend
abbrev pub Ascends : List ℕ → ℕ → ℕ → Type 0
Ascends l a n = (i j : ℕ) → i < j → j < n → get_or l (a + i) 0 < get_or l (a + j) 0

module _ (l : List ℕ) (a n x : ℕ) where
  abbrev number : ℕ → ℕ
  number j = get_or l (a + j) 0

  -- what halving finds: the numbers before r are below x, the one at r is not
  pub record Halved (r : ℕ) : Type 0 where
    pub below : (j : ℕ) → j < r → number j < x
    pub reached : r < n → x ≤ number r

  module _ (fit : a + n ≤ length l) (part : List ℕ) (is : part ≡ take n (drop a l)) where
    pub long : length part ≡ n
    long = ap length is ∙ length-take-le n (drop a l) (rw (length-drop a l) (omega (arith, fit)))

    read : (j d : ℕ) → j < n → get_or part j d ≡ number j
    read j d h = ap (λ (z : List ℕ). get_or z j d) is ∙ get_or-take n (drop a l) j d h ∙ get_or-drop a l j d ∙ same-at l (a + j) d (omega (arith, fit, h))

    -- they rise, so that halving may search them
    pub rising : Ascends l a n → (i j : ℕ) → i ≤ j → j < length part → get_or part i 0 ≤ get_or part j 0
    rising up i j h k = rw (read i 0 (omega (arith, h, u)), read j 0 u) (go (ltb i j) refl)
      where
        u : j < n
        u = omega (arith, k, long)

        go : (b : Bool) → ltb i j ≡ b → number i ≤ number j
        go true e = let v = up i j (ltb-true i j e) u in omega (arith, v)
        go false e =
            let c : j ≡ i = omega (arith, h, ltb-false i j e) in
            subst (λ (y : ℕ). number y ≤ number j) c (omega arith)

    pub here : {r : ℕ} → r < length part → get_or part r 0 ≡ x → (r < n) × (number r ≡ x)
    here {r} h e =
        let u : r < n = omega (arith, h, long) in
        (u, sym (read r 0 u) ∙ e)

    -- a place to insert x: the numbers before it are below x, those from it on above
    pub halved : {r : ℕ} → r ≤ length part → ((j : ℕ) → j < r → get_or part j 0 < x) → ((j : ℕ) → r ≤ j → j < length part → x < get_or part j 0) → Halved r × (r < n → number r ≡ x → ⊥)
    halved {r} h below above = (record { below = λ j u. rw (read j 0 (omega (arith, u, h, long))) at (below j u); reached = λ q. let p = past q in omega (arith, p) }, λ q e. let p = past q in omega (arith, p, e))
      where
        past : r < n → x < number r
        past q = rw (read r 0 q) at (above r (omega arith) (omega (arith, q, long)))

  module _ (up : Ascends l a n) where
    apart : (i j : ℕ) → i < n → j < n → number i ≡ number j → i ≡ j
    apart i j u v e = go (ltb i j) refl (ltb j i) refl
      where
        go : (b : Bool) → ltb i j ≡ b → (c : Bool) → ltb j i ≡ c → i ≡ j
        go true f c g = let p = up i j (ltb-true i j f) v in absurd (omega (arith, p, e))
        go false f true g = let p = up j i (ltb-true j i g) u in absurd (omega (arith, p, e))
        go false f false g = omega (arith, ltb-false i j f, ltb-false j i g)

    -- a place that has the number is the one that the walk comes to
    pub place_here : (r : ℕ) → r < n → number r ≡ x → r ≡ place_from l a n x
    unfolding place_from
    place_here r h e =
        let p = place-live number n x r h e in
        apart r (place_in number n x) h p (e ∙ sym (place_is number n x p))

    -- no place has it: what lies before r is below, what lies from there on is above
    pub place-nowhere : {r : ℕ} → Halved r → (r < n → number r ≡ x → ⊥) → n ≡ place_from l a n x
    unfolding place_from
    place-nowhere {r} h miss = go (ltb (place_in number n x) n) refl
      where
        none : (j : ℕ) → j < n → number j ≡ x → ⊥
        none j u e = by (ltb j r) refl (ltb r j) refl
          where
            by : (b : Bool) → ltb j r ≡ b → (c : Bool) → ltb r j ≡ c → ⊥
            by true f c g = let p = h.below j (ltb-true j r f) in omega (arith, p, e)
            by false f true g =
                let k = ltb-true r j g in
                let p = up r j k u in
                let q = h.reached (omega (arith, k, u)) in
                omega (arith, p, q, e)
            by false f false g =
                let c : j ≡ r = omega (arith, ltb-false j r f, ltb-false r j g) in
                miss (omega (arith, c, u)) (subst (λ (y : ℕ). number y ≡ x) c e)

        go : (b : Bool) → ltb (place_in number n x) n ≡ b → n ≡ place_in number n x
        go true f = let p = ltb-true (place_in number n x) n f in absurd (none (place_in number n x) p (place_is number n x p))
        go false f = let p = place-le number n x in omega (arith, p, ltb-false (place_in number n x) n f)
