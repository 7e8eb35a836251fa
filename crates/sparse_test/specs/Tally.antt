-- Numbers that are counted one by one.
-- Assumes nothing.
use Rattle.std.specs.Prelude.{ℕ, zero, suc, ◌+◌, ◌≤◌, ◌<◌, ◌≡◌, refl, Bool, true, false, cond, List, [], ◌∷◌, ◌++◌, eqb, length, get_or, set, replicate}
use Rattle.std.proofs.Common.{sym, ◌∙◌, add-zero, zero-add, arith, length-set, get_or-set_same, get_or-set_other, eqb-true}
use Rattle.std.proofs.Math.Nat.{sub-zero}
use Rattle.std.proofs.lemmas.Bool.{eqb-false}
use Rattle.laws.specs.Loops.{run, turns}
use Rattle.laws.specs.Lists.{tab, list_of}
use Rattle.layout.proofs.Copied.{length-list_of}
use Rattle.rows.specs.places.Spent.{count_of}
use Rattle.sparse.specs.Places.{most_terms}
use Rattle.sparse_test.specs.Tested.{index_in, tally, count_uses, no_uses}

unfoldable pub tally_each : List ℕ → List ℕ → List ℕ
tally_each [] l = l
tally_each (p ∷ ps) l = tally_each ps (tally p l)

pub tally-append : (ps qs l : List ℕ) → tally_each (ps ++ qs) l ≡ tally_each qs (tally_each ps l)
unfolding tally_each
tally-append [] qs l = refl
tally-append (p ∷ ps) qs l = tally-append ps qs (tally p l)

turns-tally : (g : ℕ → ℕ) (n i : ℕ) (l : List ℕ) → turns (λ j z. tally (g j) z) n i l ≡ tally_each (tab g i n) l
unfolding turns tally_each tab
turns-tally g zero i l = refl
turns-tally g (suc n) i l = turns-tally g n (suc i) (tally (g i) l)

-- a loop that counts one at each turn
pub run-tally : (g : ℕ → ℕ) (n : ℕ) (l : List ℕ) → run (λ j z. tally (g j) z) 0 n l ≡ tally_each (list_of n g) l
unfolding run list_of
run-tally g n l = rw (sub-zero n) (turns-tally g n 0 l)

-- each number has been counted as often as it stands in the list
pub tally-at : (ps l : List ℕ) (j : ℕ) → j < length l → get_or (tally_each ps l) j 0 ≡ get_or l j 0 + count_of j ps
unfolding tally_each tally count_of
tally-at [] l j h = sym (add-zero (get_or l j 0))
tally-at (p ∷ ps) l j h = tally-at ps (set l p (get_or l p 0 + 1)) j (rw (length-set l p (get_or l p 0 + 1)) h) ∙ go (eqb j p) refl
  where
    go : (b : Bool) → eqb j p ≡ b → get_or (set l p (get_or l p 0 + 1)) j 0 + count_of j ps ≡ get_or l j 0 + (cond b 1 0 + count_of j ps)
    go true q =
        let o : j ≡ p = eqb-true j p q in
        let k : p < length l = rw o at h in
        let e : get_or (set l p (get_or l p 0 + 1)) j 0 ≡ get_or l j 0 + 1 = rw o (get_or-set_same l p (get_or l p 0 + 1) 0 k) in
        rw e (omega arith)
    go false q = rw (get_or-set_other l p j (get_or l p 0 + 1) 0 (eqb-false j p q), zero-add (count_of j ps)) refl

-- ---- how many at most

abbrev pub Most : List ℕ → ℕ → Type 0
Most l b = (p : ℕ) → get_or l p 0 ≤ b

set-most : (l : List ℕ) (i x p b : ℕ) → get_or l p 0 ≤ b → x ≤ b → get_or (set l i x) p 0 ≤ b
set-most [] i x p b h k = h
set-most (y ∷ l) zero x zero b h k = k
set-most (y ∷ l) zero x (suc p) b h k = h
set-most (y ∷ l) (suc i) x zero b h k = h
set-most (y ∷ l) (suc i) x (suc p) b h k = set-most l i x p b h k

pub one-most : (l : List ℕ) (i b : ℕ) → Most l b → Most (tally i l) (b + 1)
unfolding tally
one-most l i b f p = let a = f p in let c = f i in set-most l i (get_or l i 0 + 1) p (b + 1) (omega (arith, a)) (omega (arith, c))

pub tally-most : (ps l : List ℕ) (b : ℕ) → Most l b → Most (tally_each ps l) (b + length ps)
unfolding tally_each
tally-most [] l b f p = let a = f p in omega (arith, a)
tally-most (q ∷ ps) l b f p =
    let a = tally-most ps (tally q l) (b + 1) (one-most l q b f) p in
    let o : b + 1 + length ps ≡ b + suc (length ps) = omega arith in
    rw o at a

zeros : (n j : ℕ) → ◌≡◌ {A = ℕ} (get_or (replicate n 0) j 0) 0
zeros zero j = refl
zeros (suc n) zero = refl
zeros (suc n) (suc j) = zeros n j

pub none-most : {l : List ℕ} → l ≡ no_uses → Most l most_terms
unfolding no_uses
none-most e p = let z = zeros 33 p in rw e (omega (arith, z))

pub uses-most : (b : List ℕ) (v a n : ℕ) {l m : List ℕ} → l ≡ no_uses → m ≡ count_uses b v a n l → n ≤ most_terms → Most m most_terms
unfolding no_uses count_uses
uses-most b v a n {l} e q h p =
    let f : ℕ → ℕ = λ j. index_in b v (get_or b (a + j) 0) in
    let c : length (list_of n f) ≡ n = length-list_of n f in
    let k : get_or (tally_each (list_of n f) (replicate 33 0)) p 0 ≤ 0 + length (list_of n f) = tally-most (list_of n f) (replicate 33 0) 0 (λ i. let z = zeros 33 i in omega (arith, z)) p in
    rw (q, e, run-tally f n (replicate 33 0)) (omega (arith, c, k, h))
