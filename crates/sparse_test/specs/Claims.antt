-- Places of a table that are claimed one by one: each once, and each has the code that is expected there.
-- Assumes nothing.
use Rattle.std.specs.Prelude.{ℕ, zero, suc, ◌≤◌, ◌≡◌, refl, Bool, true, false, not, ◌&&◌, ◌||◌, cond, List, [], ◌∷◌, ◌++◌, map, eqb, length, get_or, set}
use Rattle.std.proofs.Common.{sym, ap, ◌∙◌, arith, length-set, get_or-set_other, eqb-true, ne_eqb}
use Rattle.std.proofs.Math.Nat.{sub-zero}
use Rattle.std.proofs.lemmas.Bool.{eqb-false}
use Rattle.laws.specs.Loops.{run, turns}
use Rattle.laws.specs.Lists.{tab, list_of}
use Rattle.steps.specs.Tests.{member}
use Rattle.steps.specs.Readable as steps
use Rattle.keeps.specs.Lists.{All}
use Rattle.rows.specs.places.Shares.{Shares, shares}
use Rattle.sparse_test.specs.Tested.{claim}

-- a place, and the code that is expected there
abbrev pub Claim : Type 0
Claim = ℕ × ℕ

abbrev pub places : List Claim → List ℕ
places l = map (λ (c : Claim). c.0) l

unfoldable pub claim_each : List Claim → Shares → Shares
claim_each [] s = s
claim_each (c ∷ l) s = claim_each l (claim c.0 c.1 s)

pub claims-append : (l m : List Claim) (s : Shares) → claim_each (l ++ m) s ≡ claim_each m (claim_each l s)
unfolding claim_each
claims-append [] m s = refl
claims-append (c ∷ l) m s = claims-append l m (claim c.0 c.1 s)

turns-claims : (step : ℕ → Shares → Shares) (f : ℕ → List Claim) (n i : ℕ) (s : Shares) → ((j : ℕ) (z : Shares) → step j z ≡ claim_each (f j) z) → turns step n i s ≡ claim_each (steps.concat (tab f i n)) s
unfolding turns claim_each tab steps.concat
turns-claims step f zero i s q = refl
turns-claims step f (suc n) i s q =
    turns-claims step f n (suc i) (step i s) q
    ∙ (rw (q i s) refl)
    ∙ sym (claims-append (f i) (steps.concat (tab f (suc i) n)) s)

-- a loop that makes some at each turn
pub run-claims : (step : ℕ → Shares → Shares) (f : ℕ → List Claim) (n : ℕ) (s : Shares) → ((j : ℕ) (z : Shares) → step j z ≡ claim_each (f j) z) → run step 0 n s ≡ claim_each (steps.concat (list_of n f)) s
unfolding run list_of
run-claims step f n s q = rw (sub-zero n) (turns-claims step f n 0 s q)

-- ---- what was right before does not matter for the table, and all have to be right

pub left-any : (l : List Claim) (t : List ℕ) (a : Bool) → (claim_each l (shares t a)).left ≡ (claim_each l (shares t true)).left
unfolding claim_each claim
left-any [] t a = refl
left-any (c ∷ l) t a = left-any l (set t c.0 0) _ ∙ sym (left-any l (set t c.0 0) _)

and-true : (a : Bool) → a ≡ a && true
and-true true = refl
and-true false = refl

pub ok-any : (l : List Claim) (t : List ℕ) (a : Bool) → (claim_each l (shares t a)).ok ≡ a && (claim_each l (shares t true)).ok
unfolding claim_each claim
ok-any [] t a = and-true a
ok-any (c ∷ l) t a =
    ok-any l (set t c.0 0) (a && eqb (get_or t c.0 0) c.1)
    ∙ assoc a (eqb (get_or t c.0 0) c.1) _
    ∙ ap (λ (b : Bool). a && b) (sym (ok-any l (set t c.0 0) (eqb (get_or t c.0 0) c.1)))
  where
    assoc : (a b c : Bool) → (a && b) && c ≡ a && (b && c)
    assoc true b c = refl
    assoc false b c = refl

-- ---- all are right: no place is claimed twice, and each has its code

zero-set : (l : List ℕ) (p : ℕ) → ◌≡◌ {A = ℕ} (get_or (set l p 0) p 0) 0
zero-set [] p = refl
zero-set (x ∷ l) zero = refl
zero-set (x ∷ l) (suc p) = zero-set l p

abbrev pub Coded : List Claim → Type 0
Coded l = All (λ (c : Claim). 1 ≤ c.1) l

abbrev pub right : List ℕ → Claim → Bool
right t c = eqb (get_or t c.0 0) c.1

-- once x is claimed, the others are right if they were, and claim another place
still-right : (t : List ℕ) (x : ℕ) (l : List Claim) → Coded l → steps.all (right (set t x 0)) l ≡ not (member x (places l)) && steps.all (right t) l
unfolding steps.all member
still-right t x [] h = refl
still-right t x (d ∷ l) h = go (eqb x d.0) refl (still-right t x l h.1)
  where
    shuffle : (e m r : Bool) → e && (not m && r) ≡ not m && (e && r)
    shuffle true m r = refl
    shuffle false true r = refl
    shuffle false false r = refl

    go : (b : Bool) → eqb x d.0 ≡ b → steps.all (right (set t x 0)) l ≡ not (member x (places l)) && steps.all (right t) l → right (set t x 0) d && steps.all (right (set t x 0)) l ≡ not (b || member x (places l)) && (right t d && steps.all (right t) l)
    go true q i =
        let o : x ≡ d.0 = eqb-true x d.0 q in
        let z : get_or (set t x 0) d.0 0 ≡ 0 = rw (← o) (zero-set t x) in
        let n : eqb 0 d.1 ≡ false = ne_eqb 0 d.1 (λ e. let u = h.0 in omega (arith, e, u)) in
        rw (z, n) refl
    go false q i =
        let n : d.0 ≡ x → ⊥ = λ e. eqb-false x d.0 q (sym e) in
        let z : get_or (set t x 0) d.0 0 ≡ get_or t d.0 0 = get_or-set_other t x d.0 0 0 n in
        rw (z, i) (shuffle (right t d) (member x (places l)) (steps.all (right t) l))

pub claims-right : (l : List Claim) (t : List ℕ) → Coded l → (claim_each l (shares t true)).ok ≡ steps.distinct (places l) && steps.all (right t) l
unfolding claim_each claim steps.distinct steps.all
claims-right [] t h = refl
claims-right (c ∷ l) t h =
    ok-any l (set t c.0 0) (right t c)
    ∙ (rw (claims-right l (set t c.0 0) h.1, still-right t c.0 l h.1) refl)
    ∙ shuffle (right t c) (steps.distinct (places l)) (not (member c.0 (places l))) (steps.all (right t) l)
  where
    shuffle : (a d n e : Bool) → a && (d && (n && e)) ≡ (n && d) && (a && e)
    shuffle true true true e = refl
    shuffle true true false e = refl
    shuffle true false true e = refl
    shuffle true false false e = refl
    shuffle false true true e = refl
    shuffle false false true e = refl
    shuffle false true false e = refl
    shuffle false false false e = refl

-- what is claimed is 0, and the rest is as it was
pub claims-left : (l : List Claim) (t : List ℕ) (a : Bool) (p : ℕ) → get_or (claim_each l (shares t a)).left p 0 ≡ cond (member p (places l)) 0 (get_or t p 0)
unfolding claim_each claim member
claims-left [] t a p = refl
claims-left (c ∷ l) t a p = claims-left l (set t c.0 0) _ p ∙ go (eqb p c.0) refl
  where
    zero_or : (m : Bool) → ◌≡◌ {A = ℕ} (cond m 0 0) 0
    zero_or true = refl
    zero_or false = refl

    go : (b : Bool) → eqb p c.0 ≡ b → cond (member p (places l)) 0 (get_or (set t c.0 0) p 0) ≡ cond (b || member p (places l)) 0 (get_or t p 0)
    go true q =
        let o : p ≡ c.0 = eqb-true p c.0 q in
        let z : get_or (set t c.0 0) p 0 ≡ 0 = rw o (zero-set t c.0) in
        rw z (zero_or (member p (places l)))
    go false q = rw (get_or-set_other t c.0 p 0 0 (eqb-false p c.0 q)) refl

pub claims-length : (l : List Claim) (s : Shares) → length (claim_each l s).left ≡ length s.left
unfolding claim_each claim
claims-length [] s = refl
claims-length (c ∷ l) s = claims-length l _ ∙ length-set s.left c.0 0
