-- An identity of commutative rings in ℤ, by computation: `ring ρ e f refl` proves `ev ρ e ≡ ev ρ f` where the two expressions have one normal form, a sorted list of monomials. Assumes nothing.
use Rattle.std.specs.Prelude.{◌≡◌, refl, List, [], ◌∷◌, ℕ, zero, suc, Bool, true, false, ◌&&◌, cond, T, ltb, leb, eqb, ℤ, pos, negsuc, neg_ℤ, ◌+ℤ◌, ◌*ℤ◌}
use Rattle.std.proofs.Common.{sym, ap, ◌∙◌, arith, eqb→eq}
use Rattle.std.specs.Float.Ieee.Fits.{and_l, and_r}
use Rattle.laws.specs.Z.{at, ◌⊕◌, ◌⊗◌, ⊖◌, eq_z, eq_zb, eq_zb→}

-- ---- expressions over variables, which are places in a list of integers
pub data Ring : Type 0 where
  v : ℕ → Ring
  k : ℤ → Ring
  ◌⊞◌ ◌⊠◌ : Ring → Ring → Ring
  ⊟◌ : Ring → Ring

infixl 6 ◌⊞◌ ◌⊟⊟◌
infixl 7 ◌⊠◌
infix 8 ⊟◌
abbrev pub ◌⊟⊟◌ : Ring → Ring → Ring
e ⊟⊟ f = e ⊞ (⊟ f)

abbrev pub look : List ℤ → ℕ → ℤ
look [] i = pos 0
look (a ∷ ρ) zero = a
look (a ∷ ρ) (suc i) = look ρ i

abbrev pub ev : List ℤ → Ring → ℤ
ev ρ (v i) = look ρ i
ev ρ (k z) = z
ev ρ (e ⊞ f) = ev ρ e +ℤ ev ρ f
ev ρ (e ⊠ f) = ev ρ e *ℤ ev ρ f
ev ρ (⊟ e) = neg_ℤ (ev ρ e)

-- ---- normal forms: monomials, each a coefficient and a sorted list of variables
pub data Mon : Type 0 where
  mon : ℤ → List ℕ → Mon

abbrev ins : ℕ → List ℕ → List ℕ
ins i [] = i ∷ []
ins i (j ∷ m) = let r = ins i m in cond (leb i j) (i ∷ j ∷ m) (j ∷ r)

abbrev join : List ℕ → List ℕ → List ℕ
join [] l = l
join (i ∷ m) l = ins i (join m l)

abbrev eq_l : List ℕ → List ℕ → Bool
eq_l [] [] = true
eq_l [] (j ∷ l) = false
eq_l (i ∷ m) [] = false
eq_l (i ∷ m) (j ∷ l) = eqb i j && eq_l m l

abbrev lt_l : List ℕ → List ℕ → Bool
lt_l [] [] = false
lt_l [] (j ∷ l) = true
lt_l (i ∷ m) [] = false
lt_l (i ∷ m) (j ∷ l) = cond (eqb i j) (lt_l m l) (ltb i j)

abbrev put : ℤ → List ℕ → List Mon → List Mon
put (pos zero) m q = q
put (pos (suc c)) m q = mon (pos (suc c)) m ∷ q
put (negsuc c) m q = mon (negsuc c) m ∷ q

abbrev ins_p : ℤ → List ℕ → List Mon → List Mon
ins_p c m [] = put c m []
ins_p c m (mon d l ∷ q) = let r = ins_p c m q in cond (eq_l m l) (put (c +ℤ d) l q) (cond (lt_l m l) (mon c m ∷ mon d l ∷ q) (mon d l ∷ r))

abbrev add_p : List Mon → List Mon → List Mon
add_p [] q = q
add_p (mon c m ∷ r) q = ins_p c m (add_p r q)

abbrev mul_m : ℤ → List ℕ → List Mon → List Mon
mul_m c m [] = []
mul_m c m (mon d l ∷ q) = ins_p (c *ℤ d) (join m l) (mul_m c m q)

abbrev mul_p : List Mon → List Mon → List Mon
mul_p [] q = []
mul_p (mon c m ∷ r) q = add_p (mul_m c m q) (mul_p r q)

abbrev pub norm : Ring → List Mon
norm (v i) = mon (pos 1) (i ∷ []) ∷ []
norm (k z) = put z [] []
norm (e ⊞ f) = add_p (norm e) (norm f)
norm (e ⊠ f) = mul_p (norm e) (norm f)
norm (⊟ e) = mul_m (negsuc 0) [] (norm e)

abbrev pub same : List Mon → List Mon → Bool
same [] [] = true
same [] (mon d l ∷ q) = false
same (mon c m ∷ r) [] = false
same (mon c m ∷ r) (mon d l ∷ q) = eq_zb c d && eq_l m l && same r q

-- ---- what a normal form is worth
ev_m : List ℤ → List ℕ → ℤ
ev_m ρ [] = pos 1
ev_m ρ (i ∷ m) = look ρ i *ℤ ev_m ρ m

ev_p : List ℤ → List Mon → ℤ
ev_p ρ [] = pos 0
ev_p ρ (mon c m ∷ q) = c *ℤ ev_m ρ m +ℤ ev_p ρ q

-- the few laws, each by `omega` over the parts
swap : (a b c : ℤ) → a *ℤ (b *ℤ c) ≡ b *ℤ (a *ℤ c)
swap a b c = eq_z (at a ⊗ (at b ⊗ at c)) (at b ⊗ (at a ⊗ at c)) (omega arith)

one-mul : (a : ℤ) → pos 1 *ℤ a ≡ a
one-mul a = eq_z (at (pos 1) ⊗ at a) (at a) (omega arith)

mul-one : (a : ℤ) → a *ℤ pos 1 ≡ a
mul-one a = eq_z (at a ⊗ at (pos 1)) (at a) (omega arith)

zero-mul : (a : ℤ) → pos 0 *ℤ a ≡ pos 0
zero-mul a = eq_z (at (pos 0) ⊗ at a) (at (pos 0)) (omega arith)

zero-add : (a : ℤ) → pos 0 +ℤ a ≡ a
zero-add a = eq_z (at (pos 0) ⊕ at a) (at a) (omega arith)

add-zero : (a : ℤ) → a +ℤ pos 0 ≡ a
add-zero a = eq_z (at a ⊕ at (pos 0)) (at a) (omega arith)

assoc : (a b c : ℤ) → a *ℤ b *ℤ c ≡ a *ℤ (b *ℤ c)
assoc a b c = eq_z (at a ⊗ at b ⊗ at c) (at a ⊗ (at b ⊗ at c)) (omega arith)

add_assoc : (a b c : ℤ) → a +ℤ b +ℤ c ≡ a +ℤ (b +ℤ c)
add_assoc a b c = eq_z (at a ⊕ at b ⊕ at c) (at a ⊕ (at b ⊕ at c)) (omega arith)

add-swap : (a b c : ℤ) → a +ℤ (b +ℤ c) ≡ b +ℤ (a +ℤ c)
add-swap a b c = eq_z (at a ⊕ (at b ⊕ at c)) (at b ⊕ (at a ⊕ at c)) (omega arith)

merge : (c d m q : ℤ) → (c +ℤ d) *ℤ m +ℤ q ≡ c *ℤ m +ℤ (d *ℤ m +ℤ q)
merge c d m q = eq_z ((at c ⊕ at d) ⊗ at m ⊕ at q) (at c ⊗ at m ⊕ (at d ⊗ at m ⊕ at q)) (omega arith)

-- c m (d l + q) from its parts
times : (c m d l q : ℤ) → c *ℤ d *ℤ (m *ℤ l) +ℤ c *ℤ m *ℤ q ≡ c *ℤ m *ℤ (d *ℤ l +ℤ q)
times c m d l q =
    ap (λ (z : ℤ). z +ℤ c *ℤ m *ℤ q) (assoc c d (m *ℤ l) ∙ ap (λ (z : ℤ). c *ℤ z) (swap d m l) ∙ sym (assoc c m (d *ℤ l)))
    ∙ eq_z (at (c *ℤ m) ⊗ at (d *ℤ l) ⊕ at (c *ℤ m) ⊗ at q) (at (c *ℤ m) ⊗ (at (d *ℤ l) ⊕ at q)) (omega arith)

distr : (a b c : ℤ) → a *ℤ c +ℤ b *ℤ c ≡ (a +ℤ b) *ℤ c
distr a b c = eq_z (at a ⊗ at c ⊕ at b ⊗ at c) ((at a ⊕ at b) ⊗ at c) (omega arith)

-- ---- soundness
eq_l→ : (m l : List ℕ) → T (eq_l m l) → m ≡ l
eq_l→ [] [] t = refl
eq_l→ [] (j ∷ l) t = absurd t
eq_l→ (i ∷ m) [] t = absurd t
eq_l→ (i ∷ m) (j ∷ l) t = λ x. eqb→eq i j (and_l (eqb i j) (eq_l m l) t) x ∷ eq_l→ m l (and_r (eqb i j) (eq_l m l) t) x

ins-is : (ρ : List ℤ) (i : ℕ) (m : List ℕ) → ev_m ρ (ins i m) ≡ look ρ i *ℤ ev_m ρ m
unfolding ev_m
ins-is ρ i [] = refl
ins-is ρ i (j ∷ m) = go (leb i j) (ins-is ρ i m)
  where
    go : (b : Bool) → ev_m ρ (ins i m) ≡ look ρ i *ℤ ev_m ρ m → ev_m ρ (cond b (i ∷ j ∷ m) (j ∷ ins i m)) ≡ look ρ i *ℤ ev_m ρ (j ∷ m)
    go true h = refl
    go false h = ap (λ (z : ℤ). look ρ j *ℤ z) h ∙ swap (look ρ j) (look ρ i) (ev_m ρ m)

join_is : (ρ : List ℤ) (m l : List ℕ) → ev_m ρ (join m l) ≡ ev_m ρ m *ℤ ev_m ρ l
unfolding ev_m
join_is ρ [] l = sym (one-mul (ev_m ρ l))
join_is ρ (i ∷ m) l = ins-is ρ i (join m l) ∙ ap (λ (z : ℤ). look ρ i *ℤ z) (join_is ρ m l) ∙ sym (assoc (look ρ i) (ev_m ρ m) (ev_m ρ l))

put_is : (ρ : List ℤ) (c : ℤ) (m : List ℕ) (q : List Mon) → ev_p ρ (put c m q) ≡ c *ℤ ev_m ρ m +ℤ ev_p ρ q
unfolding ev_p
put_is ρ (pos zero) m q = sym (ap (λ (z : ℤ). z +ℤ ev_p ρ q) (zero-mul (ev_m ρ m)) ∙ zero-add (ev_p ρ q))
put_is ρ (pos (suc c)) m q = refl
put_is ρ (negsuc c) m q = refl

ins_p-is : (ρ : List ℤ) (c : ℤ) (m : List ℕ) (q : List Mon) → ev_p ρ (ins_p c m q) ≡ c *ℤ ev_m ρ m +ℤ ev_p ρ q
unfolding ev_p
ins_p-is ρ c m [] = put_is ρ c m []
ins_p-is ρ c m (mon d l ∷ q) = go (eq_l m l) (eq_l→ m l) (lt_l m l) (ins_p-is ρ c m q)
  where
    go : (b : Bool) → (T b → m ≡ l) → (g : Bool) → ev_p ρ (ins_p c m q) ≡ c *ℤ ev_m ρ m +ℤ ev_p ρ q
        → ev_p ρ (cond b (put (c +ℤ d) l q) (cond g (mon c m ∷ mon d l ∷ q) (mon d l ∷ ins_p c m q))) ≡ c *ℤ ev_m ρ m +ℤ ev_p ρ (mon d l ∷ q)
    go true e g h = put_is ρ (c +ℤ d) l q ∙ merge c d (ev_m ρ l) (ev_p ρ q) ∙ ap (λ (x : List ℕ). c *ℤ ev_m ρ x +ℤ (d *ℤ ev_m ρ l +ℤ ev_p ρ q)) (sym (e tt))
    go false e true h = refl
    go false e false h = ap (λ (z : ℤ). d *ℤ ev_m ρ l +ℤ z) h ∙ add-swap (d *ℤ ev_m ρ l) (c *ℤ ev_m ρ m) (ev_p ρ q)

add_p-is : (ρ : List ℤ) (r q : List Mon) → ev_p ρ (add_p r q) ≡ ev_p ρ r +ℤ ev_p ρ q
unfolding ev_p
add_p-is ρ [] q = sym (zero-add (ev_p ρ q))
add_p-is ρ (mon c m ∷ r) q = ins_p-is ρ c m (add_p r q) ∙ ap (λ (z : ℤ). c *ℤ ev_m ρ m +ℤ z) (add_p-is ρ r q) ∙ sym (add_assoc (c *ℤ ev_m ρ m) (ev_p ρ r) (ev_p ρ q))

mul_m-is : (ρ : List ℤ) (c : ℤ) (m : List ℕ) (q : List Mon) → ev_p ρ (mul_m c m q) ≡ c *ℤ ev_m ρ m *ℤ ev_p ρ q
unfolding ev_p
mul_m-is ρ c m [] = eq_z (at (pos 0)) (at (c *ℤ ev_m ρ m) ⊗ at (pos 0)) (omega arith)
mul_m-is ρ c m (mon d l ∷ q) =
    ins_p-is ρ (c *ℤ d) (join m l) (mul_m c m q)
    ∙ ap (λ (z : ℤ). c *ℤ d *ℤ z +ℤ ev_p ρ (mul_m c m q)) (join_is ρ m l)
    ∙ ap (λ (z : ℤ). c *ℤ d *ℤ (ev_m ρ m *ℤ ev_m ρ l) +ℤ z) (mul_m-is ρ c m q)
    ∙ times c (ev_m ρ m) d (ev_m ρ l) (ev_p ρ q)

mul_p-is : (ρ : List ℤ) (r q : List Mon) → ev_p ρ (mul_p r q) ≡ ev_p ρ r *ℤ ev_p ρ q
unfolding ev_p
mul_p-is ρ [] q = sym (zero-mul (ev_p ρ q))
mul_p-is ρ (mon c m ∷ r) q =
    add_p-is ρ (mul_m c m q) (mul_p r q)
    ∙ ap (λ (z : ℤ). z +ℤ ev_p ρ (mul_p r q)) (mul_m-is ρ c m q)
    ∙ ap (λ (z : ℤ). c *ℤ ev_m ρ m *ℤ ev_p ρ q +ℤ z) (mul_p-is ρ r q)
    ∙ distr (c *ℤ ev_m ρ m) (ev_p ρ r) (ev_p ρ q)

minus : (x a : ℤ) → x ≡ pos 1 → negsuc 0 *ℤ x *ℤ a ≡ neg_ℤ a
minus x a h = ap (λ (z : ℤ). negsuc 0 *ℤ z *ℤ a) h ∙ eq_z (at (negsuc 0) ⊗ at a) (⊖ at a) (omega arith)

norm-is : (ρ : List ℤ) (e : Ring) → ev_p ρ (norm e) ≡ ev ρ e
unfolding ev_p ev_m
norm-is ρ (v i) = add-zero (pos 1 *ℤ (look ρ i *ℤ pos 1)) ∙ one-mul (look ρ i *ℤ pos 1) ∙ mul-one (look ρ i)
norm-is ρ (k z) = put_is ρ z [] [] ∙ add-zero (z *ℤ pos 1) ∙ mul-one z
norm-is ρ (e ⊞ f) = add_p-is ρ (norm e) (norm f) ∙ ap (λ (z : ℤ). z +ℤ ev_p ρ (norm f)) (norm-is ρ e) ∙ ap (λ (z : ℤ). ev ρ e +ℤ z) (norm-is ρ f)
norm-is ρ (e ⊠ f) = mul_p-is ρ (norm e) (norm f) ∙ ap (λ (z : ℤ). z *ℤ ev_p ρ (norm f)) (norm-is ρ e) ∙ ap (λ (z : ℤ). ev ρ e *ℤ z) (norm-is ρ f)
norm-is ρ (⊟ e) = mul_m-is ρ (negsuc 0) [] (norm e) ∙ minus (ev_m ρ []) (ev_p ρ (norm e)) refl ∙ ap neg_ℤ (norm-is ρ e)

same→ : (r q : List Mon) → T (same r q) → r ≡ q
same→ [] [] t = refl
same→ [] (mon d l ∷ q) t = absurd t
same→ (mon c m ∷ r) [] t = absurd t
same→ (mon c m ∷ r) (mon d l ∷ q) t =
    let u = and_l (eq_zb c d && eq_l m l) (same r q) t in
    λ x. mon (eq_zb→ c d (and_l (eq_zb c d) (eq_l m l) u) x) (eq_l→ m l (and_r (eq_zb c d) (eq_l m l) u) x) ∷ same→ r q (and_r (eq_zb c d && eq_l m l) (same r q) t) x

pub ring : (ρ : List ℤ) (e f : Ring) → T (same (norm e) (norm f)) → ev ρ e ≡ ev ρ f
ring ρ e f t = sym (norm-is ρ e) ∙ ap (ev_p ρ) (same→ (norm e) (norm f) t) ∙ norm-is ρ f
