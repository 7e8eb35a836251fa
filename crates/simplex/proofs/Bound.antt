-- How long a pass is: fewer pivots than "n choose r", for n columns of which r are basic. Assumes nothing.
use Rattle.std.specs.Prelude.{◌≡◌, refl, ◌⊎◌, ◌≢◌, Bool, cond, T, eqb, length}
use Rattle.std.proofs.Common.{sym, ap₂, ◌∙◌, subst, inl, inr, le_refl, le_of_lt, arith, true≢false, eqb→eq}
use Rattle.std.proofs.Math.Path.{ap, fun_ext}
use mathlib.Core.List.{List, [], ◌∷◌, map, head-eq_of_cons-eq, tail-eq_of_cons-eq}
use Prim.Native.Nat.{ℕ, zero, suc, ◌≤◌, ◌<◌}
use Rattle.std.proofs.Math.Bool.{true, false}
use Rattle.std.proofs.Math.Dec.{eqb_refl}
use Rattle.std.proofs.lemmas.List.{length-map}
use Rattle.simplex.specs.Choose.{choose, trues, All, Distinct, Picks, at_most}
use Rattle.simplex.specs.Basis.{Mask, swap, Swapped, enters, leaves, stays, swapped}
use Rattle.simplex.specs.Opt.{Kind, external, slack, slack≢external, external?}
use Rattle.simplex.specs.Pass.{State}
use Rattle.simplex.specs.Cycle.{Flips}
use Rattle.simplex.specs.Bland.{Pass}
use Rattle.simplex.proofs.Bland.{flips, no_return}
use Rattle.simplex.specs.Bound.{Mem}

not_in : (x : ℕ) (l : List ℕ) → All (λ y. x ≢ y) l → Mem x l → ⊥
not_in x [] a h = h
not_in x (y ∷ l) a (inl e) = a.0 e
not_in x (y ∷ l) a (inr h) = not_in x l a.1 h

-- two masks that differ at x alone, off in the first and on in the second
module _ (f g : Mask) (x : ℕ) (off : f x ≡ false) (on : g x ≡ true) (else : (j : ℕ) → j ≢ x → f j ≡ g j) where
  same_rest : (l : List ℕ) → All (λ y. x ≢ y) l → map f l ≡ map g l
  same_rest [] a = refl
  same_rest (y ∷ l) a = ap₂ (λ (b : Bool) (m : List Bool). b ∷ m) (else y (λ e. a.0 (sym e))) (same_rest l a.1)

  head-same : (b c : Bool) (u w : List Bool) → b ≡ c → trues w ≡ suc (trues u) → trues (c ∷ w) ≡ suc (trues (b ∷ u))
  unfolding trues
  head-same true true u w e h = ap suc h
  head-same true false u w e h = absurd (true≢false e)
  head-same false true u w e h = absurd (true≢false (sym e))
  head-same false false u w e h = h

  head-on : (b c : Bool) (u w : List Bool) → b ≡ false → c ≡ true → u ≡ w → trues (c ∷ w) ≡ suc (trues (b ∷ u))
  unfolding trues
  head-on true c u w e d h = absurd (true≢false e)
  head-on false true u w e d h = ap (λ (m : List Bool). suc (trues m)) (sym h)
  head-on false false u w e d h = absurd (true≢false (sym d))

  one_more : (l : List ℕ) → Distinct l → Mem x l → trues (map g l) ≡ suc (trues (map f l))
  one_more [] d h = absurd h
  one_more (y ∷ l) d (inl e) = head-on (f y) (g y) (map f l) (map g l) (ap f (sym e) ∙ off) (ap g (sym e) ∙ on) (same_rest l (subst (λ z. All (λ w. z ≢ w) l) (sym e) d.0))
  one_more (y ∷ l) d (inr h) = head-same (f y) (g y) (map f l) (map g l) (else y (λ e. not_in y l d.0 (subst (λ z. Mem z l) (sym e) h))) (one_more l d.1 h)

-- B with l off
off : ℕ → Mask → Mask
off l B j = cond (eqb j l) false (B j)

off_at : (l : ℕ) (B : Mask) → off l B l ≡ false
unfolding off
off_at l B = go (eqb l l) refl
  where
    go : (b : Bool) → eqb l l ≡ b → cond (eqb l l) false (B l) ≡ false
    go true p = rw p
    go false p = absurd (subst T p (eqb_refl l))

off-else : (l : ℕ) (B : Mask) (j : ℕ) → j ≢ l → off l B j ≡ B j
unfolding off
off-else l B j ne = go (eqb j l) refl
  where
    go : (b : Bool) → eqb j l ≡ b → cond (eqb j l) false (B j) ≡ B j
    go true p = absurd (ne (eqb→eq j l (subst T (sym p) tt)))
    go false p = rw p

-- a pivot keeps the number of basic columns
module _ (l e : ℕ) (B : Mask) (bl : B l ≡ true) (be : B e ≡ false) where
  e≢l : e ≢ l
  e≢l p = true≢false (sym bl ∙ ap B (sym p) ∙ be)

  pub swap-e : swap l e B e ≡ true
  swap-e = go (swapped l e B e)
    where
      go : Swapped l e B e → swap l e B e ≡ true
      go (enters p t) = t
      go (leaves p t) = absurd (e≢l p)
      go (stays p q t) = absurd (p refl)

  swap-else : (j : ℕ) → j ≢ e → off l B j ≡ swap l e B j
  swap-else j ne = go (swapped l e B j)
    where
      go : Swapped l e B j → off l B j ≡ swap l e B j
      go (enters p t) = absurd (ne p)
      go (leaves p t) = ap (off l B) p ∙ off_at l B ∙ sym t
      go (stays p q t) = off-else l B j q ∙ sym t

  pub swap-trues : (ids : List ℕ) → Distinct ids → Mem l ids → Mem e ids → trues (map (swap l e B) ids) ≡ trues (map B ids)
  swap-trues ids d hl he =
      one_more (off l B) (swap l e B) e (off-else l B e e≢l ∙ be) swap-e swap-else ids d he
      ∙ sym (one_more (off l B) B l (off_at l B) bl (off-else l B) ids d hl)

-- ---- f 0 .. f (m - 1), as a list
listing : {A : Type 0} → ℕ → (ℕ → A) → List A
listing zero f = []
listing (suc m) f = f m ∷ listing m f

length-listing : {A : Type 0} (m : ℕ) (f : ℕ → A) → length (listing m f) ≡ m
unfolding listing
length-listing zero f = refl
length-listing (suc m) f = ap suc (length-listing m f)

all-listing : {A : Type 0} (Q : A → Type 0) (m : ℕ) (f : ℕ → A) → ((i : ℕ) → i < m → Q (f i)) → All Q (listing m f)
unfolding listing
all-listing Q zero f h = tt
all-listing Q (suc m) f h = (h m (le_refl (suc m)), all-listing Q m f (λ i l. h i (omega arith)))

distinct-listing : {A : Type 0} (m : ℕ) (f : ℕ → A) → ((i j : ℕ) → i < j → j < m → f i ≢ f j) → Distinct (listing m f)
unfolding listing
distinct-listing zero f h = tt
distinct-listing (suc m) f h =
    (all-listing (λ y. f m ≢ y) m f (λ i l e. h i m l (le_refl (suc m)) (sym e)), distinct-listing m f (λ i j a b. h i j a (omega arith)))

map_at : (f g : Mask) (l : List ℕ) → map f l ≡ map g l → (j : ℕ) → Mem j l → f j ≡ g j
map_at f g [] e j h = absurd h
map_at f g (y ∷ l) e j (inl p) = ap f p ∙ head-eq_of_cons-eq e ∙ ap g (sym p)
map_at f g (y ∷ l) e j (inr h) = map_at f g l (tail-eq_of_cons-eq e) j h

-- THE BOUND. ids lists the restricted columns, each once: every one that is basic at the start or enters is among them. A variable's row stays where it is
module _ (kind : ℕ → Kind) (m : ℕ) (M : ℕ → Mask) (le en : ℕ → ℕ) (F : Flips m M le en)
    (ls : (i : ℕ) → i < m → kind (le i) ≡ slack) (es : (i : ℕ) → i < m → kind (en i) ≡ slack)
    (never : (a b : ℕ) → a < b → b ≤ m → ((j : ℕ) → M a j ≡ M b j) → ⊥)
    (ids : List ℕ) (once : Distinct ids) (first : (j : ℕ) → M 0 j ≡ true → kind j ≢ external → Mem j ids) (later : (i : ℕ) → i < m → Mem (en i) ids) where
  covered : (i : ℕ) → i ≤ m → (j : ℕ) → M i j ≡ true → kind j ≢ external → Mem j ids
  covered zero h j t ne = first j t ne
  covered (suc i) h j t ne = go (swapped (le i) (en i) (M i) j) (λ u. covered i (le_of_lt h) j u ne)
    where
      t' : swap (le i) (en i) (M i) j ≡ true
      t' = sym (F.next i h j) ∙ t

      go : Swapped (le i) (en i) (M i) j → (M i j ≡ true → Mem j ids) → Mem j ids
      go (enters p u) ih = subst (λ x. Mem x ids) (sym p) (later i h)
      go (leaves p u) ih = absurd (true≢false (sym t' ∙ u))
      go (stays p q u) ih = ih (sym u ∙ t')

  no-external : (j : ℕ) → kind j ≡ slack → kind j ≢ external
  no-external j s e = slack≢external (sym s ∙ e)

  stay : (i : ℕ) → i ≤ m → (j : ℕ) → kind j ≡ external → M i j ≡ M 0 j
  stay zero h j x = refl
  stay (suc i) h j x = F.next i h j ∙ go (swapped (le i) (en i) (M i) j) ∙ stay i (le_of_lt h) j x
    where
      go : Swapped (le i) (en i) (M i) j → swap (le i) (en i) (M i) j ≡ M i j
      go (enters p u) = absurd (no-external (en i) (es i h) (ap kind (sym p) ∙ x))
      go (leaves p u) = absurd (no-external (le i) (ls i h) (ap kind (sym p) ∙ x))
      go (stays p q u) = u

  -- the number of them that are basic stays
  pub basics : (i : ℕ) → i ≤ m → trues (map (M i) ids) ≡ trues (map (M 0) ids)
  basics zero h = refl
  basics (suc i) h =
      ap (λ (N : Mask). trues (map N ids)) (fun_ext (F.next i h))
      ∙ swap-trues (le i) (en i) (M i) (F.out i h) (F.free i h) ids once (covered i (le_of_lt h) (le i) (F.out i h) (no-external (le i) (ls i h))) (later i h) ∙ basics i (le_of_lt h)

  agree : (a b : ℕ) → a ≤ m → b ≤ m → map (M a) ids ≡ map (M b) ids → (j : ℕ) → M a j ≡ M b j
  agree a b ha hb e j = go (M a j) refl (M b j) refl (external? (kind j))
    where
      at : Mem j ids → M a j ≡ M b j
      at h = map_at (M a) (M b) ids e j h

      go : (x : Bool) → M a j ≡ x → (y : Bool) → M b j ≡ y → (kind j ≡ external) ⊎ (kind j ≢ external) → M a j ≡ M b j
      go x p y q (inl k) = stay a ha j k ∙ sym (stay b hb j k)
      go true p y q (inr k) = at (covered a ha j p k)
      go false p true q (inr k) = at (covered b hb j q k)
      go false p false q (inr k) = p ∙ sym q

  -- m pivots are fewer than the ways to choose r of n, for the r rows on the n restricted columns
  pub bound : m < choose (length ids) (trues (map (M 0) ids))
  bound =
      omega (
        arith,
        at_most (length ids) (trues (map (M 0) ids)) (listing (suc m) (λ i. map (M i) ids))
            (all-listing (Picks (length ids) (trues (map (M 0) ids))) (suc m) (λ i. map (M i) ids) (λ i h. record { size = length-map ids (M i); count = basics i (omega arith) }))
            (distinct-listing (suc m) (λ i. map (M i) ids) (λ i j a b e. never i j a (omega arith) (agree i j (omega arith) (omega arith) e))),
        length-listing (suc m) (λ i. map (M i) ids),
      )

-- of an optimise pass
pub pass-bound : (n : ℕ) (kind : ℕ → Kind) (m : ℕ) (S : ℕ → State) (le en : ℕ → ℕ) → Pass n kind m S le en
    → (ids : List ℕ) → Distinct ids → ((j : ℕ) → (S 0).B j ≡ true → kind j ≢ external → Mem j ids) → ((i : ℕ) → i < m → Mem (en i) ids)
    → m < choose (length ids) (trues (map (S 0).B ids))
pass-bound n kind m S le en Q =
    bound kind m (λ i. (S i).B) le en (flips n kind m S le en Q) (λ i h. (Q.choice i h).l-slack) (λ i h. (Q.choice i h).e-slack) (no_return n kind m S le en Q)
