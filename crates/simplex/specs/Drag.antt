-- A suggestion: an edit's constant falls by y, and so does the marker's value, or the other symbol's grows. Assumes nothing.
use Rattle.std.specs.Prelude.{◌≡◌, ◌≢◌, ◌↔◌, [], ◌∷◌, ℕ, ◌<◌, true, ℤ, neg_ℤ, ◌+ℤ◌, ◌-ℤ◌, ◌*ℤ◌}
use Rattle.std.proofs.Common.{sym, ap, ap₂, ◌∙◌}
use Rattle.laws.specs.Ring.{ring, v, k, ◌⊞◌, ◌⊠◌, ⊟◌, ◌⊟⊟◌}
use Rattle.simplex.specs.Ord.{0ℤ, 1ℤ}
use Rattle.simplex.specs.Lin.{Vec, δ, δ-same, δ-other, dot, plus, dot-plus, dot-cong, dot-δ}
use Rattle.simplex.specs.At.{at, At, here, there, at?, at_here, at_there}
use Rattle.simplex.specs.Tab.{Solves}
use Rattle.simplex.specs.Basis.{Mask, Shape}
use Rattle.simplex.specs.Change.{dot_at}
use Rattle.simplex.specs.Form.{eq}
use Rattle.simplex.specs.Problem.{Con}
use Rattle.simplex.specs.Run.{left}

-- a dot product where one column's value grows by z
pub dot-grow : (n p : ℕ) (z : ℤ) (w σ : Vec) → p < n → dot n w (at p (σ p +ℤ z) σ) ≡ dot n w σ +ℤ w p *ℤ z
dot-grow n p z w σ h =
    dot-cong n w (at p (σ p +ℤ z) σ) (λ j. w j *ℤ σ j +ℤ (w p *ℤ z) *ℤ δ p j) (λ _. 1ℤ) (λ j _. go j (at? p (σ p +ℤ z) σ j))
    ∙ dot-plus n (λ j. w j *ℤ σ j) (w p *ℤ z) (δ p) (λ _. 1ℤ)
    ∙ ap₂ (λ (a b : ℤ). a +ℤ w p *ℤ z *ℤ b) (dot-cong n (λ j. w j *ℤ σ j) (λ _. 1ℤ) w σ (λ j _. ring (w j ∷ σ j ∷ []) (v 0 ⊠ v 1 ⊠ k 1ℤ) (v 0 ⊠ v 1) tt)) (dot-δ n p (λ _. 1ℤ) h)
    ∙ ring (dot n w σ ∷ w p ∷ z ∷ []) (v 0 ⊞ v 1 ⊠ v 2 ⊠ k 1ℤ) (v 0 ⊞ v 1 ⊠ v 2) tt
  where
    go : (j : ℕ) → At p (σ p +ℤ z) σ j → w j *ℤ at p (σ p +ℤ z) σ j ≡ (w j *ℤ σ j +ℤ (w p *ℤ z) *ℤ δ p j) *ℤ 1ℤ
    go j (here q e) =
        ap (λ y. w j *ℤ y) e ∙ ap₂ (λ (a b : ℤ). a *ℤ (b +ℤ z)) (ap w q) (ap σ (sym q))
        ∙ ring (w p ∷ σ j ∷ z ∷ []) (v 0 ⊠ (v 1 ⊞ v 2)) ((v 0 ⊠ v 1 ⊞ v 0 ⊠ v 2 ⊠ k 1ℤ) ⊠ k 1ℤ) tt
        ∙ ap₂ (λ (a b : ℤ). (a *ℤ σ j +ℤ w p *ℤ z *ℤ b) *ℤ 1ℤ) (ap w (sym q)) (sym (δ-same p) ∙ ap (δ p) (sym q))
    go j (there q e) =
        ap (λ y. w j *ℤ y) e ∙ ring (w j ∷ σ j ∷ w p ∷ z ∷ []) (v 0 ⊠ v 1) ((v 0 ⊠ v 1 ⊞ v 2 ⊠ v 3 ⊠ k 0ℤ) ⊠ k 1ℤ) tt
        ∙ ap (λ y. (w j *ℤ σ j +ℤ w p *ℤ z *ℤ y) *ℤ 1ℤ) (sym (δ-other (λ x. q (sym x))))

-- the symbol p is basic: its row's constant grows by -y
pub shift-basic : (n : ℕ) (B : Mask) (R : ℕ → Vec) → Shape n B R → 0 < n → (p : ℕ) → B p ≡ true → (y : ℤ) (σ : Vec)
    → Solves n (at p (plus (R p) (neg_ℤ y) (δ 0)) R) σ ↔ Solves n R (at p (σ p +ℤ y *ℤ σ 0) σ)
shift-basic n B R S in-n p basic y σ = ((λ s j h. to s j h (at? p (σ p +ℤ y *ℤ σ 0) σ j)), (λ s j h. from s j h (at? p (plus (R p) (neg_ℤ y) (δ 0)) R j)))
  where
    unseen : (j : ℕ) → dot n (R j) (at p (σ p +ℤ y *ℤ σ 0) σ) ≡ dot n (R j) σ
    unseen j = dot_at n p (σ p +ℤ y *ℤ σ 0) (R j) σ (S.gone p basic j)

    value : dot n (plus (R p) (neg_ℤ y) (δ 0)) σ ≡ dot n (R p) σ -ℤ y *ℤ σ 0
    value = dot-plus n (R p) (neg_ℤ y) (δ 0) σ ∙ ap (λ z. dot n (R p) σ +ℤ neg_ℤ y *ℤ z) (dot-δ n 0 σ in-n) ∙ ring (dot n (R p) σ ∷ y ∷ σ 0 ∷ []) (v 0 ⊞ (⊟ v 1) ⊠ v 2) (v 0 ⊟⊟ v 1 ⊠ v 2) tt

    to : Solves n (at p (plus (R p) (neg_ℤ y) (δ 0)) R) σ → (j : ℕ) → j < n → At p (σ p +ℤ y *ℤ σ 0) σ j → at p (σ p +ℤ y *ℤ σ 0) σ j ≡ dot n (R j) (at p (σ p +ℤ y *ℤ σ 0) σ)
    to s j h (here q e) =
        e ∙ ap (λ z. z +ℤ y *ℤ σ 0) (s p (S.below p basic) ∙ ap (λ (w : Vec). dot n w σ) (at_here p (plus (R p) (neg_ℤ y) (δ 0)) R) ∙ value)
        ∙ ring (dot n (R p) σ ∷ y ∷ σ 0 ∷ []) (v 0 ⊟⊟ v 1 ⊠ v 2 ⊞ v 1 ⊠ v 2) (v 0) tt ∙ ap (λ (i : ℕ). dot n (R i) σ) (sym q) ∙ sym (unseen j)
    to s j h (there q e) = e ∙ s j h ∙ ap (λ (w : Vec). dot n w σ) (at_there p (plus (R p) (neg_ℤ y) (δ 0)) R j q) ∙ sym (unseen j)

    from : Solves n R (at p (σ p +ℤ y *ℤ σ 0) σ) → (j : ℕ) → j < n → At p (plus (R p) (neg_ℤ y) (δ 0)) R j → σ j ≡ dot n (at p (plus (R p) (neg_ℤ y) (δ 0)) R j) σ
    from s j h (here q e) =
        ap σ q ∙ ring (σ p ∷ y ∷ σ 0 ∷ []) (v 0) (v 0 ⊞ v 1 ⊠ v 2 ⊟⊟ v 1 ⊠ v 2) tt
        ∙ ap (λ z. z -ℤ y *ℤ σ 0) (sym (at_here p (σ p +ℤ y *ℤ σ 0) σ) ∙ s p (S.below p basic) ∙ unseen p) ∙ sym value ∙ ap (λ (w : Vec). dot n w σ) (sym e)
    from s j h (there q e) = sym (at_there p (σ p +ℤ y *ℤ σ 0) σ j q) ∙ s j h ∙ unseen j ∙ ap (λ (w : Vec). dot n w σ) (sym e)

-- p is not basic: every row that holds it gets y times its cell
pub shift-free : (n : ℕ) (R : ℕ → Vec) → 0 < n → (p : ℕ) → p < n → ((i : ℕ) → R p i ≡ δ p i) → (y : ℤ) (σ : Vec)
    → Solves n (at p (δ p) (λ j. plus (R j) (R j p *ℤ y) (δ 0))) σ ↔ Solves n R (at p (σ p +ℤ y *ℤ σ 0) σ)
shift-free n R in-n p hp own y σ = ((λ s j h. to s j h (at? p (σ p +ℤ y *ℤ σ 0) σ j)), (λ s j h. from s j h (at? p (δ p) (λ j. plus (R j) (R j p *ℤ y) (δ 0)) j)))
  where
    move : (j : ℕ) → dot n (plus (R j) (R j p *ℤ y) (δ 0)) σ ≡ dot n (R j) (at p (σ p +ℤ y *ℤ σ 0) σ)
    move j =
        dot-plus n (R j) (R j p *ℤ y) (δ 0) σ ∙ ap (λ z. dot n (R j) σ +ℤ R j p *ℤ y *ℤ z) (dot-δ n 0 σ in-n)
        ∙ ring (dot n (R j) σ ∷ R j p ∷ y ∷ σ 0 ∷ []) (v 0 ⊞ v 1 ⊠ v 2 ⊠ v 3) (v 0 ⊞ v 1 ⊠ (v 2 ⊠ v 3)) tt ∙ sym (dot-grow n p (y *ℤ σ 0) (R j) σ hp)

    to : Solves n (at p (δ p) (λ j. plus (R j) (R j p *ℤ y) (δ 0))) σ → (j : ℕ) → j < n → At p (σ p +ℤ y *ℤ σ 0) σ j → at p (σ p +ℤ y *ℤ σ 0) σ j ≡ dot n (R j) (at p (σ p +ℤ y *ℤ σ 0) σ)
    to s j h (here q e) =
        ap (at p (σ p +ℤ y *ℤ σ 0) σ) q ∙ sym (dot-cong n (R p) (at p (σ p +ℤ y *ℤ σ 0) σ) (δ p) (at p (σ p +ℤ y *ℤ σ 0) σ) (λ i _. ap (λ z. z *ℤ at p (σ p +ℤ y *ℤ σ 0) σ i) (own i)) ∙ dot-δ n p (at p (σ p +ℤ y *ℤ σ 0) σ) hp)
        ∙ ap (λ (i : ℕ). dot n (R i) (at p (σ p +ℤ y *ℤ σ 0) σ)) (sym q)
    to s j h (there q e) = e ∙ s j h ∙ ap (λ (w : Vec). dot n w σ) (at_there p (δ p) (λ j. plus (R j) (R j p *ℤ y) (δ 0)) j q) ∙ move j

    from : Solves n R (at p (σ p +ℤ y *ℤ σ 0) σ) → (j : ℕ) → j < n → At p (δ p) (λ j. plus (R j) (R j p *ℤ y) (δ 0)) j → σ j ≡ dot n (at p (δ p) (λ j. plus (R j) (R j p *ℤ y) (δ 0)) j) σ
    from s j h (here q e) = ap σ q ∙ sym (dot-δ n p σ hp) ∙ ap (λ (w : Vec). dot n w σ) (sym e)
    from s j h (there q e) = sym (at_there p (σ p +ℤ y *ℤ σ 0) σ j q) ∙ s j h ∙ sym (move j) ∙ ap (λ (w : Vec). dot n w σ) (sym e)

-- ---- the edit: x less the suggestion is 0, with two errors. A suggestion that grows by y
abbrev pub edit : Vec → ℤ → ℕ → ℕ → Con
edit a w p q = record { expr = a; form = eq; weight = w; marker = p; other = q }

pub edit-marker : (n : ℕ) (a : Vec) (w : ℤ) (p q : ℕ) (y : ℤ) (σ : Vec) → 0 < n → a p ≡ 0ℤ → q ≢ p
    → left n (at p (σ p +ℤ y *ℤ σ 0) σ) (edit a w p q) ≡ left n σ (edit (plus a (neg_ℤ y) (δ 0)) w p q)
edit-marker n a w p q y σ in-n h ne =
    ap₂ (λ (e s : ℤ). e -ℤ s +ℤ at p (σ p +ℤ y *ℤ σ 0) σ q) (dot_at n p (σ p +ℤ y *ℤ σ 0) a σ h) (at_here p (σ p +ℤ y *ℤ σ 0) σ)
    ∙ ap (λ t. dot n a σ -ℤ (σ p +ℤ y *ℤ σ 0) +ℤ t) (at_there p (σ p +ℤ y *ℤ σ 0) σ q ne)
    ∙ ring (dot n a σ ∷ σ p ∷ y ∷ σ 0 ∷ σ q ∷ []) (v 0 ⊟⊟ (v 1 ⊞ v 2 ⊠ v 3) ⊞ v 4) (v 0 ⊞ (⊟ v 2) ⊠ v 3 ⊟⊟ v 1 ⊞ v 4) tt
    ∙ ap (λ e. e -ℤ σ p +ℤ σ q) (sym (dot-plus n a (neg_ℤ y) (δ 0) σ ∙ ap (λ z. dot n a σ +ℤ neg_ℤ y *ℤ z) (dot-δ n 0 σ in-n)))

pub edit-other : (n : ℕ) (a : Vec) (w : ℤ) (p q : ℕ) (y : ℤ) (σ : Vec) → 0 < n → a q ≡ 0ℤ → p ≢ q
    → left n (at q (σ q +ℤ neg_ℤ y *ℤ σ 0) σ) (edit a w p q) ≡ left n σ (edit (plus a (neg_ℤ y) (δ 0)) w p q)
edit-other n a w p q y σ in-n h ne =
    ap₂ (λ (e s : ℤ). e -ℤ s +ℤ at q (σ q +ℤ neg_ℤ y *ℤ σ 0) σ q) (dot_at n q (σ q +ℤ neg_ℤ y *ℤ σ 0) a σ h) (at_there q (σ q +ℤ neg_ℤ y *ℤ σ 0) σ p ne)
    ∙ ap (λ t. dot n a σ -ℤ σ p +ℤ t) (at_here q (σ q +ℤ neg_ℤ y *ℤ σ 0) σ)
    ∙ ring (dot n a σ ∷ σ p ∷ y ∷ σ 0 ∷ σ q ∷ []) (v 0 ⊟⊟ v 1 ⊞ (v 4 ⊞ (⊟ v 2) ⊠ v 3)) (v 0 ⊞ (⊟ v 2) ⊠ v 3 ⊟⊟ v 1 ⊞ v 4) tt
    ∙ ap (λ e. e -ℤ σ p +ℤ σ q) (sym (dot-plus n a (neg_ℤ y) (δ 0) σ ∙ ap (λ z. dot n a σ +ℤ neg_ℤ y *ℤ z) (dot-δ n 0 σ in-n)))
