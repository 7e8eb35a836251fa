-- A suggestion keeps what the tableau models, with the edit's new constant. Assumes nothing.
use Rattle.std.specs.Prelude.{◌≡◌, ◌⊎◌, ◌≢◌, ◌↔◌, List, [], ◌∷◌, ℕ, ◌<◌, true, false, ℤ, neg_ℤ, ◌+ℤ◌, ◌-ℤ◌, ◌*ℤ◌}
use Rattle.std.proofs.Common.{sym, ap, ap₂, ◌∙◌, inl, inr, arith, true≢false}
use Rattle.laws.specs.Ring.{ring, v, k, ◌⊞◌, ◌⊠◌, ⊟◌, ◌⊟⊟◌}
use Rattle.simplex.specs.Ord.{0ℤ}
use Rattle.simplex.specs.Lin.{Vec, δ, δ-other, dot, plus, dot-plus, dot-δ}
use Rattle.simplex.specs.At.{at, At, here, there, at?, at_here, at_there}
use Rattle.simplex.specs.Tab.{Solves}
use Rattle.simplex.specs.Basis.{Mask, Shape}
use Rattle.simplex.specs.Opt.{Kind, const, slack, dummy}
use Rattle.simplex.specs.Choose.{All}
use Rattle.simplex.specs.Problem.{Con, total, Sound, Models}
use Rattle.simplex.specs.Run.{left, Foreign, foreign}
use Rattle.simplex.specs.Drag.{dot-grow, edit}
use Rattle.simplex.specs.Gone.{total-foreign}

not-restricted-0 : (kind : ℕ → Kind) (j : ℕ) → kind 0 ≡ const → (kind j ≡ slack) ⊎ (kind j ≡ dummy) → 0 ≢ j
not-restricted-0 kind j k0 (inl h) e = let a : kind 0 ≡ kind j = ap kind e in let z : ◌≡◌ {A = ℕ} 0 1 = cc in omega arith
not-restricted-0 kind j k0 (inr h) e = let a : kind 0 ≡ kind j = ap kind e in let z : ◌≡◌ {A = ℕ} 0 1 = cc in omega arith

-- u is the symbol whose value moves, by z for each unit of the denominator
module _ (n : ℕ) (kind : ℕ → Kind) (B : Mask) (R : ℕ → Vec) (o : Vec) (cs : List Con) (a : Vec) (w : ℤ) (p q : ℕ) (y : ℤ) (in-n : 0 < n) (k0 : kind 0 ≡ const)
    (D : Models n kind B R o (edit a w p q ∷ cs)) (u : ℕ) (z : ℤ) (hu : u < n) (F : All (Foreign u) cs) (R' : ℕ → Vec) (shape : Shape n B R')
    (shift : (σ : Vec) → Solves n R' σ ↔ Solves n R (at u (σ u +ℤ z *ℤ σ 0) σ))
    (same_left : (σ : Vec) → left n (at u (σ u +ℤ z *ℤ σ 0) σ) (edit a w p q) ≡ left n σ (edit (plus a (neg_ℤ y) (δ 0)) w p q))
    (moves : (σ : Vec) → at u (σ u +ℤ z *ℤ σ 0) σ p +ℤ at u (σ u +ℤ z *ℤ σ 0) σ q ≡ σ p +ℤ σ q +ℤ z *ℤ σ 0) where
  worth : (σ : Vec) → Solves n R' σ → dot n (plus o ((o u -ℤ w) *ℤ z) (δ 0)) σ ≡ w *ℤ (σ p +ℤ σ q) +ℤ total cs σ
  worth σ s =
      dot-plus n o ((o u -ℤ w) *ℤ z) (δ 0) σ ∙ ap (λ x. dot n o σ +ℤ (o u -ℤ w) *ℤ z *ℤ x) (dot-δ n 0 σ in-n)
      ∙ ring (dot n o σ ∷ o u ∷ w ∷ z ∷ σ 0 ∷ []) (v 0 ⊞ (v 1 ⊟⊟ v 2) ⊠ v 3 ⊠ v 4) ((v 0 ⊞ v 1 ⊠ (v 3 ⊠ v 4)) ⊟⊟ v 2 ⊠ (v 3 ⊠ v 4)) tt
      ∙ ap (λ x. x -ℤ w *ℤ (z *ℤ σ 0)) (sym (dot-grow n u (z *ℤ σ 0) o σ hu) ∙ D.worth (at u (σ u +ℤ z *ℤ σ 0) σ) ((shift σ).0 s) ∙ ap₂ (λ (b c : ℤ). w *ℤ b +ℤ c) (moves σ) (total-foreign u (σ u +ℤ z *ℤ σ 0) σ cs F))
      ∙ ring (w ∷ (σ p +ℤ σ q) ∷ z ∷ σ 0 ∷ total cs σ ∷ []) (v 0 ⊠ (v 1 ⊞ v 2 ⊠ v 3) ⊞ v 4 ⊟⊟ v 0 ⊠ (v 2 ⊠ v 3)) (v 0 ⊠ v 1 ⊞ v 4) tt

  pub models-suggest : Models n kind B R' (plus o ((o u -ℤ w) *ℤ z) (δ 0)) (edit (plus a (neg_ℤ y) (δ 0)) w p q ∷ cs)
  models-suggest = record {
    shape = shape;
    clear = λ b t. ap₂ (λ (c d : ℤ). c +ℤ (o u -ℤ w) *ℤ z *ℤ d) (D.clear b t) (δ-other (λ e. true≢false (sym t ∙ ap B (sym e) ∙ shape.const)))
        ∙ ring (o u ∷ w ∷ z ∷ []) (k 0ℤ ⊞ (v 0 ⊟⊟ v 1) ⊠ v 2 ⊠ k 0ℤ) (k 0ℤ) tt;
    sounds = (
      record {
        weighs = S.weighs;
        marker-in = S.marker-in;
        marker-kind = S.marker-kind;
        other-in = S.other-in;
        other-kind = S.other-kind;
        two = S.two;
        plain = λ j h. ap₂ (λ (c d : ℤ). c +ℤ neg_ℤ y *ℤ d) (S.plain j h) (δ-other (not-restricted-0 kind j k0 h)) ∙ ring (y ∷ []) (k 0ℤ ⊞ (⊟ v 0) ⊠ k 0ℤ) (k 0ℤ) tt;
      },
      D.sounds.1,
      D.sounds.2,
    );
    solves = λ σ. (
      (λ s. let E = (D.solves (at u (σ u +ℤ z *ℤ σ 0) σ)).0 ((shift σ).0 s) in (sym (same_left σ) ∙ E.0, (foreign n u (σ u +ℤ z *ℤ σ 0) σ cs F).0 E.1)),
      (λ E. (shift σ).1 ((D.solves (at u (σ u +ℤ z *ℤ σ 0) σ)).1 (same_left σ ∙ E.0, (foreign n u (σ u +ℤ z *ℤ σ 0) σ cs F).1 E.1))),
    );
    worth = worth;
  }
    where
      S : Sound n kind (edit a w p q)
      S = D.sounds.0

-- only constants change, so the shape stays
pub shape-basic : (n : ℕ) (B : Mask) (R : ℕ → Vec) → Shape n B R → (u : ℕ) → B u ≡ true → (x : ℤ) → Shape n B (at u (plus (R u) x (δ 0)) R)
shape-basic n B R S u basic x = record { below = S.below; const = S.const; unit = λ j t i. unit j t i (at? u (plus (R u) x (δ 0)) R j); gone = λ b t j. gone b t j (at? u (plus (R u) x (δ 0)) R j) }
  where
    unit : (j : ℕ) → B j ≡ false → (i : ℕ) → At u (plus (R u) x (δ 0)) R j → at u (plus (R u) x (δ 0)) R j i ≡ δ j i
    unit j t i (here e r) = absurd (true≢false (sym basic ∙ ap B (sym e) ∙ t))
    unit j t i (there e r) = ap (λ (w : Vec). w i) r ∙ S.unit j t i

    gone : (b : ℕ) → B b ≡ true → (j : ℕ) → At u (plus (R u) x (δ 0)) R j → at u (plus (R u) x (δ 0)) R j b ≡ 0ℤ
    gone b t j (here e r) =
        ap (λ (w : Vec). w b) r ∙ ap₂ (λ (c d : ℤ). c +ℤ x *ℤ d) (S.gone b t u) (δ-other (λ z. true≢false (sym t ∙ ap B (sym z) ∙ S.const))) ∙ ring (x ∷ []) (k 0ℤ ⊞ v 0 ⊠ k 0ℤ) (k 0ℤ) tt
    gone b t j (there e r) = ap (λ (w : Vec). w b) r ∙ S.gone b t j

pub shape_free : (n : ℕ) (B : Mask) (R : ℕ → Vec) → Shape n B R → (p : ℕ) → B p ≡ false → (y : ℤ) → Shape n B (at p (δ p) (λ j. plus (R j) (R j p *ℤ y) (δ 0)))
shape_free n B R S p free y = record { below = S.below; const = S.const; unit = λ j t i. unit j t i (at? p (δ p) (λ j. plus (R j) (R j p *ℤ y) (δ 0)) j); gone = λ b t j. gone b t j (at? p (δ p) (λ j. plus (R j) (R j p *ℤ y) (δ 0)) j) }
  where
    unit : (j : ℕ) → B j ≡ false → (i : ℕ) → At p (δ p) (λ j. plus (R j) (R j p *ℤ y) (δ 0)) j → at p (δ p) (λ j. plus (R j) (R j p *ℤ y) (δ 0)) j i ≡ δ j i
    unit j t i (here e r) = ap (λ (w : Vec). w i) r ∙ ap (λ (x : ℕ). δ x i) (sym e)
    unit j t i (there e r) =
        ap (λ (w : Vec). w i) r ∙ ap (λ c. R j i +ℤ c *ℤ y *ℤ δ 0 i) (S.unit j t p ∙ δ-other e) ∙ ring (R j i ∷ y ∷ δ 0 i ∷ []) (v 0 ⊞ k 0ℤ ⊠ v 1 ⊠ v 2) (v 0) tt ∙ S.unit j t i

    gone : (b : ℕ) → B b ≡ true → (j : ℕ) → At p (δ p) (λ j. plus (R j) (R j p *ℤ y) (δ 0)) j → at p (δ p) (λ j. plus (R j) (R j p *ℤ y) (δ 0)) j b ≡ 0ℤ
    gone b t j (here e r) = ap (λ (w : Vec). w b) r ∙ δ-other (λ z. true≢false (sym t ∙ ap B (sym z) ∙ free))
    gone b t j (there e r) =
        ap (λ (w : Vec). w b) r ∙ ap₂ (λ (c d : ℤ). c +ℤ R j p *ℤ y *ℤ d) (S.gone b t j) (δ-other (λ z. true≢false (sym t ∙ ap B (sym z) ∙ S.const))) ∙ ring (R j p ∷ y ∷ []) (k 0ℤ ⊞ v 0 ⊠ v 1 ⊠ k 0ℤ) (k 0ℤ) tt

pub moves-marker : (p q : ℕ) (z : ℤ) (σ : Vec) → q ≢ p → at p (σ p +ℤ z *ℤ σ 0) σ p +ℤ at p (σ p +ℤ z *ℤ σ 0) σ q ≡ σ p +ℤ σ q +ℤ z *ℤ σ 0
moves-marker p q z σ ne =
    ap₂ ◌+ℤ◌ (at_here p (σ p +ℤ z *ℤ σ 0) σ) (at_there p (σ p +ℤ z *ℤ σ 0) σ q ne) ∙ ring (σ p ∷ σ q ∷ z ∷ σ 0 ∷ []) (v 0 ⊞ v 2 ⊠ v 3 ⊞ v 1) (v 0 ⊞ v 1 ⊞ v 2 ⊠ v 3) tt

pub moves-other : (p q : ℕ) (z : ℤ) (σ : Vec) → p ≢ q → at q (σ q +ℤ z *ℤ σ 0) σ p +ℤ at q (σ q +ℤ z *ℤ σ 0) σ q ≡ σ p +ℤ σ q +ℤ z *ℤ σ 0
moves-other p q z σ ne =
    ap₂ ◌+ℤ◌ (at_there q (σ q +ℤ z *ℤ σ 0) σ p ne) (at_here q (σ q +ℤ z *ℤ σ 0) σ) ∙ ring (σ p ∷ σ q ∷ z ∷ σ 0 ∷ []) (v 0 ⊞ (v 1 ⊞ v 2 ⊠ v 3)) (v 0 ⊞ v 1 ⊞ v 2 ⊠ v 3) tt
