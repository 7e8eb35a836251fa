-- A suggestion in the theory: the three ways to shift rows, each leaves a tableau that models the edit with its new aim. Assumes nothing.
use Rattle.std.specs.Prelude.{◌≡◌, refl, ◌≢◌, true, false, List, [], ◌∷◌, ℕ, ◌<◌, ℤ, neg_ℤ, ◌+ℤ◌, ◌-ℤ◌, ◌*ℤ◌}
use Rattle.std.proofs.Common.{sym, ap, ap₂, ◌∙◌, inl, arith}
use Rattle.laws.specs.Z.{◌≼◌}
use Rattle.laws.specs.Ring.{ring, v, k as κ, ◌⊞◌, ◌⊠◌}
use Rattle.simplex.specs.Ord.{0ℤ, ≼-of-eq, ≼_trans}
use Rattle.simplex.specs.Lin.{Vec, δ, δ-other, plus}
use Rattle.simplex.specs.At.{at, At, here, there, at?, at_there}
use Rattle.simplex.specs.Choose.{All}
use Rattle.simplex.specs.Opt.{Kind as KindZ, const, external, slack, dummy, slack≢dummy}
use Rattle.simplex.specs.Pass.{State, Good}
use Rattle.simplex.specs.Problem.{Con, Sound, Models}
use Rattle.simplex.specs.Run.{Foreign}
use Rattle.simplex.specs.Drag.{edit, edit-marker, edit-other, shift-basic, shift-free}
use Rattle.simplex.specs.Suggest.{models-suggest, shape-basic, shape_free, moves-marker, moves-other}
use Rattle.simplex.specs.Gone.{const≢external}

const≢slack : const ≢ slack
const≢slack e = let z : ◌≡◌ {A = ℕ} 0 1 = cc in omega arith

-- what a shift by d leaves: every row j has d j more, no dummy's row has; the tableau models the edit's new aim
pub record Aimed (n : ℕ) (kind : ℕ → KindZ) (S : State) (d : ℕ → ℤ) (cs : List Con) : Type 0 where
  pub R : ℕ → Vec
  pub o : Vec
  pub rows : (j i : ℕ) → S.R j i +ℤ d j *ℤ δ 0 i ≡ R j i
  pub still : (j : ℕ) → kind j ≡ dummy → d j ≡ 0ℤ
  pub same-o : (j : ℕ) → j ≢ 0 → o j ≡ S.o j
  pub models : Models n kind S.B R o cs

module _ (n : ℕ) (kind : ℕ → KindZ) (S : State) (G : Good n kind S) (in-n : 0 < n) (a : Vec) (w : ℤ) (p q : ℕ) (cs : List Con) (D : Models n kind S.B S.R S.o (edit a w p q ∷ cs))
    (y : ℤ) (Fp : All (Foreign p) cs) (Fq : All (Foreign q) cs) where
  abbrev pub aimed : List Con
  aimed = edit (plus a (neg_ℤ y) (δ 0)) w p q ∷ cs

  sound : Sound n kind (edit a w p q)
  sound = D.sounds.0

  plain : (j : ℕ) → kind j ≡ slack → a j ≡ 0ℤ
  plain j e = sound.plain j (inl e)

  beyond-0 : (u : ℕ) (z : ℤ) (j : ℕ) → j ≢ 0 → plus S.o ((S.o u -ℤ w) *ℤ z) (δ 0) j ≡ S.o j
  beyond-0 u z j ne =
      ap (λ (t : ℤ). S.o j +ℤ (S.o u -ℤ w) *ℤ z *ℤ t) (δ-other (λ e. ne (sym e)))
      ∙ ring (S.o j ∷ (S.o u -ℤ w) ∷ z ∷ []) (v 0 ⊞ v 1 ⊠ v 2 ⊠ κ 0ℤ) (v 0) tt

  -- one row alone gets t
  one-row : (u : ℕ) (t : ℤ) (j i : ℕ) → S.R j i +ℤ at u t (λ _. 0ℤ) j *ℤ δ 0 i ≡ at u (plus (S.R u) t (δ 0)) S.R j i
  one-row u t j i = go (at? u t (λ _. 0ℤ) j) (at? u (plus (S.R u) t (δ 0)) S.R j)
    where
      go : At u t (λ _. 0ℤ) j → At u (plus (S.R u) t (δ 0)) S.R j → S.R j i +ℤ at u t (λ _. 0ℤ) j *ℤ δ 0 i ≡ at u (plus (S.R u) t (δ 0)) S.R j i
      go (here e x) (here f z) = ap₂ (λ (a b : ℤ). a +ℤ b *ℤ δ 0 i) (ap (λ (r : ℕ). S.R r i) e) x ∙ ap (λ (r : Vec). r i) (sym z)
      go (here e x) (there f z) = absurd (f e)
      go (there e x) (here f z) = absurd (e f)
      go (there e x) (there f z) = ap (λ (b : ℤ). S.R j i +ℤ b *ℤ δ 0 i) x ∙ ring (S.R j i ∷ δ 0 i ∷ []) (v 0 ⊞ κ 0ℤ ⊠ v 1) (v 0) tt ∙ ap (λ (r : Vec). r i) (sym z)

  apart : (u : ℕ) → kind u ≡ slack → (t : ℤ) (j : ℕ) → kind j ≡ dummy → at u t (λ _. 0ℤ) j ≡ 0ℤ
  apart u s t j e = at_there u t (λ _. 0ℤ) j (λ x. slack≢dummy (sym s ∙ ap kind (sym x) ∙ e))

  -- "Marker basic: add -delta"
  pub by-marker : S.B p ≡ true → Aimed n kind S (at p (neg_ℤ y) (λ _. 0ℤ)) aimed
  by-marker b = record {
    R = at p (plus (S.R p) (neg_ℤ y) (δ 0)) S.R;
    o = plus S.o ((S.o p -ℤ w) *ℤ y) (δ 0);
    rows = one-row p (neg_ℤ y);
    still = apart p sound.marker-kind (neg_ℤ y);
    same-o = beyond-0 p y;
    models = models-suggest n kind S.B S.R S.o cs a w p q y in-n G.zero D p y sound.marker-in Fp (at p (plus (S.R p) (neg_ℤ y) (δ 0)) S.R)
        (shape-basic n S.B S.R G.shape p b (neg_ℤ y)) (shift-basic n S.B S.R G.shape in-n p b y) (λ σ. edit-marker n a w p q y σ in-n (plain p sound.marker-kind) (sound.two refl))
        (λ σ. moves-marker p q y σ (sound.two refl));
  }

  -- "else other basic: add delta"
  pub by-other : S.B q ≡ true → Aimed n kind S (at q (neg_ℤ (neg_ℤ y)) (λ _. 0ℤ)) aimed
  by-other b = record {
    R = at q (plus (S.R q) (neg_ℤ (neg_ℤ y)) (δ 0)) S.R;
    o = plus S.o ((S.o q -ℤ w) *ℤ neg_ℤ y) (δ 0);
    rows = one-row q (neg_ℤ (neg_ℤ y));
    still = apart q (sound.other-kind refl) (neg_ℤ (neg_ℤ y));
    same-o = beyond-0 q (neg_ℤ y);
    models = models-suggest n kind S.B S.R S.o cs a w p q y in-n G.zero D q (neg_ℤ y) (sound.other-in refl) Fq (at q (plus (S.R q) (neg_ℤ (neg_ℤ y)) (δ 0)) S.R)
        (shape-basic n S.B S.R G.shape q b (neg_ℤ (neg_ℤ y))) (shift-basic n S.B S.R G.shape in-n q b (neg_ℤ y))
        (λ σ. edit-other n a w p q y σ in-n (plain q (sound.other-kind refl)) (λ e. sound.two refl (sym e))) (λ σ. moves-other p q (neg_ℤ y) σ (λ e. sound.two refl (sym e)));
  }

  -- "else every row holding the marker gets delta times that cell"
  held-row : S.B p ≡ false → (j i : ℕ) → S.R j i +ℤ at p 0ℤ (λ j. S.R j p *ℤ y) j *ℤ δ 0 i ≡ at p (δ p) (λ j. plus (S.R j) (S.R j p *ℤ y) (δ 0)) j i
  held-row b j i = go (at? p 0ℤ (λ j. S.R j p *ℤ y) j) (at? p (δ p) (λ j. plus (S.R j) (S.R j p *ℤ y) (δ 0)) j)
    where
      go : At p 0ℤ (λ j. S.R j p *ℤ y) j → At p (δ p) (λ j. plus (S.R j) (S.R j p *ℤ y) (δ 0)) j → S.R j i +ℤ at p 0ℤ (λ j. S.R j p *ℤ y) j *ℤ δ 0 i ≡ at p (δ p) (λ j. plus (S.R j) (S.R j p *ℤ y) (δ 0)) j i
      go (here e x) (here f z) =
          ap (λ (t : ℤ). S.R j i +ℤ t *ℤ δ 0 i) x ∙ ring (S.R j i ∷ δ 0 i ∷ []) (v 0 ⊞ κ 0ℤ ⊠ v 1) (v 0) tt ∙ ap (λ (r : ℕ). S.R r i) e ∙ G.shape.unit p b i ∙ ap (λ (r : Vec). r i) (sym z)
      go (here e x) (there f z) = absurd (f e)
      go (there e x) (here f z) = absurd (e f)
      go (there e x) (there f z) = ap (λ (t : ℤ). S.R j i +ℤ t *ℤ δ 0 i) x ∙ ap (λ (r : Vec). r i) (sym z)

  pub by-cells : S.B p ≡ false → Aimed n kind S (at p 0ℤ (λ j. S.R j p *ℤ y)) aimed
  by-cells b = record {
    R = at p (δ p) (λ j. plus (S.R j) (S.R j p *ℤ y) (δ 0));
    o = plus S.o ((S.o p -ℤ w) *ℤ y) (δ 0);
    rows = held-row b;
    still = λ j e. at_there p 0ℤ (λ j. S.R j p *ℤ y) j (λ x. slack≢dummy (sym sound.marker-kind ∙ ap kind (sym x) ∙ e)) ∙ ap (λ (t : ℤ). t *ℤ y) (G.dummies j p e sound.marker-kind) ∙ ring (y ∷ []) (κ 0ℤ ⊠ v 0) (κ 0ℤ) tt;
    same-o = beyond-0 p y;
    models = models-suggest n kind S.B S.R S.o cs a w p q y in-n G.zero D p y sound.marker-in Fp (at p (δ p) (λ j. plus (S.R j) (S.R j p *ℤ y) (δ 0)))
        (shape_free n S.B S.R G.shape p b y) (shift-free n S.R in-n p sound.marker-in (G.shape.unit p b) y) (λ σ. edit-marker n a w p q y σ in-n (plain p sound.marker-kind) (sound.two refl))
        (λ σ. moves-marker p q y σ (sound.two refl));
  }

-- ---- so the dual pass starts well
module _ (n : ℕ) (kind : ℕ → KindZ) (S : State) (G : Good n kind S) (rest : (j : ℕ) → kind j ≡ slack → 0ℤ ≼ S.o j) (d : ℕ → ℤ) (cs : List Con) (A : Aimed n kind S d cs) where
  not-0 : {t : KindZ} → const ≢ t → (j : ℕ) → kind j ≡ t → j ≢ 0
  not-0 h j e z = h (sym G.zero ∙ ap kind (sym z) ∙ e)

  unmoved : (j i : ℕ) → i ≢ 0 → A.R j i ≡ S.R j i
  unmoved j i ne = sym (A.rows j i) ∙ ap (λ (t : ℤ). S.R j i +ℤ d j *ℤ t) (δ-other (λ e. ne (sym e))) ∙ ring (S.R j i ∷ d j ∷ []) (v 0 ⊞ v 1 ⊠ κ 0ℤ) (v 0) tt

  pub aimed-good : Rattle.simplex.specs.Dual.Good n kind (record { B = S.B; R = A.R; o = A.o })
  aimed-good = record {
    zero = G.zero;
    consts = G.consts;
    shape = A.models.shape;
    clear = A.models.clear;
    costs = λ i e. ≼_trans (rest i e) (≼-of-eq (sym (A.same-o i (not-0 const≢slack i e))));
    no-vars = λ j i h e. unmoved j i (not-0 const≢external i e) ∙ G.no-vars j i h e;
    dummies = λ j i h e. unmoved j i (not-0 const≢slack i e) ∙ G.dummies j i h e;
    still-dummies = λ j e. sym (A.rows j 0) ∙ ap (λ (t : ℤ). S.R j 0 +ℤ t *ℤ δ 0 0) (A.still j e) ∙ ap (λ (t : ℤ). t +ℤ 0ℤ *ℤ δ 0 0) (G.still-dummies j e) ∙ ring (δ 0 0 ∷ []) (κ 0ℤ ⊞ κ 0ℤ ⊠ v 0) (κ 0ℤ) tt;
  }

  pub aimed-no-var : (j : ℕ) → kind j ≡ external → A.o j ≡ 0ℤ
  aimed-no-var j e = A.same-o j (not-0 const≢external j e) ∙ G.no-var j e
