-- A column that no constraint holds is in no row and no objective, so it may go; and a removed constraint, once its costs are out of the objective. Assumes nothing.
use Rattle.std.specs.Prelude.{◌≡◌, refl, ◌⊎◌, ◌≢◌, ◌↔◌, List, [], ◌∷◌, ℕ, zero, suc, ◌<◌, Bool, true, false, ℤ, nat_abs, ◌+ℤ◌, ◌*ℤ◌}
use Rattle.std.proofs.Common.{sym, ap, ap₂, ◌∙◌, inl, inr, arith, true≢false}
use Rattle.laws.specs.Ring.{ring, v, k, ◌⊞◌, ◌⊠◌}
use Rattle.simplex.specs.Ord.{0ℤ, 1ℤ}
use Rattle.simplex.specs.Lin.{Vec, δ, δ-same, δ-other, dot, dot-cong, dot-δ}
use Rattle.simplex.specs.At.{at, At, here, there, at?, at_here, at_there}
use Rattle.simplex.specs.Tab.{Solves, pivoted, pivot, pivot-solves, pivot-objective}
use Rattle.simplex.specs.Basis.{Mask, Shape, Clear, swap, pivot-clear, pivot-shape}
use Rattle.simplex.specs.Opt.{Kind, const, external, slack, dummy, slack≢external}
use Rattle.simplex.specs.Choose.{All, all-zip}
use Rattle.simplex.specs.Form.{Form, le!, eq!, ge!, le, eq, ge, resid, cost}
use Rattle.simplex.specs.Problem.{Con, Equation, total, marker_kind, Sound, Tag, Apart, Sounds, Models, cost-other, resid-other, sounds-all, marker-restricted}
use Rattle.simplex.specs.Change.{dot_at, dropped, drop-shape, drop-solves}
use Rattle.simplex.specs.Pass.{State, Good}
use Rattle.simplex.specs.Temp.{rekind}
use Rattle.simplex.specs.Run.{left, Foreign, foreign, models-drop}

-- ---- kinds apart
pub dummy≢external : dummy ≢ external
dummy≢external e = let z : ◌≡◌ {A = ℕ} 0 1 = cc in omega arith

pub const≢external : const ≢ external
const≢external e = let z : ◌≡◌ {A = ℕ} 0 1 = cc in omega arith

-- ---- the assignment that is 1 at one column
abbrev pub nil : Vec
nil = λ _. 0ℤ

pub dot-nil : (n : ℕ) (w : Vec) → dot n w nil ≡ 0ℤ
unfolding dot
dot-nil zero w = refl
dot-nil (suc n) w = ap (λ z. z +ℤ w n *ℤ 0ℤ) (dot-nil n w) ∙ ring (w n ∷ []) (k 0ℤ ⊞ v 0 ⊠ k 0ℤ) (k 0ℤ) tt

abbrev pub one_at : ℕ → Vec
one_at s = at s 1ℤ nil

pub dot-one : (n s : ℕ) (w : Vec) → s < n → dot n w (one_at s) ≡ w s
dot-one n s w h = dot-cong n w (one_at s) (δ s) w (λ j _. go j (at? s 1ℤ nil j)) ∙ dot-δ n s w h
  where
    go : (j : ℕ) → At s 1ℤ nil j → w j *ℤ one_at s j ≡ δ s j *ℤ w j
    go j (here p e) = ap (λ z. w j *ℤ z) e ∙ ring (w j ∷ []) (v 0 ⊠ k 1ℤ) (k 1ℤ ⊠ v 0) tt ∙ ap (λ z. z *ℤ w j) (sym (ap (δ s) p ∙ δ-same s))
    go j (there p e) = ap (λ z. w j *ℤ z) e ∙ ring (w j ∷ []) (v 0 ⊠ k 0ℤ) (k 0ℤ ⊠ v 0) tt ∙ ap (λ z. z *ℤ w j) (sym (δ-other (λ q. p (sym q))))

one≢zero : 1ℤ ≡ 0ℤ → ⊥
one≢zero e = let z : ◌≡◌ {A = ℕ} 1 0 = ap nat_abs e in omega arith

-- ---- what a symbol's owner shares with no other constraint
pub total-foreign : (u : ℕ) (y : ℤ) (σ : Vec) (cs : List Con) → All (Foreign u) cs → total cs (at u y σ) ≡ total cs σ
total-foreign u y σ [] F = refl
total-foreign u y σ (c ∷ cs) F =
    ap₂ (λ (a b : ℤ). c.weight *ℤ a +ℤ b)
    (ap (λ s. cost c.form s (at u y σ c.other)) (at_there u y σ c.marker (λ q. F.0.0 (inl (sym q))))
    ∙ cost-other c.form (σ c.marker) (at u y σ c.other) (σ c.other) (λ b. at_there u y σ c.other (λ q. F.0.0 (inr (b, sym q)))))
    (total-foreign u y σ cs F.1)

pub tag-kind : (n : ℕ) (kind : ℕ → Kind) (c : Con) → Sound n kind c → (j : ℕ) → Tag j c → (kind j ≡ slack) ⊎ (kind j ≡ dummy)
tag-kind n kind c S j (inl p) = go (marker-restricted c.form)
  where
    go : (marker_kind c.form ≡ slack) ⊎ (marker_kind c.form ≡ dummy) → (kind j ≡ slack) ⊎ (kind j ≡ dummy)
    go (inl e) = inl (ap kind p ∙ S.marker-kind ∙ e)
    go (inr e) = inr (ap kind p ∙ S.marker-kind ∙ e)
tag-kind n kind c S j (inr p) = inl (ap kind p.1 ∙ S.other-kind p.0)

-- a restricted column is no variable's
pub not-variable : (kind : ℕ → Kind) (j : ℕ) → (kind j ≡ slack) ⊎ (kind j ≡ dummy) → kind j ≢ external
not-variable kind j (inl e) x = slack≢external (sym e ∙ x)
not-variable kind j (inr e) x = dummy≢external (sym e ∙ x)

pub tag-foreign : (n : ℕ) (kind : ℕ → Kind) (c : Con) (cs : List Con) → Sounds n kind (c ∷ cs) → (j : ℕ) → Tag j c → All (Foreign j) cs
tag-foreign n kind c cs S j t =
    all-zip {P = Apart c} {Q = Sound n kind} {C = Foreign j} (λ d a s. (a j t, s.plain j (tag-kind n kind c S.0 j t))) cs S.1 (sounds-all n kind cs S.2)

-- ---- a column that no constraint holds
module _ (n : ℕ) (kind : ℕ → Kind) (B : Mask) (R : ℕ → Vec) (o : Vec) (cs : List Con) (D : Models n kind B R o cs) (s : ℕ) (in-n : s < n) (F : All (Foreign s) cs) where
  nil-solves : Solves n R nil
  nil-solves j h = sym (dot-nil n (R j))

  one-solves : Solves n R (one_at s)
  one-solves = (D.solves (one_at s)).1 ((foreign n s 1ℤ nil cs F).1 ((D.solves nil).0 nil-solves))

  pub gone-free : B s ≡ false
  gone-free = go (B s) refl
    where
      go : (b : Bool) → B s ≡ b → B s ≡ false
      go false e = e
      go true e = absurd (one≢zero (sym (at_here s 1ℤ nil) ∙ one-solves s in-n ∙ dot-one n s (R s) in-n ∙ D.shape.gone s e s))

  pub gone-rows : (j : ℕ) → j ≢ s → R j s ≡ 0ℤ
  gone-rows j ne = go (B j) refl
    where
      go : (b : Bool) → B j ≡ b → R j s ≡ 0ℤ
      go true e = sym (dot-one n s (R j) in-n) ∙ sym (one-solves j (D.shape.below j e)) ∙ at_there s 1ℤ nil j ne
      go false e = D.shape.unit j e s ∙ δ-other ne

  pub gone-cost : o s ≡ 0ℤ
  gone-cost = sym (dot-one n s o in-n) ∙ D.worth (one_at s) one-solves ∙ total-foreign s 1ℤ nil cs F ∙ sym (D.worth nil nil-solves) ∙ dot-nil n o

  pub gone-sound : (c : Con) → Foreign s c → Sound n kind c → Sound n (at s external kind) c
  gone-sound c f S = record {
    weighs = S.weighs;
    marker-in = S.marker-in;
    marker-kind = at_there s external kind c.marker (λ q. f.0 (inl (sym q))) ∙ S.marker-kind;
    other-in = S.other-in;
    other-kind = λ b. at_there s external kind c.other (λ q. f.0 (inr (b, sym q))) ∙ S.other-kind b;
    two = S.two;
    plain = λ j h. plain j h (at? s external kind j);
  }
    where
      old : (j : ℕ) → at s external kind j ≡ kind j → (at s external kind j ≡ slack) ⊎ (at s external kind j ≡ dummy) → (kind j ≡ slack) ⊎ (kind j ≡ dummy)
      old j e (inl h) = inl (sym e ∙ h)
      old j e (inr h) = inr (sym e ∙ h)

      plain : (j : ℕ) → (at s external kind j ≡ slack) ⊎ (at s external kind j ≡ dummy) → At s external kind j → c.expr j ≡ 0ℤ
      plain j h (here p e) = ap c.expr p ∙ f.1
      plain j h (there p e) = S.plain j (old j e h)

  gone-sounds : (ds : List Con) → All (Foreign s) ds → Sounds n kind ds → Sounds n (at s external kind) ds
  gone-sounds [] f S = tt
  gone-sounds (d ∷ ds) f S = (gone-sound d f.0 S.0, S.1, gone-sounds ds f.1 S.2)

  -- its kind may go with it
  pub gone-models : Models n (at s external kind) B R o cs
  gone-models = record { shape = D.shape; clear = D.clear; sounds = gone-sounds cs F D.sounds; solves = D.solves; worth = D.worth }

external≢const : external ≢ const
external≢const e = const≢external (sym e)

pub gone-good : (n : ℕ) (kind : ℕ → Kind) (S : State) (cs : List Con) → Good n kind S → Models n kind S.B S.R S.o cs → (s : ℕ) → s < n → s ≢ 0 → All (Foreign s) cs → Good n (at s external kind) S
gone-good n kind S cs G D s h ne F =
    rekind n kind S G s external (record { free = gone-free n kind S.B S.R S.o cs D s h F; not-0 = ne; rows = gone-rows n kind S.B S.R S.o cs D s h F })
    (gone-cost n kind S.B S.R S.o cs D s h F) external≢const

-- ---- a constraint c is being removed: its costs are out of the objective, its equation still stands
pub record Halfway (n : ℕ) (kind : ℕ → Kind) (B : Mask) (R : ℕ → Vec) (o : Vec) (c : Con) (cs : List Con) : Type 0 where
  pub shape : Shape n B R
  pub clear : Clear B o
  pub sounds : Sounds n kind (c ∷ cs)
  pub solves : (σ : Vec) → Solves n R σ ↔ All (Equation n σ) (c ∷ cs)
  pub worth : (σ : Vec) → Solves n R σ → dot n o σ ≡ total cs σ

pub half-pivot : (n : ℕ) (kind : ℕ → Kind) (B : Mask) (R : ℕ → Vec) (o : Vec) (c : Con) (cs : List Con) (l e : ℕ) → Halfway n kind B R o c cs
    → B l ≡ true → B e ≡ false → e < n → e ≢ 0 → R l e *ℤ R l e ≡ 1ℤ
    → Halfway n kind (swap l e B) (pivot l e R) (pivoted l e R o) c cs
half-pivot n kind B R o c cs l e D hl he in-n ne one = record {
  shape = pivot-shape n B R D.shape l e hl he in-n one ne;
  clear = pivot-clear n B R D.shape l e hl he in-n one o D.clear;
  sounds = D.sounds;
  solves = λ σ. ((λ s. (D.solves σ).0 ((back σ).0 s)), (λ s. (back σ).1 ((D.solves σ).1 s)));
  worth = λ σ s. pivot-objective n R l e o σ (D.shape.below l hl) ((back σ).0 s) ∙ D.worth σ ((back σ).0 s);
}
  where
    back : (σ : Vec) → Solves n (pivot l e R) σ ↔ Solves n R σ
    back σ = pivot-solves n R l e σ (D.shape.below l hl) in-n (D.shape.unit e he) one

module _ (n : ℕ) (kind : ℕ → Kind) (B : Mask) (R : ℕ → Vec) (o : Vec) (c : Con) (cs : List Con) (D : Halfway n kind B R o c cs) where
  abbrev p : ℕ
  p = c.marker

  foreign-marker : All (Foreign c.marker) cs
  foreign-marker = tag-foreign n kind c cs D.sounds c.marker (inl refl)

  no_own : c.expr c.marker ≡ 0ℤ
  no_own = D.sounds.0.plain c.marker (tag-kind n kind c D.sounds.0 c.marker (inl refl))

  -- its marker is basic, and its row goes
  pub half-drop : B c.marker ≡ true → Models n kind (at c.marker false B) (dropped c.marker R) o cs
  half-drop basic = record {
    shape = drop-shape n B R D.shape p basic;
    clear = λ b u. D.clear b (still-on b u (at? p false B b));
    sounds = D.sounds.2;
    solves = models-drop n kind B R cs c D.shape basic no_own (λ b. D.sounds.0.two b) foreign-marker D.solves;
    worth = λ σ s.
        sym (dot_at n p (dot n (R p) σ) o σ (D.clear p basic)) ∙ D.worth (at p (dot n (R p) σ) σ) ((drop-solves n B R D.shape p basic σ).0 s)
        ∙ total-foreign p (dot n (R p) σ) σ cs foreign-marker;
  }
    where
      still-on : (b : ℕ) → at p false B b ≡ true → At p false B b → B b ≡ true
      still-on b u (here q e) = absurd (true≢false (sym u ∙ e))
      still-on b u (there q e) = sym e ∙ u

  -- some row holds the marker: it could not move alone
  stands : (f : Form) → resid f 0ℤ 1ℤ 0ℤ ≡ 0ℤ → ⊥
  stands le! e = one≢zero e
  stands eq! e = one≢zero e
  stands ge! e = let z : ◌≡◌ {A = ℕ} 1 0 = ap nat_abs e in omega arith
  stands le e = one≢zero e
  stands eq e = let z : ◌≡◌ {A = ℕ} 1 0 = ap nat_abs e in omega arith
  stands ge e = let z : ◌≡◌ {A = ℕ} 1 0 = ap nat_abs e in omega arith

  pub marker-held : B c.marker ≡ false → ((j : ℕ) → j ≢ c.marker → R j c.marker ≡ 0ℤ) → ⊥
  marker-held free none = stands c.form (sym same ∙ ((D.solves (one_at p)).0 moves).0)
    where
      in-n : p < n
      in-n = D.sounds.0.marker-in

      moves : Solves n R (one_at p)
      moves j h = go (at? p 1ℤ nil j)
        where
          go : At p 1ℤ nil j → one_at p j ≡ dot n (R j) (one_at p)
          go (here q e) = e ∙ sym (dot-one n p (R j) in-n ∙ ap (λ (x : ℕ). R x p) q ∙ D.shape.unit p free p ∙ δ-same p)
          go (there q e) = e ∙ sym (dot-one n p (R j) in-n ∙ none j q)

      same : left n (one_at p) c ≡ resid c.form 0ℤ 1ℤ 0ℤ
      same =
          ap (λ x. resid c.form x (one_at p p) (one_at p c.other)) (dot-one n p c.expr in-n ∙ no_own)
          ∙ ap (λ x. resid c.form 0ℤ x (one_at p c.other)) (at_here p 1ℤ nil)
          ∙ resid-other c.form 0ℤ 1ℤ (one_at p c.other) 0ℤ (λ b. at_there p 1ℤ nil c.other (D.sounds.0.two b))
