-- A demand as the theory's constraint: its expression's value, that it holds variables alone, and what a new demand's symbols keep. Assumes nothing.
use Rattle.std.specs.Prelude.{ℕ, ◌<◌, ◌≡◌, refl, ◌⊎◌, ◌≢◌, List, [], ◌∷◌, map, true, ℤ, negsuc, neg_ℤ, ◌+ℤ◌, ◌*ℤ◌}
use Rattle.std.proofs.Common.{arith, sym, ap, ap₂, ◌∙◌, inl, inr, true≢false}
use Rattle.std.proofs.Math.Option.{some}
use Rattle.laws.specs.Ring.{ring, v as ν, k as lit, ◌⊞◌, ◌⊠◌, ⊟◌}
use Rattle.laws.specs.exact.Whole.{val}
use Rattle.simplex.specs.Ord.{0ℤ}
use Rattle.simplex.specs.Lin.{Vec, δ, δ-other, dot, plus, dot-plus, dot-cong, dot-δ}
use Rattle.simplex.specs.Choose.{All}
use Rattle.simplex.specs.Opt.{Kind as KindZ, const, external, slack, dummy, slack≢external}
use Rattle.simplex.specs.Form.{Form, le!, eq!, ge!, le, eq, ge, soft}
use Rattle.simplex.specs.Problem.{Con, Sound, Sounds, Tag as TagZ, Apart, marker_kind}
use Rattle.simplex.specs.Steps.{dot-nil}
use Rattle.steps.specs.Symbol.{Symbol}
use Rattle.steps.specs.State.{Term, Tag, strength_of}
use Rattle.simplex.specs.bridge.Table.{kind_of}
use Rattle.run.specs.Demand.{sum_of}
use Rattle.run.specs.Inv.{non_zero_terms, Held, expr_of, other_id, con_of, form_of, Shaped}

-- ---- the expression
pub expr-dot : (n : ℕ) → 0 < n → (column : ℕ → ℕ) (ts : List Term) (c : ℤ) (σ : Vec) → All (λ (t : Term). column t.variable < n) ts
    → dot n (expr_of column ts c) σ ≡ c *ℤ σ 0 +ℤ sum_of ts (λ m. σ (column m))
unfolding expr_of sum_of
expr-dot n l column [] c σ h =
    dot-plus n (λ _. 0ℤ) c (δ 0) σ ∙ ap₂ (λ (x y : ℤ). x +ℤ c *ℤ y) (dot-nil n σ) (dot-δ n 0 σ l) ∙ ring (c ∷ σ 0 ∷ []) (lit 0ℤ ⊞ ν 0 ⊠ ν 1) (ν 0 ⊠ ν 1 ⊞ lit 0ℤ) tt
expr-dot n l column (t ∷ ts) c σ h =
    dot-plus n (expr_of column ts c) (val t.coefficient) (δ (column t.variable)) σ
    ∙ ap₂ (λ (x y : ℤ). x +ℤ val t.coefficient *ℤ y) (expr-dot n l column ts c σ h.1) (dot-δ n (column t.variable) σ h.0)
    ∙ ring ((c *ℤ σ 0) ∷ sum_of ts (λ m. σ (column m)) ∷ (val t.coefficient *ℤ σ (column t.variable)) ∷ []) (ν 0 ⊞ ν 1 ⊞ ν 2) (ν 0 ⊞ (ν 2 ⊞ ν 1)) tt

-- it holds the constant's column and variables' columns alone
pub expr-plain : (kind : ℕ → KindZ) (column : ℕ → ℕ) (ts : List Term) (c : ℤ) → All (λ (t : Term). kind (column t.variable) ≡ external) ts → kind 0 ≡ const
    → (j : ℕ) → (kind j ≡ slack) ⊎ (kind j ≡ dummy) → expr_of column ts c j ≡ 0ℤ
unfolding expr_of
expr-plain kind column [] c h z j r = ap (λ (y : ℤ). 0ℤ +ℤ c *ℤ y) (δ-other (λ e. clash (ap kind (sym e) ∙ z) r)) ∙ ring (c ∷ []) (lit 0ℤ ⊞ ν 0 ⊠ lit 0ℤ) (lit 0ℤ) tt
  where
    clash : kind j ≡ const → (kind j ≡ slack) ⊎ (kind j ≡ dummy) → ⊥
    clash p (inl q) = let z : ◌≡◌ {A = ℕ} 0 1 = cc in omega arith
    clash p (inr q) = let z : ◌≡◌ {A = ℕ} 0 1 = cc in omega arith
expr-plain kind column (t ∷ ts) c h z j r =
    ap₂ (λ (x y : ℤ). x +ℤ val t.coefficient *ℤ y) (expr-plain kind column ts c h.1 z j r) (δ-other (λ e. clash (ap kind (sym e) ∙ h.0) r)) ∙ ring (val t.coefficient ∷ []) (lit 0ℤ ⊞ ν 0 ⊠ lit 0ℤ) (lit 0ℤ) tt
  where
    clash : kind j ≡ external → (kind j ≡ slack) ⊎ (kind j ≡ dummy) → ⊥
    clash p (inl q) = let z : ◌≡◌ {A = ℕ} 0 1 = cc in omega arith
    clash p (inr q) = let z : ◌≡◌ {A = ℕ} 0 1 = cc in omega arith

pub expr-same : (f g : ℕ → ℕ) (ts : List Term) (c : ℤ) → All (λ (t : Term). f t.variable ≡ g t.variable) ts → expr_of f ts c ≡ expr_of g ts c
unfolding expr_of
expr-same f g [] c h = refl
expr-same f g (t ∷ ts) c h = ap₂ (λ (x : Vec) (y : ℕ). plus x (val t.coefficient) (δ y)) (expr-same f g ts c h.1) h.0

pub con-same : (f g : ℕ → ℕ) (h : Held) → All (λ (t : Term). f t.variable ≡ g t.variable) (non_zero_terms h.demand.terms) → con_of f h ≡ con_of g h
unfolding con_of
con-same f g h e = ap (λ (x : Vec). record { expr = x; form = form_of h.demand.relation; weight = val (strength_of h.demand.relation); marker = h.tag.marker.id; other = other_id h.tag.other }) (expr-same f g (non_zero_terms h.demand.terms) (val h.demand.constant) e)

pub cons_same : (f g : ℕ → ℕ) (hs : List Held) → All (λ (h : Held). All (λ (t : Term). f t.variable ≡ g t.variable) (non_zero_terms h.demand.terms)) hs → map (con_of f) hs ≡ map (con_of g) hs
cons_same f g [] e = refl
cons_same f g (h ∷ hs) e = ap₂ (λ (x : Con) (y : List Con). x ∷ y) (con-same f g h e.0) (cons_same f g hs e.1)

-- ---- a row with all signs reversed
pub dot-reversed : (n : ℕ) (r σ : Vec) → dot n (λ j. neg_ℤ (r j)) σ ≡ negsuc 0 *ℤ dot n r σ
dot-reversed n r σ =
    dot-cong n (λ j. neg_ℤ (r j)) σ (plus (λ _. 0ℤ) (negsuc 0) r) σ (λ j _. ring (r j ∷ σ j ∷ []) ((⊟ ν 0) ⊠ ν 1) ((lit 0ℤ ⊞ lit (negsuc 0) ⊠ ν 0) ⊠ ν 1) tt)
    ∙ dot-plus n (λ _. 0ℤ) (negsuc 0) r σ ∙ ap (λ (z : ℤ). z +ℤ negsuc 0 *ℤ dot n r σ) (dot-nil n σ) ∙ ring (dot n r σ ∷ []) (lit 0ℤ ⊞ lit (negsuc 0) ⊠ ν 0) (lit (negsuc 0) ⊠ ν 0) tt

-- ---- kinds of the symbols of a tag
pub shaped-marker : (f : Form) (t : Tag) → Shaped f t → kind_of t.marker.kind ≡ marker_kind f
shaped-marker le! t h = ap kind_of h.0
shaped-marker eq! t h = ap kind_of h.0
shaped-marker ge! t h = ap kind_of h.0
shaped-marker le t h = ap kind_of h.0
shaped-marker eq t h = ap kind_of h.0
shaped-marker ge t h = ap kind_of h.0

pub shaped-other : (f : Form) (t : Tag) → Shaped f t → soft f ≡ true → (o : Symbol) × (t.other ≡ some o) × (kind_of o.kind ≡ slack)
shaped-other le! t h e = absurd (true≢false (sym e))
shaped-other eq! t h e = absurd (true≢false (sym e))
shaped-other ge! t h e = absurd (true≢false (sym e))
shaped-other le t h e = (h.1.0, h.1.1, ap kind_of h.1.2)
shaped-other eq t h e = (h.1.0, h.1.1, ap kind_of h.1.2)
shaped-other ge t h e = (h.1.0, h.1.1, ap kind_of h.1.2)

pub marker-inside : (f : Form) → marker_kind f ≢ external
marker-inside le! e = slack≢external e
marker-inside eq! e = let z : ◌≡◌ {A = ℕ} 0 1 = cc in omega arith
marker-inside ge! e = slack≢external e
marker-inside le e = slack≢external e
marker-inside eq e = slack≢external e
marker-inside ge e = slack≢external e

-- ---- the held demands' symbols keep their kinds
abbrev pub PlainIn : (ℕ → KindZ) → Con → Type 0
PlainIn kind c = (j : ℕ) → (kind j ≡ slack) ⊎ (kind j ≡ dummy) → c.expr j ≡ 0ℤ

module _ (n : ℕ) (old kind : ℕ → KindZ) (older : (j : ℕ) → old j ≢ external → kind j ≡ old j) where
  sound-on : (c : Con) → Sound n old c → PlainIn kind c → Sound n kind c
  sound-on c s p = record {
    weighs = s.weighs;
    marker-in = s.marker-in;
    marker-kind = older c.marker (λ e. marker-inside c.form (sym s.marker-kind ∙ e)) ∙ s.marker-kind;
    other-in = s.other-in;
    other-kind = λ b. older c.other (λ e. slack≢external (sym (s.other-kind b) ∙ e)) ∙ s.other-kind b;
    two = s.two;
    plain = p;
  }

  pub sounds-on : (cs : List Con) → Sounds n old cs → All (PlainIn kind) cs → Sounds n kind cs
  sounds-on [] s p = tt
  sounds-on (c ∷ cs) s p = (sound-on c s.0 p.0, s.1, sounds-on cs s.2 p.1)

  -- a demand whose symbols were of no kind is apart from those
  pub apart-new : (c : Con) → ((j : ℕ) → TagZ j c → old j ≡ external) → (cs : List Con) → Sounds n old cs → All (Apart c) cs
  apart-new c new [] s = tt
  apart-new c new (d ∷ cs) s = ((λ j t u. away j (new j t) u), apart-new c new cs s.2)
    where
      away : (j : ℕ) → old j ≡ external → TagZ j d → ⊥
      away j e (inl p) = marker-inside d.form (sym s.0.marker-kind ∙ ap old (sym p) ∙ e)
      away j e (inr p) = slack≢external (sym (s.0.other-kind p.0) ∙ ap old (sym p.1) ∙ e)
