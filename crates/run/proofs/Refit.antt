-- A live edit with another aim: its place among the demands stays, and the constraints are put back in their order. Assumes nothing.
use Rattle.std.specs.Prelude.{◌≡◌, refl, Bool, true, false, List, [], ◌∷◌, map, ℕ, ℤ, neg_ℤ, ◌+ℤ◌, ◌-ℤ◌, ◌*ℤ◌, Float}
use Rattle.std.proofs.Common.{sym, ap, ap₂, ◌∙◌, subst, true≢false}
use Rattle.std.proofs.Math.Option.{Option, some}
use Rattle.std.specs.Float.Ieee.{neg}
use Rattle.laws.specs.Ring.{ring, v, k as κ, ◌⊞◌, ◌⊠◌, ⊟◌, ◌⊟⊟◌}
use Rattle.laws.specs.exact.Whole.{val}
use Rattle.simplex.specs.Ord.{0ℤ}
use Rattle.simplex.specs.Lin.{Vec, δ, dot, dot-cong, plus}
use Rattle.simplex.specs.Choose.{All}
use Rattle.simplex.specs.Basis.{Mask}
use Rattle.simplex.specs.Opt.{Kind as KindZ}
use Rattle.simplex.specs.Form.{resid}
use Rattle.simplex.specs.Problem.{Con, Equation, Sound, Sounds, Apart, Models}
use Rattle.steps.specs.State.{Term}
use Rattle.simplex.specs.bridge.Finds.{none≢some}
use Rattle.run.specs.Demand.{Key, of_edit, same_key, Demand, moved}
use Rattle.run.specs.Inv.{Held, expr_of, find_held, Once}
use Rattle.run.specs.Perm.{Key?, is, isnt, key?, without_held, found-hit, found-miss, found_none, Step, hit, miss, step?, all_first, all_back, total_first}
use Rattle.run.specs.Refit.{with_expr, moved_held, MovedAt}

-- ---- back to its place

module _ (f : Held → Con) (k : Key) where
  sounds-back : (n : ℕ) (kind : ℕ → KindZ) (hs : List Held) (h : Held) → find_held k hs ≡ some h → Sounds n kind (f h ∷ map f (without_held k hs)) → Sounds n kind (map f hs)
  sounds-back n kind [] h e a = absurd (none≢some (sym (found_none k) ∙ e))
  sounds-back n kind (g ∷ hs) h e a = go (step? k g hs h e) (sounds-back n kind hs h)
    where
      go : Step k g hs h → (find_held k hs ≡ some h → Sounds n kind (f h ∷ map f (without_held k hs)) → Sounds n kind (map f hs)) → Sounds n kind (map f (g ∷ hs))
      go (hit p q) ih = subst (λ (x : Held). Sounds n kind (f x ∷ map f hs)) (sym p) (subst (λ (l : List Held). Sounds n kind (f h ∷ map f l)) q a)
      go (miss p q) ih =
          let t : Sounds n kind (f h ∷ f g ∷ map f (without_held k hs)) = subst (λ (l : List Held). Sounds n kind (f h ∷ map f l)) q a in
          (t.2.0, all_back f k (Apart (f g)) hs h p ((λ j s u. t.1.0 j u s), t.2.1), ih p (t.0, t.1.1, t.2.2))

  pub models-back : (n : ℕ) (kind : ℕ → KindZ) (B : Mask) (R : ℕ → Vec) (o : Vec) (hs : List Held) (h : Held) → find_held k hs ≡ some h
      → Models n kind B R o (f h ∷ map f (without_held k hs)) → Models n kind B R o (map f hs)
  models-back n kind B R o hs h e D = record {
    shape = D.shape;
    clear = D.clear;
    sounds = sounds-back n kind hs h e D.sounds;
    solves = λ σ. ((λ s. all_back f k (Equation n σ) hs h e ((D.solves σ).0 s)), (λ E. (D.solves σ).1 (all_first f k (Equation n σ) hs h e E)));
    worth = λ σ s. D.worth σ s ∙ sym (total_first f k σ hs h e);
  }

-- ---- the same expression, said otherwise

pub models-expr : (n : ℕ) (kind : ℕ → KindZ) (B : Mask) (R : ℕ → Vec) (o : Vec) (c : Con) (a : Vec) (cs : List Con) → ((j : ℕ) → c.expr j ≡ a j)
    → Models n kind B R o (c ∷ cs) → Models n kind B R o (with_expr c a ∷ cs)
models-expr n kind B R o c a cs same D = record {
  shape = D.shape;
  clear = D.clear;
  sounds = (
    record {
      weighs = S.weighs;
      marker-in = S.marker-in;
      marker-kind = S.marker-kind;
      other-in = S.other-in;
      other-kind = S.other-kind;
      two = S.two;
      plain = λ j h. sym (same j) ∙ S.plain j h;
    },
    D.sounds.1,
    D.sounds.2,
  );
  solves = λ σ. ((λ s. let E = (D.solves σ).0 s in (at_front σ (sym (dots σ)) E.0, E.1)), (λ E. (D.solves σ).1 (back σ (dots σ) E.0, E.1)));
  worth = D.worth;
}
  where
    S : Sound n kind c
    S = D.sounds.0

    dots : (σ : Vec) → dot n a σ ≡ dot n c.expr σ
    dots σ = dot-cong n a σ c.expr σ (λ j _. ap (λ (z : ℤ). z *ℤ σ j) (sym (same j)))

    at_front : (σ : Vec) → dot n c.expr σ ≡ dot n a σ → Equation n σ c → Equation n σ (with_expr c a)
    at_front σ e q = ap (λ (z : ℤ). resid c.form z (σ c.marker) (σ c.other)) (sym e) ∙ q

    back : (σ : Vec) → dot n a σ ≡ dot n c.expr σ → Equation n σ (with_expr c a) → Equation n σ c
    back σ e q = ap (λ (z : ℤ). resid c.form z (σ c.marker) (σ c.other)) (sym e) ∙ q

-- a constant that is y less
pub expr-less : (column : ℕ → ℕ) (ts : List Term) (c d y : ℤ) → c -ℤ y ≡ d → (j : ℕ) → plus (expr_of column ts c) (neg_ℤ y) (δ 0) j ≡ expr_of column ts d j
unfolding expr_of
expr-less column [] c d y e j =
    ring (c ∷ y ∷ δ 0 j ∷ []) (κ 0ℤ ⊞ v 0 ⊠ v 2 ⊞ (⊟ v 1) ⊠ v 2) (κ 0ℤ ⊞ (v 0 ⊟⊟ v 1) ⊠ v 2) tt ∙ ap (λ (z : ℤ). 0ℤ +ℤ z *ℤ δ 0 j) e
expr-less column (t ∷ ts) c d y e j =
    ring (expr_of column ts c j ∷ val t.coefficient ∷ δ (column t.variable) j ∷ y ∷ δ 0 j ∷ []) (v 0 ⊞ v 1 ⊠ v 2 ⊞ (⊟ v 3) ⊠ v 4) (v 0 ⊞ (⊟ v 3) ⊠ v 4 ⊞ v 1 ⊠ v 2) tt
    ∙ ap (λ (z : ℤ). z +ℤ val t.coefficient *ℤ δ (column t.variable) j) (expr-less column ts c d y e j)

-- ---- the demands after a suggestion

pub moved-key : (u : ℕ) (x : Float) (c : Demand) → (moved u x c).key ≡ c.key
unfolding moved
moved-key u x c = go (same_key (of_edit u) c.key)
  where
    go : (b : Bool) → (elim b as (λ _. Demand) [ true ↦ record { key = c.key; group = c.group; terms = c.terms; constant = neg x; relation = c.relation } | false ↦ c ]).key ≡ c.key
    go true = refl
    go false = refl

pub moved_other : (u : ℕ) (x : Float) (h : Held) → same_key (of_edit u) h.demand.key ≡ false → moved_held u x h ≡ h
unfolding moved_held moved
moved_other u x h e = ap (λ (b : Bool). record { demand = elim b as (λ _. Demand) [ true ↦ record { key = h.demand.key; group = h.demand.group; terms = h.demand.terms; constant = neg x; relation = h.demand.relation } | false ↦ h.demand ]; tag = h.tag }) e

pub moved-own : (u : ℕ) (x : Float) (h : Held) → same_key (of_edit u) h.demand.key ≡ true
    → moved_held u x h ≡ record { demand = record { key = h.demand.key; group = h.demand.group; terms = h.demand.terms; constant = neg x; relation = h.demand.relation }; tag = h.tag }
unfolding moved_held moved
moved-own u x h e = ap (λ (b : Bool). record { demand = elim b as (λ _. Demand) [ true ↦ record { key = h.demand.key; group = h.demand.group; terms = h.demand.terms; constant = neg x; relation = h.demand.relation } | false ↦ h.demand ]; tag = h.tag }) e

pub live_moved : (u : ℕ) (x : Float) (hs : List Held) → map (moved u x) (map (λ (h : Held). h.demand) hs) ≡ map (λ (h : Held). h.demand) (map (moved_held u x) hs)
unfolding moved_held
live_moved u x [] = refl
live_moved u x (h ∷ hs) = ap (λ (l : List Demand). moved u x h.demand ∷ l) (live_moved u x hs)

-- the others stay
all_same : (u : ℕ) (x : Float) (hs : List Held) → All (λ (h : Held). same_key (of_edit u) h.demand.key ≡ false) hs → map (moved_held u x) hs ≡ hs
all_same u x [] a = refl
all_same u x (h ∷ hs) a = ap₂ (λ (g : Held) (l : List Held). g ∷ l) (moved_other u x h a.0) (all_same u x hs a.1)

keyed : (u : ℕ) (x : Float) (l : Key) (h : Held) → same_key l (moved_held u x h).demand.key ≡ same_key l h.demand.key
unfolding moved_held
keyed u x l h = ap (same_key l) (moved-key u x h.demand)

pub find-moved : (u : ℕ) (x : Float) (l : Key) (hs : List Held) → MovedAt u x (find_held l hs) (find_held l (map (moved_held u x) hs))
find-moved u x l [] = subst (λ (o : Option Held). MovedAt u x o (find_held l [])) (sym (found_none l)) (found_none l)
find-moved u x l (h ∷ hs) = go (key? l h) (find-moved u x l hs)
  where
    go : Key? l h → MovedAt u x (find_held l hs) (find_held l (map (moved_held u x) hs)) → MovedAt u x (find_held l (h ∷ hs)) (find_held l (moved_held u x h ∷ map (moved_held u x) hs))
    go (is e p) ih =
        subst (λ (o : Option Held). MovedAt u x o (find_held l (moved_held u x h ∷ map (moved_held u x) hs))) (sym (found-hit l h hs e)) (found-hit l (moved_held u x h) (map (moved_held u x) hs) (keyed u x l h ∙ e))
    go (isnt e) ih =
        subst (λ (o : Option Held). MovedAt u x o (find_held l (moved_held u x h ∷ map (moved_held u x) hs))) (sym (found-miss l h hs e))
        (subst (λ (o : Option Held). MovedAt u x (find_held l hs) o) (sym (found-miss l (moved_held u x h) (map (moved_held u x) hs) (keyed u x l h ∙ e))) ih)

-- taking the moved one out leaves what taking the old one out leaves
pub out-moved : (u : ℕ) (x : Float) (hs : List Held) → Once hs → without_held (of_edit u) (map (moved_held u x) hs) ≡ without_held (of_edit u) hs
unfolding without_held
out-moved u x [] o = refl
out-moved u x (h ∷ hs) o = go (same_key (of_edit u) h.demand.key) refl (out-moved u x hs o.1)
  where
    apart : same_key (of_edit u) h.demand.key ≡ true → (gs : List Held) → All (λ (g : Held). same_key h.demand.key g.demand.key ≡ false) gs → All (λ (g : Held). same_key (of_edit u) g.demand.key ≡ false) gs
    apart e [] a = tt
    apart e (g ∷ gs) a = (subst (λ (l : Key). same_key l g.demand.key ≡ false) (sym (same_key_lem (key? (of_edit u) h) e)) a.0, apart e gs a.1)
      where
        same_key_lem : Key? (of_edit u) h → same_key (of_edit u) h.demand.key ≡ true → of_edit u ≡ h.demand.key
        same_key_lem (is e p) q = p
        same_key_lem (isnt e) q = absurd (true≢false (sym q ∙ e))

    go : (b : Bool) → same_key (of_edit u) h.demand.key ≡ b → without_held (of_edit u) (map (moved_held u x) hs) ≡ without_held (of_edit u) hs
        → without_held (of_edit u) (moved_held u x h ∷ map (moved_held u x) hs) ≡ without_held (of_edit u) (h ∷ hs)
    go true e ih = rw (keyed u x (of_edit u) h, e, without_held) (all_same u x hs (apart e hs o.0))
    go false e ih = rw (keyed u x (of_edit u) h, e, without_held) (ap₂ (λ (g : Held) (l : List Held). g ∷ l) (moved_other u x h e) ih)

pub once-moved : (u : ℕ) (x : Float) (hs : List Held) → Once hs → Once (map (moved_held u x) hs)
unfolding moved_held
once-moved u x [] o = tt
once-moved u x (h ∷ hs) o = (heads hs o.0, once-moved u x hs o.1)
  where
    heads : (gs : List Held) → All (λ (g : Held). same_key h.demand.key g.demand.key ≡ false) gs → All (λ (g : Held). same_key (moved_held u x h).demand.key g.demand.key ≡ false) (map (moved_held u x) gs)
    heads [] a = tt
    heads (g ∷ gs) a = (keyed u x (moved_held u x h).demand.key g ∙ ap (λ (l : Key). same_key l g.demand.key) (moved-key u x h.demand) ∙ a.0, heads gs a.1)
