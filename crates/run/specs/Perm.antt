-- One demand taken out of the middle: the constraints in another order are worth the same. Assumes nothing.
use Rattle.std.specs.Prelude.{◌≡◌, ℕ, Bool, true, false, T, eqb, ℤ, ◌+ℤ◌, ◌*ℤ◌}
use Rattle.std.proofs.Math.Path.{refl, ap}
use Rattle.std.proofs.Common.{sym, ◌∙◌, subst, true≢false, eqb→eq}
use mathlib.Core.List.{List, [], ◌∷◌, map}
use Rattle.std.proofs.Math.Option.{Option, none, some}
use Rattle.std.proofs.Math.Dec.{eqb_refl}
use Rattle.laws.specs.Ring.{ring, v, ◌⊞◌}
use Rattle.simplex.specs.Lin.{Vec}
use Rattle.simplex.specs.Basis.{Mask}
use Rattle.simplex.specs.Choose.{All}
use Rattle.simplex.specs.Opt.{Kind as KindZ}
use Rattle.simplex.specs.Form.{cost}
use Rattle.simplex.specs.Problem.{Con, Equation, total, Apart, Sounds, Models}
use Rattle.simplex.specs.bridge.Finds.{none≢some, some-injective}
use Rattle.run.specs.Demand.{Key, of_constraint, of_edit, same_key, Demand, without}
use Rattle.run.specs.Inv.{Held, find_held, Once}

-- ---- keys
pub data Key? (k : Key) (h : Held) : Type 0 where
  is : same_key k h.demand.key ≡ true → k ≡ h.demand.key → Key? k h
  isnt : same_key k h.demand.key ≡ false → Key? k h

is_number : (m n : ℕ) → eqb m n ≡ true → m ≡ n
is_number m n e = eqb→eq m n (subst T (sym e) tt)

same_key_lem : (k l : Key) → same_key k l ≡ true → k ≡ l
unfolding same_key
same_key_lem (of_constraint m) (of_constraint n) e = ap of_constraint (is_number m n e)
same_key_lem (of_constraint m) (of_edit n) e = absurd (true≢false (sym e))
same_key_lem (of_edit m) (of_constraint n) e = absurd (true≢false (sym e))
same_key_lem (of_edit m) (of_edit n) e = ap of_edit (is_number m n e)

pub own_key : (k : Key) → same_key k k ≡ true
unfolding same_key
own_key (of_constraint m) = yes (eqb m m) (eqb_refl m)
  where
    yes : (b : Bool) → T b → b ≡ true
    yes true t = refl
    yes false t = absurd t
own_key (of_edit m) = yes (eqb m m) (eqb_refl m)
  where
    yes : (b : Bool) → T b → b ≡ true
    yes true t = refl
    yes false t = absurd t

pub other_key : (k l : Key) → same_key k l ≡ false → same_key l k ≡ false
other_key k l e = go (same_key l k) refl
  where
    go : (b : Bool) → same_key l k ≡ b → same_key l k ≡ false
    go false q = q
    go true q = absurd (true≢false (sym (ap (same_key k) (same_key_lem l k q) ∙ own_key k) ∙ e))

pub key? : (k : Key) (h : Held) → Key? k h
key? k h = go (same_key k h.demand.key) refl
  where
    go : (b : Bool) → same_key k h.demand.key ≡ b → Key? k h
    go true e = is e (same_key_lem k h.demand.key e)
    go false e = isnt e

-- ---- taken out
unfoldable pub without_held : Key → List Held → List Held
without_held k [] = []
without_held k (h ∷ hs) = elim (same_key k h.demand.key) [ true ↦ hs | false ↦ h ∷ without_held k hs ]

pub found-hit : (k : Key) (g : Held) (hs : List Held) → same_key k g.demand.key ≡ true → find_held k (g ∷ hs) ≡ some g
unfolding find_held
found-hit k g hs e = ap (λ (t : Bool). elim t as (λ x. Option Held) [ true ↦ some g | false ↦ find_held k hs ]) e

pub found-miss : (k : Key) (g : Held) (hs : List Held) → same_key k g.demand.key ≡ false → find_held k (g ∷ hs) ≡ find_held k hs
unfolding find_held
found-miss k g hs e = ap (λ (t : Bool). elim t as (λ x. Option Held) [ true ↦ some g | false ↦ find_held k hs ]) e

pub found_none : (k : Key) → find_held k [] ≡ none
unfolding find_held
found_none k = refl

out-hit : (k : Key) (g : Held) (hs : List Held) → same_key k g.demand.key ≡ true → without_held k (g ∷ hs) ≡ hs
unfolding without_held
out-hit k g hs e = ap (λ (t : Bool). elim t as (λ x. List Held) [ true ↦ hs | false ↦ g ∷ without_held k hs ]) e

out-miss : (k : Key) (g : Held) (hs : List Held) → same_key k g.demand.key ≡ false → without_held k (g ∷ hs) ≡ g ∷ without_held k hs
unfolding without_held
out-miss k g hs e = ap (λ (t : Bool). elim t as (λ x. List Held) [ true ↦ hs | false ↦ g ∷ without_held k hs ]) e

-- the statement's `without` takes the same one out
pub without_is : (k : Key) (hs : List Held) → without k (map (λ (h : Held). h.demand) hs) ≡ map (λ (h : Held). h.demand) (without_held k hs)
unfolding without without_held
without_is k [] = refl
without_is k (g ∷ hs) = go (same_key k g.demand.key) (without_is k hs)
  where
    go : (t : Bool) → without k (map (λ (h : Held). h.demand) hs) ≡ map (λ (h : Held). h.demand) (without_held k hs)
        → ◌≡◌ {A = List Demand} (elim t [ true ↦ map (λ (h : Held). h.demand) hs | false ↦ g.demand ∷ without k (map (λ (h : Held). h.demand) hs) ])
        (map (λ (h : Held). h.demand) (elim t [ true ↦ hs | false ↦ g ∷ without_held k hs ]))
    go true ih = refl
    go false ih = ap (λ (l : List Demand). g.demand ∷ l) ih

-- what is found at the head, or further on
pub data Step (k : Key) (g : Held) (hs : List Held) (h : Held) : Type 0 where
  hit : g ≡ h → without_held k (g ∷ hs) ≡ hs → Step k g hs h
  miss : find_held k hs ≡ some h → without_held k (g ∷ hs) ≡ g ∷ without_held k hs → Step k g hs h

pub step? : (k : Key) (g : Held) (hs : List Held) (h : Held) → find_held k (g ∷ hs) ≡ some h → Step k g hs h
step? k g hs h f = go (key? k g)
  where
    go : Key? k g → Step k g hs h
    go (is e p) = hit (some-injective (sym (found-hit k g hs e) ∙ f)) (out-hit k g hs e)
    go (isnt e) = miss (sym (found-miss k g hs e) ∙ f) (out-miss k g hs e)

-- ---- what holds of all
pub all-out : (Q : Held → Type 0) (k : Key) (hs : List Held) → All Q hs → All Q (without_held k hs)
all-out Q k [] a = unfold without_held in tt
all-out Q k (g ∷ hs) a = go (key? k g) (all-out Q k hs a.1)
  where
    go : Key? k g → All Q (without_held k hs) → All Q (without_held k (g ∷ hs))
    go (is e p) ih = subst (All Q) (sym (out-hit k g hs e)) a.1
    go (isnt e) ih = subst (All Q) (sym (out-miss k g hs e)) (a.0, ih)

pub all_found : (Q : Held → Type 0) (k : Key) (hs : List Held) (h : Held) → find_held k hs ≡ some h → All Q hs → Q h
all_found Q k [] h f a = absurd (none≢some (sym (found_none k) ∙ f))
all_found Q k (g ∷ hs) h f a = go (step? k g hs h f) (λ q. all_found Q k hs h q a.1)
  where
    go : Step k g hs h → (find_held k hs ≡ some h → Q h) → Q h
    go (hit p q) ih = subst Q p a.0
    go (miss p q) ih = ih p

pub found-key : (k : Key) (hs : List Held) (h : Held) → find_held k hs ≡ some h → k ≡ h.demand.key
found-key k [] h f = absurd (none≢some (sym (found_none k) ∙ f))
found-key k (g ∷ hs) h f = go (key? k g) (found-key k hs h)
  where
    go : Key? k g → (find_held k hs ≡ some h → k ≡ h.demand.key) → k ≡ h.demand.key
    go (is e p) ih = p ∙ ap (λ (x : Held). x.demand.key) (some-injective (sym (found-hit k g hs e) ∙ f))
    go (isnt e) ih = ih (sym (found-miss k g hs e) ∙ f)

pub once-out : (k : Key) (hs : List Held) → Once hs → Once (without_held k hs)
once-out k [] o = unfold without_held in tt
once-out k (g ∷ hs) o = go (key? k g) (once-out k hs o.1)
  where
    go : Key? k g → Once (without_held k hs) → Once (without_held k (g ∷ hs))
    go (is e p) ih = subst Once (sym (out-hit k g hs e)) o.1
    go (isnt e) ih = subst Once (sym (out-miss k g hs e)) (all-out (λ (x : Held). same_key g.demand.key x.demand.key ≡ false) k hs o.0, ih)

-- what is found once one is out: itself no more, the others as before
apart_none : (k : Key) (hs : List Held) → All (λ (x : Held). same_key k x.demand.key ≡ false) hs → find_held k hs ≡ none
apart_none k [] a = found_none k
apart_none k (g ∷ hs) a = found-miss k g hs a.0 ∙ apart_none k hs a.1

pub out-same : (k : Key) (hs : List Held) → Once hs → find_held k (without_held k hs) ≡ none
out-same k [] o = unfold without_held in found_none k
out-same k (g ∷ hs) o = go (key? k g) (out-same k hs o.1)
  where
    go : Key? k g → find_held k (without_held k hs) ≡ none → find_held k (without_held k (g ∷ hs)) ≡ none
    go (is e p) ih = ap (find_held k) (out-hit k g hs e) ∙ apart_none k hs (subst (λ (l : Key). All (λ (x : Held). same_key l x.demand.key ≡ false) hs) (sym p) o.0)
    go (isnt e) ih = ap (find_held k) (out-miss k g hs e) ∙ found-miss k g (without_held k hs) e ∙ ih

pub out-other : (l k : Key) (hs : List Held) → same_key l k ≡ false → find_held l (without_held k hs) ≡ find_held l hs
out-other l k [] n = unfold without_held in refl
out-other l k (g ∷ hs) n = go (key? k g) (key? l g) (out-other l k hs n)
  where
    go : Key? k g → Key? l g → find_held l (without_held k hs) ≡ find_held l hs → find_held l (without_held k (g ∷ hs)) ≡ find_held l (g ∷ hs)
    go (is e p) (is f q) ih = absurd (true≢false (sym (ap (same_key l) p ∙ f) ∙ n))
    go (is e p) (isnt f) ih = ap (find_held l) (out-hit k g hs e) ∙ sym (found-miss l g hs f)
    go (isnt e) (is f q) ih = ap (find_held l) (out-miss k g hs e) ∙ found-hit l g (without_held k hs) f ∙ sym (found-hit l g hs f)
    go (isnt e) (isnt f) ih = ap (find_held l) (out-miss k g hs e) ∙ found-miss l g (without_held k hs) f ∙ ih ∙ sym (found-miss l g hs f)

-- each is found by its key
pub each-found : (hs : List Held) → Once hs → All (λ (h : Held). find_held h.demand.key hs ≡ some h) hs
each-found [] o = tt
each-found (g ∷ hs) o = (found-hit g.demand.key g hs (own_key g.demand.key), later hs o.0 (each-found hs o.1))
  where
    later : (xs : List Held) → All (λ (x : Held). same_key g.demand.key x.demand.key ≡ false) xs → All (λ (h : Held). find_held h.demand.key hs ≡ some h) xs
        → All (λ (h : Held). find_held h.demand.key (g ∷ hs) ≡ some h) xs
    later [] a f = tt
    later (x ∷ xs) a f = (found-miss x.demand.key g hs (other_key g.demand.key x.demand.key a.0) ∙ f.0, later xs a.1 f.1)

-- ---- the constraints, with the one that is found in front
module _ (f : Held → Con) (k : Key) where
  pub all_first : (Q : Con → Type 0) (hs : List Held) (h : Held) → find_held k hs ≡ some h → All Q (map f hs) → All Q (f h ∷ map f (without_held k hs))
  all_first Q [] h e a = absurd (none≢some (sym (found_none k) ∙ e))
  all_first Q (g ∷ hs) h e a = go (step? k g hs h e) (all_first Q hs h)
    where
      go : Step k g hs h → (find_held k hs ≡ some h → All Q (map f hs) → All Q (f h ∷ map f (without_held k hs))) → All Q (f h ∷ map f (without_held k (g ∷ hs)))
      go (hit p q) ih = (subst (λ (x : Held). Q (f x)) p a.0, subst (λ (l : List Held). All Q (map f l)) (sym q) a.1)
      go (miss p q) ih = let t = ih p a.1 in (t.0, subst (λ (l : List Held). All Q (map f l)) (sym q) (a.0, t.1))

  pub all_back : (Q : Con → Type 0) (hs : List Held) (h : Held) → find_held k hs ≡ some h → All Q (f h ∷ map f (without_held k hs)) → All Q (map f hs)
  all_back Q [] h e a = absurd (none≢some (sym (found_none k) ∙ e))
  all_back Q (g ∷ hs) h e a = go (step? k g hs h e) (all_back Q hs h)
    where
      go : Step k g hs h → (find_held k hs ≡ some h → All Q (f h ∷ map f (without_held k hs)) → All Q (map f hs)) → All Q (map f (g ∷ hs))
      go (hit p q) ih = (subst (λ (x : Held). Q (f x)) (sym p) a.0, subst (λ (l : List Held). All Q (map f l)) q a.1)
      go (miss p q) ih = let t : All Q (map f (g ∷ without_held k hs)) = subst (λ (l : List Held). All Q (map f l)) q a.1 in (t.0, ih p (a.0, t.1))

  part : Vec → Held → ℤ
  part σ x = (f x).weight *ℤ cost (f x).form (σ (f x).marker) (σ (f x).other)

  pub total_first : (σ : Vec) (hs : List Held) (h : Held) → find_held k hs ≡ some h → total (map f hs) σ ≡ total (f h ∷ map f (without_held k hs)) σ
  unfolding part
  total_first σ [] h e = absurd (none≢some (sym (found_none k) ∙ e))
  total_first σ (g ∷ hs) h e = go (step? k g hs h e) (total_first σ hs h)
    where
      go : Step k g hs h → (find_held k hs ≡ some h → total (map f hs) σ ≡ total (f h ∷ map f (without_held k hs)) σ) → total (map f (g ∷ hs)) σ ≡ total (f h ∷ map f (without_held k (g ∷ hs))) σ
      go (hit p q) ih = ap (λ (x : Held). total (map f (x ∷ hs)) σ) p ∙ ap (λ (l : List Held). total (f h ∷ map f l) σ) (sym q)
      go (miss p q) ih =
          ap (λ (z : ℤ). part σ g +ℤ z) (ih p)
          ∙ ring (part σ g ∷ part σ h ∷ total (map f (without_held k hs)) σ ∷ []) (v 0 ⊞ (v 1 ⊞ v 2)) (v 1 ⊞ (v 0 ⊞ v 2)) tt
          ∙ ap (λ (l : List Held). total (f h ∷ map f l) σ) (sym q)

  apart-turn : (c d : Con) → Apart c d → Apart d c
  apart-turn c d a j s t = a j t s

  pub sounds-first : (n : ℕ) (kind : ℕ → KindZ) (hs : List Held) (h : Held) → find_held k hs ≡ some h → Sounds n kind (map f hs) → Sounds n kind (f h ∷ map f (without_held k hs))
  sounds-first n kind [] h e a = absurd (none≢some (sym (found_none k) ∙ e))
  sounds-first n kind (g ∷ hs) h e a = go (step? k g hs h e) (sounds-first n kind hs h)
    where
      go : Step k g hs h → (find_held k hs ≡ some h → Sounds n kind (map f hs) → Sounds n kind (f h ∷ map f (without_held k hs))) → Sounds n kind (f h ∷ map f (without_held k (g ∷ hs)))
      go (hit p q) ih = subst (λ (l : List Held). Sounds n kind (f h ∷ map f l)) (sym q) (subst (λ (x : Held). Sounds n kind (f x ∷ map f hs)) p a)
      go (miss p q) ih =
          let t = ih p a.2 in
          let o = all_first (Apart (f g)) hs h p a.1 in
          subst (λ (l : List Held). Sounds n kind (f h ∷ map f l)) (sym q) (t.0, (apart-turn (f g) (f h) o.0, t.1), (a.0, o.1, t.2))

  pub models-first : (n : ℕ) (kind : ℕ → KindZ) (B : Mask) (R : ℕ → Vec) (o : Vec) (hs : List Held) (h : Held) → find_held k hs ≡ some h
      → Models n kind B R o (map f hs) → Models n kind B R o (f h ∷ map f (without_held k hs))
  models-first n kind B R o hs h e D = record {
    shape = D.shape;
    clear = D.clear;
    sounds = sounds-first n kind hs h e D.sounds;
    solves = λ σ. ((λ s. all_first (Equation n σ) hs h e ((D.solves σ).0 s)), (λ E. (D.solves σ).1 (all_back (Equation n σ) hs h e E)));
    worth = λ σ s. D.worth σ s ∙ total_first σ hs h e;
  }
