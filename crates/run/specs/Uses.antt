-- "Use counts fall; a variable at zero goes": the variables' side. Assumes nothing.
use Rattle.std.specs.Prelude.{◌≡◌, refl, ◌≢◌, List, [], ◌∷◌, map, ℕ, suc, ◌-◌, ◌<◌, Bool, true, false, T, eqb}
use Rattle.std.proofs.Math.Path.{sym}
use Rattle.std.proofs.Common.{ap, ◌∙◌, subst, arith, true≢false, eqb→eq}
use Rattle.std.proofs.Math.Option.{Option, none, some}
use Rattle.std.proofs.Math.Dec.{eqb_refl}
use Rattle.steps.specs.State.{Variable}
use Rattle.steps.specs.Changes.{find_variable, clear_changed, with_flag}
use Rattle.steps.specs.Remove.{Fallen, use_less}
use Rattle.keeps.specs.Lists.{Up}
use Rattle.keeps.specs.Uses.{var_number, uses_of, uses-hit, uses-miss}
use Rattle.simplex.specs.bridge.Finds.{none≢some, some-injective}
use Rattle.run.specs.Vars.{AlikeAt, same-clear}

-- ---- numbers
pub by_number : {X : Type 0} (x n : ℕ) → (x ≡ n → X) → (x ≢ n → X) → X
by_number {X} x n f g = go (eqb x n) refl
  where
    go : (b : Bool) → eqb x n ≡ b → X
    go true e = f (eqb→eq x n (subst T (sym e) tt))
    go false e = g (λ q. subst T e (subst (λ (y : ℕ). T (eqb x y)) q (eqb_refl x)))

-- ---- variables by number
pub data Num? (n : ℕ) (v : Variable) : Type 0 where
  is : eqb n v.number ≡ true → n ≡ v.number → Num? n v
  isnt : eqb n v.number ≡ false → n ≢ v.number → Num? n v

pub num? : (n : ℕ) (v : Variable) → Num? n v
num? n v = go (eqb n v.number) refl
  where
    go : (b : Bool) → eqb n v.number ≡ b → Num? n v
    go true e = is e (eqb→eq n v.number (subst T (sym e) tt))
    go false e = isnt e (λ q. subst T e (subst (λ (y : ℕ). T (eqb n y)) q (eqb_refl n)))

pub var-hit : (n : ℕ) (v : Variable) (vs : List Variable) → eqb n v.number ≡ true → find_variable n (v ∷ vs) ≡ some v
unfolding find_variable
var-hit n v vs e = ap (λ (t : Bool). elim t as (λ x. Option Variable) [ true ↦ some v | false ↦ find_variable n vs ]) e

pub var-miss : (n : ℕ) (v : Variable) (vs : List Variable) → eqb n v.number ≡ false → find_variable n (v ∷ vs) ≡ find_variable n vs
unfolding find_variable
var-miss n v vs e = ap (λ (t : Bool). elim t as (λ x. Option Variable) [ true ↦ some v | false ↦ find_variable n vs ]) e

pub var-none : (n : ℕ) → find_variable n [] ≡ none
unfolding find_variable
var-none n = refl

-- no number twice
abbrev pub Single : List Variable → Type 0
Single [] = Unit
Single (v ∷ vs) = (find_variable v.number vs ≡ none) × Single vs

-- ---- one use less
unfoldable pub less_use : Variable → Variable
less_use v = record { number = v.number; symbol = v.symbol; old = v.old; uses = v.uses - 1; changed = v.changed }

-- the numbers found stay single
pub record Looks (n : ℕ) (t : Option Variable) (vs us : List Variable) : Type 0 where
  pub own : find_variable n us ≡ t
  pub others : (k : ℕ) → k ≢ n → find_variable k us ≡ find_variable k vs
  pub single : Single us

pub data Fell (n : ℕ) (vs : List Variable) (f : Fallen) : Type 0 where
  absent : find_variable n vs ≡ none → f.gone ≡ none → Looks n none vs f.variables → Fell n vs f
  last : (v : Variable) → find_variable n vs ≡ some v → v.uses ≡ 1 → f.gone ≡ some v → Looks n none vs f.variables → Fell n vs f
  fewer : (v : Variable) → find_variable n vs ≡ some v → v.uses ≢ 1 → f.gone ≡ none → Looks n (some (less_use v)) vs f.variables → Fell n vs f

-- a variable with another number in front
front : (n : ℕ) (t : Option Variable) (v : Variable) (vs us : List Variable) → n ≢ v.number → eqb n v.number ≡ false → Single (v ∷ vs) → Looks n t vs us → Looks n t (v ∷ vs) (v ∷ us)
front n t v vs us ne e s l = record {
  own = var-miss n v us e ∙ l.own;
  others = λ k d. other k d (num? k v);
  single = (l.others v.number (λ q. ne (sym q)) ∙ s.0, l.single);
}
  where
    other : (k : ℕ) → k ≢ n → Num? k v → find_variable k (v ∷ us) ≡ find_variable k (v ∷ vs)
    other k d (is q p) = var-hit k v us q ∙ sym (var-hit k v vs q)
    other k d (isnt q p) = var-miss k v us q ∙ l.others k d ∙ sym (var-miss k v vs q)

pub use-less : (n : ℕ) (vs : List Variable) → Single vs → Fell n vs (use_less n vs)
unfolding use_less less_use
use-less n [] s = absent (var-none n) refl (record { own = var-none n; others = λ k d. refl; single = tt })
use-less n (v ∷ vs) s = go (eqb n v.number) refl (num? n v) (use-less n vs s.1)
  where
    later : eqb n v.number ≡ false → n ≢ v.number → (f : Fallen) → Fell n vs f → Fell n (v ∷ vs) (record { variables = v ∷ f.variables; gone = f.gone })
    later e ne f (absent a b l) = absent (var-miss n v vs e ∙ a) b (front n none v vs f.variables ne e s l)
    later e ne f (last u a o b l) = last u (var-miss n v vs e ∙ a) o b (front n none v vs f.variables ne e s l)
    later e ne f (fewer u a o b l) = fewer u (var-miss n v vs e ∙ a) o b (front n (some (less_use u)) v vs f.variables ne e s l)

    drop : eqb n v.number ≡ true → n ≡ v.number → Looks n none (v ∷ vs) vs
    drop e p = record {
      own = ap (λ (k : ℕ). find_variable k vs) p ∙ s.0;
      others = λ k d. elim (num? k v) [ is q r ↦ absurd (d (r ∙ sym p)) | isnt q r ↦ sym (var-miss k v vs q) ];
      single = s.1;
    }

    less : eqb n v.number ≡ true → n ≡ v.number → Looks n (some (less_use v)) (v ∷ vs) (less_use v ∷ vs)
    less e p = unfold less_use in record {
      own = var-hit n (less_use v) vs e;
      others = λ k d. elim (num? k v) [ is q r ↦ absurd (d (r ∙ sym p)) | isnt q r ↦ var-miss k (less_use v) vs q ∙ sym (var-miss k v vs q) ];
      single = (s.0, s.1);
    }

    own : eqb n v.number ≡ true → n ≡ v.number → (t : Bool) → eqb v.uses 1 ≡ t
        → Fell n (v ∷ vs) (elim t [ true ↦ record { variables = vs; gone = some v } | false ↦ record { variables = less_use v ∷ vs; gone = none } ])
    own e p true q = last v (var-hit n v vs e) (eqb→eq v.uses 1 (subst T (sym q) tt)) refl (drop e p)
    own e p false q = fewer v (var-hit n v vs e) (λ o. subst T q (subst (λ (y : ℕ). T (eqb v.uses y)) o (eqb_refl v.uses))) refl (less e p)

    go : (t : Bool) → eqb n v.number ≡ t → Num? n v → Fell n vs (use_less n vs)
        → Fell n (v ∷ vs) (elim t [
          | false ↦ record { variables = v ∷ (use_less n vs).variables; gone = (use_less n vs).gone }
          | true ↦ elim (eqb v.uses 1) [ true ↦ record { variables = vs; gone = some v } | false ↦ record { variables = less_use v ∷ vs; gone = none } ]
        ])
    go true q (is e p) ih = own e p (eqb v.uses 1) refl
    go true q (isnt e p) ih = absurd (true≢false (sym q ∙ e))
    go false q (is e p) ih = absurd (true≢false (sym e ∙ q))
    go false q (isnt e p) ih = later e p (use_less n vs) ih

-- ---- with ascending numbers no number stands twice, and a count is that of its number
find-below : (i n : ℕ) (vs : List Variable) → n < i → Up i (map var_number vs) → find_variable n vs ≡ none
find-below i n [] l u = var-none n
find-below i n (v ∷ vs) l u = go (num? n v) (find-below (suc v.number) n vs (omega (arith, u.0)) u.1)
  where
    go : Num? n v → find_variable n vs ≡ none → find_variable n (v ∷ vs) ≡ none
    go (is e p) ih = absurd (omega (arith, u.0))
    go (isnt e p) ih = var-miss n v vs e ∙ ih

pub single-up : (i : ℕ) (vs : List Variable) → Up i (map var_number vs) → Single vs
single-up i [] u = tt
single-up i (v ∷ vs) u = (find-below (suc v.number) v.number vs (omega arith) u.1, single-up (suc v.number) vs u.1)

uses-absent : (n : ℕ) (vs : List Variable) → find_variable n vs ≡ none → uses_of n vs ≡ 0
unfolding uses_of
uses-absent n [] e = refl
uses-absent n (v ∷ vs) e = go (num? n v) (uses-absent n vs)
  where
    go : Num? n v → (find_variable n vs ≡ none → uses_of n vs ≡ 0) → uses_of n (v ∷ vs) ≡ 0
    go (is q p) ih = absurd (none≢some (sym e ∙ var-hit n v vs q))
    go (isnt q p) ih = uses-miss n v vs q ∙ ih (sym (var-miss n v vs q) ∙ e)

pub uses-found : (n : ℕ) (vs : List Variable) → Single vs → (u : Variable) → find_variable n vs ≡ some u → u.uses ≡ uses_of n vs
uses-found n [] s u e = absurd (none≢some (sym (var-none n) ∙ e))
uses-found n (v ∷ vs) s u e = go (num? n v) (uses-found n vs s.1 u)
  where
    go : Num? n v → (find_variable n vs ≡ some u → u.uses ≡ uses_of n vs) → u.uses ≡ uses_of n (v ∷ vs)
    go (is q p) ih =
        let w : v ≡ u = some-injective (sym (var-hit n v vs q) ∙ e) in
        sym (uses-hit n v vs q ∙ omega (arith, ap (λ (x : Variable). x.uses) w, uses-absent n vs (ap (λ (k : ℕ). find_variable k vs) p ∙ s.0)))
    go (isnt q p) ih = ih (sym (var-miss n v vs q) ∙ e) ∙ sym (uses-miss n v vs q)

-- ---- flags do not count
alike-none : (a b : Option Variable) → AlikeAt a b → a ≡ none → b ≡ none
alike-none none none h e = refl
alike-none none (some b) h e = absurd h
alike-none (some a) b h e = absurd (none≢some (sym e))

none_alike : (a b : Option Variable) → AlikeAt a b → b ≡ none → a ≡ none
none_alike none b h e = refl
none_alike (some a) none h e = absurd h
none_alike (some a) (some b) h e = absurd (none≢some (sym e))

single-to : (vs : List Variable) → Single vs → Single (clear_changed vs)
unfolding clear_changed with_flag
single-to [] s = tt
single-to (v ∷ vs) s = (alike-none (find_variable v.number vs) (find_variable v.number (clear_changed vs)) (same-clear vs v.number) s.0, single-to vs s.1)

single-from : (vs : List Variable) → Single (clear_changed vs) → Single vs
unfolding clear_changed with_flag
single-from [] s = tt
single-from (v ∷ vs) s = (none_alike (find_variable v.number vs) (find_variable v.number (clear_changed vs)) (same-clear vs v.number) s.0, single-from vs s.1)

pub single-kept : (vs ws : List Variable) → clear_changed ws ≡ clear_changed vs → Single vs → Single ws
single-kept vs ws e s = single-from ws (subst Single (sym e) (single-to vs s))
