-- The steps' use_less by the variable that is found.
-- Assumes nothing.
use Prim.Native.Nat.{ℕ, zero, suc, ◌+◌, ◌-◌, ◌≤◌, ◌<◌}
use Rattle.std.specs.Prelude.{◌≡◌, refl, Bool, cond, eqb}
use Rattle.std.proofs.Common.{sym, ap, ◌∙◌, zero-add}
use Rattle.std.proofs.Math.Bool.{true, false}
use mathlib.Core.List.{List, [], ◌∷◌}
use Rattle.std.proofs.Math.Option.{Option, none, some}
use native.Mathlib.Omega.{arith}
use Rattle.laws.specs.Loops.{seek, first}
use Rattle.laws.specs.Lists.{tab, tab-ext}
use Rattle.steps.specs.State.{Variable}
use Rattle.steps.specs.Changes.{find_variable}
use Rattle.steps.specs.Remove.{Fallen, use_less}
use Rattle.std.specs.Prelude.{Some, None}
use Rattle.rows.specs.choose.Chosen.{as-cond}
use Rattle.rows.specs.moves.Walk.{drop-walk}

abbrev pub fallen : List Variable → Option Variable → Fallen
fallen vs g = record { variables = vs; gone = g }

abbrev pub one_less : Variable → Variable
one_less v = record { number = v.number; symbol = v.symbol; old = v.old; uses = v.uses - 1; changed = v.changed }

unfoldable pub without : ℕ → List Variable → List Variable
without n [] = []
without n (v ∷ vs) = elim (eqb n v.number) [ true ↦ vs | false ↦ v ∷ without n vs ]

unfoldable pub lessened : ℕ → List Variable → List Variable
lessened n [] = []
lessened n (v ∷ vs) = elim (eqb n v.number) [ true ↦ one_less v ∷ vs | false ↦ v ∷ lessened n vs ]

abbrev pub falls_to : List Variable → List Variable → List Variable → Option Variable → Fallen
falls_to vs out less o = elim o [ none ↦ fallen vs none | some v ↦ cond (eqb v.uses 1) (fallen out (some v)) (fallen less none) ]

pub less-is : (n : ℕ) (vs : List Variable) → use_less n vs ≡ falls_to vs (without n vs) (lessened n vs) (find_variable n vs)
unfolding use_less without lessened find_variable
less-is n [] = refl
less-is n (v ∷ vs) = go (eqb n v.number) (less-is n vs)
  where
    behind : Fallen → Fallen
    behind f = record { variables = v ∷ f.variables; gone = f.gone }

    pass : (b : Bool) (x y : Fallen) → behind (cond b x y) ≡ cond b (behind x) (behind y)
    pass true x y = refl
    pass false x y = refl

    push : (o : Option Variable) → behind (falls_to vs (without n vs) (lessened n vs) o) ≡ falls_to (v ∷ vs) (v ∷ without n vs) (v ∷ lessened n vs) o
    push none = refl
    push (some u) = pass (eqb u.uses 1) (fallen (without n vs) (some u)) (fallen (lessened n vs) none)

    go : (b : Bool) → use_less n vs ≡ falls_to vs (without n vs) (lessened n vs) (find_variable n vs)
        → elim b [ false ↦ behind (use_less n vs) | true ↦ elim (eqb v.uses 1) [ true ↦ fallen vs (some v) | false ↦ fallen (one_less v ∷ vs) none ] ]
        ≡ falls_to (v ∷ vs) (elim b [ true ↦ vs | false ↦ v ∷ without n vs ]) (elim b [ true ↦ one_less v ∷ vs | false ↦ v ∷ lessened n vs ]) (elim b [ true ↦ some v | false ↦ find_variable n vs ])
    go true q = as-cond (eqb v.uses 1) (fallen vs (some v)) (fallen (one_less v ∷ vs) none)
    go false q = ap behind q ∙ push (find_variable n vs)

never : {X : Type 0} {z : ℕ} → None ≡ Some z → X
never e = absurd (let c : ◌≡◌ {A = ℕ} 0 1 = cc in omega arith)

same_at : {y z : ℕ} → Some y ≡ Some z → z ≡ y
same_at e = cc

seek-low : (q : ℕ → Bool) (n i z : ℕ) → seek q Some None n i ≡ Some z → i ≤ z
unfolding seek
seek-low q zero i z e = never e
seek-low q (suc n) i z e = by (q i) e (λ f. seek-low q n (suc i) z f)
  where
    by : (b : Bool) → cond b (Some i) (seek q Some None n (suc i)) ≡ Some z → (seek q Some None n (suc i) ≡ Some z → suc i ≤ z) → i ≤ z
    by true f r = omega (arith, same_at f)
    by false f r = omega (arith, r f)

-- the variables are g 0, g 1, ..
module _ (n : ℕ) (g : ℕ → Variable) where
  abbrev test : ℕ → Bool
  test j = eqb n (g j).number

  -- the first variable of the number changed in its place
  module _ (g' : ℕ → Variable) (top z : ℕ) (here : g' z ≡ one_less (g z)) (there : (j : ℕ) → j < top → (j ≡ z → ⊥) → g' j ≡ g j) where
    less-case : (i k : ℕ) (b : Bool) → i + suc k ≤ top → cond b (Some i) (seek test Some None k (suc i)) ≡ Some z → (seek test Some None k (suc i) ≡ Some z → (suc i ≤ z) × (lessened n (tab g (suc i) k) ≡ tab g' (suc i) k))
        → cond b (one_less (g i) ∷ tab g (suc i) k) (g i ∷ lessened n (tab g (suc i) k)) ≡ tab g' i (suc k)
    unfolding tab
    less-case i k true m e r =
        let s : z ≡ i = same_at e in
        let t : g' i ≡ one_less (g i) = rw s at here in
        rw t (ap (λ (l : List Variable). one_less (g i) ∷ l) (sym (tab-ext g' g (suc i) k λ j a b. there j (omega (arith, m, b)) (λ p. omega arith))))
    less-case i k false m e r =
        let f = r e in
        rw (there i (omega (arith, m)) (λ p. omega (arith, f.0))) (ap (λ (l : List Variable). g i ∷ l) f.1)

    pub less-tab : (k i : ℕ) → i + k ≤ top → seek test Some None k i ≡ Some z → lessened n (tab g i k) ≡ tab g' i k
    unfolding seek tab lessened
    less-tab zero i m e = never e
    less-tab (suc k) i m e = as-cond (test i) (one_less (g i) ∷ tab g (suc i) k) (g i ∷ lessened n (tab g (suc i) k)) ∙ less-case i k (test i) m e (λ f. (seek-low test k (suc i) z f, less-tab k (suc i) (omega (arith, m)) f))

  -- it goes: those after it come one down
  pub gone-tab : (g' : ℕ → Variable) (k z : ℕ) → seek test Some None (suc k) 0 ≡ Some z → ((j : ℕ) → j < z → g' j ≡ g j) → ((j : ℕ) → z ≤ j → j < k → g' j ≡ g (suc j)) → without n (tab g 0 (suc k)) ≡ tab g' 0 k
  unfolding without tab first
  gone-tab g' k z e before after =
      let d : 0 + suc k - 0 ≡ suc k = omega arith in
      drop-walk 0 test g g' (λ i m. without n (tab g i m)) (λ i. refl) (λ i m. rw (zero-add i) (as-cond (test i) (tab g (suc i) m) (g i ∷ without n (tab g (suc i) m))))
      k z (rw d e) (λ j c. before j (omega (arith, c))) (λ j c f. after j (omega (arith, c)) f)
