-- A second objective that a pass carries along, as the artificial pass does the main one. Assumes nothing.
use Rattle.std.specs.Prelude.{◌≡◌, refl, ℕ, zero, suc, ◌≤◌, ◌<◌, ◌*ℤ◌}
use Rattle.std.proofs.Common.{sym, ap, ◌∙◌, le_of_lt}
use Rattle.simplex.specs.Ord.{0ℤ}
use Rattle.simplex.specs.Lin.{Vec, dot}
use Rattle.simplex.specs.Tab.{Solves, pivoted, pivot-objective}
use Rattle.simplex.specs.Basis.{Clear, pivot-clear}
use Rattle.simplex.specs.Opt.{Kind, external}
use Rattle.simplex.specs.Pass.{State, var-out}
use Rattle.simplex.specs.Bland.{Pass, good, solutions}

pub record Carried (n : ℕ) (kind : ℕ → Kind) (S₀ S : State) (w₀ w : Vec) : Type 0 where
  pub clear : Clear S.B w
  pub no-var : (i : ℕ) → kind i ≡ external → w i ≡ 0ℤ
  pub value : (σ : Vec) → Solves n S₀.R σ → dot n w σ ≡ dot n w₀ σ

pub carried : (n : ℕ) (kind : ℕ → Kind) (m : ℕ) (S : ℕ → State) (le en : ℕ → ℕ) (Q : Pass n kind m S le en) (w : ℕ → Vec)
    → ((i : ℕ) → i < m → w (suc i) ≡ pivoted (le i) (en i) (S i).R (w i))
    → Clear (S 0).B (w 0) → ((i : ℕ) → kind i ≡ external → w 0 i ≡ 0ℤ)
    → (i : ℕ) → i ≤ m → Carried n kind (S 0) (S i) (w 0) (w i)
carried n kind m S le en Q w next c x zero h = record { clear = c; no-var = x; value = λ σ s. refl }
carried n kind m S le en Q w next c x (suc i) h =
    let I = carried n kind m S le en Q w next c x i (le_of_lt h) in
    let G = good n kind m S le en Q i (le_of_lt h) in
    let C = Q.choice i h in
    record {
      clear = λ b u. ap (λ (r : Vec). r b) (next i h) ∙ pivot-clear n (S i).B (S i).R G.shape (le i) (en i) C.l-basic C.e-free C.in-n (ap (λ z. z *ℤ z) C.l-cell) (w i) I.clear b (sym (ap (λ (T : State). T.B b) (Q.next i h)) ∙ u);
      no-var = λ j e. ap (λ (r : Vec). r j) (next i h) ∙ var-out n kind (S i) G (le i) (en i) C (w i) j e (I.no-var j e);
      value = λ σ s. ap (λ (r : Vec). dot n r σ) (next i h) ∙ pivot-objective n (S i).R (le i) (en i) (w i) σ (G.shape.below (le i) C.l-basic) ((solutions n kind m S le en Q i (le_of_lt h) σ).1 s) ∙ I.value σ s;
    }
