-- A pass as pivots by Bland's rule: its states are good, and have the solutions of the first. Assumes nothing.
use Rattle.std.specs.Prelude.{◌≡◌, ◌↔◌, ℕ, zero, suc, ◌≤◌, ◌<◌, ◌*ℤ◌}
use Rattle.std.proofs.Common.{sym, ap, subst, le_of_lt}
use Rattle.simplex.specs.Lin.{Vec}
use Rattle.simplex.specs.Tab.{Solves, pivot-solves}
use Rattle.simplex.specs.Opt.{Kind}
use Rattle.simplex.specs.Pass.{State, step, Good, Choice, step-good}

-- m pivots: the states 0 .. m, and the columns that leave and enter
pub record Pass (n : ℕ) (kind : ℕ → Kind) (m : ℕ) (S : ℕ → State) (le en : ℕ → ℕ) : Type 0 where
  pub start : Good n kind (S 0)
  pub next : (i : ℕ) → i < m → S (suc i) ≡ step (le i) (en i) (S i)
  pub choice : (i : ℕ) → i < m → Choice n kind (S i) (le i) (en i)

module _ (n : ℕ) (kind : ℕ → Kind) (m : ℕ) (S : ℕ → State) (le en : ℕ → ℕ) (Q : Pass n kind m S le en) where
  pub good : (i : ℕ) → i ≤ m → Good n kind (S i)
  good zero h = Q.start
  good (suc i) h = subst (Good n kind) (sym (Q.next i h)) (step-good n kind (S i) (good i (le_of_lt h)) (le i) (en i) (Q.choice i h))

  -- every state has the solutions of the first, and the objective keeps its value on them
  pub solutions : (i : ℕ) → i ≤ m → (σ : Vec) → Solves n (S i).R σ ↔ Solves n (S 0).R σ
  solutions zero h σ = ((λ s. s), (λ s. s))
  solutions (suc i) h σ =
      let G = good i (le_of_lt h) in
      let C = Q.choice i h in
      let p = pivot-solves n (S i).R (le i) (en i) σ (G.shape.below (le i) C.l-basic) C.in-n (G.shape.unit (en i) C.e-free) (ap (λ z. z *ℤ z) C.l-cell) in
      let r = solutions i (le_of_lt h) σ in
      ((λ s. r.0 (p.0 (subst (λ (T : State). Solves n T.R σ) (Q.next i h) s))), (λ s. subst (λ (T : State). Solves n T.R σ) (sym (Q.next i h)) (p.1 (r.1 s))))
