-- What a step makes of a choice.
-- Assumes nothing.
use Rattle.std.specs.Prelude.{◌≡◌, ℕ, refl}
use Rattle.std.proofs.Math.Option.{Option, none, some}
use Rattle.rows.specs.choose.Choose.{on_found}
use Rattle.rows.specs.choose.Choose.{Found}
use Rattle.std.specs.Prelude.{Some, None}

module _ {A B : Type 0} where
  abbrev pub picked : (A → B) → B → Option A → B
  picked k d o = elim o [ none ↦ d | some a ↦ k a ]

  pub on_some : (k : A → B) (d : B) (g : ℕ → A) (f : Found) → picked k d (on_found (λ i. some (g i)) none f) ≡ on_found (λ i. k (g i)) d f
  on_some k d g (Some i) = refl
  on_some k d g None = refl
