-- The three claiming walks: what the flag and the table are at the end, beside a test of the same places.
use Rattle.std.proofs.Common.{ℕ, ◌≡◌, refl, ap, Bool, ◌&&◌, List}
use Rattle.rows.specs.places.Shares.{Shares, shares}

pub ends : {l : List ℕ} {a b d : Bool} {s : Shares} → shares l a ≡ s → b ≡ d → (l ≡ s.left) × ((a && b) ≡ (s.ok && d))
ends e q = (ap (λ (s : Shares). s.left) e, rw (← e, q) refl)
