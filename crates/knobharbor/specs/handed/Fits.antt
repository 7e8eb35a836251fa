-- What every answer to a line of the second edition keeps: 0 refuses nothing, and a line that reads has few small numbers. Assumes nothing.
use Rattle.std.specs.Prelude.{◌≡◌, ℕ, ◌<◌, Bool, true, false, cond, List, length, ◌==◌, ◌≢◌, nat_le}
use Rattle.std.proofs.Common.{inl, inr, arith, ltb→lt}
use Rattle.grammar.specs.Sums.{Answer, reads, outside, refused, judged, summed}
use Rattle.grammar.specs.edition.Endings.{required, is_group, Reply, taken, astray, denied, behind}
use Rattle.grammar.specs.edition.Steps.{Found, met, found, replied, read_second}
use Rattle.grammar.specs.edition.Begun.{Tells₂}
use Rattle.grammar.specs.edition.Theorems.{outcome}
use Rattle.grammar.proofs.edition.Theorems.{told}
use Rattle.entry.specs.typed.Adding.{Fit, judged-fit}

abbrev pub Fits : Reply → Type 0
Fits (taken x) = Fit (reads x.reading)
Fits (astray at) = Unit {0}
Fits (denied n) = n ≡ 0 → ⊥

behind-fits : (a : Answer) → Fit a → (n g : ℕ) → Fits (behind a n g)
behind-fits (reads r) f n g = by (nat_le n required) (is_group g)
  where
    by : (t u : Bool) → Fits (cond t (cond u (taken (record { reading = r; strength = n; group = g })) (denied 35)) (denied 34))
    by true true = f
    by true false = λ e. omega arith
    by false u = λ e. omega arith
behind-fits (outside at) f n g = tt
behind-fits (refused k) f n g = f

replied-fits : (w : List ℕ) (x : Found) → Tells₂ w x → Fits (replied x)
replied-fits w (met n at) h = by (n == 20) (some_number h)
  where
    some_number : Tells₂ w (met n at) → n ≢ 0
    some_number (inl (q, _)) e = omega arith
    some_number (inr (t, _)) e = let l : 20 < n = ltb→lt 20 n t in omega arith

    by : (t : Bool) → (n ≢ 0) → Fits (cond t (astray at) (denied n))
    by true z = tt
    by false z = z
replied-fits w (found r s n g) h = behind-fits (judged (summed r s)) (judged-fit (summed r s)) n g

pub line-fits : (w : List ℕ) → Fits (read_second w)
unfolding read_second
line-fits w = by (nat_le (length w) 4096)
  where
    by : (t : Bool) → Fits (cond t (replied (outcome w)) (denied 19))
    by true = replied-fits w (outcome w) (told w)
    by false = λ e. omega arith
