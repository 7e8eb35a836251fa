use Rattle.std.proofs.Common.{rules, ℕ, ◌+◌, ◌≡◌, refl, sym, true, List, get_or}
use native.Mathlib.Omega.{arith}
use borrow.Author.Tests.{le-ltb}
use lib.Ieee.{Float}
use Rattle.sparse.specs.Places.{variable_numbers_at, gone_numbers_at}
use Rattle.sparse.specs.Lookup.{place_from}
use Rattle.rows.specs.places.Finding.{at_all}
use Rattle.sparse_test.specs.Tested.{returned_fit}
use Rattle.sparse_test.proofs.records.returned_fit.Goals as goal

-- none is among none
none-gone : (w : List ℕ) (r : List Float) (v : ℕ) {g : ℕ} → g ≡ 0 → true ≡ returned_fit w r v g
unfolding returned_fit
none-gone w r v e = rw e (sym (at_all _ 0 v λ j h k. rw (le-ltb (place_from w gone_numbers_at 0 (get_or w (variable_numbers_at + j) 0)) 0 (omega arith)) refl))

pub returns-then-g-eq0 : goal.returns-then-g-eq0
returns-then-g-eq0 c = none-gone _ _ _ c.if-g-eq0.true

pub returns : goal.returns
unfolding returned_fit
returns c = c.each.ensures _ (λ i b h k q. search rules)
