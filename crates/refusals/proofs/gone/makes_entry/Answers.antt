use Prim.Native.Nat.{ℕ, ◌+◌}
use mathlib.Core.Path.{◌≡◌, refl}
use mathlib.Core.Bool.{Bool, not, ◌&&◌}
use mathlib.Core.List.{List}
use native.Mathlib.Omega.{arith}
use lib.Dec.{leb, ltb}
use lib.Ieee.{Float, nan, ne}
use lib.ListN.{get_or}
use Rattle.laws.specs.Lists.{sum_in}
use Rattle.sparse.specs.Places.{variable_numbers_at, variable_uses_at, gone_numbers_at, variable_places_at, old_values_at}
use Rattle.refusals.specs.declared.gone.Taken.{Taken}
use Rattle.refusals.specs.Refusals.{constraints_in, gone_in, live_in, edit_use, taken_at, taken_in, entry_at}
use Rattle.refusals.proofs.gone.makes_entry.Goals as goal

says : (w b : List ℕ) (r : List Float) (x : Taken) (i : ℕ) {waits : Bool} {e k : ℕ}
    → waits ≡ live_in w gone_numbers_at (gone_in w) (get_or w (variable_numbers_at + i) 0)
    → e ≡ edit_use x (get_or w (variable_numbers_at + i) 0)
    → k ≡ sum_in (taken_at w b x (get_or b (variable_places_at + i) 0)) 0 (constraints_in w)
    → ltb 0 (get_or w (variable_uses_at + i) 0) && leb (get_or w (variable_uses_at + i) 0) (e + k) && not (ne (get_or r (old_values_at + i) nan) (get_or r (old_values_at + i) nan)) && not waits ≡ entry_at w b r x i
unfolding entry_at taken_in
says w b r x i h₁ h₂ h₃ = rw (h₁, h₂, h₃) refl

pub is_live-waits-requires : goal.is_live-waits-requires
is_live-waits-requires c = record { c_bound = omega (arith, c.requires.tabled.gone); ascends = c.requires.tabled.gone_up }

pub overflow_add-taken : goal.overflow_add-taken
overflow_add-taken c = omega (arith, c.edit_use.ensures.upper_bound, c.term_uses.ensures.upper_bound)

pub returns : goal.returns
returns c = says c.args.words.now c.args.bytes.now c.args.reals.now c.args.x c.args.i c.is_live-waits.ensures c.edit_use.ensures.value c.term_uses.ensures.value
