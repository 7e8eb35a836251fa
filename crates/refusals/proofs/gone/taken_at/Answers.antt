use Prim.Native.Nat.{ℕ, ◌+◌}
use mathlib.Core.Path.{◌≡◌, refl, ◌∙◌}
use mathlib.Core.Bool.{Bool, true, false}
use mathlib.Core.List.{List}
use lib.ListN.{get_or}
use native.Mathlib.Omega.{arith}
use Rattle.sparse.specs.Places.{term_counts_at}
use Rattle.sparse_test.specs.Tested.{term_count}
use Rattle.refusals.specs.declared.gone.Taken.{Taken}
use Rattle.refusals.specs.Refusals.{takes_in, uses_at, taken_at}
use Rattle.refusals.proofs.gone.taken_at.Goals as goal

module _ (w b : List ℕ) (x : Taken) (p c : ℕ) {k : Bool} (e : k ≡ takes_in w x c) where
  no : k ≡ false → 0 ≡ taken_at w b x p c
  unfolding taken_at
  no h = rw (← e, h) refl

  yes : k ≡ true → {from n : ℕ} → from ≡ term_count b c → n ≡ get_or b (term_counts_at + c) 0 → uses_at b from n p ≡ taken_at w b x p c
  unfolding taken_at
  yes h f g = rw (← e, h, f, g) refl

pub returns-then-not-takes : goal.returns-then-not-takes
returns-then-not-takes c = record { value = no c.args.words.now c.args.bytes.now c.args.x c.args.p c.args.c c.takes.ensures c.if-not-takes.true; upper_bound = omega arith }

pub returns : goal.returns
returns c = record { value = c.uses_at.ensures.value ∙ yes c.args.words.now c.args.bytes.now c.args.x c.args.p c.args.c c.takes.ensures c.if-not-takes.false c.requires.from_value c.requires.n_value; upper_bound = c.uses_at.ensures.upper_bound }
