use Prim.Native.Nat.{ℕ}
use mathlib.Core.Path.{◌≡◌, refl, ◌∙◌}
use mathlib.Core.Bool.{Bool, not, ◌&&◌}
use mathlib.Core.List.{List}
use lib.ListN.{get_or}
use Rattle.layout.specs.Layout.{bit_of}
use Rattle.sparse.specs.Places.{variable_numbers_at}
use Rattle.changes.specs.declared.terms.Pack.{Pack}
use Rattle.refusals.specs.Refusals.{live_in, is_first_of, new_at}
use Rattle.refusals.proofs.Bits.{from-bit, bit-low}
use Rattle.refusals.proofs.new_at.Goals as goal

says : (w : List ℕ) (v : ℕ) (p : Pack) (i : ℕ) {l f b : Bool} → l ≡ live_in w variable_numbers_at v (get_or p.vars i 0) → f ≡ is_first_of p i → not l && f ≡ b → bit_of b ≡ new_at w v p i
unfolding new_at
says w v p i e g h = rw (← e, ← g, h) refl

pub returns : goal.returns
returns c = record { value = c.from.ensures ∙ from-bit _ ∙ says c.args.words.now c.args.v c.args.p c.args.i c.is_live.ensures c.first_of.ensures refl; upper_bound = bit-low _ c.from.ensures }
