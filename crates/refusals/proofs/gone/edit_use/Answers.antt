use Prim.Native.Nat.{ℕ}
use mathlib.Core.Path.{◌≡◌, refl, ◌∙◌}
use Rattle.refusals.specs.declared.gone.Taken.{Taken}
use Rattle.refusals.specs.Refusals.{edit_use}
use Rattle.std.proofs.Common.{rules}
use Rattle.refusals.proofs.Bits.{from-bit, bit-low}
use Rattle.refusals.proofs.gone.edit_use.Goals as goal

known : (n : ℕ) {x y : Taken} → x ≡ y → edit_use y n ≡ edit_use x n
known n e = rw e refl

pub returns-in-Constraint : goal.returns-in-Constraint
unfolding edit_use
returns-in-Constraint c = search rules

pub returns-in-Edit : goal.returns-in-Edit
unfolding edit_use
returns-in-Edit c = record { value = c.from.ensures ∙ from-bit _ ∙ known c.args.n c.in-Edit.is; upper_bound = bit-low _ c.from.ensures }

pub returns-in-Group : goal.returns-in-Group
unfolding edit_use
returns-in-Group c = search rules
