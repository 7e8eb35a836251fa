use Prim.Native.Nat.{ℕ}
use mathlib.Core.Path.{◌≡◌, refl}
use mathlib.Core.List.{List}
use Rattle.refusals.specs.declared.gone.Taken.{Taken}
use Rattle.refusals.specs.Refusals.{takes_in}
use Rattle.std.proofs.Common.{rules}
use Rattle.refusals.proofs.gone.takes.Goals as goal

known : (w : List ℕ) (c : ℕ) {x y : Taken} → x ≡ y → takes_in w y c ≡ takes_in w x c
known w c e = rw e refl

pub returns-in-Constraint : goal.returns-in-Constraint
unfolding takes_in
returns-in-Constraint c = known c.args.words.now c.args.c c.in-Constraint.is

pub returns-in-Edit : goal.returns-in-Edit
unfolding takes_in
returns-in-Edit c = search rules

pub returns-in-Group : goal.returns-in-Group
unfolding takes_in
returns-in-Group c = known c.args.words.now c.args.c c.in-Group.is
