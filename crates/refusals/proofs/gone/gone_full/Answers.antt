use Prim.Native.Nat.{ℕ, ◌+◌}
use mathlib.Core.Path.{◌≡◌, refl}
use mathlib.Core.List.{List}
use lib.Dec.{ltb}
use lib.Ieee.{Float}
use Rattle.sparse.specs.Places.{most_gone}
use Rattle.refusals.specs.declared.gone.Taken.{Taken}
use Rattle.refusals.specs.Refusals.{gone_in, entries_in, gone_full_in}
use Rattle.refusals.specs.Goes.{room-for-all}
use Rattle.refusals.proofs.gone.gone_full.Goals as goal

says : (w b : List ℕ) (r : List Float) (x : Taken) {k : ℕ} → k ≡ entries_in w b r x → ltb most_gone (gone_in w + k) ≡ gone_full_in w b r x
unfolding gone_full_in
says w b r x e = rw e refl

pub returns-then-g-v : goal.returns-then-g-v
returns-then-g-v c = room-for-all c.args.words.now c.args.bytes.now c.args.reals.now c.args.x c.if-g-v.true

pub returns : goal.returns
returns c = says c.args.words.now c.args.bytes.now c.args.reals.now c.args.x c.entries_made.ensures.value
