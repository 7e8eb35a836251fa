use Rattle.std.specs.Prelude.{◌≡◌, ℕ, suc, true, List, [], ◌∷◌, get_or}
use Rattle.std.proofs.Common.{arith}
use mir.Syntax.{w32}
use mir.Val.{Fits}
use Rattle.keeps.specs.Lists.{All}
use Rattle.sparse_test.specs.narrow.Numbers.{is_u32}
use Rattle.solver.specs.Numbers.{of-u32}
use Rattle.solver.proofs.numbers.variables_are_typed.Goals as goal

all_fit : (ns : List ℕ) → ((i : ℕ) → Fits w32 (get_or ns i 0)) → All (λ (n : ℕ). is_u32 n ≡ true) ns
all_fit [] h = tt
all_fit (n ∷ ns) h = let fits = h 0 in (of-u32 n (omega arith), all_fit ns λ i. h (suc i))

pub returns : goal.returns
returns c = all_fit _ c.type_inv.vars
