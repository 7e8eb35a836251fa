use Prim.Native.Nat.{ℕ}
use mathlib.Core.Path.{◌≡◌}
use mathlib.Core.List.{List}
use lib.Ieee.{Float}
use Rattle.laws.specs.Loops.{run}
use Rattle.changes.specs.declared.terms.Pack.{Pack}
use Rattle.changes.specs.terms.Terms.{pushed}
use Rattle.solver.specs.StoredTerms.{stored_term, stored_pack, Terms}
use Rattle.solver.proofs.looks.stored_pack.Given as goal

abbrev pushes : List ℕ → List ℕ → List Float → ℕ → ℕ → Pack → Pack
pushes w b r from j q = pushed q (stored_term w b r from j)

abbrev pub invariant-loop-i : goal.invariant-loop-i
invariant-loop-i l = (run (pushes l.words l.bytes l.reals l.from) l.i l.n l.p ≡ stored_pack l.words l.bytes l.reals l.from l.n) × (Terms l.words l.bytes l.from l.n)
