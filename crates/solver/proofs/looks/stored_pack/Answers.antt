use Prim.Native.Nat.{ℕ}
use mathlib.Core.Path.{◌≡◌, refl}
use mathlib.Core.List.{List}
use native.Mathlib.Omega.{arith}
use lib.Ieee.{Float}
use Rattle.laws.specs.Loops.{run-next, run-last}
use Rattle.changes.specs.declared.terms.Term.{Term}
use Rattle.changes.specs.declared.terms.Pack.{Pack}
use Rattle.changes.specs.terms.Terms.{pushed}
use Rattle.solver.specs.StoredTerms.{stored_term, pack-gathered}
use Rattle.solver.proofs.looks.stored_pack.Goals as goal

abbrev pushes : List ℕ → List ℕ → List Float → ℕ → ℕ → Pack → Pack
pushes w b r from j q = pushed q (stored_term w b r from j)

turn : (w b : List ℕ) (r : List Float) (from j : ℕ) (q : Pack) {t : Term} {z : Pack} → t ≡ stored_term w b r from j → z ≡ pushed q t → z ≡ pushes w b r from j q
turn w b r from j q e f = rw (f, e) refl

pub loop-i-init : goal.loop-i-init
loop-i-init c = (pack-gathered _ _ _ _ _ c.none-p.ensures, c.requires)

pub stored_term-t-requires : goal.stored_term-t-requires
stored_term-t-requires c = record { terms = c.loop-i.invariant.1; i_lt_n = c.loop-i-test.true }

pub loop-i-preserved : goal.loop-i-preserved
loop-i-preserved c = (run-next _ _ _ _ (omega arith) (turn _ _ _ _ _ _ c.stored_term-t.ensures c.push-p.ensures) c.loop-i.invariant.0, c.loop-i.invariant.1)

pub returns : goal.returns
returns c = run-last _ _ _ _ (omega arith) c.loop-i.invariant.0
