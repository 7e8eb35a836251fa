use mathlib.Core.Path.{◌≡◌}
use Rattle.laws.specs.Loops.{run}
use Rattle.layout.specs.Copy.{most16}
use Rattle.changes.specs.declared.terms.Pack.{Pack}
use Rattle.changes.specs.declared.terms.Term.{Term}
use Rattle.changes.specs.terms.Terms.{no_pack, term_in}
use Rattle.changes.proofs.terms.gathered.Given as goal

abbrev pub invariant-loop-i : goal.invariant-loop-i
invariant-loop-i g l = goal.F-IsAlwaysCallable g l.put × ((h : Pack → Term → Pack) → ((q : Pack) (t : Term) (r : Pack) → goal.F-post g l.put q t r → r ≡ h q t) → run (λ j q. h q (term_in l.p j)) l.i (most16 l.p.count) l.q ≡ run (λ j q. h q (term_in l.p j)) 0 (most16 l.p.count) no_pack)
