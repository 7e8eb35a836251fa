use Rattle.std.specs.Prelude.{◌≡◌}
use Rattle.std.proofs.Math.ListN.{drop}
use Rattle.changes.specs.terms.Terms.{pack_from, pack_of}
use Rattle.changes.proofs.terms.collect.Given as goal

-- what is packed so far, and then the rest, is the pack of all
abbrev pub invariant-loop-t : goal.invariant-loop-t
invariant-loop-t l = pack_from l.p (drop l.t-index l.terms) ≡ pack_of l.terms
