use Rattle.std.proofs.Common.{◌≡◌, ℕ, refl, arith}
use Rattle.laws.specs.Loops.{run-next, run-last}
use Rattle.reader.specs.Answers.{Reading}
use Rattle.changes.specs.declared.terms.Term.{Term}
use Rattle.changes.specs.declared.terms.Pack.{Pack}
use Rattle.changes.specs.terms.Terms.{pushed}
use Rattle.entry.specs.typed.Typed.{term_read, packs, packs-start}
use Rattle.entry.proofs.typed.pack.pack_of.Goals as goal

turn : (r : Reading) (j : ℕ) (q : Pack) {t : Term} {z : Pack} → t ≡ term_read r j → z ≡ pushed q t → z ≡ packs r j q
turn r j q e f = rw (f, e) refl

pub loop-i-init : goal.loop-i-init
loop-i-init c = (packs-start _ c.shown-n.ensures.value c.none-p.ensures, c.shown-n.ensures.upper_bound)

pub loop-i-preserved : goal.loop-i-preserved
loop-i-preserved c = (run-next _ _ _ _ (omega arith) (turn _ _ _ c.term_of-t.ensures c.push-p.ensures) c.loop-i.invariant.0, c.loop-i.invariant.1)

pub returns : goal.returns
returns c = run-last _ _ _ _ (omega arith) c.loop-i.invariant.0
