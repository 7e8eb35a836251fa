use Prim.Native.Nat.{ℕ}
use mathlib.Core.Path.{◌≡◌, refl}
use Rattle.steps.specs.Number.{one64}
use Rattle.changes.specs.declared.terms.Pack.{Pack}
use Rattle.changes.specs.terms.Terms.{no_pack, pushed, pack_from, pack_of}
use Rattle.refusals.specs.Refusals.{edit_pack}
use Rattle.refusals.proofs.edit_pack.Goals as goal

says : (x : ℕ) {q r : Pack} → q ≡ no_pack → r ≡ pushed q (record { variable = x; coefficient = one64 }) → r ≡ edit_pack x
unfolding edit_pack pack_of pack_from
says x h₁ h₂ = rw (h₂, h₁) refl

pub returns : goal.returns
unfolding one64
returns c = says c.args.n c.none.ensures c.push.ensures
