use mathlib.Core.Path.{refl, sym}
use native.Mathlib.Omega.{arith}
use Rattle.std.proofs.Common.{rules}
use Rattle.refusals.specs.Refusals.{remove_refusal}
use Rattle.refusals.proofs.remove_tests.Goals as goal

pub is_live-requires : goal.is_live-requires
is_live-requires c = record { c_bound = omega arith; ascends = search rules }

pub returns-then-not-is_live : goal.returns-then-not-is_live
unfolding remove_refusal
returns-then-not-is_live c = rw (sym c.is_live.ensures, c.if-not-is_live.true) refl

pub returns-then-gone_full : goal.returns-then-gone_full
unfolding remove_refusal
returns-then-gone_full c = rw (sym c.is_live.ensures, c.if-not-is_live.false, sym c.gone_full.ensures, c.if-gone_full.true) refl

pub returns : goal.returns
unfolding remove_refusal
returns c = rw (sym c.is_live.ensures, c.if-not-is_live.false, sym c.gone_full.ensures, c.if-gone_full.false) refl
