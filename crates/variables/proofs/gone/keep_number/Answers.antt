-- The spot is at or below the count, and the count has room for one more.
use native.Mathlib.Omega.{arith}
use borrow.Author.Rules.{rules}
use Rattle.variables.specs.Told.{gone-few, spot-room, kept-none, kept_at}
use Rattle.variables.proofs.gone.keep_number.Goals as goal

pub gone_spot-f-requires : goal.gone_spot-f-requires
gone_spot-f-requires c = gone-few _ _ c.requires

pub returns-in_default : goal.returns-in_default
returns-in_default c = kept-none _ _ c.gone_spot-f.ensures c.in_default.is

pub overflow_add-j : goal.overflow_add-j
overflow_add-j c = let r = spot-room _ _ c.requires c.gone_spot-f.ensures c.in-Some.is in search rules

pub overflow_add-e : goal.overflow_add-e
overflow_add-e c = let r = spot-room _ _ c.requires c.gone_spot-f.ensures c.in-Some.is in search rules

pub open-requires : goal.open-requires
open-requires c = let r = spot-room _ _ c.requires c.gone_spot-f.ensures c.in-Some.is in
    record { i_le_e = omega (arith, r.0); e_bound = omega (arith, r.1) }

pub overflow_add-words : goal.overflow_add-words
overflow_add-words c = let r = spot-room _ _ c.requires c.gone_spot-f.ensures c.in-Some.is in search rules

pub returns : goal.returns
returns c = kept_at _ _ c.gone_spot-f.ensures c.in-Some.is c.open.ensures
