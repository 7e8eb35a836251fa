use native.Mathlib.Omega.{arith}
use Rattle.rows.specs.choose.Better.{within}
use Rattle.waist.specs.PurgeCalls.{bares-found, bares-none}
use Rattle.waist.proofs.symbols.drop_own_row.Goals as goal

pub returns-in_default-clause-does : goal.returns-in_default-clause-does
returns-in_default-clause-does c = bares-none _ _ c.requires.sound c.requires.le_p c.requires.p_bound c.row_of.ensures.value c.in_default.is

pub overflow_cast-i : goal.overflow_cast-i
overflow_cast-i c =
    let w = within c.row_of.ensures.within c.in-Some.is in
    omega (arith, w, c.requires.sound.few)

pub drop_row-requires : goal.drop_row-requires
drop_row-requires c = let w = within c.row_of.ensures.within c.in-Some.is in
    record { sound = c.requires.sound; le_i = w.0; i_bound = w.1 }

pub returns-in-Some-clause-does : goal.returns-in-Some-clause-does
returns-in-Some-clause-does c = bares-found _ _ c.requires.sound c.requires.le_p c.requires.p_bound _ c.row_of.ensures.value c.in-Some.is c.drop_row.ensures.does
