use Rattle.std.proofs.Common.{rules}
use Rattle.addition.specs.Symbols.{alike-closed, temporary-alike}
use Rattle.addition.specs.Removed.{near, not-near}
use Rattle.addition.proofs.temporary.close_temporary.Goals as goal

pub remove_temporary-requires : goal.remove_temporary-requires
remove_temporary-requires c = let m = c.close_artificial.ensures _ c.requires.standing in
    record { standing = m.stands; temporary = temporary-alike _ _ _ (alike-closed _ _ _ m) c.requires.temporary }

pub returns-then-near_zero : goal.returns-then-near_zero
returns-then-near_zero c = let m = c.close_artificial.ensures _ c.requires.standing in
    let all = near _ _ _ _ c.artificial_constant-x.ensures c.near_zero.ensures c.if-near_zero.true _ _ m ((alike-closed _ _ _ m).at _ c.requires.temporary.low c.requires.temporary.high) _ _ c.remove_temporary.ensures.values_value c.remove_temporary.ensures.goes in record { values_value = all.0; goes = all.1; same = search rules }

pub returns : goal.returns
returns c = let all = not-near _ _ _ _ c.artificial_constant-x.ensures c.near_zero.ensures c.if-near_zero.false in record { values_value = all.0; goes = all.1; same = search rules }
