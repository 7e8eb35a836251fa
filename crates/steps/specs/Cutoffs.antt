-- "One head unit reports in millimetres, another in metres, and 1E-8 isn't right for both."
-- Sessions that tell one cutoff from another, with numbers between 1E-8 and 1E-6 wherever near zero decides; and the range that reset takes.
use Rattle.std.specs.Prelude.{ℕ, ◌≡◌, refl, Bool, true, false, cond, List, [], ◌∷◌, ◌++◌, T, Float}
use Rattle.std.specs.Float.{nan, inf, binary64}
use Rattle.std.specs.Float.Ieee.{neg, of_bits}
use Rattle.steps.specs.Number.{zero64, usual_cutoff, greatest_cutoff, cutoff_fits}
use Rattle.steps.specs.Strength.{required}
use Rattle.steps.specs.State.{Term, at_most, equal, at_least}
use Rattle.steps.specs.Calls.{empty}
use Rattle.steps.specs.Readable.{readable}
use Rattle.steps.specs.Session.{Call, resets, adds, removes, value_of, reads, answer, is, says, Expected, ◌gives◌, all_pass}
use Rattle.steps.specs.Twelve.{num, minus, x, x_is, open_twelve}

-- 5E-7: near zero at 1E-6, and not at 1E-8
unfoldable pub small : Float
small = of_bits binary64 0x3ea0_c6f7_a0b5_ed8d

-- 1 - 5E-7
unfoldable pub almost_one : Float
almost_one = of_bits binary64 0x3fef_fffe_f390_85f5

-- 3 + 5E-7
unfoldable pub over_three : Float
over_three = of_bits binary64 0x4008_0000_431b_de83

-- 0.001 and 0.0005, whose product is about 5E-7
unfoldable pub thousandth : Float
thousandth = of_bits binary64 0x3f50_624d_d2f1_a9fc

unfoldable pub half_thousandth : Float
half_thousandth = of_bits binary64 0x3f40_624d_d2f1_a9fc

-- the variable v times k
unfoldable pub times : ℕ → Float → Term
times v k = record { variable = v; coefficient = k }

-- constraint c: these terms plus k are 0, required
unfoldable pub sum : ℕ → List Term → Float → Call
sum c ts k = adds 1 c ts k (equal required) 10

-- a session at 1E-6, where 5E-7 is near zero, and at 1E-8, where it is not
unfoldable pub both_ways : (Bool → List Expected) → List (List Expected)
both_ways session =
    (resets greatest_cutoff gives answer 0 0 true ∷ session true) ∷ (resets usual_cutoff gives answer 0 0 true ∷ session false) ∷ []

-- "near-zero coefficients skipped": 5E-7 x = 5
unfoldable pub skipped : Bool → List Expected
skipped near = sum 1 (times 1 small ∷ []) (minus 5) gives answer (cond near 12 0) 0 false ∷ []

-- only the terms that count are stored: x + 5E-7 y = 5
unfoldable pub stored : Bool → List Expected
stored near = sum 1 (x ∷ times 2 small ∷ []) (minus 5) gives answer 0 0 false ∷ reads gives says true ∷ []

-- "an old cell gets the sum and goes if that is near zero": (-1 + 5E-7) x + x = 5
unfoldable pub summed : Bool → List Expected
summed near = sum 1 (times 1 (neg almost_one) ∷ x ∷ []) (minus 5) gives answer (cond near 12 0) 0 false ∷ []

-- "a new cell is written unless near zero": y = 0.001 x, then 0.0005 y = 5
unfoldable pub inserted : Bool → List Expected
inserted near =
    sum 1 (times 2 (minus 1) ∷ times 1 thousandth ∷ []) (num 0) gives answer 0 0 false
    ∷ sum 2 (times 2 half_thousandth ∷ []) (minus 5) gives answer (cond near 12 0) 0 false
    ∷ []

-- the same in every row, "then insert row times k": x = y - (1 - 5E-7) z, then y = z, then x = 5
unfoldable pub substituted : Bool → List Expected
substituted near =
    sum 1 (x ∷ times 2 (minus 1) ∷ times 3 almost_one ∷ []) (num 0) gives answer 0 0 false
    ∷ sum 2 (times 2 (num 1) ∷ times 3 (minus 1) ∷ []) (num 0) gives answer 0 0 false
    ∷ sum 3 (x ∷ []) (minus 5) gives answer (cond near 12 0) 0 false
    ∷ []

-- "refuse 12 unless the constant is near zero": 5E-7 = 0
unfoldable pub dummies : Bool → List Expected
dummies near = sum 1 [] small gives answer (cond near 0 12) 0 false ∷ []

-- "Its constant not near zero: refuse 12.": x at most 0, then x at least 5E-7
unfoldable pub artificial : Bool → List Expected
artificial near =
    x_is 1 at_most 0 required 10 gives answer 0 0 true ∷ adds 1 2 (x ∷ []) (neg small) (at_least required) 10 gives answer (cond near 0 12) 0 false ∷ []

-- "in the objective with the strength": x at least 3, then x = 5 at 5E-7
unfoldable pub weighed : Bool → List Expected
weighed near =
    x_is 1 at_least 3 required 10 gives answer 0 0 true
    ∷ x_is 2 equal 5 small 10 gives answer 0 (cond near 0 1) false
    ∷ value_of 1 gives is (cond near (num 3) (num 5))
    ∷ []

-- "take each error symbol's strength out of the objective": x = 5 at 3 and at 1, x = 9 at 3 + 5E-7; without the second
unfoldable pub removed : Bool → List Expected
removed near =
    x_is 1 equal 5 (num 3) 10 gives answer 0 0 true
    ∷ x_is 2 equal 5 (num 1) 10 gives answer 0 0 true
    ∷ x_is 3 equal 9 over_three 10 gives answer 0 0 false
    ∷ removes 2 10 gives answer 0 (cond near 0 1) false
    ∷ value_of 1 gives is (cond near (num 5) (num 9))
    ∷ []

-- "above 0 and at most 1E-6": a cutoff outside is refused, and nothing changes; W9's mark is no, and x is 5
unfoldable pub ranged : List Expected
ranged =
    sum 1 (x ∷ x ∷ []) (minus 10) gives answer 0 0 false
    ∷ resets zero64 gives answer 24 0 false
    ∷ resets (neg zero64) gives answer 24 0 false
    ∷ resets (neg usual_cutoff) gives answer 24 0 false
    ∷ resets nan gives answer 24 0 false
    ∷ resets (inf false) gives answer 24 0 false
    ∷ resets (of_bits binary64 0x3eb0_c6f7_a0b5_ed8e) gives answer 24 0 false
    ∷ value_of 1 gives is (num 5)
    ∷ resets greatest_cutoff gives answer 0 0 true
    ∷ value_of 1 gives is zero64
    ∷ resets zero64 gives answer 24 0 true
    ∷ resets (of_bits binary64 1) gives answer 0 0 true
    ∷ []

-- all of them
unfoldable pub sessions : List (List Expected)
sessions =
    both_ways skipped
    ++ both_ways stored
    ++ both_ways summed
    ++ both_ways inserted
    ++ both_ways substituted
    ++ both_ways dummies
    ++ both_ways artificial
    ++ both_ways weighed
    ++ both_ways removed
    ++ (ranged ∷ [])

-- the key: unfolds this module and what it computes with
unfoldable pub open_cutoffs : Unit {0}
unfolding open_twelve small almost_one over_three thousandth half_thousandth times sum both_ways skipped stored summed inserted substituted dummies artificial weighed removed ranged sessions
open_cutoffs = tt

-- "every row step and each use of it in adding speaks of that cutoff", and in removal
pub cutoffs-pass : T (all_pass sessions)
unfolding open_cutoffs
cutoffs-pass = tt

-- "1E-8 stays usual"
pub usual-fits : cutoff_fits usual_cutoff ≡ true
unfolding open_cutoffs
usual-fits = refl

-- a state whose cutoff is 0 does not read as one
pub zero-unread : readable (empty zero64) ≡ false
unfolding open_cutoffs
zero-unread = refl
