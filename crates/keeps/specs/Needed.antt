-- Two clauses that the document's sentence doesn't spell out, and that the calls need: without either, an accepted add turns a state that reads into one that doesn't.
use Rattle.std.specs.Prelude.{◌≡◌, refl, [], ◌∷◌, Bool, true, false, ◌&&◌, eqb}
use Rattle.std.proofs.Math.Option.{none}
use Rattle.steps.specs.Number.{zero64, one64, usual_cutoff}
use Rattle.steps.specs.Strength.{required}
use Rattle.steps.specs.Symbol.{Dummy}
use Rattle.steps.specs.State.{Term, at_most, exactly, Variable, State}
use Rattle.steps.specs.Calls.{Result, add}
use Rattle.steps.specs.Readable.{all, stored_terms, uses_in, counts_in_range, numbers_ascend, symbols_distinct, ids_below_next, rows_in_range, no_basic_cell, symbols_owned, uses_counted, numbers_finite, kinds_fit, cutoff_in_range, groups_fit, gone_fits, open_readable}

x : Term
x = record { variable = 1; coefficient = one64 }

-- x is at most 0, as constraint 2
added : State → Result
added s = add 1 2 (x ∷ []) zero64 (at_most required) 10 s

-- the clauses of neither
others : State → Bool
others s = counts_in_range s && numbers_ascend s && symbols_distinct s && rows_in_range s && no_basic_cell s && symbols_owned s && numbers_finite s && kinds_fit s && cutoff_in_range s && groups_fit s && gone_fits s

-- ---- "ids from 1": were the next id 0, the first symbol would have the id 0

from_zero : State
from_zero =
    record {
      tableau = record { cutoff = usual_cutoff; symbols = []; next_id = 0; rows = []; objective = [] };
      changes = record { variables = []; gone = []; should_clear = false };
      constraints = [];
      edits = [];
      whole = true;
    }

next-above-zero : ((others from_zero && uses_counted from_zero) ≡ true) × ((added from_zero).answer.number ≡ 0) × (symbols_distinct (added from_zero).state ≡ false)
unfolding open_readable from_zero others added x
next-above-zero = (refl, refl, refl)

-- ---- use counts of variables that aren't live: x is in a stored term, and none of its uses are counted

stale : State
stale =
    record {
      tableau = record { cutoff = usual_cutoff; symbols = record { id = 1; kind = Dummy } ∷ []; next_id = 2; rows = []; objective = zero64 ∷ [] };
      changes = record { variables = []; gone = []; should_clear = false };
      constraints = record { number = 1; group = 1; comparison = exactly; strength = required; constant = zero64; terms = x ∷ []; tag = record { marker = record { id = 1; kind = Dummy }; other = none } } ∷ [];
      edits = [];
      whole = true;
    }

-- the counts of the live variables are those of the stored terms
live_counted : State → Bool
live_counted s = all (λ (v : Variable). eqb v.uses (uses_in v.number (stored_terms s))) s.changes.variables

terms-live : ((others stale && ids_below_next stale && live_counted stale) ≡ true) × ((added stale).answer.number ≡ 0) × (live_counted (added stale).state ≡ false)
unfolding open_readable stale others added x live_counted
terms-live = (refl, refl, refl)
