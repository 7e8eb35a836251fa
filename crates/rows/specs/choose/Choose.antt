-- What a choice answers: a place, from 1 on, or nothing; which kinds a look along a row asks for; the best ratio so far.
use Rattle.std.specs.Prelude.{ℕ, ◌+◌, ◌≤◌, Bool, true, false, cond, not, ◌&&◌, nat_le, Float, Option, Some, None}
use Rattle.std.specs.Float.{inf}
use Rattle.std.specs.Float.Ieee.{lt}
use Rattle.steps.specs.Symbol.{Symbol, is_external, is_dummy, is_pivotable}
use Rattle.laws.specs.Loops.{run}
use Rattle.rows.specs.declared.choose.Want.{Want}
use Rattle.rows.specs.declared.choose.Want.TheVariants.{External, Pivotable, NonDummy, Any}
use Rattle.rows.specs.declared.choose.Best.{Best}

-- a place: of a cell in its row or of a row in the table, each from 1 on; or of a record, from 0 on
abbrev pub Found : Type 0
Found = Option ℕ

-- the place found is one of the first n
abbrev pub Within : ℕ → Found → Type 0
Within n (Some i) = (1 ≤ i) × (i ≤ n)
Within n None = Unit

-- what is at the place found
abbrev pub on_found : {A : Type 0} → (ℕ → A) → A → Found → A
on_found g d f = elim f [ Some i ↦ g i | None ↦ d ]

unfoldable pub wants : Want → Symbol → Bool
wants External s = is_external s
wants Pivotable s = is_pivotable s
wants NonDummy s = not (is_dummy s)
wants Any s = true

abbrev pub is_nothing : Found → Bool
is_nothing f = on_found (λ _. false) true f

-- ---- ratio tests: "an infinite ratio never counts and the lowest id wins a tie"

-- the best so far, if there is one
abbrev pub Least : Type 0
Least = Option Best

abbrev pub no_best : Least
no_best = None

-- what a ratio has to be below: where there is none so far, every finite one is
unfoldable pub ratio_of : Least → Float
ratio_of None = inf false
ratio_of (Some b) = b.ratio

unfoldable pub better_of : ℕ → Bool → Float → Least → Least
better_of i on x b = cond (on && (lt (inf true) x && lt x (ratio_of b))) (Some (record { at = i; ratio = x })) b

unfoldable pub found_of : ℕ → Least → Found
found_of n None = None
found_of n (Some b) = cond (nat_le 1 b.at && nat_le b.at n) (Some b.at) None

unfoldable pub smallest_of : (ℕ → Bool) → (ℕ → Float) → ℕ → Found
smallest_of on ratio n = found_of n (run (λ i b. better_of i (on i) (ratio i) b) 1 (1 + n) no_best)

abbrev pub or_else : Found → Found → Found
or_else f g = on_found Some g f
