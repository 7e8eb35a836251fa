-- What the variables come to, over the tables' places. They stand by ascending number.
-- A place past the count keeps what it has.
use Rattle.std.specs.Prelude.{ℕ, ◌+◌, ◌<◌, List, eqb, ltb, get_or, set, Float}
use Rattle.std.specs.Float.{nan}
use Rattle.laws.specs.Loops.{first}
use Rattle.rows.specs.choose.Choose.{Found}
use Rattle.std.specs.Prelude.{Some, None}
use Rattle.rows.specs.moves.Close.{opened}
use Rattle.sparse.specs.Places.{variable_count_at, variable_numbers_at, variable_uses_at, variable_places_at, changed_at, old_values_at}

-- the place found is below n
abbrev pub Below : ℕ → Found → Type 0
Below n (Some v) = v < n
Below n None = Unit

-- the place of the variable of this number, or none
unfoldable pub found_in : ℕ → List ℕ → Found
found_in n words = first (λ v. eqb n (get_or words (variable_numbers_at + v) 0)) Some None 0 (get_or words variable_count_at 0)

-- where a variable of this number stands by ascending number
unfoldable pub spot_in : ℕ → List ℕ → ℕ
spot_in n words = first (λ v. ltb n (get_or words (variable_numbers_at + v) 0)) (λ v. v) (get_or words variable_count_at 0) 0 (get_or words variable_count_at 0)

-- a use count has room for one more below this
abbrev pub most_uses : ℕ
most_uses = 18446744073709551615

-- "its use count grows by one"
unfoldable pub used_words : ℕ → List ℕ → List ℕ
used_words v words = set words (variable_uses_at + v) (get_or words (variable_uses_at + v) 0 + 1)

-- ---- a new variable: its number and its uses, its symbol and its flag, its old value

unfoldable pub kept_words : ℕ → List ℕ → List ℕ
kept_words n words =
    let k : ℕ = get_or words variable_count_at 0 in
    let v : ℕ = spot_in n words in
    set (opened (variable_uses_at + v) (variable_uses_at + k) 0 (opened (variable_numbers_at + v) (variable_numbers_at + k) n words)) variable_count_at (k + 1)

unfoldable pub kept_bytes : ℕ → ℕ → List ℕ → List ℕ → List ℕ
kept_bytes n p words bytes =
    let k : ℕ = get_or words variable_count_at 0 in
    let v : ℕ = spot_in n words in
    opened (changed_at + v) (changed_at + k) 0 (opened (variable_places_at + v) (variable_places_at + k) p bytes)

-- "The old value of a new variable is NaN."
unfoldable pub kept_reals : ℕ → List ℕ → List Float → List Float
kept_reals n words reals = opened (old_values_at + spot_in n words) (old_values_at + get_or words variable_count_at 0) nan reals
