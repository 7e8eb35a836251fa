-- The cells of all rows as one ascending list of keys, row * row_span + place, with their values beside them; and what the small functions over it do.
use Rattle.std.specs.Prelude.{ℕ, zero, suc, ◌+◌, ◌-◌, ◌*◌, ◌%◌, ◌≤◌, ◌<◌, ◌≡◌, Bool, false, cond, List, ◌++◌, leb, ltb, eqb, Float, get_or, set, take, drop}
use Rattle.std.specs.Float.{nan}
use Rattle.std.specs.Float.Ieee.{ne}
use Rattle.steps.specs.Number.{zero64}
use Rattle.steps.specs.Symbol.{absent}
use Rattle.laws.specs.Loops.{first, run, map_in}
use Rattle.laws.specs.Lists.{tab, all_in}
use Rattle.layout.specs.cells.Names.{row_span, keys_end}

-- the keys of the first n places ascend
unfoldable pub Ascending : List ℕ → ℕ → Type 0
Ascending keys n = (a b : ℕ) → a < b → b < n → get_or keys a 0 < get_or keys b 0

-- the places that the keys from a up to e name are below w
unfoldable pub Narrow : List ℕ → ℕ → ℕ → ℕ → Type 0
Narrow keys w a e = (j : ℕ) → a ≤ j → j < e → get_or keys j 0 % row_span < w

-- the first place from a up to e whose key is not below x; or e
unfoldable pub lower_in : List ℕ → ℕ → ℕ → ℕ → ℕ
lower_in keys x a e = first (λ j. leb x (get_or keys j 0)) (λ j. j) e a e

-- the value beside this key, among the places from a up to e; or zero
unfoldable pub cell_in : List ℕ → List Float → ℕ → ℕ → ℕ → Float
cell_in keys vals key a e = first (λ j. eqb key (get_or keys j 0)) (λ j. get_or vals j nan) zero64 a e

unfoldable pub cell_at : List ℕ → List Float → ℕ → ℕ → Float
cell_at keys vals n key = cell_in keys vals key 0 n

-- row i as the dense list of its k cells
unfoldable pub row_of : List ℕ → List Float → ℕ → ℕ → ℕ → List Float
row_of keys vals n k i = tab (λ p. cell_at keys vals n (i * row_span + p)) 1 k

-- the cells from place a up to e, each stored at its place of a dense row
unfoldable pub expand_turn : List ℕ → List Float → ℕ → List Float → List Float
expand_turn keys vals j row = set row (get_or keys j 0 % row_span) (get_or vals j nan)

unfoldable pub expanded : List ℕ → List Float → ℕ → ℕ → List Float → List Float
expanded keys vals a e row = run (expand_turn keys vals) a e row

-- m elements from place a on are written from place b on
module _ {A : Type 0} where
  unfoldable pub moved : ℕ → ℕ → ℕ → List A → List A
  moved a b m l = take b l ++ take m (drop a l) ++ drop (b + m) l

-- both tables, and where the next cell goes
pub record Cells : Type 0 where
  pub keys : List ℕ
  pub vals : List Float
  pub size : ℕ

abbrev pub cells : List ℕ → List Float → ℕ → Cells
cells k v n = record { keys = k; vals = v; size = n }

-- a cell that is not zero goes to the next place
unfoldable pub put_if : ℕ → Float → Cells → Cells
put_if key x s = cond (ne x zero64) (cells (set s.keys s.size key) (set s.vals s.size x) (s.size + 1)) s

unfoldable pub pack_turn : ℕ → List Float → ℕ → Cells → Cells
pack_turn i row p s = put_if (i * row_span + p) (get_or row p nan) s

unfoldable pub packed : ℕ → ℕ → List Float → Cells → Cells
packed k i row s = run (pack_turn i row) 1 (k + 1) s

-- a cell as it is read back: an absent one is +0.0
unfoldable pub settled : Float → Float
settled x = cond (ne x zero64) x zero64

-- how many cells of a dense row are present
unfoldable pub count_turn : List Float → ℕ → ℕ → ℕ
count_turn row p c = cond (ne (get_or row p nan) zero64) (c + 1) c

unfoldable pub counted : ℕ → List Float → ℕ
counted k row = run (count_turn row) 1 (k + 1) 0

-- row i becomes this dense row, where its cells stand from place a up to e and m are to stand there: the cells past it move, and it is laid down
unfoldable pub replaced_at : ℕ → ℕ → ℕ → ℕ → ℕ → ℕ → List Float → List ℕ → List Float → Cells
replaced_at a e m n i k row keys vals =
    let t = packed k i row (cells (moved e (a + m) (n - e) keys) (moved e (a + m) (n - e) vals) a) in
    cells t.keys t.vals (n - e + (a + m))

unfoldable pub replaced : ℕ → ℕ → ℕ → List Float → List ℕ → List Float → Cells
replaced n i k row keys vals = replaced_at (lower_in keys (i * row_span) 0 n) (lower_in keys (i * row_span + row_span) 0 n) (counted k row) n i k row keys vals

-- each key is below the next
unfoldable pub ascends_of : List ℕ → ℕ → Bool
ascends_of keys n = all_in (λ j. ltb (get_or keys (j - 1) 0) (get_or keys j 0)) 1 n

-- the cells of row i, laid into a row that is zero over the places 1 to k
unfoldable pub loaded : ℕ → ℕ → ℕ → List ℕ → List Float → List Float → List Float
loaded n i k keys vals row = expanded keys vals (lower_in keys (i * row_span) 0 n) (lower_in keys (i * row_span + row_span) 0 n) (map_in (λ _. zero64) 1 (k + 1) row)

-- row i goes, where its cells stand from place a up to e: the cells past it move, and their keys name the row before theirs
unfoldable pub dropped_at : ℕ → ℕ → ℕ → List ℕ → List Float → Cells
dropped_at a e n keys vals = cells (map_in (λ x. x - row_span) a (n - e + a) (moved e a (n - e) keys)) (moved e a (n - e) vals) (n - e + a)

unfoldable pub dropped : ℕ → ℕ → List ℕ → List Float → Cells
dropped n i keys vals = dropped_at (lower_in keys (i * row_span) 0 n) (lower_in keys (i * row_span + row_span) 0 n) n keys vals

-- a key after place p has gone
unfoldable pub nearer_of : ℕ → ℕ → ℕ
nearer_of p x = cond (ltb p (x % row_span)) (x - 1) x

-- no key of the first n names place p
unfoldable pub Free : List ℕ → ℕ → ℕ → Type 0
Free keys n p = (j : ℕ) → j < n → get_or keys j 0 % row_span ≡ p → ⊥

-- a key after a row before its own has come
unfoldable pub row_after : ℕ → ℕ
row_after x = cond (ltb x keys_end) (x + row_span) x

-- row i comes: the keys from its place on name the row after theirs
unfoldable pub opened : ℕ → ℕ → List ℕ → List ℕ
opened n i keys = map_in row_after (lower_in keys (i * row_span) 0 n) n keys

-- ---- a column

-- the cell names place p
unfoldable pub names : List ℕ → ℕ → ℕ → Bool
names keys p j = eqb p (get_or keys j 0 % row_span)

-- the first cell from j up to n that names place p, or n
unfoldable pub next_in : List ℕ → ℕ → ℕ → ℕ → ℕ
next_in keys p j n = first (names keys p) (λ t. t) n j n

-- one past the last cell before j that names place p, or 0
unfoldable pub last_before : List ℕ → ℕ → ℕ → ℕ
last_before keys p zero = 0
last_before keys p (suc j) = cond (names keys p j) (suc j) (last_before keys p j)

-- ---- "none equal to 0.0"

-- no value beside the first n keys is 0.0
unfoldable pub Present : List Float → ℕ → Type 0
Present vals n = (t : ℕ) → t < n → absent (get_or vals t nan) ≡ false

unfoldable pub present_of : List Float → ℕ → Bool
present_of vals n = all_in (λ j. ne (get_or vals j nan) zero64) 0 n
